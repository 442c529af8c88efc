-- The order of pairs, and the replies that wait under a key.
use Rattle.std.specs.Prelude.{◌&&◌, ⊤}
use Rattle.std.proofs.Common.{◌≡◌, ℕ, ◌<◌, ◌≤◌, ◌⊎◌, inl, inr, Bool, true, false, cond, nat_eq, List, [], ◌∷◌, Option, Some, None, ℤ, refl, sym, subst, ◌∙◌, arith, eq-eqb, nat_lt, ltb-true, ltb-false}
use Rattle.law_legal.proofs.BaseLaws.{Below, Above, below_not, up_to_same, some_of}
use Rattle.law_legal.proofs.OwedFacts.{is_held, AllOf}
use Rattle.spec_rows.specs.Callbacks.{is_seat_of, held_under, is_reply_to}
use Rattle.spec_rows.specs.States.{Seat, Held}
use Rattle.afs_num.specs.declared.types.Key.{Key}
use Rattle.afs_num.specs.declared.messages.Message.{Message}

-- ---- a kept reply is sent again

pub order_by : (a b x y : Bool) (e n d m : ℕ) → nat_lt e d ≡ a → nat_lt d e ≡ b → nat_lt n m ≡ x → nat_lt m n ≡ y → Below e n d m ⊎ (((e ≡ d) × (n ≡ m)) ⊎ Below d m e n)
order_by true b x y e n d m p q r t = inl (inl (ltb-true e d p))
order_by false true x y e n d m p q r t = inr (inr (inl (ltb-true d e q)))
order_by false false true y e n d m p q r t = let a : d ≤ e = ltb-false e d p in let b : e ≤ d = ltb-false d e q in let c : n < m = ltb-true n m r in inl (inr (omega arith, c))
order_by false false false true e n d m p q r t = let a : d ≤ e = ltb-false e d p in let b : e ≤ d = ltb-false d e q in let c : m < n = ltb-true m n t in inr (inr (inr (omega arith, c)))
order_by false false false false e n d m p q r t = let a : d ≤ e = ltb-false e d p in let b : e ≤ d = ltb-false d e q in let x : m ≤ n = ltb-false n m r in let y : n ≤ m = ltb-false m n t in inr (inl (omega arith, omega arith))

pub order : (e n d m : ℕ) → Below e n d m ⊎ (((e ≡ d) × (n ≡ m)) ⊎ Below d m e n)
order e n d m = order_by (nat_lt e d) (nat_lt d e) (nat_lt n m) (nat_lt m n) e n d m refl refl refl refl

-- a kept reply that isn't durable is to a call that changed nothing
pub durable_above : (o : Option Seat) (e n : ℕ) (m : Message) → m.head.epoch ≡ e → m.head.number ≡ n → is_seat_of m o ≡ false → ((d k : ℕ) → Below e n d k → Above o d k) → Above o e n
durable_above None e n m a b t low = tt
durable_above (Some ds) e n m a b t low = elim (order ds.epoch ds.number e n) [
  | inl x ↦ x
  | inr x ↦ elim x [
    | inl q ↦ let yes : (nat_eq m.head.epoch ds.epoch && nat_eq m.head.number ds.number) ≡ true = rw (eq-eqb m.head.epoch ds.epoch (a ∙ sym q.0), eq-eqb m.head.number ds.number (b ∙ sym q.1)) refl in absurd cc
    | inr l ↦ absurd (below_not _ _ _ _ (low ds.epoch ds.number l) (up_to_same _ _ _ _ refl refl))
  ]
]

none_by : (t u : Bool) (h : Held) (o : Option Held) → cond t (Some h) o ≡ None → cond t true u ≡ true → (o ≡ None → u ≡ true → ⊥) → ⊥
none_by true u h o e f w = absurd cc
none_by false u h o e f w = w e f

pub not_held : (k : Key) (hs : List Held) → held_under k hs ≡ None → is_held k hs ≡ true → ⊥
not_held k [] e f = absurd cc
not_held k (h ∷ hs) e f = none_by (is_reply_to k h.reply) (is_held k hs) h (held_under k hs) e f (λ x y. not_held k hs x y)

held_by : (P : Held → Type 0) (t : Bool) (k : Key) (x h : Held) (o : Option Held) → is_reply_to k x.reply ≡ t → P x → cond t (Some x) o ≡ Some h → (o ≡ Some h → P h × (is_reply_to k h.reply ≡ true)) → P h × (is_reply_to k h.reply ≡ true)
held_by P true k x h o e p at w = subst (λ (z : Held). P z × (is_reply_to k z.reply ≡ true)) (some_of x h at) (p, e)
held_by P false k x h o e p at w = w at

pub held_waits : (P : Held → Type 0) (k : Key) (hs : List Held) (h : Held) → held_under k hs ≡ Some h → AllOf P hs → P h × (is_reply_to k h.reply ≡ true)
held_waits P k [] h at all = absurd cc
held_waits P k (x ∷ hs) h at all = held_by P (is_reply_to k x.reply) k x h (held_under k hs) refl all.0 at (λ y. held_waits P k hs h y all.1)

-- ---- the server stops, and begins again
