-- Small laws: fids, nodes and keys; pairs of epoch and number; seats; what is found; lists of messages.
use Rattle.std.proofs.Common.{◌≡◌, ℕ, ◌<◌, ◌≤◌, ◌⊎◌, inl, inr, Bool, true, false, cond, eqb, ltb, List, Option, Some, None, refl, sym, ap, ◌∙◌, arith, eq-eqb, eqb-true, ltb-true, ltb-false}
use Rattle.std.specs.Prelude.{◌&&◌, ⊤}
use Rattle.std.proofs.Math.Nat.{eq-or-lt_of_le}
use Rattle.afs_num.specs.Nodes.{same_node}
use Rattle.afs_num.specs.declared.types.Key.{Key}
use Rattle.afs_num.specs.declared.types.Node.{Node}
use Rattle.afs_num.specs.declared.types.Node.TheVariants.{Loc, Server, Client, Admin}
use Rattle.spec_model.specs.Calls.{same_key, CallSeat, Admitted, runs, kept, older, pair_below, caller_of, call_seat, call_seated, repeated, paired}
use Rattle.spec_model.proofs.Keyed.{IsExact, found_own, at_last}

-- ---- fids, nodes, keys

pub both : (a b : Bool) → (a && b) ≡ true → (a ≡ true) × (b ≡ true)
both true b e = (refl, e)
both false b e = absurd cc

pub yes_no : (b : Bool) → b ≡ true → b ≡ false → ⊥
yes_no b t f = absurd cc

pub same_node-true : (a b : Node) → same_node a b ≡ true → a ≡ b
same_node-true Loc Loc e = refl
same_node-true (Server i) (Server j) e = ap Server (eqb-true i j e)
same_node-true (Client i) (Client j) e = ap Client (eqb-true i j e)
same_node-true (Admin i) (Admin j) e = ap Admin (eqb-true i j e)
same_node-true a b e = absurd cc

pub same_node-refl : (a : Node) → same_node a a ≡ true
same_node-refl Loc = refl
same_node-refl (Server i) = eq-eqb i i refl
same_node-refl (Client i) = eq-eqb i i refl
same_node-refl (Admin i) = eq-eqb i i refl

node_apart_by : (a b : Node) (t : Bool) → same_node a b ≡ t → (a ≡ b → ⊥) → t ≡ false
node_apart_by a b true e ne = absurd (ne (same_node-true a b e))
node_apart_by a b false e ne = refl

pub node_apart : (a b : Node) → (a ≡ b → ⊥) → same_node a b ≡ false
node_apart a b ne = node_apart_by a b (same_node a b) refl ne

pub same_key-refl : (k : Key) → same_key k k ≡ true
same_key-refl k = rw (same_node-refl k.node, eq-eqb k.epoch k.epoch refl, eq-eqb k.number k.number refl) refl

-- ---- pairs of epoch and number

abbrev pub Below : ℕ → ℕ → ℕ → ℕ → Type 0
Below e n d m = (e < d) ⊎ ((e ≡ d) × (n < m))

abbrev pub UpTo : ℕ → ℕ → ℕ → ℕ → Type 0
UpTo e n d m = (e < d) ⊎ ((e ≡ d) × (n ≤ m))

below_by : (e n d m : ℕ) (a : Bool) → ltb e d ≡ a → cond a true (eqb e d && ltb n m) ≡ true → Below e n d m
below_by e n d m true a t = inl (ltb-true e d a)
below_by e n d m false a t = let p = both (eqb e d) (ltb n m) t in inr (eqb-true e d p.0, ltb-true n m p.1)

pub below-true : (e n d m : ℕ) → pair_below e n d m ≡ true → Below e n d m
below-true e n d m t = below_by e n d m (ltb e d) refl t

less_by : (e d : ℕ) → (d ≡ e) ⊎ (d < e) → (e ≡ d → ⊥) → d < e
less_by e d (inl q) ne = absurd (ne (sym q))
less_by e d (inr l) ne = l

from_by : (e n d m : ℕ) (a b : Bool) → ltb e d ≡ a → eqb e d ≡ b → cond a true (b && ltb n m) ≡ false → UpTo d m e n
from_by e n d m true b a x t = absurd cc
from_by e n d m false true a x t = inr (sym (eqb-true e d x), ltb-false n m t)
from_by e n d m false false a x t =
    let ne : e ≡ d → ⊥ = λ q. let y : eqb e d ≡ true = eq-eqb e d q in absurd cc in
    inl (less_by e d (eq-or-lt_of_le (ltb-false e d a)) ne)

pub below-false : (e n d m : ℕ) → pair_below e n d m ≡ false → UpTo d m e n
below-false e n d m t = from_by e n d m (ltb e d) (eqb e d) refl refl t

pub up_to_below : (e n d m b k : ℕ) → UpTo e n d m → Below d m b k → Below e n b k
up_to_below e n d m b k (inl x) (inl y) = inl (omega arith)
up_to_below e n d m b k (inl x) (inr y) = let q : d ≡ b = y.0 in inl (omega arith)
up_to_below e n d m b k (inr x) (inl y) = let q : e ≡ d = x.0 in inl (omega arith)
up_to_below e n d m b k (inr x) (inr y) = let q : n ≤ m = x.1 in let r : m < k = y.1 in inr (x.0 ∙ y.0, omega arith)

pub below_up_to : (e n d m : ℕ) → Below e n d m → UpTo e n d m
below_up_to e n d m (inl x) = inl x
below_up_to e n d m (inr x) = let q : n < m = x.1 in inr (x.0, omega arith)

pub below_not : (e n d m : ℕ) → Below e n d m → UpTo d m e n → ⊥
below_not e n d m (inl x) (inl y) = absurd (omega arith)
below_not e n d m (inl x) (inr y) = let q : d ≡ e = y.0 in absurd (omega arith)
below_not e n d m (inr x) (inl y) = let q : e ≡ d = x.0 in absurd (omega arith)
below_not e n d m (inr x) (inr y) = let q : n < m = x.1 in let r : m ≤ n = y.1 in absurd (omega arith)

pub up_to_both : (e n d m : ℕ) → UpTo e n d m → UpTo d m e n → (e ≡ d) × (n ≡ m)
up_to_both e n d m (inl x) (inl y) = absurd (omega arith)
up_to_both e n d m (inl x) (inr y) = let q : d ≡ e = y.0 in absurd (omega arith)
up_to_both e n d m (inr x) (inl y) = let q : e ≡ d = x.0 in absurd (omega arith)
up_to_both e n d m (inr x) (inr y) = let q : n ≤ m = x.1 in let r : m ≤ n = y.1 in (x.0, omega arith)

pub up_to_same : (e n d m : ℕ) → e ≡ d → n ≡ m → UpTo e n d m
up_to_same e n d m p q = inr (p, omega arith)

abbrev pub Above : {R : Type 0} → Option (CallSeat R) → ℕ → ℕ → Type 0
Above {R} None e n = ⊤
Above {R} (Some seat) e n = Below seat.epoch seat.number e n

abbrev stands : {R : Type 0} → Option R → Bool → Bool → Admitted R
stands {R} reply a b = cond a older (cond b runs (repeated reply))

newer_by : {R : Type 0} (reply : Option R) (a b : Bool) → stands reply a b ≡ runs → b ≡ true
newer_by reply true b e = absurd cc
newer_by reply false true e = refl
newer_by None false false e = absurd cc
newer_by (Some x) false false e = absurd cc

-- a call that is to run is above its caller's seat
pub runs_above : {R : Type 0} (e n : ℕ) (o : Option (CallSeat R)) → paired e n o ≡ runs → Above o e n
runs_above e n None r = tt
runs_above e n (Some seat) r = below-true _ _ _ _ (newer_by seat.reply (pair_below e n seat.epoch seat.number) (pair_below seat.epoch seat.number e n) r)

-- the reply of the seat's own call
pub record LastSeat {R : Type 0} (e n : ℕ) (o : Option (CallSeat R)) (r : R) : Type 0 where
  pub seat : CallSeat R
  pub at : o ≡ Some seat
  pub reply : seat.reply ≡ Some r
  pub epoch : seat.epoch ≡ e
  pub number : seat.number ≡ n

last_by : {R : Type 0} (e n : ℕ) (seat : CallSeat R) (r : Option R) (reply : R) (a b : Bool) → seat.reply ≡ r → stands r a b ≡ kept reply → pair_below e n seat.epoch seat.number ≡ a → pair_below seat.epoch seat.number e n ≡ b
    → LastSeat e n (Some seat) reply
last_by e n seat r reply true b is k x y = absurd cc
last_by e n seat r reply false true is k x y = absurd cc
last_by e n seat None reply false false is k x y = absurd cc
last_by e n seat (Some z) reply false false is k x y =
    let p : z ≡ reply = cc in
    let q = up_to_both seat.epoch seat.number e n (below-false _ _ _ _ x) (below-false _ _ _ _ y) in
    record { seat = seat; at = refl; reply = is ∙ ap Some p; epoch = q.0; number = q.1 }

pub kept_last : {R : Type 0} (e n : ℕ) (o : Option (CallSeat R)) (reply : R) → paired e n o ≡ kept reply → LastSeat e n o reply
kept_last e n None reply k = absurd cc
kept_last e n (Some seat) reply k = last_by e n seat seat.reply reply (pair_below e n seat.epoch seat.number) (pair_below seat.epoch seat.number e n) refl k refl refl

-- ---- the seats, after one was taken

pub exact_node : IsExact same_node
exact_node = record { exact = same_node-true; itself = same_node-refl }

pub own_seat : {R : Type 0} (x : CallSeat R) (seats : List (CallSeat R)) → call_seat x.caller (call_seated x seats) ≡ Some x
own_seat {R} x seats = found_own (caller_of {R = R}) same_node exact_node x seats

pub at_seat : {R : Type 0} (x : CallSeat R) (m : Node) (seats : List (CallSeat R)) (P : Option (CallSeat R) → Type 0) → (x.caller ≡ m → P (Some x)) → ((x.caller ≡ m → ⊥) → P (call_seat m seats)) → P (call_seat m (call_seated x seats))
at_seat {R} x m seats P a b = at_last (caller_of {R = R}) same_node exact_node x m seats P a b
