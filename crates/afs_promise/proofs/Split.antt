-- A grant that is held parts the log: what is held before it and behind it stays, once it is gone.
use Rattle.std.proofs.Common.{◌≡◌, inl, inr, ℕ, ◌+◌, ◌<◌, ◌≤◌, ◌&&◌, Bool, true, false, List, [], ◌∷◌, ◌++◌, Option, Some, None, nat_eq, if◌then◌else◌, refl, ap, sym, subst, ◌∙◌, arith}
use Rattle.std.proofs.lemmas.Bool.Decides.{nat_tests}
use Rattle.spec_breaks.specs.declared.types.Promise.{Promise}
use Rattle.afs_promise.specs.declared.types.Grant.{Grant}
use Rattle.afs_promise.specs.declared.types.Holding.{Holding}
use Rattle.afs_promise.specs.Granting.{holding_in, same_holding, has_order, is_held, held, IsIn, Rises}

pub and_both : (a b : Bool) → (a && b) ≡ true → (a ≡ true) × (b ≡ true)
and_both true b e = (refl, e)
and_both false b e = absurd cc

pub holdings_are_one : (h k : Holding) → same_holding h k ≡ true → h ≡ k
holdings_are_one h k e =
    let a = and_both (nat_eq h.kind k.kind) _ e in
    let b = and_both (nat_eq h.number k.number) _ a.1 in
    let d = and_both (nat_eq h.volume k.volume) _ b.1 in
    let f = and_both (nat_eq h.vnode k.vnode) (nat_eq h.unique k.unique) d.1 in
    parts h.kind k.kind h.number k.number h.volume k.volume h.vnode k.vnode h.unique k.unique (nats a.0) (nats b.0) (nats d.0) (nats f.0) (nats f.1)
  where
    nats : {i j : ℕ} → nat_eq i j ≡ true → i ≡ j
    nats {i} {j} e = grind (arith, nat_tests, e)

    made : ℕ → ℕ → ℕ → ℕ → ℕ → Holding
    made a b c d e = record { kind = a; number = b; volume = c; vnode = d; unique = e }

    parts : (a b c d e f g h i j : ℕ) → a ≡ b → c ≡ d → e ≡ f → g ≡ h → i ≡ j → made a c e g i ≡ made b d f h j
    parts a b c d e f g h i j p q r s t = λ n. made (p n) (q n) (r n) (s n) (t n)

nat_itself : (n : ℕ) → nat_eq n n ≡ true
nat_itself n = grind (arith, nat_tests)

pub holding_itself : (h : Holding) → same_holding h h ≡ true
holding_itself h = rw (nat_itself h.kind, nat_itself h.number, nat_itself h.volume, nat_itself h.vnode, nat_itself h.unique) refl

-- the latest grants, once what is held under the key is gone
abbrev pub IsWithout : Holding → (Holding → Option Grant) → (Holding → Option Grant) → Type 0
IsWithout k old new = (q : Holding) → new q ≡ (if same_holding k q then None else old q)

pub record Split (old new : Holding → Option Grant) (log : List Grant) (g : Grant) : Type 0 where
  pub before : List Grant
  pub behind : List Grant
  pub parts : log ≡ before ++ g ∷ behind
  pub was : held old log ≡ held old before ++ g.promise ∷ held old behind
  pub is : held new log ≡ held old before ++ held old behind
  pub earlier : (x : Grant) → IsIn x before → x.order < g.order

module _ (old new : Holding → Option Grant) (k : Holding) (g : Grant) (without : IsWithout k old new) (latest : old k ≡ Some g) (own : holding_in g ≡ k) where
  other_by : (x : Grant) (same : Bool) → same_holding k (holding_in x) ≡ same → nat_eq g.order x.order ≡ false → is_held new x ≡ is_held old x
  other_by x true e differs =
      let gone : new (holding_in x) ≡ None = rw (without (holding_in x), e) refl in
      let there : old (holding_in x) ≡ Some g = ap old (sym (holdings_are_one k (holding_in x) e)) ∙ latest in
      ap (has_order x.order) gone ∙ sym (ap (has_order x.order) there ∙ differs)
  other_by x false e differs = ap (has_order x.order) (rw (without (holding_in x), e) refl)

  -- every other grant is held as it was
  pub other : (x : Grant) → nat_eq g.order x.order ≡ false → is_held new x ≡ is_held old x
  other x differs = other_by x (same_holding k (holding_in x)) refl differs

  behind_it : (low high : ℕ) (xs : List Grant) → g.order < low → Rises low high xs → held new xs ≡ held old xs
  behind_it low high [] lt up = refl
  behind_it low high (x ∷ xs) lt up = step (is_held new x) (is_held old x) x.promise (held new xs) (held old xs) (other x (grind (arith, nat_tests, lt, up.0))) (behind_it (x.order + 1) high xs (omega (arith, lt, up.0)) up.1)
    where
      step : (a b : Bool) (p : Promise) (ps qs : List Promise) → a ≡ b → ps ≡ qs → (if a then p ∷ ps else ps) ≡ (if b then p ∷ qs else qs)
      step a b p ps qs e f = λ i. if e i then p ∷ f i else f i

  was_held : is_held old g ≡ true
  was_held = ap (λ (q : Holding). has_order g.order (old q)) own ∙ (ap (has_order g.order) latest ∙ grind (arith, nat_tests))

  is_gone : is_held new g ≡ false
  is_gone = ap (has_order g.order) (ap new own ∙ (without k ∙ chosen (same_holding k k) (holding_itself k)))
    where
      chosen : (b : Bool) → b ≡ true → (if b then None else old k) ≡ None
      chosen true e = refl
      chosen false e = absurd cc

  above : (low high : ℕ) (xs : List Grant) → Rises low high xs → IsIn g xs → low ≤ g.order
  above low high [] up i = absurd i
  above low high (x ∷ xs) up (inl e) = subst (λ (y : Grant). low ≤ y.order) e up.0
  above low high (x ∷ xs) up (inr i) = omega (arith, up.0, above (x.order + 1) high xs up.1 i)

  front : (x : Grant) (xs : List Grant) → x.order < g.order → Split old new xs g → Split old new (x ∷ xs) g
  front x xs lt s = by (is_held old x) (is_held new x) refl (other x (grind (arith, nat_tests, lt)))
    where
      first_or_later : (y : Grant) → IsIn y (x ∷ s.before) → y.order < g.order
      first_or_later y (inl e) = subst (λ (z : Grant). z.order < g.order) e lt
      first_or_later y (inr i) = s.earlier y i

      by : (a b : Bool) → is_held old x ≡ a → b ≡ is_held old x → Split old new (x ∷ xs) g
      by a b e f = record {
        before = x ∷ s.before;
        behind = s.behind;
        parts = ap (λ (l : List Grant). x ∷ l) s.parts;
        was = put (is_held old x) x.promise (held old xs) (held old s.before) _ s.was;
        is = ap (λ (t : Bool). if t then x.promise ∷ held new xs else held new xs) (other x (grind (arith, nat_tests, lt))) ∙ put (is_held old x) x.promise (held new xs) (held old s.before) _ s.is;
        earlier = first_or_later;
      }
        where
          put : (t : Bool) (p : Promise) (all ps qs : List Promise) → all ≡ ps ++ qs → (if t then p ∷ all else all) ≡ (if t then p ∷ ps else ps) ++ qs
          put true p all ps qs e = ap (λ (l : List Promise). p ∷ l) e
          put false p all ps qs e = e

  pub split : (low high : ℕ) (log : List Grant) → Rises low high log → IsIn g log → Split old new log g
  split low high [] up i = absurd i
  split low high (x ∷ xs) up (inl e) = subst (λ (y : Grant). Split old new (y ∷ xs) g) (sym e) (record {
    before = [];
    behind = xs;
    parts = refl;
    was = rw was_held refl;
    is = rw is_gone (behind_it (g.order + 1) high xs (omega arith) (subst (λ (y : Grant). Rises (y.order + 1) high xs) e up.1));
    earlier = λ y i. absurd i;
  })
  split low high (x ∷ xs) up (inr i) = front x xs (omega (arith, above (x.order + 1) high xs up.1 i)) (split (x.order + 1) high xs up.1 i)
