-- The calls of the location database, one by one: what acts know goes on, and volumes are in service only where the database says.
use Rattle.std.proofs.Common.{◌≡◌, ◌≤◌, ◌<◌, ◌⊎◌, inl, inr, ℕ, ◌+◌, Bool, true, false, cond, List, Option, Some, None, is_some, refl, sym, ap, subst, arith, ◌∙◌, nat_eq, nat_lt, eq-eqb, eqb-true}
use Rattle.std.specs.Prelude.{⊤, if◌then◌else◌}
use Rattle.spec_ideal.specs.Tables.{get, set, unset, Table}
use Rattle.spec_ideal.proofs.Tables.{get_set, get_unset}
use Rattle.spec_records.specs.LocRecords.{Listed, Lock}
use Rattle.spec_rows.specs.LocRow.{holds}
use Rattle.spec_runs.specs.NodeRuns.{NodeCell}
use Rattle.law_stamps.specs.Stamps.{next_stamp}
use Rattle.law_stamps.specs.Told.{entries_in, stamp_by, stamp_in}
use Rattle.law_locks.specs.Lines.{AreInLine, IsDrawnFor, IsLastOf, LockIsLast}
use Rattle.law_one_server.specs.Knows.{lock_at, HasLost}

-- ---- what is found behind a change

set_own : (key : ℕ) (l : Listed) (t : Table Listed) → get key (set key l t) ≡ Some l
set_own key l t = get_set key key l t ∙ ap (λ (b : Bool). cond b (Some l) (get key t)) (eq-eqb key key refl)

not_eq : (a b : ℕ) → (a ≡ b → ⊥) → nat_eq a b ≡ false
not_eq a b other = by (nat_eq a b) refl
  where
    by : (x : Bool) → nat_eq a b ≡ x → x ≡ false
    by true is = absurd (other (eqb-true a b is))
    by false is = refl

pub set_other : (key v : ℕ) (l : Listed) (t : Table Listed) → (v ≡ key → ⊥) → get v (set key l t) ≡ get v t
set_other key v l t other = get_set v key l t ∙ ap (λ (b : Bool). cond b (Some l) (get v t)) (not_eq key v (λ is. other (sym is)))

pub set_here : (key v : ℕ) (l : Listed) (t : Table Listed) → v ≡ key → get v (set key l t) ≡ Some l
set_here key v l t is = subst (λ (w : ℕ). get w (set key l t) ≡ Some l) (sym is) (set_own key l t)

pub unset_other : (key v : ℕ) (t : Table Listed) → (v ≡ key → ⊥) → get v (unset key t) ≡ get v t
unset_other key v t other = get_unset v key t ∙ ap (λ (b : Bool). if b then None else get v t) (not_eq key v (λ is. other (sym is)))

pub unset_here : (key v : ℕ) (t : Table Listed) → v ≡ key → get v (unset key t) ≡ None
unset_here key v t is = get_unset v key t ∙ ap (λ (b : Bool). if b then None else get v t) (eq-eqb key v (sym is))

pub same_or : (v key : ℕ) → (v ≡ key) ⊎ (v ≡ key → ⊥)
same_or v key = by (nat_eq v key) refl
  where
    by : (b : Bool) → nat_eq v key ≡ b → (v ≡ key) ⊎ (v ≡ key → ⊥)
    by true is = inl (eqb-true v key is)
    by false is = inr (λ same. let no : true ≡ false = sym (eq-eqb v key same) ∙ is in absurd cc)

-- ---- stamps and locks

some_same : (a b : ℕ) → Some a ≡ Some b → a ≡ b
some_same a b e = cc

-- a lock that is held under a stamp has it
pub held_is : (stamp : ℕ) (o : Option Lock) → holds stamp o ≡ true → stamp_by o ≡ Some stamp
held_is stamp None e = absurd cc
held_is stamp (Some k) e = ap Some (eqb-true k.stamp stamp e)

-- the stamp that is drawn now is none that was drawn before
pub fresh_lost : (next stamp : ℕ) → stamp < next → Some next ≡ Some stamp → ⊥
fresh_lost next stamp below e = let same : next ≡ stamp = some_same next stamp e in omega (arith, below, same)

module _ (entry_of : ℕ → ℕ) (next : ℕ) where
  -- a stamp of the entry whose lock is held is no later
  pub not_later : (key stamp other : ℕ) (o : Option Lock) → LockIsLast entry_of next key o → holds stamp o ≡ true → IsDrawnFor entry_of next key other → other ≤ stamp
  not_later key stamp other None last held drawn = absurd cc
  not_later key stamp other (Some k) last held drawn =
      let same : k.stamp ≡ stamp = eqb-true k.stamp stamp held in
      let le : other ≤ k.stamp = last.last other drawn.0.1 drawn.1 in
      omega (arith, same, le)

  -- and it is of that entry
  pub held_of : (key stamp : ℕ) (o : Option Lock) → LockIsLast entry_of next key o → holds stamp o ≡ true → entry_of stamp ≡ key
  held_of key stamp None last held = absurd cc
  held_of key stamp (Some k) last held = ap entry_of (sym (eqb-true k.stamp stamp held)) ∙ last.its
