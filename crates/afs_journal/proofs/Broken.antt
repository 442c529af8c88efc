-- Device calls of which the last wasn't made.
use Rattle.std.proofs.Common.{◌≡◌, ◌<◌, ◌≤◌, ℕ, ◌+◌, List, [], ◌∷◌, ◌++◌, Option, Some, refl, sym, ◌∙◌, ap, subst, arith}
use Rattle.std.specs.Prelude.{◌-◌, ◌&&◌, Bool, true, false, nat_eq, nat_lt, if◌then◌else◌}
use Rattle.std.proofs.lemmas.Bool.{ltb-true, ltb-false}
use Rattle.afs_disk.specs.Disk.{PassesAll, Setting, Trips}
use Rattle.afs_journal.specs.Left.{records_left, LeavesByPick, ReachesCall}
use Rattle.afs_journal.specs.Records.{whole_records}

pub some_same : (a b : List ℕ) → Some a ≡ Some b → a ≡ b
some_same a b e = cc

-- ---- the calls before it

by_order : (s : Setting) (a b d call : ℕ) → PassesAll s a b → PassesAll s b d → a < call → call ≤ d → Trips s call → (t : Bool) → nat_lt b call ≡ t → ⊥
by_order s a b d call first second above within trips true e = second call (ltb-true b call e) within trips
by_order s a b d call first second above within trips false e = first call above (ltb-false b call e) trips

-- calls that passed, and then others
pub passed_on : (s t : Setting) (a b d : ℕ) → t ≡ s → PassesAll s a b → PassesAll t b d → PassesAll s a d
passed_on s t a b d same first second = λ call above within trips. by_order s a b d call first (subst (λ (u : Setting). PassesAll u b d) same second) above within trips (nat_lt b call) refl

-- and then the last
pub reached_so : (s : Setting) (a b last : ℕ) → a ≤ b → PassesAll s a b → last ≡ b + 1 → ReachesCall s a last
reached_so s a b last le passed next = record {
  some = omega (arith, le, next);
  passed = λ call above before trips. passed call above (omega (arith, before, next)) trips;
}

pub reached_first : (s : Setting) (a last : ℕ) → last ≡ a + 1 → ReachesCall s a last
reached_first s a last next = record {
  some = omega (arith, next);
  passed = λ call above before trips. absurd (omega (arith, above, before, next));
}

-- ---- what is left

module _ {D : Type 0} (left_by : D → ℕ → Option (List ℕ)) (calls : D → ℕ) (setting : D → Setting) (bodies : List (List ℕ)) (body : List ℕ) where
  shut_by : (pick n m : ℕ) → n ≡ m → nat_eq m 4 ≡ false → records_left n pick bodies body ≡ bodies
  shut_by pick n m is few = ap (λ (k : ℕ). records_left k pick bodies body) is ∙ ap (λ (t : Bool). if t && nat_eq pick 1 then bodies ++ body ∷ [] else bodies) few

  -- before the fourth call every crash leaves the records from before
  pub left_shut : (may_leave : D → List ℕ → Type 0) → ((d : D) (pick : ℕ) (b : List ℕ) → left_by d pick ≡ Some b → may_leave d b) → (old new : D) (n : ℕ) → calls new - calls old ≡ n → nat_eq n 4 ≡ false
      → (Trips (setting old) (calls new) → (c : List ℕ) → may_leave new c → whole_records c ≡ bodies) → LeavesByPick left_by calls setting bodies body old new
  left_shut may_leave leaves old new n is few all = λ trips pick c left. all trips c (leaves new pick c left) ∙ sym (shut_by pick (calls new - calls old) n is few)

  -- at the fourth it is as the pick says
  pub left_picked : (old new : D) → calls new - calls old ≡ 4 → (Trips (setting old) (calls new) → (pick : ℕ) (c : List ℕ) → left_by new pick ≡ Some c → whole_records c ≡ records_left 4 pick bodies body)
      → LeavesByPick left_by calls setting bodies body old new
  left_picked old new is by = λ trips pick c left. by trips pick c left ∙ sym (ap (λ (k : ℕ). records_left k pick bodies body) is)

  -- from a disk to which no call came before
  pub left_from : (old mid new : D) → setting mid ≡ setting old → calls mid ≡ calls old → LeavesByPick left_by calls setting bodies body mid new → LeavesByPick left_by calls setting bodies body old new
  left_from old mid new set counted run = λ trips pick c left.
      run (subst (λ (s : Setting). Trips s (calls new)) (sym set) trips) pick c left ∙ ap (λ (n : ℕ). records_left (calls new - n) pick bodies body) counted

pub reached_from : (s t : Setting) (a b last : ℕ) → t ≡ s → b ≡ a → ReachesCall t b last → ReachesCall s a last
reached_from s t a b last set counted run = subst (λ (u : Setting). ReachesCall u a last) set (subst (λ (n : ℕ). ReachesCall t n last) counted run)
