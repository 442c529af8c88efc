-- How the owed breaks are kept: a map in the order of their numbers, from which those that end are struck out, and a
-- heap by expiry.
use Rattle.std.specs.Prelude.{◌≡◌, ℕ, ◌+◌, ◌≤◌, List, [], ◌∷◌, Bool, true, false, Option, Some, None, nat_eq, nat_le, length, ◌&&◌}
use Rattle.std.specs.List.{list_any}
use Rattle.std.specs.Map.{set_value}
use Rattle.std.specs.Ordering.{nat_cmp, ordering_then}
use Rattle.std.specs.declared.cmp.Ordering.{Ordering}
use Rattle.std.specs.declared.cmp.Reverse.{Reverse}
use Rattle.spec_breaks.specs.declared.types.OwedBreak.{OwedBreak}

-- the breaks that are owed, the last number of one, and how many more can become owed without memory
pub record Owing : Type 0 where
  pub breaks : List OwedBreak
  pub last : ℕ
  pub room : ℕ

-- in the heap the break comes first that ends first
abbrev pub due_order : Reverse (ℕ × ℕ) → Reverse (ℕ × ℕ) → Ordering
due_order x y = ordering_then (nat_cmp y.0.0 x.0.0) (nat_cmp y.0.1 x.0.1)

abbrev pub break_before : Option OwedBreak → List OwedBreak → List OwedBreak
break_before None os = os
break_before (Some o) os = o ∷ os

-- the breaks that aren't struck out
abbrev pub breaks_in : List (ℕ × Option OwedBreak) → List OwedBreak
breaks_in [] = []
breaks_in (e ∷ es) = break_before e.1 (breaks_in es)

abbrev pub IsNumbered : ℕ → Option OwedBreak → Type 0
IsNumbered number None = Unit {0}
IsNumbered number (Some o) = o.number ≡ number

-- the numbers ascend, from above `low` up to `high`, and each break stands under its own
abbrev pub Ascends : ℕ → ℕ → List (ℕ × Option OwedBreak) → Type 0
Ascends low high [] = low ≤ high
Ascends low high (e ∷ es) = (low + 1 ≤ e.0) × IsNumbered e.0 e.1 × Ascends e.0 high es

abbrev pub is_at : OwedBreak → Reverse (ℕ × ℕ) → Bool
is_at o d = nat_eq d.0.0 o.expiry && nat_eq d.0.1 o.number

-- each break is in the heap, by its expiry
abbrev pub AreDue : List (Reverse (ℕ × ℕ)) → List OwedBreak → Type 0
AreDue due [] = Unit {0}
AreDue due (o ∷ os) = (list_any (is_at o) due ≡ true) × AreDue due os

-- what the map has under a number
abbrev pub has_some : Option (Option OwedBreak) → Bool
has_some None = false
has_some (Some None) = false
has_some (Some (Some o)) = true

-- the break that it has there ends by the clock
abbrev pub is_due : ℕ → Option (Option OwedBreak) → Bool
is_due now None = false
is_due now (Some None) = false
is_due now (Some (Some o)) = nat_le o.expiry now

-- the map without the break of this number
abbrev pub struck : ℕ → List (ℕ × Option OwedBreak) → List (ℕ × Option OwedBreak)
struck number es = set_value (nat_eq number) es None

-- the map and the heap agree: `count` breaks are owed
pub record IsOwing (entries : List (ℕ × Option OwedBreak)) (due : List (Reverse (ℕ × ℕ))) (last count : ℕ) : Type 0 where
  pub ascends : Ascends 0 last entries
  pub counted : count ≡ length (breaks_in entries)
  pub covered : AreDue due (breaks_in entries)
