-- The places that delivers named, as the program keeps them.
use Rattle.std.specs.Prelude.{◌≡◌, ◌≤◌, ◌<◌, ◌+◌, ◌^◌, ◌||◌, ℕ, List, Bool, false, nat_eq, nat_le}
use Rattle.std.specs.List.{list_any}
use Rattle.std.specs.Ordering.{nat_cmp}
use Rattle.std.specs.BTreeSet.{contains}
use Rattle.afs_schedule.specs.declared.schedule.Named.{Named}

-- a place counts as named where it is one of the first so many, or stands in the set
abbrev pub has : Named → ℕ → Bool
has kept place = nat_le place kept.first || contains nat_cmp kept.above place

-- the set has no place that follows the first ones without a gap
abbrev pub IsClosed : Named → Type 0
IsClosed kept = kept.first + 1 < 2 ^ 64 → contains nat_cmp kept.above (kept.first + 1) ≡ false

-- these places were named, in any order and any number of times
pub record IsNamed (kept : Named) (named : List ℕ) : Type 0 where
  pub closed : IsClosed kept
  pub are : (place : ℕ) → 1 ≤ place → has kept place ≡ list_any (nat_eq place) named
