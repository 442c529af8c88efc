-- How the volumes of a server stand on its disk.
use Rattle.std.specs.Prelude.{◌≡◌, ◌≤◌, ◌+◌, ℕ, List, [], ◌∷◌, length, Some}
use Rattle.std.specs.Coded.{×_prop, Unit-prop, le_prop}
use Rattle.afs_num.specs.declared.records.StoreRecord.{StoreRecord}
use Rattle.spec_ideal.specs.Tables.{AscendsFrom, Table}
use Rattle.spec_records.specs.Durable.{most_volumes, Durable, Stored}
use Rattle.spec_fold.specs.Fold.{folded, StandFor}

-- by their numbers, and no more of them than a server may have
abbrev pub AreFew : Table Stored → Type 0
AreFew t = AscendsFrom 0 t × (length t ≤ most_volumes)

AscendsFrom-prop : {A : Type 0} (n : ℕ) (t : Table A) → IsProp (AscendsFrom n t)
AscendsFrom-prop {A} n [] = Unit-prop
AscendsFrom-prop {A} n (p ∷ ps) = ×_prop le_prop (AscendsFrom-prop (p.0 + 1) ps)

pub AreFew-prop : (t : Table Stored) → IsProp (AreFew t)
AreFew-prop t = ×_prop (AscendsFrom-prop 0 t) le_prop

-- Whatever the records, the volumes that they leave stand so.
pub record RecordsLeaveFew : Type 0 where
  pub one : (r : StoreRecord) (d e : Durable) → AreFew d.volumes → folded r d ≡ Some e → AreFew e.volumes
  pub all : (records : List (List ℕ)) (d : Durable) → StandFor records d → AreFew d.volumes
