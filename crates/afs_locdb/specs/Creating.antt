-- A database that is set up on a disk, for the volumes of a script.
use Rattle.std.specs.Prelude.{◌≡◌, ◌<◌, ◌+◌, ◌^◌, ◌⊎◌, ℕ, List, [], Some, length}
use Rattle.std.specs.List.{AllByRecursion}
use Rattle.spec_history.specs.declared.scripts.VolumeLine.{VolumeLine}
use Rattle.afs_journal.specs.Records.{whole_records}
use Rattle.afs_num.specs.declared.faults.StoreFault.TheVariants as faults
use Rattle.spec_records.specs.LocDurable.{first_id, listed_line, loc_set_up, LocDurable}
use Rattle.spec_records.specs.LocRecords.{listed_form}
use Rattle.afs_store.specs.Stores.{Stands}
use Rattle.afs_locstore.specs.LocFold.{loc_fold}

-- Each volume has an entry that fits, and the number behind the last of them is a word.
pub record CanBeListed (ls : List VolumeLine) : Type 0 where
  pub fit : AllByRecursion (λ (l : VolumeLine). listed_form.Fits (listed_line l)) ls
  pub few : first_id + length ls < 2 ^ 32

-- what a disk that was empty stands for while the lines are set up: for nothing, or for all
abbrev pub IsSetUpSoFar : ℕ → List VolumeLine → List ℕ → Type 0
IsSetUpSoFar capacity ls bytes = (whole_records bytes ≡ []) ⊎ ((d : LocDurable) × ((loc_set_up capacity ls ≡ Some d) × Stands loc_fold bytes d))
