-- What a disk that is attached, or set up, makes a store of.
use Rattle.std.specs.Prelude.{◌≡◌, ◌≤◌, ◌⊎◌, ℕ, List, [], ◌∷◌, true, Option, Some, None, is_some, length, map, if◌then◌else◌}
use Rattle.std.specs.Option.{option_map}
use Rattle.afs_num.specs.declared.types.Node.{Node}
use Rattle.spec_history.specs.declared.lines.Line.{Line}
use Rattle.afs_num.specs.declared.faults.StoreFault.TheVariants as faults
use Rattle.afs_num.specs.declared.records.Mark.{Mark}
use Rattle.spec_history.specs.declared.scripts.VolumeLine.{VolumeLine}
use Rattle.spec_shape.specs.Taking.{◌>>=◌}
use Rattle.spec_records.specs.Records.{record_at}
use Rattle.afs_journal.specs.Records.{whole_records}
use Rattle.spec_records.specs.Changes.{volumes_laid}
use Rattle.spec_fold.specs.SetUps.{set_up}
use Rattle.afs_volstore.specs.Stands.{StandsForVolumes}
use Rattle.spec_fold.specs.Effects.{effect_of}
use Rattle.spec_fold.specs.Fold.{first_folded, folded}
use Rattle.spec_records.specs.Durable.{mark_of, most_volumes, nothing_on, Durable}
use Rattle.afs_volstore.specs.Laying.{HaveShortNames}
use Rattle.afs_memory.specs.Telling.{in_words}
pub use Rattle.afs_store.specs.Opening.{same_mark, IsAttachFault, IsFoldFault, Moved}

-- ---- the last record

-- what the last of these records tells, each taken after the one before
abbrev pub last_from : Node → List (List ℕ) → Durable → List Line → Option (List Line)
last_from node [] d e = Some e
last_from node (bytes ∷ rest) d e = record_at bytes >>= λ r. (folded r d >>= λ after. last_from node rest after (effect_of node r d))

abbrev pub last_effect : Node → ℕ → List (List ℕ) → Option (List Line)
last_effect node capacity [] = None
last_effect node capacity (bytes ∷ rest) =
    record_at bytes >>= λ r. (first_folded r (nothing_on capacity) >>= λ after. last_from node rest after (effect_of node r (nothing_on capacity)))

-- A restart begins with the lines of the last record where the mark of the disk isn't the one that was told.
abbrev pub lines_unless_told : Mark → List (List ℕ) → List Line → List Line
lines_unless_told told records e = if same_mark (mark_of records) told then [] else map in_words e

abbrev pub lines_begun : Node → Mark → ℕ → List (List ℕ) → Option (List Line)
lines_begun node told capacity records = option_map (lines_unless_told told records) (last_effect node capacity records)

-- ---- set-up

-- The lines of one server's volumes: each name is one that a volume may have, set-up accepts each line in order, and there are no
-- more of them than a server has volumes.
pub record CanBeSetUp (ls : List VolumeLine) : Type 0 where
  pub names : HaveShortNames ls
  pub accepted : is_some (volumes_laid ls []) ≡ true
  pub few : length ls ≤ most_volumes

-- what a disk that was empty stands for while the lines are set up: for nothing, or for all
abbrev pub IsSetUpSoFar : ℕ → List VolumeLine → List ℕ → Type 0
IsSetUpSoFar capacity ls bytes = (whole_records bytes ≡ []) ⊎ ((d : Durable) × ((set_up capacity ls ≡ Some d) × StandsForVolumes bytes d))
