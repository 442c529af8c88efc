-- What an act does with the entry that it locked: for all its calls under one stamp it is the same.
use Rattle.std.specs.Prelude.{ℕ, Option, Some, None}
use Rattle.spec_adminrows.specs.declared.places.Creating.{Creating}
use Rattle.spec_adminrows.specs.declared.places.Creating.TheVariants as creating
use Rattle.spec_adminrows.specs.declared.places.Place.{Place}
use Rattle.spec_adminrows.specs.declared.places.Place.TheVariants as places
use Rattle.spec_adminrows.specs.declared.places.Purpose.{Purpose}
use Rattle.spec_adminrows.specs.declared.places.Purpose.TheVariants as purposes

-- It moves the volume to this server, removes it, puts it in order, makes it; or it does something that leaves the volume where it is.
pub data Task : Type 0 where
  moves : ℕ → Task
  removes : Task
  mends : Task
  makes : Task
  works : Task

abbrev pub task_for : Purpose → Task
task_for (purposes.Moves target) = moves target
task_for purposes.Removes = removes
task_for (purposes.Mends cause) = mends

abbrev pub task_in_creation : Creating → Option Task
task_in_creation (creating.Begins v stamp) = Some makes
task_in_creation (creating.Opens v stamp t) = Some makes
task_in_creation (creating.Opened v stamp t) = Some makes
task_in_creation (creating.Frees v stamp) = Some makes
task_in_creation step = None

-- none before the entry is locked, and none where the lock is given back
abbrev pub task_at : Place → Option Task
task_at (places.Seeks cause) = None
task_at (places.Locks cause v) = None
task_at (places.Frees h code first) = None
task_at (places.Creates f step) = task_in_creation step
task_at (places.Adds h server) = Some works
task_at (places.Backs h step) = Some works
task_at (places.Dumps s step) = Some works
task_at (places.Releases h step) = Some works
task_at (places.Tours r step) = Some works
task_at (places.Visits r s step) = Some works
task_at (places.Surveys h why s left seen) = Some (task_for why)
task_at (places.Plans h target) = Some (moves target)
task_at (places.Moves m step) = Some (moves m.target)
task_at (places.Removes h seen step) = Some removes
task_at (places.Sweeps h spot left step) = Some removes
task_at (places.Asks cause h seen) = Some mends
task_at (places.Mends m step) = Some mends
