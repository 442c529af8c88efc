-- What a step of a node does to the disk of its store, whatever records it keeps there.
use Rattle.std.specs.Prelude.{◌≡◌, ◌≤◌, ◌+◌, ◌⊎◌, ℕ, List, Option, Some, None, Result, Ok, Err, IsErrOf, OnOk}
use Rattle.afs_disk.specs.Disk.{Rose, Trips}
use Rattle.afs_disk.specs.Words.{CallsAtMost, LeavesOnlyBy, PassesBy, SameDiskBy, TellsOn}
use Rattle.afs_disk.specs.declared.disk.Disk.{Ghosts}
use Rattle.afs_journal.specs.Records.{whole_records}
use Rattle.afs_journal.specs.Words.{LeavesByPickOf, ReachesBy, SameCountsBy}
use Rattle.afs_store.specs.Folding.{Folding}
use Rattle.afs_store.specs.Stores.{LeftAround}
use Rattle.afs_server_parts.specs.declared.faults.NodeFault.{NodeFault}
use Rattle.afs_server_parts.specs.declared.faults.NodeFault.TheVariants as faults

-- no device call was made: the step makes no record, or memory was wanting
abbrev pub IsQuiet : {R T : Type 0} → Option R → Result T NodeFault → Type 0
IsQuiet {R} {T} None result = Unit {0}
IsQuiet {R} {T} (Some r) (Err faults.OutOfMemory) = Unit {0}
IsQuiet {R} {T} (Some r) result = ⊥

-- the record was written, or begun
abbrev pub IsWritten : {R T : Type 0} → R → Option R → Result T NodeFault → Type 0
IsWritten {R} {T} r decided (Err faults.OutOfMemory) = ⊥
IsWritten {R} {T} r decided result = decided ≡ Some r

-- no device call was made: no record was due, or memory was wanting
abbrev pub IsStill : {R T : Type 0} → Option R → Result T NodeFault → Type 0
IsStill {R} {T} decided (Ok x) = decided ≡ None
IsStill {R} {T} decided (Err faults.OutOfMemory) = Unit {0}
IsStill {R} {T} decided (Err faults.Down) = ⊥

-- What a step leaves prepared that has this record, or none: nothing, where it wrote the record; else what was prepared before, or, where
-- memory was wanting, its own record.
abbrev pub LeavesPrepared : {R T : Type 0} → Option R → Option R → Option R → Result T NodeFault → Type 0
LeavesPrepared {R} {T} None old new result = new ≡ old
LeavesPrepared {R} {T} (Some r) old new (Err faults.OutOfMemory) = (new ≡ old) ⊎ (new ≡ Some r)
LeavesPrepared {R} {T} (Some r) old new result = new ≡ None

-- the calls that a step makes, which has this record or none
abbrev pub calls_for : {R : Type 0} → Option R → ℕ
calls_for {R} None = 0
calls_for {R} (Some r) = 4

-- The device calls of a step. No count of faults falls; the node goes down only where one of them failed, as it was set to or by the disk
-- itself; and it goes on only where all of them passed.
pub record Ran {D T : Type 0} (w : Ghosts D) (old new : D) (result : Result T NodeFault) : Type 0 where
  pub never_falls : w.faults old ≤ w.faults new
  pub own_never_falls : w.own_faults old ≤ w.own_faults new
  pub down : IsErrOf result faults.Down → Rose (w.faults old) (w.faults new) × (Trips (w.setting old) (w.calls new) ⊎ Rose (w.own_faults old) (w.own_faults new))
  pub passed : OnOk result (PassesBy w old new)

-- What a step that has this record, or none, does to the disk of a store that keeps this. Without a record, or where memory was
-- wanting, it leaves the disk alone; else a crash at any moment leaves what was kept before, or what is kept with the record.
-- Either way a disk that tells goes on telling. Where it was set to stop or to fail at one of the calls, that one tells what a crash
-- with each pick leaves.
pub record OnDisk {R K M P D T : Type 0} (k : Folding R K M P) (w : Ghosts D) (decided : Option R) (d : K) (old new : D) (result : Result T NodeFault) : Type 0 where
  pub told : TellsOn w old new
  pub quiet : IsQuiet decided result → SameDiskBy w old new × SameCountsBy w old new
  pub any_moment : (r : R) → IsWritten r decided result → (bytes : List ℕ) → w.seen old ≡ Some bytes → LeavesOnlyBy w old new (LeftAround k (whole_records bytes) r d)
  pub reached : IsErrOf result faults.Down → ReachesBy w old new
  pub left : IsErrOf result faults.Down → (r : R) → decided ≡ Some r → (bytes : List ℕ) → w.seen old ≡ Some bytes → LeavesByPickOf w (whole_records bytes) (k.spelled r) old new
  pub fits : (r : R) → IsWritten r decided result → k.Fits r
  pub most : CallsAtMost 4 w old new
  pub limited : w.limit new ≡ w.limit old
  pub called : OnOk result (w.calls new ≡ w.calls old + calls_for decided)
  pub ran : Ran w old new result
  pub set : w.setting new ≡ w.setting old
