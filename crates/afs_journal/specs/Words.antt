-- What a journal's calls do to its disk, by all the disk's words at once.
use Rattle.std.specs.Prelude.{ℕ, List, Result}
use Rattle.afs_num.specs.declared.faults.JournalFault.{JournalFault}
use Rattle.afs_disk.specs.declared.disk.Disk.{Ghosts}
use Rattle.afs_journal.specs.Left.{LeavesByPick, ReachesCall}
use Rattle.afs_journal.specs.Log.{IsCaused, SameCounts, Served, TakesUpDisk}

-- no count changed, nor how it is set
abbrev pub SameCountsBy : {D : Type 0} → Ghosts D → D → D → Type 0
SameCountsBy w old new = SameCounts w.faults w.own_faults w.calls w.setting w.limit old new

-- what taking a journal up does to the counts
abbrev pub TakenBy : {D : Type 0} → Ghosts D → D → D → Type 0
TakenBy w old new = TakesUpDisk w.faults w.own_faults w.calls w.setting old new

-- what a call's fault comes from, and what its device calls were
abbrev pub IsCausedBy : {D : Type 0} → Ghosts D → D → D → JournalFault → Type 0
IsCausedBy w old new fault = IsCaused (w.setting old) (w.calls new) (w.faults old) (w.faults new) (w.own_faults old) (w.own_faults new) fault

abbrev pub ServedBy : {D T : Type 0} → Ghosts D → D → D → Result T JournalFault → Type 0
ServedBy w old new result = Served (w.setting old) (w.calls old) (w.calls new) (w.faults old) (w.faults new) (w.own_faults old) (w.own_faults new) result

-- the call at which it was set to stop or to fail was reached
abbrev pub ReachesBy : {D : Type 0} → Ghosts D → D → D → Type 0
ReachesBy w old new = ReachesCall (w.setting old) (w.calls old) (w.calls new)

-- what a crash with each pick leaves at that call, of these records and this one
abbrev pub LeavesByPickOf : {D : Type 0} → Ghosts D → List (List ℕ) → List ℕ → D → D → Type 0
LeavesByPickOf w records body old new = LeavesByPick w.left_by w.calls w.setting records body old new
