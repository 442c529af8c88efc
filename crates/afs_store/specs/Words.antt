-- What a store's calls do to its disk, by all the disk's words at once.
use Rattle.std.specs.Prelude.{ℕ, Result}
use Rattle.afs_num.specs.declared.faults.StoreFault.{StoreFault}
use Rattle.afs_disk.specs.declared.disk.Disk.{Ghosts}
use Rattle.afs_store.specs.Opening.{Moved}
use Rattle.afs_store.specs.Rereading.{IsTakenUp}
use Rattle.afs_store.specs.Stores.{IsCaused, Served}

-- what a call's refusal comes from, and what its device calls were
abbrev pub IsCausedBy : {D : Type 0} → Ghosts D → D → D → StoreFault → Type 0
IsCausedBy w old new fault = IsCaused (w.setting old) (w.calls new) (w.faults old) (w.faults new) (w.own_faults old) (w.own_faults new) fault

abbrev pub ServedBy : {D T : Type 0} → Ghosts D → D → D → Result T StoreFault → Type 0
ServedBy w old new result = Served (w.setting old) (w.calls old) (w.calls new) (w.faults old) (w.faults new) (w.own_faults old) (w.own_faults new) result

-- what set-up does to the counts, in at most so many device calls
abbrev pub MovedBy : {D : Type 0} → ℕ → Ghosts D → D → D → Type 0
MovedBy most w old new = Moved most w.faults w.own_faults w.calls w.setting w.limit old new

-- what taking it up does to a disk
abbrev pub IsTakenUpBy : {D : Type 0} → Ghosts D → D → D → Type 0
IsTakenUpBy w old new = IsTakenUp w.seen w.may_leave w.moment w.left_since w.faults w.own_faults w.calls w.setting w.limit old new
