-- What is said of two states of a disk by all its words at once. In a clause on a disk of type `D` the record of them is `D.Disk`.
use Rattle.std.specs.Prelude.{◌≡◌, ◌≤◌, ◌↔◌, ◌+◌, ℕ, List, IsSome, Result}
use Rattle.afs_disk.specs.Disk.{LeavesOnly, PassesAll, Ran, SameDisk}
use Rattle.afs_disk.specs.declared.disk.Disk.{Ghosts}

-- the two can't be told apart but by their room and their counts
abbrev pub SameDiskBy : {D : Type 0} → Ghosts D → D → D → Type 0
SameDiskBy w old new = SameDisk w.seen w.left_by w.size w.may_leave w.moment w.left_since old new

-- from one to the other, a crash at any moment leaves bytes that have P
abbrev pub LeavesOnlyBy : {D : Type 0} → Ghosts D → D → D → (List ℕ → Type 0) → Type 0
LeavesOnlyBy w old new P = LeavesOnly w.moment w.left_since old new P

-- a disk that tells what it holds goes on telling, and one that doesn't goes on so
abbrev pub TellsOn : {D : Type 0} → Ghosts D → D → D → Type 0
TellsOn w old new = IsSome (w.seen new) ↔ IsSome (w.seen old)

-- it is for as many bytes, and set to stop or to fail as it was
abbrev pub SetAs : {D : Type 0} → Ghosts D → D → D → Type 0
SetAs w old new = (w.limit new ≡ w.limit old) × (w.setting new ≡ w.setting old)

-- no count of faults rose
abbrev pub SameFaults : {D : Type 0} → Ghosts D → D → D → Type 0
SameFaults w old new = (w.faults new ≡ w.faults old) × (w.own_faults new ≡ w.own_faults old)

-- at most so many device calls came
abbrev pub CallsAtMost : {D : Type 0} → ℕ → Ghosts D → D → D → Type 0
CallsAtMost most w old new = (w.calls old ≤ w.calls new) × (w.calls new ≤ w.calls old + most)

-- none of them was set to trip
abbrev pub PassesBy : {D : Type 0} → Ghosts D → D → D → Type 0
PassesBy w old new = PassesAll (w.setting old) (w.calls old) (w.calls new)

-- they were a run with this result
abbrev pub RanBy : {D T E : Type 0} → Ghosts D → D → D → Result T E → Type 0
RanBy w old new result = Ran (w.setting old) (w.calls old) (w.calls new) (w.faults old) (w.faults new) (w.own_faults old) (w.own_faults new) result
