-- What a step of one of a node's servers does to their store.
use Rattle.std.specs.Prelude.{◌≡◌, ◌+◌, Bool, true, false, Option, Some, None, Result, Ok, Err}
use Rattle.afs_num.specs.declared.records.StoreRecord.{StoreRecord}
use Rattle.afs_disk.specs.declared.disk.Disk.{Ghosts}
use Rattle.spec_records.specs.Durable.{Durable}
use Rattle.spec_fold.specs.Fold.{folded}
use Rattle.afs_saving.specs.Saving as saving
use Rattle.afs_server_parts.specs.declared.faults.NodeFault.{NodeFault}
use Rattle.afs_server_parts.specs.declared.faults.NodeFault.TheVariants as faults
use Rattle.afs_server_parts.specs.declared.turns.Stand.{Stand}
use Rattle.afs_volstore.specs.Stores.{Store}
use Rattle.afs_volstore.specs.VolumeFold.{volume_fold}

-- who makes a step over this store
abbrev pub stand_of : {D : Type 0} → Store D → Stand
stand_of {D} s = record { node = s.node; boot = s.durable.boot; last = s.drawn }

-- what a store has besides what it keeps and has drawn is the same, but for the disk and for a record that was prepared
abbrev pub SameStore : {D : Type 0} → Store D → Store D → Type 0
SameStore {D} s t = t ≡ record s { disk = t.disk; prepared = t.prepared }

-- the store's device call failed; it is closed until its disk is attached anew
abbrev pub IsClosed : {D : Type 0} → Store D → Store D → Type 0
IsClosed {D} s t = t ≡ record s { disk = t.disk; prepared = None; closed = true }

-- what the store keeps after a step that makes this record, or none
abbrev pub IsKeptBehind : {D : Type 0} → Option StoreRecord → Store D → Store D → Type 0
IsKeptBehind {D} None s t = (t.durable ≡ s.durable) × (t.count ≡ s.count)
IsKeptBehind {D} (Some r) s t = (folded r s.durable ≡ Some t.durable) × (t.count ≡ s.count + 1)

-- what a step that has this record, or none, does to the disk of a store that keeps this
abbrev pub OnDisk : {D T : Type 0} → Ghosts D → Option StoreRecord → Durable → D → D → Result T NodeFault → Type 0
OnDisk {D} {T} w decided d old new result = saving.OnDisk volume_fold w decided d old new result

-- which record it leaves prepared
abbrev pub LeavesPrepared : {D T : Type 0} → Option StoreRecord → Store D → Store D → Result T NodeFault → Type 0
LeavesPrepared {D} {T} decided s t result = saving.LeavesPrepared decided s.prepared t.prepared result

-- the record is prepared, or there is no room for it; what else a store has is the same, but for the room of its disk
abbrev pub Prepares : {D E : Type 0} → StoreRecord → Store D → Store D → Result Bool E → Type 0
Prepares {D} {E} r s t (Ok true) = t ≡ record s { prepared = Some r; disk = t.disk }
Prepares {D} {E} r s t (Ok false) = t ≡ record s { disk = t.disk }
Prepares {D} {E} r s t (Err e) = t ≡ record s { disk = t.disk }

-- the record is on the disk, and the store keeps what it says; or the disk failed
abbrev pub Commits : {D T : Type 0} → StoreRecord → Store D → Store D → Result T NodeFault → Type 0
Commits {D} {T} r s t (Ok x) = (t ≡ record s { durable = t.durable; disk = t.disk; prepared = None; count = s.count + 1 }) × (folded r s.durable ≡ Some t.durable)
Commits {D} {T} r s t (Err faults.OutOfMemory) = ⊥
Commits {D} {T} r s t (Err faults.Down) = IsClosed s t
