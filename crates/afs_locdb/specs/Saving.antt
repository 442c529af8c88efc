-- What becomes of a change: what its step does to the store, and to the disk.
use Rattle.std.specs.Prelude.{◌≡◌, ◌+◌, [], ◌∷◌, Bool, true, false, Option, Some, None, Result, Ok, Err}
use Rattle.afs_disk.specs.declared.disk.Disk.{Ghosts}
use Rattle.spec_history.specs.declared.lines.Outs.{Outs}
use Rattle.afs_num.specs.declared.messages.Received.TheVariants.{Whole}
use Rattle.afs_num.specs.declared.types.Head.{Head}
use Rattle.spec_model.specs.Calls.{call_seated}
use Rattle.spec_model.specs.Messages.{messages_spelled, parcels_read, received, spelled}
use Rattle.spec_records.specs.LocDurable.{loc_folded, LocDurable}
use Rattle.spec_records.specs.LocEffects.{deed_told}
use Rattle.spec_records.specs.LocRecords.{FitsLocRecord, LocRecord}
use Rattle.spec_rows.specs.LocRow.{loc_record_of, reply_to, LocChange, LocDecision}
use Rattle.spec_rows.specs.LocSteps.{loc_begun_after}
use Rattle.spec_rows.specs.ServerRow.{seat_for}
use Rattle.afs_store.specs.Stores.{StoreOf}
use Rattle.afs_locstore.specs.LocFold.{loc_fold}
use Rattle.afs_locdb.specs.Handling.{loc_done, loc_record_decided, IsClosed, IsKeptBehind, IsUntouched, Makes}
use Rattle.afs_locdb.specs.Seen.{lasting_of, loc_seen, Database, IsInBoot}
use Rattle.afs_server_parts.specs.declared.faults.NodeFault.{NodeFault}
use Rattle.afs_server_parts.specs.declared.faults.NodeFault.TheVariants as nodes
use Rattle.afs_locdb.specs.declared.saving.Planned.{Planned}
use Rattle.afs_saving.specs.Saving as saving
pub use Rattle.afs_saving.specs.Saving.{calls_for, IsStill, Ran}

-- ---- a change

-- What it comes to: its record, which fits; its reply, which is read again from its spelling; and what goes out.
pub record IsChangeOf {D : Type 0} (b : Database D) (head : Head) (c : LocChange) (p : Planned) : Type 0 where
  pub rec_is : p.rec ≡ loc_record_of b.store.durable.boot head c
  pub fits : FitsLocRecord p.rec
  pub reply_is : p.reply ≡ reply_to b.store.durable.boot head c.reply
  pub read : received (spelled (reply_to b.store.durable.boot head c.reply)) ≡ Whole (reply_to b.store.durable.boot head c.reply)
  pub lines : p.outs.lines ≡ deed_told c.deed b.store.durable.entries
  pub sent : parcels_read p.outs.parcels ≡ messages_spelled (reply_to b.store.durable.boot head c.reply ∷ [])

-- ---- the store

abbrev pub LocStoreOf : Type 0 → Type 0
LocStoreOf D = StoreOf D LocRecord LocDurable

-- the record waits, or there is no room for it; or memory was wanting
abbrev pub Prepares : {D E : Type 0} → LocRecord → LocStoreOf D → LocStoreOf D → Result Bool E → Type 0
Prepares {D} {E} r s t (Ok true) = t ≡ record s { disk = t.disk; prepared = Some r }
Prepares {D} {E} r s t (Ok false) = t ≡ record s { disk = t.disk }
Prepares {D} {E} r s t (Err e) = t ≡ record s { disk = t.disk }

-- the record stands on the disk, and what it says is done; or the disk failed
abbrev pub Commits : {D T : Type 0} → LocRecord → LocStoreOf D → LocStoreOf D → Result T NodeFault → Type 0
Commits {D} {T} r s t (Ok u) = (t ≡ record s { durable = t.durable; disk = t.disk; prepared = None; count = s.count + 1 }) × (loc_folded r s.durable ≡ Some t.durable)
Commits {D} {T} r s t (Err nodes.OutOfMemory) = ⊥
Commits {D} {T} r s t (Err nodes.Down) = t ≡ record s { disk = t.disk; prepared = None; closed = true }

-- the record is put on the disk, what it says is done, and the reply is kept; or the disk failed
abbrev pub Puts : {D : Type 0} → Head → Planned → Database D → Database D → Result Outs NodeFault → Type 0
Puts {D} head p old new (Ok outs) =
    (outs ≡ p.outs)
    × ((new.boot ≡ old.boot) × ((new.seats ≡ call_seated (seat_for head p.reply) old.seats) × Commits p.rec old.store new.store (Ok outs)))
Puts {D} head p old new (Err nodes.OutOfMemory) = new ≡ old
Puts {D} head p old new (Err nodes.Down) = Commits {T = Outs} p.rec old.store new.store (Err nodes.Down)

-- which record a step that has this one, or none, leaves prepared
abbrev pub LeavesPrepared : {D T : Type 0} → Option LocRecord → Database D → Database D → Result T NodeFault → Type 0
LeavesPrepared {D} {T} decided old new result = saving.LeavesPrepared decided old.store.prepared new.store.prepared result

-- ---- the whole step

-- of its store a step changes what is kept, and what counts it
abbrev pub KeepsStore : {D : Type 0} → Database D → Database D → Type 0
KeepsStore {D} old new = new.store ≡ record old.store { durable = new.store.durable; disk = new.store.disk; prepared = new.store.prepared; count = new.store.count }

-- what is left of a step that was made
pub record IsMadeOf {D : Type 0} (d : LocDecision) (old new : Database D) (outs : Outs) : Type 0 where
  pub makes : Makes (loc_done (loc_seen old) d) [] new outs
  pub serves : IsInBoot new
  pub store : KeepsStore old new
  pub done : IsKeptBehind (loc_record_decided old.store.durable.boot d) old new
  pub prepared : LeavesPrepared (loc_record_decided old.store.durable.boot d) old new (Ok outs)

-- the disk failed: one that keeps the record of the step keeps what the row leaves of it
pub record IsInterrupted {D : Type 0} (d : LocDecision) (old new : Database D) : Type 0 where
  pub closed : IsClosed old new
  pub some : loc_record_decided old.store.durable.boot d ≡ None → ⊥
  pub left : (r : LocRecord) → loc_record_decided old.store.durable.boot d ≡ Some r → (e : LocDurable) → loc_folded r old.store.durable ≡ Some e → lasting_of e ≡ (loc_begun_after (loc_seen old) d).state.lasting

-- what is decided is done; or memory was wanting, and all is as before; or the disk failed while the record was written
abbrev pub DoesAll : {D : Type 0} → LocDecision → Database D → Database D → Result Outs NodeFault → Type 0
DoesAll {D} d old new (Ok outs) = IsMadeOf d old new outs
DoesAll {D} d old new (Err nodes.OutOfMemory) = IsUntouched old new × LeavesPrepared {T = Outs} (loc_record_decided old.store.durable.boot d) old new (Err nodes.OutOfMemory)
DoesAll {D} d old new (Err nodes.Down) = IsInterrupted d old new

-- ---- the disk

-- what a step that has this record, or none, does to a disk that keeps this
abbrev pub OnDisk : {D T : Type 0} → Ghosts D → Option LocRecord → LocDurable → D → D → Result T NodeFault → Type 0
OnDisk {D} {T} w decided d old new result = saving.OnDisk loc_fold w decided d old new result
