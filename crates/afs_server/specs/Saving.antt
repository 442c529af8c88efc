-- What becomes of a change, in memory and in the store.
use Rattle.std.specs.Prelude.{◌≡◌, ℕ, ◌+◌, None, Some, Result, Ok, Err, ◌≤◌, false, length}
use Rattle.afs_num.specs.declared.types.Head.{Head}
use Rattle.spec_history.specs.declared.lines.Outs.{Outs}
use Rattle.spec_breaks.specs.Promises.{expired, grants_all, lasting}
use Rattle.spec_fold.specs.Fold.{folded}
use Rattle.spec_records.specs.Records.{FitsRecord}
use Rattle.afs_callbacks.specs.Saving.{withdraws_each, hits_each}
use Rattle.afs_volstore.specs.Stores.{Store}
use Rattle.afs_server.specs.Answering.{KeepsReply}
use Rattle.afs_server.specs.Seen.{Memory}
use Rattle.afs_server_parts.specs.declared.faults.NodeFault.{NodeFault}
use Rattle.afs_server_parts.specs.declared.faults.NodeFault.TheVariants as faults
use Rattle.afs_callbacks.specs.declared.saving.Planned.{Planned}
use Rattle.afs_message.specs.Spelled.{IsSpelling}
use Rattle.afs_sharing.specs.Callers.{IsToRun}
use Rattle.afs_sharing.specs.Stores.{IsClosed}

-- ---- before

-- Where its record is prepared, it can be put on the disk, and the rest be done, by the plan of the call of this header.
pub record CanPut {D : Type 0} (head : Head) (now : ℕ) (p : Planned) (m : Memory) (s : Store D) : Type 0 where
  pub runs : IsToRun head m.seats
  pub draws : m.lists.last_owed + length m.lists.promises + length p.granted ≤ 4000000000
  pub withdraws : p.withdrawn.items ≡ hits_each head.from p.changed (lasting now m.lists.promises)
  pub drawn : s.drawn ≤ p.ended.last
  pub spelling : IsSpelling p.kept
  pub up : s.closed ≡ false
  pub fits : FitsRecord p.rec
  pub soon : now ≤ 1000000000

-- ---- what becomes of it

-- in memory, once the record stands on the disk
pub record IsTaken (head : Head) (now : ℕ) (p : Planned) (old new : Memory) : Type 0 where
  pub boot : new.boot ≡ old.boot
  pub seats : KeepsReply head p.kept old.seats new.seats
  pub lists : new.lists ≡ withdraws_each head.from p.changed (expired now (grants_all head.from (now + 7200) p.granted old.lists))
  pub callees : new.callees ≡ p.ended.callees.items
  pub held : new.held ≡ p.ended.held

-- and in the store
pub record IsPut {D : Type 0} (p : Planned) (s t : Store D) : Type 0 where
  pub store : t ≡ record s { durable = t.durable; disk = t.disk; prepared = None; count = s.count + 1; drawn = p.ended.last }
  pub folds : folded p.rec s.durable ≡ Some t.durable

-- its record, which is prepared, is put on the disk, and then the rest is done
abbrev pub Puts : {D : Type 0} → Head → ℕ → Planned → Memory → Memory → Store D → Store D → Result Outs NodeFault → Type 0
Puts {D} head now p old new s t (Ok outs) = IsTaken head now p old new × (IsPut p s t × (outs ≡ p.ended.outs))
Puts {D} head now p old new s t (Err faults.OutOfMemory) = (new ≡ old) × (t ≡ s)
Puts {D} head now p old new s t (Err faults.Down) = IsClosed s t
