-- What is done with what was found in a message's bytes, by its parts.
use Rattle.std.proofs.Common.{◌≡◌, ℕ, List, Option, refl, sym, ap, subst, ◌∙◌, None}
use Rattle.std.specs.Prelude.{Result, Err, Ok}
use Rattle.spec_history.specs.declared.lines.Outs.{Outs}
use Rattle.afs_num.specs.declared.records.StoreRecord.{StoreRecord}
use Rattle.spec_ideal.specs.Tables.{Table}
use Rattle.spec_records.specs.Durable.{Durable}
use Rattle.afs_volstore.specs.Stores.{Store}
use Rattle.afs_server.specs.Handling.{record_decided, Does}
use Rattle.afs_server.specs.Putting.{DoesAll, IsFew, Took}
use Rattle.afs_server.specs.Seen.{Memory}
use Rattle.afs_server_parts.specs.declared.faults.NodeFault.{NodeFault}
use Rattle.afs_server_parts.specs.declared.faults.NodeFault.TheVariants as faults
use Rattle.afs_saving.proofs.Still.{is_same, prepared_still}
use Rattle.afs_server.proofs.Wholly.{made_none}
use Rattle.afs_num.specs.declared.messages.Call.{Call}
use Rattle.afs_num.specs.declared.messages.Call.TheVariants as ask
use Rattle.afs_num.specs.declared.messages.Carried.{Carried}
use Rattle.afs_num.specs.declared.messages.Carried.TheVariants as carried
use Rattle.afs_num.specs.declared.messages.Message.{Message}
use Rattle.afs_num.specs.declared.messages.Received.{Received}
use Rattle.afs_num.specs.declared.messages.Received.TheVariants.{Unreadable, Unserved, Whole}
use Rattle.afs_num.specs.declared.types.Head.{Head}
use Rattle.afs_num.specs.declared.types.Node.{Node}
use Rattle.spec_rows.specs.Callbacks as row
use Rattle.spec_rows.specs.Callbacks.{turn_for, turned_by, turned_in}
use Rattle.spec_rows.specs.ServerRow.{whole, Decision}
use Rattle.spec_volrows.specs.FileRow.{file_called, file_decides, file_hears}
use Rattle.spec_rows.specs.States.{Backs, ServerState}
use Rattle.afs_disk.specs.declared.disk.Disk.{Ghosts}
use Rattle.afs_volstore.specs.VolumeFold.{volume_fold}
use Rattle.afs_sharing.specs.Stores.{SameStore, OnDisk}

module _ (P : Decision → row.CallbackStep → Type 0) (me : Node) (holds : Table ℕ) (s : ServerState) (clock : ℕ) (b : Backs) where
  pub in_received : (r x : Received) → r ≡ x → P (file_decides me holds s clock x) (turned_in me s clock b (file_decides me holds s clock x) x) → P (file_decides me holds s clock r) (turned_in me s clock b (file_decides me holds s clock r) r)
  in_received r x e p = subst (λ (y : Received). P (file_decides me holds s clock y) (turned_in me s clock b (file_decides me holds s clock y) y)) (sym e) p

  pub in_carried : (r : Received) (m : Message) (k : Carried) → r ≡ Whole m → m.carried ≡ k → P (file_hears me holds s clock m.head k) (turned_by me s clock b (file_hears me holds s clock m.head k) m.head k) →
      P (file_decides me holds s clock r) (turned_in me s clock b (file_decides me holds s clock r) r)
  in_carried r m k e same p =
      in_received r (Whole m) e
      (subst (λ (l : Carried). P (file_hears me holds s clock m.head l) (turned_by me s clock b (file_hears me holds s clock m.head l) m.head l)) (sym same) p)

  pub in_call : (r : Received) (m : Message) (user : List ℕ) (call : Call) → r ≡ Whole m → m.carried ≡ carried.Call user call → P (file_called me holds s clock m.head r) (turn_for me s clock b (file_called me holds s clock m.head r)) →
      P (file_decides me holds s clock r) (turned_in me s clock b (file_decides me holds s clock r) r)
  in_call r m user call e same p =
      let is : r ≡ whole m.head (carried.Call user call) = e ∙ ap (λ (k : Carried). whole m.head k) same in
      in_carried r m (carried.Call user call) e same (subst (λ (x : Received). P (file_called me holds s clock m.head x) (turn_for me s clock b (file_called me holds s clock m.head x))) is p)

  pub in_unserved : (r : Received) (head : Head) → r ≡ Unserved head → P (file_called me holds s clock head r) (turn_for me s clock b (file_called me holds s clock head r)) → P (file_decides me holds s clock r) (turned_in me s clock b (file_decides me holds s clock r) r)
  in_unserved r head e p = in_received r (Unserved head) e (subst (λ (x : Received). P (file_called me holds s clock head x) (turn_for me s clock b (file_called me holds s clock head x))) e p)

  pub in_unreadable : (r : Received) (head : Head) → r ≡ Unreadable head → P (file_called me holds s clock head r) (turn_for me s clock b (file_called me holds s clock head r)) → P (file_decides me holds s clock r) (turned_in me s clock b (file_decides me holds s clock r) r)
  in_unreadable r head e p = in_received r (Unreadable head) e (subst (λ (x : Received). P (file_called me holds s clock head x) (turn_for me s clock b (file_called me holds s clock head x))) e p)

-- ---- memory was wanting, and nothing was done

same_store : {D : Type 0} (s t : Store D) → t ≡ s → SameStore s t
same_store {D} s t e = subst (λ (u : Store D). SameStore s u) (sym e) refl

wants_all : {D : Type 0} (clock : ℕ) (d : Decision) (turn : row.CallbackStep) (old new : Memory) (s t : Store D) (result : Result Outs NodeFault) → result ≡ Err faults.OutOfMemory → (new ≡ old) × (t ≡ s) → DoesAll clock d turn old new s t result
wants_all {D} clock d turn old new s t result e same =
    let prepared = prepared_still {T = Outs} (record_decided s.durable.boot clock d) s.prepared t.prepared (Err faults.OutOfMemory) tt (ap (λ (u : Store D). u.prepared) same.1) in
    subst (λ (r : Result Outs NodeFault). DoesAll clock d turn old new s t r) (sym e) (same.0, (same_store s t same.1, prepared))

wants_disk : {D : Type 0} (w : Ghosts D) (decided : Option StoreRecord) (d : Durable) (old new : D) (result : Result Outs NodeFault) → result ≡ Err faults.OutOfMemory → new ≡ old → OnDisk w decided d old new result
wants_disk {D} w decided d old new result e same = subst (λ (r : Result Outs NodeFault). OnDisk w decided d old new r) (sym e) (is_same volume_fold w decided d old new (Err faults.OutOfMemory) tt same)

pub wants_took : {D : Type 0} (w : Ghosts D) (clock : ℕ) (d : Decision) (turn : row.CallbackStep) (old new : Memory) (s t : Store D) (result : Result Outs NodeFault) → result ≡ Err faults.OutOfMemory → (new ≡ old) × (t ≡ s) → Took w clock d turn old new s t result
wants_took {D} w clock d turn old new s t result e same = record {
  does = wants_all clock d turn old new s t result e same;
  disk = wants_disk w (record_decided s.durable.boot clock d) s.durable s.disk t.disk result e (ap (λ (u : Store D). u.disk) same.1);
}

-- ---- what is decided makes no record

pub made_took : {D : Type 0} (w : Ghosts D) (clock : ℕ) (d : Decision) (turn : row.CallbackStep) (old new : Memory) (s t : Store D) (outs : Outs) → record_decided s.durable.boot clock d ≡ None → IsFew d → Does {E = NodeFault} clock d turn old new s t (Ok outs) →
    Took w clock d turn old new s t (Ok outs)
made_took {D} w clock d turn old new s t outs none few does = record {
  does = made_none clock d turn old new s t outs none few does;
  disk = is_same volume_fold w (record_decided s.durable.boot clock d) s.durable s.disk t.disk (Ok outs) none (ap (λ (u : Store D). u.disk) does.1.1);
}
