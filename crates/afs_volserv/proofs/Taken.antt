-- What is done with what was found in a message's bytes, by its parts.
use Rattle.std.proofs.Common.{◌≡◌, ◌+◌, ℕ, true, cond, List, ◌++◌, map, Option, Some, None, refl, sym, ap, subst, ◌∙◌}
use Rattle.std.specs.Prelude.{pos, Result, Ok, Err, IsErrOf, OnOk}
use Rattle.afs_num.specs.Nodes.{same_node}
use Rattle.afs_num.specs.declared.messages.Call.{Call}
use Rattle.afs_num.specs.declared.messages.Carried.{Carried}
use Rattle.afs_num.specs.declared.messages.Carried.TheVariants as carried
use Rattle.afs_num.specs.declared.messages.Message.{Message}
use Rattle.afs_num.specs.declared.messages.Received.{Received}
use Rattle.afs_num.specs.declared.messages.Received.TheVariants.{Unreadable, Unserved, Whole}
use Rattle.afs_num.specs.declared.messages.Reply.{Reply}
use Rattle.afs_num.specs.declared.records.StoreRecord.{StoreRecord}
use Rattle.afs_num.specs.declared.types.Head.{Head}
use Rattle.afs_num.specs.declared.types.Node.{Node}
use Rattle.afs_disk.specs.declared.disk.Disk.{Ghosts}
use Rattle.spec_history.specs.declared.lines.Line.{Line}
use Rattle.spec_history.specs.declared.lines.Outs.{Outs}
use Rattle.spec_fold.specs.Effects.{effect_of}
use Rattle.spec_fold.specs.Fold.{folded}
use Rattle.afs_memory.specs.Telling.{in_words}
use Rattle.spec_records.specs.Durable.{Durable}
use Rattle.spec_rows.specs.States.{Backs, Lasting, ServerState}
use Rattle.afs_callbacks.specs.States.{CallbackState}
use Rattle.afs_saving.proofs.Still.{is_same, none_prepared, prepared_still}
use Rattle.afs_server_parts.specs.declared.faults.NodeFault.{NodeFault}
use Rattle.afs_server_parts.specs.declared.faults.NodeFault.TheVariants as faults
use Rattle.spec_volrows.specs.VolStates.{PieceCall, VolState}
use Rattle.spec_volrows.specs.VolSteps.{dispatches, drops, repeats, replies_to, saves, tells_boot, vol_begun_after, vol_called, vol_decides, vol_device_calls, vol_hears, vol_rests, vol_told, vol_told_by, vol_turn, vol_turned, vol_turned_by, VolDecision, VolTurn}
use Rattle.afs_volanswers.specs.Deciding.{decision_of, leaves_disk}
use Rattle.afs_volserv.specs.Handling.{vol_record, DoesVolumes, DrawsFew, HandlesVolumes, IsStep, IsToldAgain, IsVolumeStep, StaysInOrder, TookVolumes}
use Rattle.afs_volserv.specs.Seen.{VolMemory}
use Rattle.afs_volanswers.specs.declared.decided.Decided.{Decided}
use Rattle.afs_volanswers.specs.declared.decided.Decided.TheVariants as decided
use Rattle.afs_volstore.specs.Stores.{Store}
use Rattle.afs_volstore.specs.VolumeFold.{volume_fold}
use Rattle.afs_sharing.specs.Stores.{IsKeptBehind, SameStore, OnDisk, LeavesPrepared}
use Rattle.afs_saving.specs.Saving.{IsWritten, calls_for}
use Rattle.afs_sharing.specs.Lasting.{lasting_of}

-- ---- a message by its parts

module _ (P : VolDecision → VolTurn → Type 0) (me : Node) (l : Lasting) (d : Durable) (v : VolState) (b : Backs) where
  pub in_received : (r x : Received) → r ≡ x → P (vol_decides me d v x) (vol_turned me l v b (vol_decides me d v x) x) → P (vol_decides me d v r) (vol_turned me l v b (vol_decides me d v r) r)
  in_received r x e p = subst (λ (y : Received). P (vol_decides me d v y) (vol_turned me l v b (vol_decides me d v y) y)) (sym e) p

  pub in_carried : (r : Received) (m : Message) (k : Carried) → r ≡ Whole m → m.carried ≡ k → P (vol_hears me d v m.head k) (vol_turned_by me l v b (vol_hears me d v m.head k) m.head k) → P (vol_decides me d v r) (vol_turned me l v b (vol_decides me d v r) r)
  in_carried r m k e same p =
      in_received r (Whole m) e (subst (λ (c : Carried). P (vol_hears me d v m.head c) (vol_turned_by me l v b (vol_hears me d v m.head c) m.head c)) (sym same) p)

  pub in_call : (r : Received) (m : Message) (user : List ℕ) (call : Call) → r ≡ Whole m → m.carried ≡ carried.Call user call → P (vol_called me d v m.head r) (vol_turn me l v b (vol_called me d v m.head r)) → P (vol_decides me d v r) (vol_turned me l v b (vol_decides me d v r) r)
  in_call r m user call e same p =
      let is : r ≡ Whole (record { head = m.head; carried = carried.Call user call }) = e ∙ ap (λ (c : Carried). Whole (record { head = m.head; carried = c })) same in
      in_carried r m (carried.Call user call) e same (subst (λ (x : Received). P (vol_called me d v m.head x) (vol_turn me l v b (vol_called me d v m.head x))) is p)

  pub in_unserved : (r : Received) (head : Head) → r ≡ Unserved head → P (vol_called me d v head r) (vol_turn me l v b (vol_called me d v head r)) → P (vol_decides me d v r) (vol_turned me l v b (vol_decides me d v r) r)
  in_unserved r head e p = in_received r (Unserved head) e (subst (λ (x : Received). P (vol_called me d v head x) (vol_turn me l v b (vol_called me d v head x))) e p)

  pub in_unreadable : (r : Received) (head : Head) → r ≡ Unreadable head → P (vol_called me d v head r) (vol_turn me l v b (vol_called me d v head r)) → P (vol_decides me d v r) (vol_turned me l v b (vol_decides me d v r) r)
  in_unreadable r head e p = in_received r (Unreadable head) e (subst (λ (x : Received). P (vol_called me d v head x) (vol_turn me l v b (vol_called me d v head x))) e p)

-- a reply is an answer with the code 0
replied_by : (me : Node) (l : Lasting) (v : VolState) (b : Backs) (head : Head) (reply : Reply) (o : Option PieceCall) → vol_told_by me l v b head (carried.Refusal (record { 0 = pos 0 })) o ≡ vol_told_by me l v b head (carried.Reply reply) o
replied_by me l v b head reply None = refl
replied_by me l v b head reply (Some c) = refl

pub replied_told : (me : Node) (l : Lasting) (v : VolState) (b : Backs) (head : Head) (reply : Reply) → vol_told me l v b head (carried.Refusal (record { 0 = pos 0 })) ≡ vol_told me l v b head (carried.Reply reply)
replied_told me l v b head reply = ap (λ (t : VolTurn). cond (same_node head.to me) t (vol_rests l v b)) (replied_by me l v b head reply (v.calls head.from))

-- ---- decisions without a record

pub none_recorded : (d : Durable) (v : VolState) (head : Head) (full : VolDecision) (x : Decided) → leaves_disk x ≡ true → vol_record (decision_of d v head full x) ≡ None
none_recorded d v head full decided.Drops leaves = refl
none_recorded d v head full decided.TellsBoot leaves = refl
none_recorded d v head full (decided.Repeats reply) leaves = refl
none_recorded d v head full (decided.Answers answer after) leaves = refl
none_recorded d v head full (decided.Dispatches x) leaves = refl
none_recorded d v head full (decided.Saves x) leaves = absurd cc

-- ---- memory was wanting, and nothing was done

same_store : {D : Type 0} (s u : Store D) → u ≡ s → SameStore s u
same_store {D} s u e = subst (λ (t : Store D). SameStore s t) (sym e) refl

wants_disk : {D : Type 0} (w : Ghosts D) (decided : Option StoreRecord) (d : Durable) (old new : D) (result : Result Outs NodeFault) → result ≡ Err faults.OutOfMemory → new ≡ old → OnDisk w decided d old new result
wants_disk {D} w decided d old new result e same = subst (λ (r : Result Outs NodeFault). OnDisk w decided d old new r) (sym e) (is_same volume_fold w decided d old new (Err faults.OutOfMemory) tt same)

pub wants_took : {D : Type 0} (w : Ghosts D) (d : VolDecision) (t : VolTurn) (old new : VolMemory) (k l : CallbackState) (s u : Store D) (result : Result Outs NodeFault) → result ≡ Err faults.OutOfMemory → (new ≡ old) × ((l ≡ k) × (u ≡ s)) → TookVolumes w d t old new k l s u result
wants_took {D} w d t old new k l s u result e same =
    let prepared = prepared_still {T = Outs} (vol_record d) s.prepared u.prepared (Err faults.OutOfMemory) tt (ap (λ (x : Store D). x.prepared) same.1.1) in
    record {
      does = subst (λ (r : Result Outs NodeFault). DoesVolumes d t old new k l s u r) (sym e) (same.0, (same.1.0, (same_store s u same.1.1, prepared)));
      disk = wants_disk w (vol_record d) s.durable s.disk u.disk result e (ap (λ (x : Store D). x.disk) same.1.1);
    }

-- ---- a step without a record

told_none : {D : Type 0} (d : VolDecision) (s : Store D) → vol_record d ≡ None → IsToldAgain d s
told_none {D} d s none r recorded f same ls = absurd (let z : ◌≡◌ {A = Option StoreRecord} None (Some r) = sym none ∙ recorded in cc)

step_made : {D : Type 0} (d : VolDecision) (t : VolTurn) (old new : VolMemory) (k l : CallbackState) (s u : Store D) (outs : Outs) → vol_record d ≡ None → IsStep t old new k l s u outs → IsVolumeStep d t old new k l s u outs
step_made {D} d t old new k l s u outs none is =
    let durable : u.durable ≡ s.durable = ap (λ (x : Store D). x.durable) is.store in
    let disk : u.disk ≡ s.disk = ap (λ (x : Store D). x.disk) is.store in
    let prepared : u.prepared ≡ s.prepared = ap (λ (x : Store D). x.prepared) is.store in
    let count : u.count ≡ s.count = ap (λ (x : Store D). x.count) is.store in
    record {
      makes = is.makes;
      order = is.order;
      draws = is.draws;
      store = is.store ∙ (λ i. record s { durable = sym durable i; disk = sym disk i; prepared = sym prepared i; count = sym count i; drawn = u.drawn; holds = u.holds });
      done = subst (λ (r : Option StoreRecord). IsKeptBehind r s u) (sym none) (durable, count);
      prepared = prepared_still {T = Outs} (vol_record d) s.prepared u.prepared (Ok outs) none prepared;
      effects = told_none d s none;
    }

pub steps_took : {D : Type 0} (w : Ghosts D) (d : VolDecision) (t : VolTurn) (old new : VolMemory) (k l : CallbackState) (s u : Store D) (outs : Outs) → vol_record d ≡ None → IsStep t old new k l s u outs → TookVolumes w d t old new k l s u (Ok outs)
steps_took {D} w d t old new k l s u outs none is = record {
  does = step_made d t old new k l s u outs none is;
  disk = is_same volume_fold w (vol_record d) s.durable s.disk u.disk (Ok outs) none (ap (λ (x : Store D). x.disk) is.store);
}

-- ---- what that is to those who call

module _ {D : Type 0} (d : VolDecision) (t : VolTurn) (old new : VolMemory) (k l : CallbackState) (s u : Store D) where
  abbrev Does : Result Outs NodeFault → Type 0
  Does result = DoesVolumes d t old new k l s u result

  pub handles_so : (result : Result Outs NodeFault) → Does result → HandlesVolumes t old new k l s u result
  handles_so (Ok outs) is = is.makes
  handles_so (Err faults.OutOfMemory) is = (is.0, (is.1.0, is.1.1.0))
  handles_so (Err faults.Down) is = is.closed

  pub order_so : (result : Result Outs NodeFault) → Does result → OnOk result (StaysInOrder old new l u)
  order_so (Ok outs) is = is.order
  order_so (Err fault) is = tt

  pub draws_so : (result : Result Outs NodeFault) → Does result → OnOk result (DrawsFew k l s u)
  draws_so (Ok outs) is = is.draws
  draws_so (Err fault) is = tt

  pub store_so : (result : Result Outs NodeFault) → Does result → OnOk result (u ≡ record s { durable = u.durable; disk = u.disk; prepared = u.prepared; count = u.count; drawn = u.drawn; holds = u.holds })
  store_so (Ok outs) is = is.store
  store_so (Err fault) is = tt

  pub done_so : (result : Result Outs NodeFault) → Does result → OnOk result (IsKeptBehind (vol_record d) s u)
  done_so (Ok outs) is = is.done
  done_so (Err fault) is = tt

  pub prepared_so : (result : Result Outs NodeFault) → Does result → LeavesPrepared (vol_record d) s u result
  prepared_so (Ok outs) is = is.prepared
  prepared_so (Err faults.OutOfMemory) is = is.1.1.1
  prepared_so (Err faults.Down) is = none_prepared {T = Outs} (vol_record d) s.prepared u.prepared (Err faults.Down) refl is.some (ap (λ (x : Store D). x.prepared) is.closed)

  pub some_down : (result : Result Outs NodeFault) → Does result → IsErrOf result faults.Down → vol_record d ≡ None → ⊥
  some_down (Ok outs) is down none = absurd cc
  some_down (Err faults.OutOfMemory) is down none = absurd cc
  some_down (Err faults.Down) is down none = is.some none

  pub left_down : (result : Result Outs NodeFault) → Does result → IsErrOf result faults.Down → (r : StoreRecord) → vol_record d ≡ Some r → (e : Durable) → folded r s.durable ≡ Some e → (f : ServerState) → f.lasting ≡ lasting_of s.durable →
      lasting_of e ≡ (vol_begun_after s.node f d).state.lasting
  left_down (Ok outs) is down r recorded e folds f same = absurd cc
  left_down (Err faults.OutOfMemory) is down r recorded e folds f same = absurd cc
  left_down (Err faults.Down) is down r recorded e folds f same = is.left r recorded e folds f same

  pub told_so : (result : Result Outs NodeFault) → Does result → (r : StoreRecord) → IsWritten r (vol_record d) result → (f : ServerState) → f.lasting ≡ lasting_of s.durable → (ls : List Line) →
      (vol_begun_after s.node f d).before ls ≡ map in_words (effect_of s.node r s.durable) ++ ls
  told_so (Ok outs) is r written f same ls = is.effects r written f same ls
  told_so (Err faults.OutOfMemory) is r written f same ls = absurd written
  told_so (Err faults.Down) is r written f same ls = is.effects r written f same ls

-- ---- the disk's calls

calls_decided : (d e : Durable) (x : VolDecision) → calls_for (vol_record x) ≡ vol_device_calls e x
calls_decided d e drops = refl
calls_decided d e (tells_boot head) = refl
calls_decided d e (repeats reply) = refl
calls_decided d e (replies_to head reply ts last) = refl
calls_decided d e (dispatches head x) = refl
calls_decided d e (saves head x) = refl

pub called_so : (d e : Durable) (x : VolDecision) (result : Result Outs NodeFault) (before now : ℕ) → OnOk result (now ≡ before + calls_for (vol_record x)) → OnOk result (now ≡ before + vol_device_calls e x)
called_so d e x (Ok outs) before now is = is ∙ ap (λ (n : ℕ). before + n) (calls_decided d e x)
called_so d e x (Err fault) before now is = tt
