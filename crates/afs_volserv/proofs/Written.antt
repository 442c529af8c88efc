-- What is decided to be written is prepared and put on the disk, or answered for want of room: either way the row's step.
use Rattle.std.proofs.Common.{◌≡◌, ◌≤◌, ◌<◌, ◌+◌, ℕ, Bool, true, false, List, ◌++◌, map, length, Option, Some, None, inr, refl, sym, ap, subst, ◌∙◌}
use Rattle.std.specs.Prelude.{Result, Ok, Err, IsErrOf, IsSome, if◌then◌else◌}
use Rattle.afs_disk.specs.declared.disk.Disk.{Ghosts}
use Rattle.afs_num.specs.Nodes.{IsNode}
use Rattle.afs_num.specs.declared.records.StoreRecord.{StoreRecord}
use Rattle.afs_num.specs.declared.types.Head.{Head}
use Rattle.afs_num.specs.declared.types.Node.{Node}
use Rattle.afs_num.specs.declared.volume_calls.VolCall.{VolCall}
use Rattle.spec_history.specs.declared.lines.Line.{Line}
use Rattle.spec_history.specs.declared.lines.Outs.{Outs}
use Rattle.spec_breaks.specs.Promises.{lasting_breaks}
use Rattle.spec_fold.specs.Effects.{effect_of}
use Rattle.spec_fold.specs.Fold.{folded}
use Rattle.afs_memory.specs.Telling.{in_words}
use Rattle.spec_records.specs.Durable.{has_room, Durable}
use Rattle.spec_rows.specs.Callbacks.{owe_line}
use Rattle.afs_callbacks.specs.States.{CallbackState, IsToNodes}
use Rattle.afs_saving.proofs.Still.{behind, is_still, prepared_still}
use Rattle.afs_server_parts.specs.declared.faults.NodeFault.{NodeFault}
use Rattle.afs_server_parts.specs.declared.faults.NodeFault.TheVariants as faults
use Rattle.spec_volrows.specs.VolLaws.{AreApart}
use Rattle.spec_volrows.specs.VolRow as row
use Rattle.spec_volrows.specs.VolStates.{VolState}
use Rattle.spec_volrows.specs.VolSteps.{deed_record, not_written, saves, written, VolDecision, VolTurn}
use Rattle.afs_voldecisions.specs.Numbering.{Numbered}
use Rattle.afs_volanswers.specs.Deciding.{deed_of, full_for, CanBeSaved}
use Rattle.afs_volserv.specs.Handling.{vol_record, vol_turn_then, DoesVolumes, IsVolumeStep, StepsVolumes, TookVolumes}
use Rattle.afs_volserv.specs.Saving.{CanPut, IsPlanned, IsPut, Puts}
use Rattle.afs_volserv.specs.Seen.{durable_seen, vol_seen, CanDraw, HasRoom, ServesVolumes, StandsBeside, VolMemory}
use Rattle.afs_volanswers.specs.Flagged.{AreFlagged}
use Rattle.afs_volanswers.specs.declared.decided.Saving.{Saving}
use Rattle.afs_volserv.specs.declared.saving.Planned.{Planned}
use Rattle.afs_volstore.specs.Stores.{Store}
use Rattle.afs_volserv.proofs.Folded.{is_taken}
use Rattle.afs_volserv.proofs.Saved.{left_again, step_saved, told_again}
use Rattle.afs_volstore.specs.VolumeFold.{volume_fold}
use Rattle.afs_disk.specs.Words.{SameDiskBy}
use Rattle.afs_journal.specs.Words.{SameCountsBy}
use Rattle.afs_sharing.specs.Callers.{IsToRun}
use Rattle.afs_sharing.specs.Stores.{IsClosed, IsKeptBehind, SameStore, OnDisk, Prepares}
use Rattle.afs_saving.specs.Saving.{IsStill}
use Rattle.afs_sharing.specs.Lasting.{KeepsForNodes}

some_is : {A : Type 0} (x y : A) → ◌≡◌ {A = Option A} (Some x) (Some y) → x ≡ y
some_is {A} x y e = cc

-- ---- a record is prepared, or there is no room for it; what else a store has is the same, but for the room of its disk

-- with another room of its disk, and another record that is prepared
abbrev moved : {D : Type 0} → Store D → Store D → Store D
moved {D} s t = record s { disk = t.disk; prepared = t.prepared }

pub same_room : {D : Type 0} (s t : Store D) → t ≡ record s { disk = t.disk } → SameStore s t
same_room {D} s t is = is ∙ (λ i. record s { disk = t.disk; prepared = sym (ap (λ (u : Store D). u.prepared) is) i })

pub same_prepared : {D : Type 0} (r : StoreRecord) (s t : Store D) (b : Bool) → Prepares {E = NodeFault} r s t (Ok b) → SameStore s t
same_prepared {D} r s t true is = is ∙ (λ i. record s { disk = t.disk; prepared = sym (ap (λ (u : Store D). u.prepared) is) i })
same_prepared {D} r s t false is = same_room s t is

-- memory was wanting, and nothing but the room of the disk is another
pub wanting : {D : Type 0} (w : Ghosts D) (d : VolDecision) (t : VolTurn) (old : VolMemory) (k : CallbackState) (s u : Store D) (result : Result Outs NodeFault) → result ≡ Err faults.OutOfMemory → u ≡ record s { disk = u.disk } → SameDiskBy w s.disk u.disk → SameCountsBy w s.disk u.disk →
    TookVolumes w d t old old k k s u result
wanting {D} w d t old k s u result e same still counts =
    let prepared = prepared_still {T = Outs} (vol_record d) s.prepared u.prepared (Err faults.OutOfMemory) tt (ap (λ (x : Store D). x.prepared) same) in
    record {
      does = subst (λ (r : Result Outs NodeFault). DoesVolumes d t old old k k s u r) (sym e) (refl, (refl, (same_room s u same, prepared)));
      disk = subst (λ (r : Result Outs NodeFault). OnDisk w (vol_record d) s.durable s.disk u.disk r) (sym e) (is_still volume_fold w (vol_record d) s.durable s.disk u.disk (Err faults.OutOfMemory) tt still counts);
    }

-- ---- what was in order is so over it

module _ {D : Type 0} (m : VolMemory) (k : CallbackState) (s t : Store D) (same : SameStore s t) where
  node_same : t.node ≡ s.node
  node_same = ap (λ (u : Store D). u.node) same

  durable_same : t.durable ≡ s.durable
  durable_same = ap (λ (u : Store D). u.durable) same

  pub serves_still : ServesVolumes m s → ServesVolumes m t
  serves_still serves = record {
    node = subst IsNode (sym node_same) serves.node;
    boot = serves.boot ∙ sym (ap (λ (d : Durable). d.boot) durable_same);
    kept = subst (λ (d : Durable). KeepsForNodes d) (sym durable_same) serves.kept;
    calls = serves.calls;
    asked = serves.asked;
    apart = subst (λ (d : Durable). AreApart d.volumes m.last m.transactions) (sym durable_same) serves.apart;
    flagged = serves.flagged;
    holds = ap (λ (u : Store D). u.holds.table) same ∙ serves.holds;
  }

  pub beside_still : StandsBeside k s → StandsBeside k t
  beside_still beside = record { nodes = subst (λ (n : Node). IsToNodes n k) (sym node_same) beside.nodes; promises = beside.promises }

  pub room_still : HasRoom m s → HasRoom m t
  room_still room = (room.0, subst (λ (u : Store D). 0 < u.holds.room) (sym same) room.1)

  pub can_put : (now : ℕ) (head : Head) (x : Saving) (p : Planned) → IsPlanned now head x k s p → ServesVolumes m s → CanDraw k → HasRoom m s → s.closed ≡ false → IsToRun head m.seats → CanBeSaved s.durable (vol_seen m) head.opcode x → CanPut now head p m k t
  can_put now head x p plan serves draws room up runs can = record {
    runs = runs;
    room = room_still room;
    up = ap (λ (u : Store D). u.closed) same ∙ up;
    fits = plan.fits;
    drawn = subst (λ (n : ℕ). n ≤ p.ended.last) (sym (ap (λ (u : Store D). u.drawn) same)) (plan.ended.plan (record k.lists { owed = lasting_breaks now k.lists.owed ++ p.breaks }) refl).drawn;
    breaks = draws.breaks;
    alone = record { ascend = serves.apart.ascend; alone = serves.apart.alone };
    holds = ap (λ (u : Store D). u.holds.table) same ∙ serves.holds;
    flagged = subst (λ (ts : Numbered). AreFlagged ts.table) (sym plan.transactions) can.flagged;
    few = subst (λ (ts : Numbered). length ts.table ≤ length m.transactions + 1) (sym plan.transactions) can.few;
  }

-- the fold takes the record
pub planned_taken : {D : Type 0} (now : ℕ) (head : Head) (x : Saving) (m : VolMemory) (k : CallbackState) (s : Store D) (p : Planned) → IsPlanned now head x k s p → CanBeSaved s.durable (vol_seen m) head.opcode x → IsSome (folded p.rec s.durable)
planned_taken {D} now head x m k s p plan can =
    subst (λ (r : StoreRecord). IsSome (folded r s.durable)) (sym plan.rec) (is_taken head (deed_of s.durable.boot head x) s.durable can.taken)

-- ---- with room

module _ {D : Type 0} (now : ℕ) (head : Head) (x : Saving) (old new : VolMemory) (k l : CallbackState) (s mid u : Store D) (p : Planned) (plan : IsPlanned now head x k s p) where
  abbrev lines_told : List Line
  lines_told = effect_of s.node p.rec s.durable ++ map (owe_line s.node) p.breaks

  abbrev saved : VolDecision
  saved = saves head (deed_of s.durable.boot head x)

  put_from : SameStore s mid → IsPut p mid u → IsPut p s u
  put_from same put =
      let node = ap (λ (t : Store D). t.node) same in
      let closed = ap (λ (t : Store D). t.closed) same in
      let count = ap (λ (t : Store D). t.count) same in
      record {
        store = put.store ∙ (λ i. record { durable = u.durable; disk = u.disk; node = node i; prepared = None; closed = closed i; count = count i + 1; drawn = p.ended.last; holds = u.holds });
        holds = put.holds;
        folds = ap (folded p.rec) (sym (ap (λ (t : Store D). t.durable) same)) ∙ put.folds;
      }

  closed_from : SameStore s mid → IsClosed mid u → IsClosed s u
  closed_from same is =
      let node = ap (λ (t : Store D). t.node) same in
      let durable = ap (λ (t : Store D). t.durable) same in
      let count = ap (λ (t : Store D). t.count) same in
      let drawn = ap (λ (t : Store D). t.drawn) same in
      let holds = ap (λ (t : Store D). t.holds) same in
      is ∙ (λ i. record { durable = durable i; disk = u.disk; node = node i; prepared = None; closed = true; count = count i; drawn = drawn i; holds = holds i })

  same_from : SameStore s mid → u ≡ mid → SameStore s u
  same_from same is = subst (λ (t : Store D). SameStore s t) (sym is) same

  -- it is told in words, unless memory was wanting
  abbrev pub AreWords : Result Outs NodeFault → Type 0
  AreWords result = (IsErrOf result faults.OutOfMemory → ⊥) → map in_words (effect_of s.node p.rec s.durable) ≡ effect_of s.node p.rec s.durable

  saved_by : (result : Result Outs NodeFault) → SameStore s mid → mid.prepared ≡ Some p.rec → ServesVolumes old s → StandsBeside k s → CanBeSaved s.durable (vol_seen old) head.opcode x → IsNode head.from → Puts now head p lines_told old new k l mid u result → AreWords result →
      DoesVolumes saved (vol_turn_then old k s now saved) old new k l s u result
  saved_by (Ok outs) same has serves beside can node puts words =
      step_saved now head x old k s p plan new l u outs serves can node puts.0 puts.1.0 (put_from same puts.1.1.0) beside puts.1.1.1 (words (λ e. absurd cc))
  saved_by (Err faults.OutOfMemory) same has serves beside can node puts words =
      (puts.0, (puts.1.0, (same_from same puts.1.1, inr (ap (λ (t : Store D). t.prepared) puts.1.1 ∙ (has ∙ ap (λ (r : StoreRecord). Some r) plan.rec)))))
  saved_by (Err faults.Down) same has serves beside can node puts words = record {
    closed = closed_from same puts;
    some = λ none. absurd cc;
    effects = told_again now head x old k s p plan (words (λ e. absurd cc));
    left = left_again now head x old k s p plan serves can node;
  }

-- ---- without room

none_full : (boot : ℕ) (head : Head) (v : VolState) (verdict : row.Verdict) → vol_record (not_written boot head v.transactions v.last_transaction verdict) ≡ None
none_full boot head v (row.refused code after) = refl
none_full boot head v (row.accepted plan) = refl
none_full boot head v (row.sends dispatch) = refl

module _ {D : Type 0} (now : ℕ) (head : Head) (call : VolCall) (old new : VolMemory) (k l : CallbackState) (s : Store D) where
  abbrev full : VolDecision
  full = full_for (durable_seen s) (vol_seen old) head call

  no_record : vol_record full ≡ None
  no_record = none_full (durable_seen s).boot head (vol_seen old) (row.verdict (durable_seen s) old.transactions old.last head.stamp call)

  -- over this store it is answered so
  abbrev pub IsAnswered : Store D → Store D → Result Outs NodeFault → Type 0
  IsAnswered mid u result = StepsVolumes (vol_turn_then old k mid now (full_for (durable_seen mid) (vol_seen old) head call)) old new k l mid u result

  answered_so : (mid u : Store D) (outs : Outs) → mid.prepared ≡ s.prepared → IsAnswered (moved s mid) u (Ok outs) → IsVolumeStep full (vol_turn_then old k s now full) old new k l s u outs
  answered_so mid u outs left is =
      let durable : u.durable ≡ s.durable = ap (λ (t : Store D). t.durable) is.store in
      let count : u.count ≡ s.count = ap (λ (t : Store D). t.count) is.store in
      let disk = sym (ap (λ (t : Store D). t.disk) is.store) in
      let prepared = sym (ap (λ (t : Store D). t.prepared) is.store) in
      record {
        makes = is.makes;
        order = is.order;
        draws = record { calls = is.draws.calls; breaks = is.draws.breaks };
        store = is.store ∙ (λ i. record s { durable = sym durable i; disk = disk i; prepared = prepared i; count = sym count i; drawn = u.drawn; holds = u.holds });
        done = subst (λ (o : Option StoreRecord). IsKeptBehind o s u) (sym no_record) (durable, count);
        prepared = prepared_still {T = Outs} (vol_record full) s.prepared u.prepared (Ok outs) no_record (sym prepared ∙ left);
        effects = λ r recorded. let none : ◌≡◌ {A = Option StoreRecord} None (Some r) = sym no_record ∙ recorded in absurd cc;
      }

  answered_by : (mid u : Store D) (result : Result Outs NodeFault) → mid.prepared ≡ s.prepared → IsAnswered (moved s mid) u result → (IsErrOf result faults.Down → ⊥) → DoesVolumes full (vol_turn_then old k s now full) old new k l s u result
  answered_by mid u (Ok outs) left is up = answered_so mid u outs left is
  answered_by mid u (Err faults.OutOfMemory) left is up =
      let prepared = prepared_still {T = Outs} (vol_record full) s.prepared u.prepared (Err faults.OutOfMemory) tt (ap (λ (t : Store D). t.prepared) is.1.1 ∙ left) in
      (is.0, (is.1.0, (subst (λ (t : Store D). SameStore s t) (sym is.1.1) refl, prepared)))
  answered_by mid u (Err faults.Down) left is up = absurd (up refl)

  disk_left : (mid u : Store D) (result : Result Outs NodeFault) → IsAnswered (moved s mid) u result → u.disk ≡ mid.disk
  disk_left mid u (Ok outs) is = ap (λ (t : Store D). t.disk) is.store
  disk_left mid u (Err e) is = ap (λ (t : Store D). t.disk) is.1.1

-- ---- either way

none_written : (result : Result Outs NodeFault) → (IsErrOf result faults.Down → ⊥) → IsStill {R = StoreRecord} None result
none_written (Ok outs) up = refl
none_written (Err faults.OutOfMemory) up = tt
none_written (Err faults.Down) up = absurd (up refl)

module _ {D : Type 0} (w : Ghosts D) (now : ℕ) (head : Head) (call : VolCall) (x : Saving) (old new : VolMemory) (k l : CallbackState) (s mid u : Store D) (p : Planned) (plan : IsPlanned now head x k s p) where
  abbrev decided : VolDecision
  decided = written (durable_seen s) head (deed_of s.durable.boot head x) (full_for (durable_seen s) (vol_seen old) head call)

  abbrev room_for : Bool
  room_for = has_room (durable_seen s) (deed_record head (deed_of s.durable.boot head x))

  decided_by : (b : Bool) → room_for ≡ b → decided ≡ (if b then saves head (deed_of s.durable.boot head x) else full_for (durable_seen s) (vol_seen old) head call)
  decided_by b e = rw e refl

  room_is : (b : Bool) → b ≡ has_room s.durable p.rec → room_for ≡ b
  room_is b room = ap (has_room s.durable) (sym plan.rec) ∙ sym room

  abbrev Took : VolDecision → Result Outs NodeFault → Type 0
  Took d result = TookVolumes w d (vol_turn_then old k s now d) old new k l s u result

  pub took : (result : Result Outs NodeFault) (b : Bool) → b ≡ has_room s.durable p.rec → Prepares {E = NodeFault} p.rec s mid (Ok b) → SameDiskBy w s.disk mid.disk → SameCountsBy w s.disk mid.disk → ServesVolumes old s → StandsBeside k s → CanBeSaved s.durable (vol_seen old) head.opcode x → IsNode head.from →
      (b ≡ true → Puts now head p (effect_of mid.node p.rec mid.durable ++ map (owe_line mid.node) p.breaks) old new k l mid u result) →
      (b ≡ true → (IsErrOf result faults.OutOfMemory → ⊥) → map in_words (effect_of mid.node p.rec mid.durable) ≡ effect_of mid.node p.rec mid.durable) →
      (b ≡ true → OnDisk w (Some p.rec) mid.durable mid.disk u.disk result) →
      (b ≡ false → StepsVolumes (vol_turn_then old k mid now (full_for (durable_seen mid) (vol_seen old) head call)) old new k l mid u result) → (b ≡ false → IsErrOf result faults.Down → ⊥) → Took decided result
  took result true room prepares still counts serves beside can node puts words disk answers up =
      let same = same_prepared p.rec s mid true prepares in
      let durable = ap (λ (t : Store D). t.durable) same in
      let told : effect_of mid.node p.rec mid.durable ≡ effect_of s.node p.rec s.durable = λ i. effect_of (same i).node p.rec (same i).durable in
      let owed : map (owe_line mid.node) p.breaks ≡ map (owe_line s.node) p.breaks = λ i. map (owe_line (same i).node) p.breaks in
      let lines : effect_of mid.node p.rec mid.durable ++ map (owe_line mid.node) p.breaks ≡ effect_of s.node p.rec s.durable ++ map (owe_line s.node) p.breaks = λ i. told i ++ owed i in
      subst (λ (d : VolDecision). Took d result) (sym (decided_by true (room_is true room)))
      (record {
        does = saved_by now head x old new k l s mid u p plan result same (ap (λ (t : Store D). t.prepared) prepares) serves beside can node (subst (λ (ls : List Line). Puts now head p ls old new k l mid u result) lines (puts refl))
            (λ short. subst (λ (ls : List Line). map in_words ls ≡ ls) told (words refl short));
        disk =
            subst (λ (r : StoreRecord). OnDisk w (Some r) s.durable s.disk u.disk result) plan.rec
            (behind volume_fold w (Some p.rec) s.durable s.disk mid.disk u.disk result still counts
            (subst (λ (d : Durable). OnDisk w (Some p.rec) d mid.disk u.disk result) durable (disk refl)));
      })
  took result false room prepares still counts serves beside can node puts words disk answers up =
      let same = same_prepared p.rec s mid false prepares in
      let is = subst (λ (t : Store D). StepsVolumes (vol_turn_then old k t now (full_for (durable_seen t) (vol_seen old) head call)) old new k l t u result) same (answers refl) in
      subst (λ (d : VolDecision). Took d result) (sym (decided_by false (room_is false room)))
      (record {
        does = answered_by now head call old new k l s mid u result (ap (λ (t : Store D). t.prepared) prepares) is (up refl);
        disk =
            subst (λ (o : Option StoreRecord). OnDisk w o s.durable s.disk u.disk result) (sym (no_record now head call old new k l s))
            (subst (λ (d : D). OnDisk w None s.durable s.disk d result) (sym (disk_left now head call old new k l s mid u result is))
            (is_still volume_fold w None s.durable s.disk mid.disk result (none_written result (up refl)) still counts));
      })
