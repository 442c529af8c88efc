-- What is decided is done, with a record or without one; and what that is at any place.
use Rattle.std.proofs.Common.{◌≡◌, ◌+◌, ◌++◌, ℕ, true, false, List, [], ◌∷◌, Option, Some, None, refl, sym, ap, subst, ◌∙◌}
use Rattle.std.specs.Prelude.{Result, Ok, Err, OnOk, IsErrOf}
use Rattle.afs_disk.specs.declared.disk.Disk.{Ghosts}
use Rattle.spec_history.specs.declared.lines.Line.{Line}
use Rattle.spec_history.specs.declared.lines.Line.TheVariants as lines
use Rattle.spec_history.specs.declared.lines.Outs.{Outs}
use Rattle.afs_num.specs.declared.messages.Call.{Call}
use Rattle.afs_num.specs.declared.messages.Carried.{Carried}
use Rattle.afs_num.specs.declared.messages.Carried.TheVariants as carried
use Rattle.afs_num.specs.declared.messages.Message.{Message}
use Rattle.afs_num.specs.declared.messages.Received.{Received}
use Rattle.afs_num.specs.declared.messages.Received.TheVariants.{Whole}
use Rattle.afs_num.specs.declared.types.Head.{Head}
use Rattle.spec_records.specs.LocDurable.{loc_folded, LocDurable}
use Rattle.spec_ideal.specs.Tables.{Table}
use Rattle.spec_records.specs.LocEffects.{deed_told, loc_effect_of}
use Rattle.spec_records.specs.LocRecords.{Listed, LocRecord}
use Rattle.spec_rows.specs.LocRow.{called, drops, hears, loc_decides, loc_device_calls, loc_left, loc_record_of, refuses, repeats, saves, shows, tells_boot, LocDecision, LocState}
use Rattle.law_legal.proofs.DatabaseRunsOnce.{stays_settled}
use Rattle.law_legal.specs.DatabaseRuns.{is_given, CallersAreSettled}
use Rattle.spec_rows.specs.LocSteps.{loc_begun_after, loc_does, loc_row}
use Rattle.afs_locdb.specs.Deciding.{decision_of, leaves_disk}
use Rattle.afs_locdb.specs.Handling.{loc_record_decided, Does, Handles, IsKeptBehind, IsUntouched, IsWritten}
use Rattle.afs_locdb.specs.Saving.{calls_for, DoesAll, IsMadeOf, IsStill, KeepsStore, LocStoreOf, OnDisk, LeavesPrepared}
use Rattle.afs_locdb.specs.Seen.{lasting_of, loc_seen, Database, Serves}
use Rattle.afs_locdb.specs.declared.decided.Decided.{Decided}
use Rattle.afs_locdb.specs.declared.decided.Decided.TheVariants as decided
use Rattle.afs_server_parts.specs.declared.faults.NodeFault.{NodeFault}
use Rattle.afs_server_parts.specs.declared.faults.NodeFault.TheVariants as nodes
use Rattle.afs_saving.proofs.Still.{is_same, none_prepared, prepared_still}
use Rattle.afs_locstore.specs.LocFold.{loc_fold}

abbrev some : {A : Type 0} → A → Option A
some x = Some x

some_is : {A : Type 0} (x y : A) → some x ≡ some y → x ≡ y
some_is x y e = cc

-- ---- the call of a message that was read whole

pub in_call : (s : LocState) (r : Received) (m : Message) (user : List ℕ) (call : Call) → r ≡ Whole m → m.carried ≡ carried.Call user call → called s m.head r ≡ loc_decides s r
in_call s r m user call is same =
    subst (λ (q : Received). called s m.head q ≡ loc_decides s q) (sym is) (ap (λ (x : Carried). called s m.head (Whole (record { head = m.head; carried = x }))) same ∙ sym (ap (hears s m.head) same))

-- ---- decisions without a record

pub none_recorded : (s : LocState) (head : Head) (x : Decided) (boot : ℕ) → leaves_disk x ≡ true → loc_record_decided boot (decision_of s head x) ≡ None
none_recorded s head decided.Drops boot leaves = refl
none_recorded s head decided.TellsBoot boot leaves = refl
none_recorded s head (decided.Repeats reply) boot leaves = refl
none_recorded s head (decided.Refuses code) boot leaves = refl
none_recorded s head (decided.Shows reply) boot leaves = refl
none_recorded s head (decided.Saves c) boot leaves = absurd cc

module _ {D : Type 0} (d : LocDecision) (old new : Database D) where
  pub made_none : (outs : Outs) → loc_record_decided old.store.durable.boot d ≡ None → Does {E = NodeFault} d old new (Ok outs) → IsMadeOf d old new outs
  made_none outs none does =
      let is = does.1.1 in
      let durable : new.store.durable ≡ old.store.durable = ap (λ (u : LocStoreOf D). u.durable) is in
      let disk : new.store.disk ≡ old.store.disk = ap (λ (u : LocStoreOf D). u.disk) is in
      let prepared : new.store.prepared ≡ old.store.prepared = ap (λ (u : LocStoreOf D). u.prepared) is in
      let count : new.store.count ≡ old.store.count = ap (λ (u : LocStoreOf D). u.count) is in
      record {
        makes = does.0;
        serves = does.1.0;
        store = is ∙ (λ i. record old.store { durable = sym durable i; disk = sym disk i; prepared = sym prepared i; count = sym count i });
        done = subst (λ (r : Option LocRecord). IsKeptBehind r old new) (sym none) (durable, count);
        prepared = prepared_still {T = Outs} (loc_record_decided old.store.durable.boot d) old.store.prepared new.store.prepared (Ok outs) none prepared;
      }

  pub same_made : (outs : Outs) → Does {E = NodeFault} d old new (Ok outs) → new.store.disk ≡ old.store.disk
  same_made outs does = ap (λ (u : LocStoreOf D). u.disk) does.1.1

  -- memory was wanting
  pub none_made : (result : Result Outs NodeFault) → result ≡ Err nodes.OutOfMemory → new ≡ old → DoesAll d old new result
  none_made result is same =
      let prepared = prepared_still {T = Outs} (loc_record_decided old.store.durable.boot d) old.store.prepared new.store.prepared (Err nodes.OutOfMemory) tt (ap (λ (b : Database D). b.store.prepared) same) in
      subst (λ (r : Result Outs NodeFault). DoesAll d old new r) (sym is) (subst (λ (b : Database D). IsUntouched old b) (sym same) refl, prepared)

  -- ---- what was done

  handles_at : (place : ℕ) (result : Result Outs NodeFault) → DoesAll d old new result → Handles (loc_does (loc_seen old) place d) (lines.Given place ∷ []) old new result
  handles_at place (Ok outs) does = record { state = does.makes.state; lines = ap (λ (ls : List Line). lines.Given place ∷ ls) does.makes.lines; sent = does.makes.sent }
  handles_at place (Err nodes.OutOfMemory) does = does.0
  handles_at place (Err nodes.Down) does = does.closed

  pub step_at : (place : ℕ) (m : Received) (result : Result Outs NodeFault) → d ≡ loc_decides (loc_seen old) m → DoesAll d old new result → Handles (loc_row (loc_seen old) place m) (lines.Given place ∷ []) old new result
  unfolding loc_row
  step_at place m result is does = subst (λ (x : LocDecision). Handles (loc_does (loc_seen old) place x) (lines.Given place ∷ []) old new result) is (handles_at place result does)

  pub serves_after : (m : Received) (result : Result Outs NodeFault) → loc_decides (loc_seen old) m ≡ d → CallersAreSettled (loc_seen old) → DoesAll d old new result → OnOk result (Serves new)
  serves_after m (Ok outs) is settled does = record {
    here = does.serves;
    settled = subst CallersAreSettled (ap (loc_left (loc_seen old)) is ∙ sym does.makes.state) (stays_settled (loc_seen old) (is_given m) settled);
  }
  serves_after m (Err fault) is settled does = tt

  pub store_after : (result : Result Outs NodeFault) → DoesAll d old new result → OnOk result (KeepsStore old new)
  store_after (Ok outs) does = does.store
  store_after (Err fault) does = tt

  pub done_after : (result : Result Outs NodeFault) → DoesAll d old new result → OnOk result (IsKeptBehind (loc_record_decided old.store.durable.boot d) old new)
  done_after (Ok outs) does = does.done
  done_after (Err fault) does = tt

  pub prepared_after : (result : Result Outs NodeFault) → DoesAll d old new result → LeavesPrepared (loc_record_decided old.store.durable.boot d) old new result
  prepared_after (Ok outs) does = does.prepared
  prepared_after (Err nodes.OutOfMemory) does = does.1
  prepared_after (Err nodes.Down) does =
      none_prepared {T = Outs} (loc_record_decided old.store.durable.boot d) old.store.prepared new.store.prepared (Err nodes.Down) refl does.some (ap (λ (u : LocStoreOf D). u.prepared) does.closed)

  pub some_down : (result : Result Outs NodeFault) → DoesAll d old new result → IsErrOf result nodes.Down → loc_record_decided old.store.durable.boot d ≡ None → ⊥
  some_down (Ok outs) does down none = absurd cc
  some_down (Err nodes.OutOfMemory) does down none = absurd cc
  some_down (Err nodes.Down) does down none = does.some none

  pub left_down : (result : Result Outs NodeFault) → DoesAll d old new result → IsErrOf result nodes.Down → (r : LocRecord) → loc_record_decided old.store.durable.boot d ≡ Some r → (e : LocDurable) → loc_folded r old.store.durable ≡ Some e →
      lasting_of e ≡ (loc_begun_after (loc_seen old) d).state.lasting
  left_down (Ok outs) does down r has e folds = absurd cc
  left_down (Err nodes.OutOfMemory) does down r has e folds = absurd cc
  left_down (Err nodes.Down) does down r has e folds = does.left r has e folds

-- ---- what a restart tells of the record is what the row tells then

retold : (s : LocState) (d : LocDecision) (boot : ℕ) (durable : LocDurable) (r : LocRecord) → s.lasting.entries ≡ durable.entries → loc_record_decided boot d ≡ Some r → (ls : List Line) → (loc_begun_after s d).before ls ≡ loc_effect_of r durable ++ ls
retold s drops boot durable r same has ls = absurd cc
retold s (tells_boot head) boot durable r same has ls = absurd cc
retold s (repeats reply) boot durable r same has ls = absurd cc
retold s (refuses head code) boot durable r same has ls = absurd cc
retold s (shows head reply) boot durable r same has ls = absurd cc
retold s (saves head c) boot durable r same has ls =
    ap (λ (t : Table Listed). deed_told c.deed t ++ ls) same ∙ ap (λ (q : LocRecord). loc_effect_of q durable ++ ls) (some_is (loc_record_of boot head c) r has)

was_written : (r : LocRecord) (o : Option LocRecord) (result : Result Outs NodeFault) → IsWritten r o result → o ≡ Some r
was_written r o (Ok outs) is = is
was_written r o (Err nodes.OutOfMemory) is = absurd is
was_written r o (Err nodes.Down) is = is

pub told_after : {D : Type 0} (d : LocDecision) (old : Database D) (result : Result Outs NodeFault) (r : LocRecord) → IsWritten r (loc_record_decided old.store.durable.boot d) result → (ls : List Line) → (loc_begun_after (loc_seen old) d).before ls ≡ loc_effect_of r old.store.durable ++ ls
told_after {D} d old result r is ls = retold (loc_seen old) d old.store.durable.boot old.store.durable r refl (was_written r (loc_record_decided old.store.durable.boot d) result is) ls

-- ---- device calls

calls_decided : (s : LocState) (d : LocDecision) (durable : LocDurable) → calls_for (loc_record_decided s.lasting.boot d) ≡ loc_device_calls s d
calls_decided s drops durable = refl
calls_decided s (tells_boot head) durable = refl
calls_decided s (repeats reply) durable = refl
calls_decided s (refuses head code) durable = refl
calls_decided s (shows head reply) durable = refl
calls_decided s (saves head c) durable = refl

pub called_after : (s : LocState) (d : LocDecision) (durable : LocDurable) (result : Result Outs NodeFault) (before now : ℕ) → OnOk result (now ≡ before + calls_for (loc_record_decided s.lasting.boot d)) → OnOk result (now ≡ before + loc_device_calls s d)
called_after s d durable (Ok outs) before now is = is ∙ ap (λ (n : ℕ). before + n) (calls_decided s d durable)
called_after s d durable (Err fault) before now is = tt

-- ---- steps that leave the disk alone

pub answered_disk : {D : Type 0} (w : Ghosts D) (d : LocDecision) (old new : Database D) (outs : Outs) → loc_record_decided old.store.durable.boot d ≡ None → Does {E = NodeFault} d old new (Ok outs) → OnDisk w (loc_record_decided old.store.durable.boot d) old.store.durable old.store.disk new.store.disk (Ok outs)
answered_disk {D} w d old new outs none does = is_same loc_fold w (loc_record_decided old.store.durable.boot d) old.store.durable old.store.disk new.store.disk (Ok outs) none (ap (λ (u : LocStoreOf D). u.disk) does.1.1)

pub wanting_disk : {D : Type 0} (w : Ghosts D) (decided : Option LocRecord) (old new : Database D) (result : Result Outs NodeFault) → result ≡ Err nodes.OutOfMemory → new ≡ old → OnDisk w decided old.store.durable old.store.disk new.store.disk result
wanting_disk {D} w decided old new result is same =
    subst (λ (r : Result Outs NodeFault). OnDisk w decided old.store.durable old.store.disk new.store.disk r) (sym is) (is_same loc_fold w decided old.store.durable old.store.disk new.store.disk (Err nodes.OutOfMemory) tt (ap (λ (b : Database D). b.store.disk) same))
