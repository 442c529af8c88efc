-- What is decided is done, with a record or without one; and what that is at any place.
use Rattle.std.proofs.Common.{◌≡◌, ◌≤◌, ◌+◌, ℕ, true, List, [], ◌∷◌, map, length, Option, Some, None, refl, sym, ap, subst, ◌∙◌, arith}
use Rattle.std.specs.Prelude.{Result, Ok, Err, OnOk, IsErrOf}
use Rattle.std.specs.List.{All}
use Rattle.std.proofs.lemmas.List.{length-map}
use Rattle.afs_num.specs.declared.messages.Received.{Received}
use Rattle.afs_num.specs.declared.records.StoreRecord.{StoreRecord}
use Rattle.afs_num.specs.declared.types.Head.{Head}
use Rattle.spec_history.specs.declared.lines.Line.{Line}
use Rattle.spec_history.specs.declared.lines.Line.TheVariants as lines
use Rattle.spec_history.specs.declared.lines.Outs.{Outs}
use Rattle.spec_ideal.specs.Operations.{Found}
use Rattle.spec_records.specs.Durable.{Durable}
use Rattle.spec_fold.specs.Fold.{folded}
use Rattle.spec_breaks.specs.Promises.{Lists}
use Rattle.spec_rows.specs.Callbacks as row
use Rattle.spec_rows.specs.Callbacks.{turned_in}
use Rattle.spec_rows.specs.ServerRow as ServerRow
use Rattle.spec_rows.specs.ServerRow.{begun_after, device_calls, does, drops, refuses, repeats, saves, shows, tells_boot, Decision}
use Rattle.spec_rows.specs.ServerSteps.{done}
use Rattle.spec_rows.specs.States.{ServerState}
use Rattle.spec_volrows.specs.FileRow.{file_decides, file_row}
use Rattle.afs_server_parts.specs.Turning.{IsBreakToNode}
use Rattle.afs_callees.specs.Telling.{grants_seen}
use Rattle.afs_callees.specs.declared.telling.Grant.{Grant}
use Rattle.afs_volstore.specs.Stores.{Store}
use Rattle.afs_decisions.specs.Deciding.{leaves_disk, Decides, FitsDecided, IsReading, LeavesDisk}
use Rattle.afs_server.specs.Handling.{holds_seen, lines_behind, record_decided, server_seen, Does, Handles, Makes}
use Rattle.afs_server.specs.Putting.{DoesAll, IsFew, IsInterrupted, IsMadeOf, IsToldAgain}
use Rattle.afs_server.specs.Seen.{backs_seen, Memory, Serves}
use Rattle.afs_decisions.specs.declared.decided.Decided.{Decided}
use Rattle.afs_decisions.specs.declared.decided.Decided.TheVariants as decided
use Rattle.afs_server_parts.specs.declared.faults.NodeFault.{NodeFault}
use Rattle.afs_server_parts.specs.declared.faults.NodeFault.TheVariants as faults
use Rattle.afs_server.proofs.Drawn.{drawn_after, lists_after}
use Rattle.afs_server.proofs.Handled.{in_draws, GrantsFew}
use Rattle.afs_server.proofs.Placed.{given_at}
use Rattle.afs_sharing.specs.Stores.{IsKeptBehind, LeavesPrepared}
use Rattle.afs_saving.specs.Saving.{IsWritten, calls_for, IsStill}
use Rattle.afs_sharing.specs.Lasting.{lasting_of}
use Rattle.afs_sharing.proofs.Drawn.{breaks_drawn, expired_draws}
use Rattle.afs_saving.proofs.Still.{none_prepared, prepared_still}

-- ---- decisions without a record

pub none_recorded : (s : ServerState) (clock : ℕ) (head : Head) (d : Decision) (x : Decided) (boot : ℕ) → LeavesDisk x → Decides s clock head d x → record_decided boot clock d ≡ None
none_recorded s clock head d decided.Drops boot leaves is = ap (record_decided boot clock) is
none_recorded s clock head d decided.TellsBoot boot leaves is = ap (record_decided boot clock) is
none_recorded s clock head d (decided.Repeats reply) boot leaves is = ap (record_decided boot clock) is
none_recorded s clock head d (decided.Refuses code) boot leaves is = ap (record_decided boot clock) is
none_recorded s clock head d (decided.Shows reply grants) boot leaves is = ap (record_decided boot clock) is.1.1
none_recorded s clock head d (decided.GivesUp fids) boot leaves is = ap (record_decided boot clock) is
none_recorded s clock head d (decided.Changes id x) boot leaves is = absurd leaves

pub leaves_as : (x : Decided) → leaves_disk x ≡ true → LeavesDisk x
leaves_as decided.Drops is = tt
leaves_as decided.TellsBoot is = tt
leaves_as (decided.Repeats reply) is = tt
leaves_as (decided.Refuses code) is = tt
leaves_as (decided.Shows reply grants) is = tt
leaves_as (decided.GivesUp fids) is = tt
leaves_as (decided.Changes id x) is = absurd cc

long_seen : (fs : List Found) → length (grants_seen fs) ≡ length fs
long_seen [] = refl
long_seen (f ∷ fs) = let rest = long_seen fs in omega (arith, rest)

few_granted : (r : ServerRow.Reading) (grants : List Grant) → grants_seen r.granted ≡ grants → length grants ≤ 50 → length r.granted ≤ 50
few_granted r grants are few = let long = sym (long_seen r.granted) ∙ ap length are in omega (arith, long, few)

pub few_decided : (s : ServerState) (clock : ℕ) (head : Head) (d : Decision) (x : Decided) → FitsDecided x → LeavesDisk x → Decides s clock head d x → IsFew d
few_decided s clock head d decided.Drops fits leaves is = subst IsFew (sym is) tt
few_decided s clock head d decided.TellsBoot fits leaves is = subst IsFew (sym is) tt
few_decided s clock head d (decided.Repeats reply) fits leaves is = subst IsFew (sym is) tt
few_decided s clock head d (decided.Refuses code) fits leaves is = subst IsFew (sym is) tt
few_decided s clock head d (decided.Shows reply grants) fits leaves is = subst IsFew (sym is.1.1) (few_granted is.0 grants is.1.0.grants_are fits)
few_decided s clock head d (decided.GivesUp fids) fits leaves is = subst IsFew (sym is) (omega arith)
few_decided s clock head d (decided.Changes id x) fits leaves is = absurd leaves

-- ---- a step without a record

module _ {D : Type 0} (clock : ℕ) (d : Decision) (turn : row.CallbackStep) (old new : Memory) (s t : Store D) where
  pub made_none : (outs : Outs) → record_decided s.durable.boot clock d ≡ None → IsFew d → Does {E = NodeFault} clock d turn old new s t (Ok outs) → IsMadeOf clock d turn old new s t outs
  made_none outs none few does =
      let is = does.1.1 in
      let durable : t.durable ≡ s.durable = ap (λ (u : Store D). u.durable) is in
      let disk : t.disk ≡ s.disk = ap (λ (u : Store D). u.disk) is in
      let prepared : t.prepared ≡ s.prepared = ap (λ (u : Store D). u.prepared) is in
      let count : t.count ≡ s.count = ap (λ (u : Store D). u.count) is in
      record {
        makes = does.0;
        serves = does.1.0;
        store = is ∙ (λ i. record s { durable = sym durable i; disk = sym disk i; prepared = sym prepared i; count = sym count i; drawn = t.drawn });
        done = subst (λ (r : Option StoreRecord). IsKeptBehind r s t) (sym none) (durable, count);
        prepared = prepared_still {T = Outs} (record_decided s.durable.boot clock d) s.prepared t.prepared (Ok outs) none prepared;
        effects = λ r recorded. absurd (let z : ◌≡◌ {A = Option StoreRecord} None (Some r) = sym none ∙ recorded in cc);
        few = few;
      }

-- ---- at any place

pub handles_at : {D : Type 0} (clock place : ℕ) (d : Decision) (turn : row.CallbackStep) (old new : Memory) (s t : Store D) (result : Result Outs NodeFault) → DoesAll clock d turn old new s t result →
    Handles (done s.node (server_seen old s) clock place d turn) (lines.Given place ∷ []) old new s t result
handles_at {D} clock place d turn old new s t (Ok outs) is = given_at s.node (server_seen old s) clock place d turn new t outs is.makes
handles_at {D} clock place d turn old new s t (Err faults.OutOfMemory) is = (is.0, is.1.0)
handles_at {D} clock place d turn old new s t (Err faults.Down) is = is.closed

pub step_at : {D : Type 0} (clock place : ℕ) (m : Received) (old new : Memory) (s t : Store D) (result : Result Outs NodeFault) →
    DoesAll clock (file_decides s.node (holds_seen s) (server_seen old s) clock m) (turned_in s.node (server_seen old s) clock (row.expired clock (server_seen old s).backs) (file_decides s.node (holds_seen s) (server_seen old s) clock m) m) old new s t result →
    Handles (file_row s.node (holds_seen s) (server_seen old s) clock place m) (lines.Given place ∷ []) old new s t result
unfolding file_row
step_at {D} clock place m old new s t result is =
    handles_at clock place (file_decides s.node (holds_seen s) (server_seen old s) clock m) (turned_in s.node (server_seen old s) clock (row.expired clock (server_seen old s).backs) (file_decides s.node (holds_seen s) (server_seen old s) clock m) m) old new s t result is

pub serves_after : {D : Type 0} (clock : ℕ) (d : Decision) (turn : row.CallbackStep) (old new : Memory) (s t : Store D) (result : Result Outs NodeFault) → DoesAll clock d turn old new s t result → OnOk result (Serves t.node new t.durable)
serves_after {D} clock d turn old new s t (Ok outs) is = is.serves
serves_after {D} clock d turn old new s t (Err fault) is = tt

pub store_after : {D : Type 0} (clock : ℕ) (d : Decision) (turn : row.CallbackStep) (old new : Memory) (s t : Store D) (result : Result Outs NodeFault) → DoesAll clock d turn old new s t result →
    OnOk result (t ≡ record s { durable = t.durable; disk = t.disk; prepared = t.prepared; count = t.count; drawn = t.drawn })
store_after {D} clock d turn old new s t (Ok outs) is = is.store
store_after {D} clock d turn old new s t (Err fault) is = tt

pub done_after : {D : Type 0} (clock : ℕ) (d : Decision) (turn : row.CallbackStep) (old new : Memory) (s t : Store D) (result : Result Outs NodeFault) → DoesAll clock d turn old new s t result → OnOk result (IsKeptBehind (record_decided s.durable.boot clock d) s t)
done_after {D} clock d turn old new s t (Ok outs) is = is.done
done_after {D} clock d turn old new s t (Err fault) is = tt

pub prepared_after : {D : Type 0} (clock : ℕ) (d : Decision) (turn : row.CallbackStep) (old new : Memory) (s t : Store D) (result : Result Outs NodeFault) → DoesAll clock d turn old new s t result → LeavesPrepared (record_decided s.durable.boot clock d) s t result
prepared_after {D} clock d turn old new s t (Ok outs) is = is.prepared
prepared_after {D} clock d turn old new s t (Err faults.OutOfMemory) is = is.1.1
prepared_after {D} clock d turn old new s t (Err faults.Down) is = none_prepared {T = Outs} (record_decided s.durable.boot clock d) s.prepared t.prepared (Err faults.Down) refl is.some (ap (λ (u : Store D). u.prepared) is.closed)

pub some_down : {D : Type 0} (clock : ℕ) (d : Decision) (turn : row.CallbackStep) (old new : Memory) (s t : Store D) (result : Result Outs NodeFault) → DoesAll clock d turn old new s t result → IsErrOf result faults.Down → record_decided s.durable.boot clock d ≡ None → ⊥
some_down {D} clock d turn old new s t (Ok outs) is down none = absurd cc
some_down {D} clock d turn old new s t (Err faults.OutOfMemory) is down none = absurd cc
some_down {D} clock d turn old new s t (Err faults.Down) is down none = is.some none

pub left_down : {D : Type 0} (clock : ℕ) (d : Decision) (turn : row.CallbackStep) (old new : Memory) (s t : Store D) (result : Result Outs NodeFault) → DoesAll clock d turn old new s t result → IsErrOf result faults.Down →
    (r : StoreRecord) → record_decided s.durable.boot clock d ≡ Some r → (e : Durable) → folded r s.durable ≡ Some e → lasting_of e ≡ (begun_after s.node (server_seen old s) clock d).state.lasting
left_down {D} clock d turn old new s t (Ok outs) is down r made e folds = absurd cc
left_down {D} clock d turn old new s t (Err faults.OutOfMemory) is down r made e folds = absurd cc
left_down {D} clock d turn old new s t (Err faults.Down) is down r made e folds = is.left r made e folds

pub told_after : {D : Type 0} (clock : ℕ) (d : Decision) (turn : row.CallbackStep) (old new : Memory) (s t : Store D) (result : Result Outs NodeFault) → DoesAll clock d turn old new s t result → (r : StoreRecord) → IsWritten r (record_decided s.durable.boot clock d) result →
    IsToldAgain s.node (server_seen old s) clock d r s.durable
told_after {D} clock d turn old new s t (Ok outs) is r written = is.effects r written
told_after {D} clock d turn old new s t (Err faults.OutOfMemory) is r written = absurd written
told_after {D} clock d turn old new s t (Err faults.Down) is r written = is.effects r written

pub calls_decided : (s : ServerState) (p : Durable) (clock : ℕ) (d : Decision) → calls_for (record_decided s.lasting.boot clock d) ≡ device_calls s clock d
calls_decided s p clock drops = refl
calls_decided s p clock (tells_boot head) = refl
calls_decided s p clock (repeats reply) = refl
calls_decided s p clock (refuses head code) = refl
calls_decided s p clock (shows head r) = refl
calls_decided s p clock (saves head c) = refl

-- ---- few numbers are drawn

grants_few : (d : Decision) → IsFew d → GrantsFew d
grants_few drops few = tt
grants_few (tells_boot head) few = tt
grants_few (repeats reply) few = tt
grants_few (refuses head code) few = tt
grants_few (shows head r) few = few
grants_few (saves head c) few = tt

abbrev pub DrawsFewIn : {D : Type 0} → Memory → Memory → Store D → Store D → Type 0
DrawsFewIn {D} old new s t = (t.drawn ≤ s.drawn + 204) × (new.lists.last_owed + length new.lists.promises ≤ old.lists.last_owed + length old.lists.promises + 50)

draws_ok : {D : Type 0} (clock : ℕ) (d : Decision) (m : Received) (old new : Memory) (s t : Store D) (outs : Outs) →
    IsMadeOf clock d (turned_in s.node (server_seen old s) clock (row.expired clock (server_seen old s).backs) d m) old new s t outs → DrawsFewIn old new s t
draws_ok {D} clock d m old new s t outs is =
    let b = row.expired clock (server_seen old s).backs in
    let turn = turned_in s.node (server_seen old s) clock b d m in
    let state = (does s.node (server_seen old s) clock 0 d []).state in
    let ls = lines_behind (does s.node (server_seen old s) clock 0 d turn.lines).lines in
    let draws = in_draws s.node (server_seen old s) clock b d m (grants_few d is.few) in
    let lists = lists_after s.node state ls [] turn new t outs is.makes in
    let drawn = drawn_after s.node state ls [] turn new t outs is.makes (subst (λ (l : Lists). All IsBreakToNode l.owed) lists is.serves.owed) in
    let last = draws.last in
    let breaks = draws.breaks in
    let expires = expired_draws clock old.lists in
    let same = ap breaks_drawn lists in
    (omega (arith, drawn, last), omega (arith, breaks, expires, same))

pub draws_after : {D : Type 0} (clock : ℕ) (d : Decision) (m : Received) (old new : Memory) (s t : Store D) (result : Result Outs NodeFault) →
    DoesAll clock d (turned_in s.node (server_seen old s) clock (row.expired clock (server_seen old s).backs) d m) old new s t result → OnOk result (DrawsFewIn old new s t)
draws_after {D} clock d m old new s t (Ok outs) is = draws_ok clock d m old new s t outs is
draws_after {D} clock d m old new s t (Err fault) is = tt

-- ---- the disk's calls

pub called_after : {T : Type 0} (s : ServerState) (p : Durable) (clock : ℕ) (d : Decision) (result : Result T NodeFault) (before now : ℕ) → OnOk result (now ≡ before + calls_for (record_decided s.lasting.boot clock d)) → OnOk result (now ≡ before + device_calls s clock d)
called_after {T} s p clock d (Ok x) before now is = is ∙ ap (λ (k : ℕ). before + k) (calls_decided s p clock d)
called_after {T} s p clock d (Err fault) before now is = tt
