-- A server node was given bytes: its step was made, or memory ran out.
use Rattle.std.specs.Prelude.{◌≡◌, ◌≤◌, ℕ, ◌+◌, List, [], ◌∷◌, length, Option, Some, None, Result, Err, Ok}
use Rattle.std.specs.Result.{IfOk, OnErr}
use Rattle.std.proofs.Common.{refl, ap, sym, subst, ◌∙◌, arith}
use Rattle.afs_num.specs.declared.messages.Message.{Message}
use Rattle.afs_num.specs.declared.messages.Received.TheVariants.{Whole}
use Rattle.afs_num.specs.declared.records.StoreRecord.{StoreRecord}
use Rattle.afs_num.specs.declared.types.Parcel.{Parcel}
use Rattle.spec_history.specs.declared.lines.Line.TheVariants as lines
use Rattle.spec_history.specs.declared.lines.Outs.{Outs}
use Rattle.afs_disk.specs.Disk.{PassesAll}
use Rattle.afs_disk.specs.Fuses.{Fused}
use Rattle.spec_model.specs.Messages.{received}
use Rattle.spec_rows.specs.Hosts.{lowered, steady, Armed, given, served}
use Rattle.spec_volrows.specs.NodeHosts.{node_kind, NodeHost}
use Rattle.spec_volrows.specs.VolSteps.{node_device_calls, node_row}
use Rattle.afs_volstore.specs.Stores.{Store}
use Rattle.afs_server_parts.specs.declared.faults.NodeFault.TheVariants as nodes
use Rattle.afs_node.specs.Handling.{node_record, AreSameSteps, DrawsFew, LeavesNode, MakesNode}
use Rattle.afs_node.specs.Seen.{node_found, node_seen, SameNode, SameStored, ServesNode}
use Rattle.afs_node.specs.declared.node.ServerNode.{ServerNode}
use Rattle.afs_node.proofs.Serving.{same_serves}
use Rattle.afs_serverhost.specs.Seats.{with_behind, CanRun, GoesOn, IsStepUp, IsUp, OnlyDraws, ServerRunning}
use Rattle.afs_serverhost.specs.Serving.{RunsRow}
use Rattle.afs_host.specs.Setting.{IsSet}
use Rattle.afs_host.proofs.Stepping.{lowered_set, unstruck, same_set}
use Rattle.afs_serverhost.proofs.Stepping.{as_up, made_up, up_step}
use Rattle.afs_saving.specs.Saving.{IsQuiet}

abbrev the_calls : {D : Type 0} → ServerRunning D → ℕ → List ℕ → ℕ
the_calls {D} old clock bytes = node_device_calls old.store.node (node_seen old.memory old.store) clock (node_found bytes)

-- what is known of a step that was made
pub record Passed {D : Type 0} (clock : ℕ) (bytes : List ℕ) (old new : ServerRunning D) (r : Outs × List Parcel) : Type 0 where
  pub step : (place : ℕ) → MakesNode (node_row old.store.node (node_seen old.memory old.store) clock place (node_found bytes)) (lines.Given place ∷ []) new.memory new.store r.0 r.1
  pub same : AreSameSteps old.store.node (node_seen old.memory old.store) clock bytes
  pub leaves : LeavesNode (node_record old.store.node (node_seen old.memory old.store) clock (node_found bytes)) old.memory new.memory old.store new.store
  pub armed : new.armed ≡ lowered (the_calls old clock bytes) old.armed
  pub calls : new.store.disk.calls ≡ old.store.disk.calls + the_calls old clock bytes
  pub most : new.store.disk.calls ≤ old.store.disk.calls + 4
  pub passes : PassesAll (record { stop = old.store.disk.stop; fail = old.store.disk.fail }) old.store.disk.calls new.store.disk.calls
  pub stop : new.store.disk.stop ≡ old.store.disk.stop
  pub fail : new.store.disk.fail ≡ old.store.disk.fail

passed_so : {D : Type 0} (clock : ℕ) (bytes : List ℕ) (old new : ServerRunning D) (r : Outs × List Parcel) → Passed clock bytes old new r →
    PassesAll (record { stop = old.store.disk.stop; fail = old.store.disk.fail }) old.store.disk.calls (old.store.disk.calls + the_calls old clock bytes)
passed_so {D} clock bytes old new r p = subst (PassesAll (record { stop = old.store.disk.stop; fail = old.store.disk.fail }) old.store.disk.calls) p.calls p.passes

pub passed_step : {D : Type 0} (clock : ℕ) (bytes : List ℕ) (old new : ServerRunning D) (r : Outs × List Parcel) → CanRun old → Passed clock bytes old new r → (h : NodeHost) → IsUp old h → (m : Message) → received bytes ≡ Whole m → (place : ℕ) →
    IsStepUp new (lines.Given place ∷ []) (with_behind r) (served (node_kind old.store.node) h clock place steady m)
passed_step {D} clock bytes old new r can p h up m whole place =
    up_step old new h up old.store.node clock place m (node_found bytes) (p.same m whole) r (p.step place) p.armed
    (unstruck old.armed old.store.disk (the_calls old clock bytes) can.set (passed_so clock bytes old new r p))

-- whatever the bytes are, it is the step of the row
pub row_made : {D : Type 0} (clock : ℕ) (bytes : List ℕ) (old new : ServerRunning D) (r : Outs × List Parcel) →
    ((place : ℕ) → MakesNode (node_row old.store.node (node_seen old.memory old.store) clock place (node_found bytes)) (lines.Given place ∷ []) new.memory new.store r.0 r.1) → new.armed ≡ lowered (the_calls old clock bytes) old.armed →
    RunsRow old clock bytes new (Ok r)
row_made {D} clock bytes old new r step lower = λ h up place.
    as_up old h (λ (x : NodeHost). IsStepUp new (lines.Given place ∷ []) (with_behind r) (given (node_kind old.store.node) x clock place (node_found bytes))) up
    (made_up (node_row old.store.node (node_seen old.memory old.store) clock place (node_found bytes)) (lines.Given place ∷ []) new r (lowered (the_calls old clock bytes) old.armed) (step place) lower)

pub passed_goes_on : {D : Type 0} (clock : ℕ) (bytes : List ℕ) (old new : ServerRunning D) (r : Outs × List Parcel) → CanRun old → Passed clock bytes old new r → GoesOn 4 50 old new
passed_goes_on {D} clock bytes old new r can p = record {
  node = ap (λ (t : Store (Fused D)). t.node) p.leaves.store;
  can_run = record {
    up = ap (λ (t : Store (Fused D)). t.closed) p.leaves.store ∙ can.up;
    serves = p.leaves.serves;
    set = subst (λ (a : Armed). IsSet a new.store.disk) (sym p.armed)
        (lowered_set old.armed old.store.disk new.store.disk (the_calls old clock bytes) can.set (passed_so clock bytes old new r p) p.stop p.fail p.calls);
  };
  adds = record { device_calls = p.most; drawn = p.leaves.draws.calls; owed = p.leaves.draws.owed };
}

-- ---- memory ran out

pub quiet_then : (T : Type 0) (o : Option StoreRecord) → IsQuiet {T = T} o (Err nodes.OutOfMemory)
quiet_then T None = tt
quiet_then T (Some r) = tt

pub same_goes_on : {D : Type 0} (calls breaks : ℕ) (old new : ServerRunning D) → CanRun old → SameNode old.memory new.memory → new.armed ≡ old.armed → SameStored old.store new.store → new.store.disk.stop ≡ old.store.disk.stop → new.store.disk.fail ≡ old.store.disk.fail → new.store.disk.calls ≡ old.store.disk.calls →
    GoesOn calls breaks old new
same_goes_on {D} most breaks old new can memory armed store stop fail calls = record {
  node = ap (λ (t : Store (Fused D)). t.node) store.is;
  can_run = record {
    up = ap (λ (t : Store (Fused D)). t.closed) store.is ∙ can.up;
    serves = same_serves old.memory new.memory old.store new.store can.serves memory store;
    set = subst (λ (a : Armed). IsSet a new.store.disk) (sym armed) (same_set old.armed old.store.disk new.store.disk can.set stop fail calls);
  };
  adds = record {
    device_calls = omega (arith, calls);
    drawn = omega (arith, ap (λ (t : Store (Fused D)). t.drawn) store.is);
    owed = subst (λ (m : ServerNode). m.file.lists.last_owed + length m.file.lists.promises ≤ old.memory.file.lists.last_owed + length old.memory.file.lists.promises + breaks) (sym memory) (omega (arith));
  };
}

-- the node is seen as before
pub same_up : {D : Type 0} (old new : ServerRunning D) → SameNode old.memory new.memory → new.armed ≡ old.armed → SameStored old.store new.store → (h : NodeHost) → IsUp old h → IsUp new h
same_up {D} old new memory armed store h up = record {
  state = up.state ∙ (ap (λ (t : Store (Fused D)). node_seen old.memory t) (sym store.is) ∙ ap (λ (m : ServerNode). node_seen m new.store) (sym memory));
  down = up.down;
  armed = up.armed ∙ sym armed;
}

-- ---- a step without a message

-- what its store keeps is as it was
abbrev pub Draws : {D : Type 0} → Store D → Store D → Type 0
Draws {D} s t = t ≡ record s { drawn = t.drawn; holds = t.holds }

pub late_goes_on : {D : Type 0} (old new : ServerRunning D) → CanRun old → Draws old.store new.store → ServesNode new.memory new.store → DrawsFew 0 old.memory new.memory old.store new.store → new.armed ≡ old.armed → GoesOn 0 0 old new
late_goes_on {D} old new can store serves draws armed =
    let disk : new.store.disk ≡ old.store.disk = ap (λ (t : Store (Fused D)). t.disk) store in
    record {
      node = ap (λ (t : Store (Fused D)). t.node) store;
      can_run = record {
        up = ap (λ (t : Store (Fused D)). t.closed) store ∙ can.up;
        serves = serves;
        set = subst (λ (a : Armed). IsSet a new.store.disk) (sym armed) (subst (λ (f : Fused D). IsSet old.armed f) (sym disk) can.set);
      };
      adds = record { device_calls = omega (arith, ap (λ (f : Fused D). f.calls) disk); drawn = draws.calls; owed = draws.owed };
    }

pub late_draws : {D : Type 0} (old new : ServerRunning D) → Draws old.store new.store → new.armed ≡ old.armed → OnlyDraws old new
late_draws {D} old new store armed =
    ap (λ (t : Store (Fused D)). record { memory = new.memory; store = t; armed = new.armed }) store ∙ ap (λ (a : Armed). record { memory = new.memory; store = record old.store { drawn = new.store.drawn; holds = new.store.holds }; armed = a }) armed

-- where memory was wanting
pub wants_goes_on : {D : Type 0} (old new : ServerRunning D) → CanRun old → SameNode old.memory new.memory → new.armed ≡ old.armed → SameStored old.store new.store → Draws old.store new.store → GoesOn 0 0 old new
wants_goes_on {D} old new can memory armed same store =
    let disk : new.store.disk ≡ old.store.disk = ap (λ (t : Store (Fused D)). t.disk) store in
    same_goes_on 0 0 old new can memory armed same (ap (λ (f : Fused D). f.stop) disk) (ap (λ (f : Fused D). f.fail) disk) (ap (λ (f : Fused D). f.calls) disk)

-- ---- what is known of a result, by what a match gave

pub if_ok : {T E : Type 0} (P : T → Type 0) (r : Result T E) (x : T) → r ≡ Ok x → P x → IfOk r P
if_ok {T} {E} P r x is p = subst (λ (q : Result T E). IfOk q P) (sym is) p

pub if_none : {T E : Type 0} (P : T → Type 0) (r : Result T E) {e : E} → r ≡ Err e → IfOk r P
if_none {T} {E} P r is = subst (λ (q : Result T E). IfOk q P) (sym is) tt

pub on_err : {T E : Type 0} (P : Type 0) (r : Result T E) {e : E} → r ≡ Err e → P → OnErr r P
on_err {T} {E} P r is p = subst (λ (q : Result T E). OnErr q P) (sym is) p

pub no_err : {T E : Type 0} (P : Type 0) (r : Result T E) {x : T} → r ≡ Ok x → OnErr r P
no_err {T} {E} P r is = subst (λ (q : Result T E). OnErr q P) (sym is) tt

-- ---- its disk is set

pub set_goes : {D : Type 0} (old : ServerRunning D) (disk : Fused D) (armed : Armed) → CanRun old → IsSet armed disk → CanRun (record old { store = record old.store { disk = disk }; armed = armed })
set_goes {D} old disk armed can set = record {
  up = can.up;
  serves = same_serves old.memory old.memory old.store (record old.store { disk = disk }) can.serves refl (record { is = refl; holds = refl });
  set = set;
}
