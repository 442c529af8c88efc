use Rattle.std.specs.Prelude.{◌≡◌, ℕ, ◌*◌, ◌-◌, List, [], ◌∷◌, Option, Some, Err, Ok, IsErrOf}
use Rattle.std.proofs.Common.{refl, ap, sym, subst, ◌∙◌, arith}
use Rattle.afs_num.specs.declared.messages.Message.{Message}
use Rattle.afs_num.specs.declared.records.Mark.{Mark}
use Rattle.afs_num.specs.declared.records.StoreRecord.{StoreRecord}
use Rattle.afs_num.specs.declared.types.Parcel.{Parcel}
use Rattle.spec_history.specs.declared.lines.Line.TheVariants as lines
use Rattle.spec_history.specs.declared.lines.Outs.{Outs}
use Rattle.afs_disk.specs.Disk.{Setting}
use Rattle.spec_model.specs.Messages.{received}
use Rattle.spec_rows.specs.Hosts.{lowered}
use Rattle.spec_volrows.specs.VolSteps.{node_device_calls, node_row}
use Rattle.afs_volstore.specs.Stores.{Store}
use Rattle.afs_server_parts.specs.declared.faults.NodeFault.{NodeFault}
use Rattle.afs_server_parts.specs.declared.faults.NodeFault.TheVariants as nodes
use Rattle.afs_node.specs.Handling.{node_record, HandlesNode}
use Rattle.afs_node.specs.Seen.{node_found, node_seen}
use Rattle.afs_node.proofs.Sides.{steps_same}
use Rattle.afs_serverhost.specs.Seats.{CanRun, ServerRunning}
use Rattle.afs_serverhost.specs.Serving.{IsBroken, IsHandled, RunsRow}
use Rattle.afs_host.specs.Setting.{armed_seen}
use Rattle.afs_serverhost.specs.Standing.{server_keeping}
use Rattle.afs_serverhost.proofs.Breaking.{begun_behind, decides_so, saves_calls, ServerEnded}
use Rattle.afs_host.proofs.Broken.{ended_left, ended_lies}
use Rattle.afs_serverhost.proofs.Handled.{row_made, Passed, passed_goes_on, passed_step, quiet_then, same_goes_on}
use Rattle.afs_serverhost.proofs.Rising.{server_fits}
use Rattle.afs_serverhost.proofs.Stepping.{made_calls}
use Rattle.afs_saving.specs.Saving.{IsQuiet, IsWritten}
use Rattle.afs_serverhost.proofs.serving.handle.Goals as goal

pub returns-in-Ok-clause-handled : goal.returns-in-Ok-clause-handled
returns-in-Ok-clause-handled g c =
    let inside = c.running.inside in
    let old : ServerRunning g.row.D.Denot = record { memory = inside.memory; store = inside.store; armed = armed_seen inside.armed } in
    let new : ServerRunning g.row.D.Denot = record { memory = c.handle.new.self; store = c.handle.new.store; armed = armed_seen c.lowered-running-inside.result } in
    let can = subst CanRun (sym c.running.view_is) c.requires.can_run in
    let e = c.in-Ok.ensures in
    let s = node_seen inside.memory inside.store in
    let found = node_found c.args.bytes.now in
    let made : c.saturating_sub-made.result * 4 ≡ node_device_calls inside.store.node s c.args.now found = ap (λ (n : ℕ). n * 4) (c.saturating_sub-made.ensures ∙ (ap (λ (m : Mark). m.records - c.mark-before.result.records) c.mark.ensures.value ∙ ap (λ (m : Mark). new.store.count - m.records) c.mark-before.ensures.value))
    ∙ made_calls inside.store.node s c.args.now found inside.store c.handle.new.store e.leaves.leaves.done in
    let passed : Passed c.args.now c.args.bytes.now old new c.in-Ok.given = record {
      step = e.step;
      same = steps_same inside.store.node s c.args.now c.args.bytes.now (λ i. omega (arith, c.type_inv.bytes i));
      leaves = e.leaves.leaves;
      armed = c.lowered-running-inside.ensures ∙ ap (λ (n : ℕ). lowered n (armed_seen inside.armed)) made;
      calls = e.leaves.called;
      most = e.leaves.disk.most.1;
      passes = e.leaves.disk.ran.passed;
      stop = ap (λ (x : Setting). x.stop) e.leaves.disk.set;
      fail = ap (λ (x : Setting). x.fail) e.leaves.disk.set;
    } in
    subst (λ (x : ServerRunning g.row.D.Denot). IsHandled g.D.Disk x c.args.now (received c.args.bytes.now) new (Ok c.in-Ok.given)) c.running.view_is
    (passed_step c.args.now c.args.bytes.now old new c.in-Ok.given can passed, passed_goes_on c.args.now c.args.bytes.now old new c.in-Ok.given can passed)

pub returns-in-Ok-clause-row : goal.returns-in-Ok-clause-row
returns-in-Ok-clause-row g c =
    let inside = c.running.inside in
    let old : ServerRunning g.row.D.Denot = record { memory = inside.memory; store = inside.store; armed = armed_seen inside.armed } in
    let new : ServerRunning g.row.D.Denot = record { memory = c.handle.new.self; store = c.handle.new.store; armed = armed_seen c.lowered-running-inside.result } in
    let e = c.in-Ok.ensures in
    let s = node_seen inside.memory inside.store in
    let found = node_found c.args.bytes.now in
    let made : c.saturating_sub-made.result * 4 ≡ node_device_calls inside.store.node s c.args.now found = ap (λ (n : ℕ). n * 4) (c.saturating_sub-made.ensures ∙ (ap (λ (m : Mark). m.records - c.mark-before.result.records) c.mark.ensures.value ∙ ap (λ (m : Mark). new.store.count - m.records) c.mark-before.ensures.value))
    ∙ made_calls inside.store.node s c.args.now found inside.store c.handle.new.store e.leaves.leaves.done in
    subst (λ (x : ServerRunning g.row.D.Denot). RunsRow x c.args.now c.args.bytes.now new (Ok c.in-Ok.given)) c.running.view_is
    (row_made c.args.now c.args.bytes.now old new c.in-Ok.given e.step (c.lowered-running-inside.ensures ∙ ap (λ (n : ℕ). lowered n (armed_seen inside.armed)) made))

pub returns-in-Err-OutOfMemory-clause-handled : goal.returns-in-Err-OutOfMemory-clause-handled
returns-in-Err-OutOfMemory-clause-handled g c =
    let inside = c.running.inside in
    let old : ServerRunning g.row.D.Denot = record { memory = inside.memory; store = inside.store; armed = armed_seen inside.armed } in
    let new : ServerRunning g.row.D.Denot = record { memory = c.handle.new.self; store = c.handle.new.store; armed = armed_seen inside.armed } in
    let can = subst CanRun (sym c.running.view_is) c.requires.can_run in
    let s = node_seen inside.memory inside.store in
    let found = node_found c.args.bytes.now in
    let e = c.in-Err-OutOfMemory.ensures in
    let same = subst (λ (f : NodeFault). HandlesNode (node_row inside.store.node s c.args.now 0 found) (lines.Given 0 ∷ []) inside.memory c.handle.new.self inside.store c.handle.new.store (Err f)) c.in-Err-OutOfMemory.field-0-is (e.step 0) in
    let decided = node_record inside.store.node s c.args.now found in
    let quiet = e.leaves.disk.quiet (subst (λ (f : NodeFault). IsQuiet decided (Err f)) (sym c.in-Err-OutOfMemory.field-0-is) (quiet_then (Outs × List Parcel) decided)) in
    let stop = ap (λ (x : Setting). x.stop) quiet.1.same_setting in
    let fail = ap (λ (x : Setting). x.fail) quiet.1.same_setting in
    subst (λ (x : ServerRunning g.row.D.Denot). IsHandled g.D.Disk x c.args.now (received c.args.bytes.now) new (Err nodes.OutOfMemory)) c.running.view_is (
      record {
        memory = same.0;
        armed = refl;
        store = same.1;
        calls = quiet.1.same_calls;
        disk = record {
          same_seen = quiet.0.same_seen;
          same_picks = quiet.0.same_picks;
          same_size = quiet.0.same_size;
          leaves = quiet.0.leaves;
          left = quiet.0.left;
          same_moment = quiet.0.same_moment;
          since = quiet.0.since;
          was = quiet.0.was;
        };
      },
      same_goes_on 4 50 old new can same.0 refl same.1 stop fail quiet.1.same_calls,
    )

pub returns-in-Err-Down-clause-handled : goal.returns-in-Err-Down-clause-handled
returns-in-Err-Down-clause-handled g c =
    let inside = c.running.inside in
    let old : ServerRunning g.row.D.Denot = record { memory = inside.memory; store = inside.store; armed = armed_seen inside.armed } in
    let new : ServerRunning g.row.D.Denot = record { memory = c.handle.new.self; store = c.handle.new.store; armed = armed_seen inside.armed } in
    let can = subst CanRun (sym c.running.view_is) c.requires.can_run in
    let s = node_seen inside.memory inside.store in
    let found = node_found c.args.bytes.now in
    let same = steps_same inside.store.node s c.args.now c.args.bytes.now (λ i. omega (arith, c.type_inv.bytes i)) in
    let e = c.in-Err-Down.ensures in
    let is = c.in-Err-Down.field-0-is in
    let closed = subst (λ (f : NodeFault). HandlesNode (node_row inside.store.node s c.args.now 0 found) (lines.Given 0 ∷ []) inside.memory c.handle.new.self inside.store c.handle.new.store (Err f)) is (e.step 0) in
    let decided = node_record inside.store.node s c.args.now found in
    let written : (r : StoreRecord) → decided ≡ Some r → IsWritten {T = Outs × List Parcel} r decided (Err c.in-Err-Down.field-0) = λ r w. subst (λ (f : NodeFault). IsWritten {T = Outs × List Parcel} r decided (Err f)) (sym is) w in
    let err : IsErrOf {T = Outs × List Parcel} {E = NodeFault} (Err c.in-Err-Down.field-0) nodes.Down = ap (λ (f : NodeFault). Err f) is in
    let some = e.leaves.down err in
    let k = server_keeping inside.store.node in
    let next = begun_behind old c.args.now found in
    let ended : ServerEnded g.D.Disk c.args.now found old inside.store.disk.disk c.handle.new.store.disk.disk = record {
      kept = c.mark-before.ensures.kept can.up;
      counted = c.mark-before.ensures.counted can.up;
      some = some;
      left = λ r w. e.leaves.interrupted err r w;
      around = λ r w bytes seen.
          let only = e.leaves.disk.any_moment r (written r w) bytes seen in
          record { later = only.later; each = only.each; before = only.before };
      fits = λ r w. e.leaves.disk.fits r (written r w);
      effects = λ r w. e.leaves.effects r (written r w);
      told = e.leaves.disk.told.0;
    } in
    subst (λ (x : ServerRunning g.row.D.Denot). IsHandled g.D.Disk x c.args.now (received c.args.bytes.now) new (Err nodes.Down)) c.running.view_is
    (record {
      armed = refl;
      closed = closed;
      lies = λ m b whole told x left.
          ended_lies k (server_fits inside.store.node) g.D.Disk g.met.D.Disk.counts_now decided next inside.store.durable inside.store.count inside.store.disk.disk c.handle.new.store.disk.disk ended s m c.args.now (decides_so old c.args.now found m (same m whole)) b told x left;
      reached = e.leaves.disk.reached err;
      left = λ m b whole told trips pick x left.
          ended_left k (server_fits inside.store.node) g.D.Disk g.met.D.Disk.counts_now decided next inside.store.durable inside.store.count inside.store.disk.disk c.handle.new.store.disk.disk ended s m c.args.now (decides_so old c.args.now found m (same m whole)) b told
          g.met.D.Disk.leaves (c.handle.new.store.disk.calls - inside.store.disk.calls) (λ r w bytes seen. e.leaves.disk.left err r w bytes seen trips) pick x left;
      saves = λ m whole. sym (same m whole).calls ∙ saves_calls inside.store.node s c.args.now found some;
      few = e.leaves.disk.most.1;
      stop = ap (λ (x : Setting). x.stop) e.leaves.disk.set;
      fail = ap (λ (x : Setting). x.fail) e.leaves.disk.set;
      cause = (e.leaves.disk.ran.down err).1;
      capacity = c.mark-before.ensures.capacity ∙ sym e.leaves.disk.limited;
    })

pub returns-in-Err-Down-clause-row : goal.returns-in-Err-Down-clause-row
returns-in-Err-Down-clause-row g c =
    c.in-Err-Down.ensures.message (ap (λ (f : NodeFault). Err f) c.in-Err-Down.field-0-is)
