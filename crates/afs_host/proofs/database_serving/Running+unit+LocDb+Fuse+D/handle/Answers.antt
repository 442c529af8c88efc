use Rattle.std.specs.Prelude.{◌≡◌, ℕ, ◌*◌, ◌-◌, [], ◌∷◌, Some, Err, Ok, IsErrOf}
use Rattle.std.proofs.Common.{refl, ap, sym, subst, ◌∙◌, arith}
use Rattle.afs_num.specs.declared.records.Mark.{Mark}
use Rattle.spec_history.specs.declared.lines.Line.TheVariants as lines
use Rattle.spec_history.specs.declared.lines.Outs.{Outs}
use Rattle.afs_disk.specs.Disk.{Setting}
use Rattle.spec_model.specs.Messages.{received, received_by, FindsMessages}
use Rattle.spec_model.proofs.Spellings.{found_in}
use Rattle.spec_records.specs.LocRecords.{LocRecord}
use Rattle.spec_rows.specs.Hosts.{lowered}
use Rattle.spec_rows.specs.LocRow.{loc_decides, loc_device_calls}
use Rattle.spec_rows.specs.LocSteps.{loc_begun_after, loc_row}
use Rattle.afs_locdb.specs.Handling.{loc_calls_served, loc_decided_then, loc_record_then, Handles, IsQuiet, IsWritten}
use Rattle.afs_locdb.specs.Seen.{loc_seen}
use Rattle.afs_server_parts.specs.declared.faults.NodeFault.{NodeFault}
use Rattle.afs_server_parts.specs.declared.faults.NodeFault.TheVariants as nodes
use Rattle.afs_host.specs.LocSeats.{DatabaseRunning, LocCanRun}
use Rattle.afs_host.specs.LocStanding.{loc_keeping}
use Rattle.afs_host.specs.LocServing.{IsLocHandled, RunsLocRow}
use Rattle.afs_host.specs.Setting.{armed_seen}
use Rattle.afs_host.proofs.Broken.{ended_left, ended_lies}
use Rattle.afs_host.proofs.LocBreaking.{loc_decides_so, loc_saves_calls, LocEnded}
use Rattle.afs_host.proofs.LocHandled.{loc_passed_goes_on, loc_passed_step, loc_quiet_then, loc_row_made, same_loc_goes_on, LocPassed}
use Rattle.afs_host.proofs.LocHeard.{loc_message_of, loc_stands_there}
use Rattle.afs_host.proofs.LocRising.{loc_fits}
use Rattle.afs_host.proofs.LocStepping.{loc_made_calls, same_loc_row}
use Rattle.afs_host.proofs.database_serving.Running+unit+LocDb+Fuse+D.handle.Goals as goal

pub returns-in-Ok-clause-handled : goal.returns-in-Ok-clause-handled
returns-in-Ok-clause-handled g c =
    let inside = c.self.inside in
    let old : DatabaseRunning g.row.D.Denot = record { memory = inside.memory; store = inside.store; armed = armed_seen inside.armed } in
    let new : DatabaseRunning g.row.D.Denot = record { memory = inside.memory; store = c.handle.new.self; armed = armed_seen c.lowered-self-inside.result } in
    let can = subst LocCanRun (sym c.self.view_is) c.requires.can_run in
    let e = c.in-Ok.ensures in
    let d = loc_decided_then inside.store c.args.bytes.now in
    let made : c.saturating_sub-made.result * 4 ≡ loc_device_calls (loc_seen inside.store) d = ap (λ (n : ℕ). n * 4) (c.saturating_sub-made.ensures ∙ (ap (λ (m : Mark). m.records - c.mark-before.result.records) c.mark.ensures.value ∙ ap (λ (m : Mark). new.store.store.count - m.records) c.mark-before.ensures.value))
    ∙ loc_made_calls (loc_seen inside.store) d inside.store c.handle.new.self e.kept in
    let passed : LocPassed c.args.bytes.now old new c.in-Ok.outs = record {
      step = e.step;
      found = λ m whole. found_in loc_calls_served c.args.bytes.now m (λ i. omega (arith, c.type_inv.bytes i)) whole;
      serves = e.serves;
      store = e.store;
      armed = c.lowered-self-inside.ensures ∙ ap (λ (n : ℕ). lowered n (armed_seen inside.armed)) made;
      calls = e.calls;
      most = e.most.1;
      passes = e.ran.passed;
      stop = ap (λ (s : Setting). s.stop) e.setting;
      fail = ap (λ (s : Setting). s.fail) e.setting;
    } in
    subst (λ (x : DatabaseRunning g.row.D.Denot). IsLocHandled g.D.Disk x (received c.args.bytes.now) new (Ok c.in-Ok.outs)) c.self.view_is
    (loc_passed_step c.args.bytes.now old new c.in-Ok.outs can passed, loc_passed_goes_on c.args.bytes.now old new c.in-Ok.outs can passed)

pub returns-in-Ok-clause-row : goal.returns-in-Ok-clause-row
returns-in-Ok-clause-row g c =
    let inside = c.self.inside in
    let old : DatabaseRunning g.row.D.Denot = record { memory = inside.memory; store = inside.store; armed = armed_seen inside.armed } in
    let new : DatabaseRunning g.row.D.Denot = record { memory = inside.memory; store = c.handle.new.self; armed = armed_seen c.lowered-self-inside.result } in
    let e = c.in-Ok.ensures in
    let d = loc_decided_then inside.store c.args.bytes.now in
    let made : c.saturating_sub-made.result * 4 ≡ loc_device_calls (loc_seen inside.store) d = ap (λ (n : ℕ). n * 4) (c.saturating_sub-made.ensures ∙ (ap (λ (m : Mark). m.records - c.mark-before.result.records) c.mark.ensures.value ∙ ap (λ (m : Mark). new.store.store.count - m.records) c.mark-before.ensures.value))
    ∙ loc_made_calls (loc_seen inside.store) d inside.store c.handle.new.self e.kept in
    subst (λ (x : DatabaseRunning g.row.D.Denot). RunsLocRow x c.args.bytes.now new (Ok c.in-Ok.outs)) c.self.view_is
    (loc_row_made c.args.bytes.now old new c.in-Ok.outs e.step (c.lowered-self-inside.ensures ∙ ap (λ (n : ℕ). lowered n (armed_seen inside.armed)) made))

pub returns-in-Err-OutOfMemory-clause-handled : goal.returns-in-Err-OutOfMemory-clause-handled
returns-in-Err-OutOfMemory-clause-handled g c =
    let inside = c.self.inside in
    let old : DatabaseRunning g.row.D.Denot = record { memory = inside.memory; store = inside.store; armed = armed_seen inside.armed } in
    let new : DatabaseRunning g.row.D.Denot = record { memory = inside.memory; store = c.handle.new.self; armed = armed_seen inside.armed } in
    let can = subst LocCanRun (sym c.self.view_is) c.requires.can_run in
    let e = c.in-Err-OutOfMemory.ensures in
    let is = c.in-Err-OutOfMemory.field-0-is in
    let same = subst (λ (f : NodeFault). Handles (loc_row (loc_seen inside.store) 0 (received_by loc_calls_served c.args.bytes.now)) (lines.Given 0 ∷ []) inside.store c.handle.new.self (Err f)) is (e.step 0) in
    let decided = loc_record_then inside.store c.args.bytes.now in
    let quiet = e.quiet (subst (λ (f : NodeFault). IsQuiet {T = Outs} decided (Err f)) (sym is) (loc_quiet_then Outs decided)) in
    let stop = ap (λ (x : Setting). x.stop) quiet.1.same_setting in
    let fail = ap (λ (x : Setting). x.fail) quiet.1.same_setting in
    subst (λ (x : DatabaseRunning g.row.D.Denot). IsLocHandled g.D.Disk x (received c.args.bytes.now) new (Err nodes.OutOfMemory)) c.self.view_is (
      record {
        armed = refl;
        store = same;
        calls = quiet.1.same_calls;
        disk = record {
          same_seen = quiet.0.same_seen;
          same_picks = quiet.0.same_picks;
          same_size = quiet.0.same_size;
          leaves = quiet.0.leaves;
          left = quiet.0.left;
          same_moment = quiet.0.same_moment;
          since = quiet.0.since;
          was = quiet.0.was;
        };
      },
      same_loc_goes_on old new can refl same stop fail quiet.1.same_calls,
    )

pub returns-in-Err-Down-clause-handled : goal.returns-in-Err-Down-clause-handled
returns-in-Err-Down-clause-handled g c =
    let inside = c.self.inside in
    let old : DatabaseRunning g.row.D.Denot = record { memory = inside.memory; store = inside.store; armed = armed_seen inside.armed } in
    let new : DatabaseRunning g.row.D.Denot = record { memory = inside.memory; store = c.handle.new.self; armed = armed_seen inside.armed } in
    let can = subst LocCanRun (sym c.self.view_is) c.requires.can_run in
    let s = loc_seen inside.store in
    let found = received_by loc_calls_served c.args.bytes.now in
    let finds : FindsMessages loc_calls_served c.args.bytes.now = λ m whole. found_in loc_calls_served c.args.bytes.now m (λ i. omega (arith, c.type_inv.bytes i)) whole in
    let e = c.in-Err-Down.ensures in
    let is = c.in-Err-Down.field-0-is in
    let closed = subst (λ (f : NodeFault). Handles (loc_row s 0 found) (lines.Given 0 ∷ []) inside.store c.handle.new.self (Err f)) is (e.step 0) in
    let decided = loc_record_then inside.store c.args.bytes.now in
    let written : (r : LocRecord) → decided ≡ Some r → IsWritten {T = Outs} r decided (Err c.in-Err-Down.field-0) = λ r w. subst (λ (f : NodeFault). IsWritten {T = Outs} r decided (Err f)) (sym is) w in
    let err : IsErrOf {T = Outs} {E = NodeFault} (Err c.in-Err-Down.field-0) nodes.Down = ap (λ (f : NodeFault). Err f) is in
    let some = e.down err in
    let next = loc_begun_after s (loc_decides s found) in
    let before = inside.store.store.disk.disk in
    let after = c.handle.new.self.store.disk.disk in
    let ended : LocEnded g.D.Disk found inside.store before after = record {
      kept = c.mark-before.ensures.kept can.up;
      counted = c.mark-before.ensures.counted can.up;
      some = some;
      left = λ r w. e.interrupted err r w;
      around = λ r w bytes seen.
          let only = e.any_moment r (written r w) bytes seen in
          record { later = only.later; each = only.each; before = only.before };
      fits = λ r w. e.fits r (written r w);
      effects = λ r w. e.effects r (written r w);
      told = e.told.0;
    } in
    subst (λ (x : DatabaseRunning g.row.D.Denot). IsLocHandled g.D.Disk x (received c.args.bytes.now) new (Err nodes.Down)) c.self.view_is
    (record {
      armed = refl;
      closed = closed;
      lies = λ m clock b whole told x left.
          ended_lies loc_keeping loc_fits g.D.Disk g.met.D.Disk.counts_now decided next inside.store.store.durable inside.store.store.count before after ended s m clock (loc_decides_so inside.store clock found m (finds m whole)) b told x left;
      reached = e.reached err;
      left = λ m clock b whole told trips pick x left.
          ended_left loc_keeping loc_fits g.D.Disk g.met.D.Disk.counts_now decided next inside.store.store.durable inside.store.store.count before after ended s m clock (loc_decides_so inside.store clock found m (finds m whole)) b told
          g.met.D.Disk.leaves (c.handle.new.self.store.disk.calls - inside.store.store.disk.calls) (λ r w bytes seen. e.left err r w bytes seen trips) pick x left;
      saves = λ m whole. ap (loc_device_calls s) (sym (same_loc_row s m found (finds m whole)).decision) ∙ loc_saves_calls s (loc_decides s found) some;
      few = e.most.1;
      stop = ap (λ (x : Setting). x.stop) e.setting;
      fail = ap (λ (x : Setting). x.fail) e.setting;
      cause = (e.ran.down err).1;
      capacity = c.mark-before.ensures.capacity ∙ sym e.limit;
    })

pub returns-in-Err-Down-clause-row : goal.returns-in-Err-Down-clause-row
returns-in-Err-Down-clause-row g c =
    let inside = c.self.inside in
    let e = c.in-Err-Down.ensures in
    let err : IsErrOf {T = Outs} {E = NodeFault} (Err c.in-Err-Down.field-0) nodes.Down = ap (λ (f : NodeFault). Err f) c.in-Err-Down.field-0-is in
    let of = loc_message_of (loc_seen inside.store) inside.store.store.durable.boot (received_by loc_calls_served c.args.bytes.now) (e.down err) in
    (of.0, loc_stands_there c.args.bytes.now of.0 of.1)
