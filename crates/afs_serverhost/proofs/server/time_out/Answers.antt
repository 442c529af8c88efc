use Rattle.std.specs.Prelude.{◌≡◌, List, [], None, Some, Err}
use Rattle.std.proofs.Common.{refl, ap, sym, subst}
use Rattle.spec_rows.specs.States.{BackCall}
use Rattle.afs_num.specs.declared.types.Parcel.{Parcel}
use Rattle.spec_history.specs.declared.lines.Outs.{Outs}
use Rattle.spec_volrows.specs.NodeHosts.{node_timed_out, piece_timed_out}
use Rattle.spec_volrows.specs.VolStates.{PieceCall}
use Rattle.afs_server_parts.specs.declared.faults.NodeFault.{NodeFault}
use Rattle.afs_serverhost.specs.Seats.{with_behind, CanRun, GoesOn, IsStepUp, IsUp, OnlyDraws, ServerRunning}
use Rattle.afs_host.specs.Setting.{armed_seen}
use Rattle.afs_serverhost.proofs.Handled.{if_none, if_ok, late_draws, late_goes_on, no_err, on_err, same_up, wants_goes_on}
use Rattle.afs_serverhost.proofs.Stepping.{late_break_up, late_piece_up}
use Rattle.afs_serverhost.proofs.server.time_out.Goals as goal
use Rattle.afs_serverhost.proofs.server.time_out.Goals.{in-Ok, in-Err-OutOfMemory}

pub returns-clause-breaks : goal.returns-clause-breaks
returns-clause-breaks g c = λ h up b called.
    let inside = c.running.inside in
    let old : ServerRunning g.row.D.Denot = record { memory = inside.memory; store = inside.store; armed = armed_seen inside.armed } in
    let new : ServerRunning g.row.D.Denot = record { memory = c.timeout.new.self; store = c.timeout.new.store; armed = armed_seen inside.armed } in
    let node = c.args.running.now.store.node in
    elim c.match-timeout.branch [
      | in-Ok w ↦ if_ok (λ (r : Outs × List Parcel). IsStepUp new [] (with_behind r) (node_timed_out node h c.args.now c.args.callee b)) c.match-timeout.result w.in-Ok.given w.result-is
          (subst (λ (x : ServerRunning g.row.D.Denot). IsUp x h → IsStepUp new [] (with_behind w.in-Ok.given) (node_timed_out x.store.node h c.args.now c.args.callee b)) c.running.view_is (λ was. late_break_up old new c.args.now c.args.callee w.in-Ok.given refl w.in-Ok.ensures.breaks h was b called) up)
      | in-Err-OutOfMemory w ↦ if_none (λ (r : Outs × List Parcel). IsStepUp new [] (with_behind r) (node_timed_out node h c.args.now c.args.callee b)) c.match-timeout.result w.result-is
    ]

pub returns-clause-pieces : goal.returns-clause-pieces
returns-clause-pieces g c = λ h up none b called.
    let inside = c.running.inside in
    let old : ServerRunning g.row.D.Denot = record { memory = inside.memory; store = inside.store; armed = armed_seen inside.armed } in
    let new : ServerRunning g.row.D.Denot = record { memory = c.timeout.new.self; store = c.timeout.new.store; armed = armed_seen inside.armed } in
    let node = c.args.running.now.store.node in
    elim c.match-timeout.branch [
      | in-Ok w ↦ if_ok (λ (r : Outs × List Parcel). IsStepUp new [] (with_behind r) (piece_timed_out node h c.args.now c.args.callee b)) c.match-timeout.result w.in-Ok.given w.result-is
          (subst (λ (x : ServerRunning g.row.D.Denot). IsUp x h → IsStepUp new [] (with_behind w.in-Ok.given) (piece_timed_out x.store.node h c.args.now c.args.callee b)) c.running.view_is (λ was. late_piece_up old new c.args.now c.args.callee w.in-Ok.given refl w.in-Ok.ensures.pieces h was none b called) up)
      | in-Err-OutOfMemory w ↦ if_none (λ (r : Outs × List Parcel). IsStepUp new [] (with_behind r) (piece_timed_out node h c.args.now c.args.callee b)) c.match-timeout.result w.result-is
    ]

pub returns-clause-err : goal.returns-clause-err
returns-clause-err g c = λ h up.
    let inside = c.running.inside in
    let old : ServerRunning g.row.D.Denot = record { memory = inside.memory; store = inside.store; armed = armed_seen inside.armed } in
    let new : ServerRunning g.row.D.Denot = record { memory = c.timeout.new.self; store = c.timeout.new.store; armed = armed_seen inside.armed } in
    elim c.match-timeout.branch [
      | in-Ok w ↦ no_err (IsUp new h) c.match-timeout.result w.result-is
      | in-Err-OutOfMemory w ↦
          let same = w.in-Err-OutOfMemory.ensures.wants (ap (λ (f : NodeFault). Err f) w.in-Err-OutOfMemory.field-0-is) in
          on_err (IsUp new h) c.match-timeout.result w.result-is (same_up old new same.0 refl same.1 h (subst (λ (x : ServerRunning g.row.D.Denot). IsUp x h) (sym c.running.view_is) up))
    ]

pub returns-clause-rest : goal.returns-clause-rest
returns-clause-rest g c =
    let inside = c.running.inside in
    let old : ServerRunning g.row.D.Denot = record { memory = inside.memory; store = inside.store; armed = armed_seen inside.armed } in
    let new : ServerRunning g.row.D.Denot = record { memory = c.timeout.new.self; store = c.timeout.new.store; armed = armed_seen inside.armed } in
    subst (λ (x : ServerRunning g.row.D.Denot). OnlyDraws x new) c.running.view_is (late_draws old new c.timeout.ensures.store refl)

pub returns-clause-goes_on : goal.returns-clause-goes_on
returns-clause-goes_on g c =
    let inside = c.running.inside in
    let old : ServerRunning g.row.D.Denot = record { memory = inside.memory; store = inside.store; armed = armed_seen inside.armed } in
    let new : ServerRunning g.row.D.Denot = record { memory = c.timeout.new.self; store = c.timeout.new.store; armed = armed_seen inside.armed } in
    let can = subst CanRun (sym c.running.view_is) c.requires.can_run in
    subst (λ (x : ServerRunning g.row.D.Denot). GoesOn 0 0 x new) c.running.view_is
    (elim c.match-timeout.branch [
      | in-Ok w ↦ late_goes_on old new can w.in-Ok.ensures.store w.in-Ok.ensures.serves w.in-Ok.ensures.draws refl
      | in-Err-OutOfMemory w ↦
          let same = w.in-Err-OutOfMemory.ensures.wants (ap (λ (f : NodeFault). Err f) w.in-Err-OutOfMemory.field-0-is) in
          wants_goes_on old new can same.0 refl same.1 w.in-Err-OutOfMemory.ensures.store
    ])
