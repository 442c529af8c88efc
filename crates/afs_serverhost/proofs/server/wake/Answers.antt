use Rattle.std.specs.Prelude.{◌≡◌, List, [], None, Some, Err}
use Rattle.std.proofs.Common.{refl, ap, sym, subst}
use Rattle.afs_num.specs.declared.types.Parcel.{Parcel}
use Rattle.spec_history.specs.declared.lines.Outs.{Outs}
use Rattle.spec_volrows.specs.NodeHosts.{node_woken}
use Rattle.afs_server_parts.specs.declared.faults.NodeFault.{NodeFault}
use Rattle.afs_serverhost.specs.Seats.{with_behind, CanRun, GoesOn, IsStepUp, IsUp, OnlyDraws, ServerRunning}
use Rattle.afs_host.specs.Setting.{armed_seen}
use Rattle.afs_serverhost.proofs.Handled.{if_none, if_ok, late_draws, late_goes_on, no_err, on_err, same_up, wants_goes_on}
use Rattle.afs_serverhost.proofs.Stepping.{woken_up}
use Rattle.afs_serverhost.proofs.server.wake.Goals as goal
use Rattle.afs_serverhost.proofs.server.wake.Goals.{in-Ok, in-Err-OutOfMemory}

pub returns-clause-step : goal.returns-clause-step
returns-clause-step g c = λ h up.
    let inside = c.running.inside in
    let old : ServerRunning g.row.D.Denot = record { memory = inside.memory; store = inside.store; armed = armed_seen inside.armed } in
    let new : ServerRunning g.row.D.Denot = record { memory = c.wake.new.self; store = c.wake.new.store; armed = armed_seen inside.armed } in
    let node = c.args.running.now.store.node in
    elim c.match-wake.branch [
      | in-Ok w ↦ if_ok (λ (r : Outs × List Parcel). IsStepUp new [] (with_behind r) (node_woken node h c.args.now)) c.match-wake.result w.in-Ok.given w.result-is
          (subst (λ (x : ServerRunning g.row.D.Denot). IsUp x h → IsStepUp new [] (with_behind w.in-Ok.given) (node_woken x.store.node h c.args.now)) c.running.view_is (woken_up old new c.args.now old.store.node w.in-Ok.given refl w.in-Ok.ensures.step h) up)
      | in-Err-OutOfMemory w ↦ if_none (λ (r : Outs × List Parcel). IsStepUp new [] (with_behind r) (node_woken node h c.args.now)) c.match-wake.result w.result-is
    ]

pub returns-clause-err : goal.returns-clause-err
returns-clause-err g c = λ h up.
    let inside = c.running.inside in
    let old : ServerRunning g.row.D.Denot = record { memory = inside.memory; store = inside.store; armed = armed_seen inside.armed } in
    let new : ServerRunning g.row.D.Denot = record { memory = c.wake.new.self; store = c.wake.new.store; armed = armed_seen inside.armed } in
    elim c.match-wake.branch [
      | in-Ok w ↦ no_err (IsUp new h) c.match-wake.result w.result-is
      | in-Err-OutOfMemory w ↦
          let same = w.in-Err-OutOfMemory.ensures.wants (ap (λ (f : NodeFault). Err f) w.in-Err-OutOfMemory.field-0-is) in
          on_err (IsUp new h) c.match-wake.result w.result-is (same_up old new same.0 refl same.1 h (subst (λ (x : ServerRunning g.row.D.Denot). IsUp x h) (sym c.running.view_is) up))
    ]

pub returns-clause-rest : goal.returns-clause-rest
returns-clause-rest g c =
    let inside = c.running.inside in
    let old : ServerRunning g.row.D.Denot = record { memory = inside.memory; store = inside.store; armed = armed_seen inside.armed } in
    let new : ServerRunning g.row.D.Denot = record { memory = c.wake.new.self; store = c.wake.new.store; armed = armed_seen inside.armed } in
    subst (λ (x : ServerRunning g.row.D.Denot). OnlyDraws x new) c.running.view_is (late_draws old new c.wake.ensures.store refl)

pub returns-clause-goes_on : goal.returns-clause-goes_on
returns-clause-goes_on g c =
    let inside = c.running.inside in
    let old : ServerRunning g.row.D.Denot = record { memory = inside.memory; store = inside.store; armed = armed_seen inside.armed } in
    let new : ServerRunning g.row.D.Denot = record { memory = c.wake.new.self; store = c.wake.new.store; armed = armed_seen inside.armed } in
    let can = subst CanRun (sym c.running.view_is) c.requires.can_run in
    subst (λ (x : ServerRunning g.row.D.Denot). GoesOn 0 0 x new) c.running.view_is
    (elim c.match-wake.branch [
      | in-Ok w ↦ late_goes_on old new can w.in-Ok.ensures.store w.in-Ok.ensures.serves w.in-Ok.ensures.draws refl
      | in-Err-OutOfMemory w ↦
          let same = w.in-Err-OutOfMemory.ensures.wants (ap (λ (f : NodeFault). Err f) w.in-Err-OutOfMemory.field-0-is) in
          wants_goes_on old new can same.0 refl same.1 w.in-Err-OutOfMemory.ensures.store
    ])
