use Rattle.std.specs.Prelude.{Err, Result, IsErrOf, List, []}
use Rattle.std.proofs.Common.{ap, subst, sym}
use Rattle.afs_num.specs.declared.types.Parcel.{Parcel}
use Rattle.spec_history.specs.declared.lines.Outs.{Outs}
use Rattle.afs_server_parts.specs.declared.faults.NodeFault.{NodeFault}
use Rattle.afs_server_parts.specs.declared.faults.NodeFault.TheVariants as faults
use Rattle.afs_saving.proofs.Still.{handed_up, out_of_memory}
use Rattle.spec_volrows.specs.VolSteps.{node_wake_row}
use Rattle.afs_node.specs.Handling.{HandlesNode}
use Rattle.afs_node.specs.Seen.{node_seen}
use Rattle.afs_node.proofs.Readied.{drawn_since, err_wants, late_drawn, late_kept, own_wanted, own_wants, readied, room_stored, up_as, woken_err, woken_out}
use Rattle.afs_node.proofs.node.ServerNode.wake.Goals as goal

-- ---- it was made

pub returns-clause-step : goal.returns-clause-step
returns-clause-step g c =
    let m = c.args.self.now in
    let s = c.args.store.now in
    let v = c.ready.new.self in
    let t = c.ready.new.store in
    woken_out m (record m { vol = v }) s t (readied m v s t c.in_ok-ready.ensures.same c.in_ok-ready.ensures.store c.in_ok-ready.ensures.holds) c.args.now c.wake.new.self c.release-behind.new.self c.wake.new.store c.in_ok-outs.outs c.release-behind.result c.in_ok-outs.ensures.step (record { sent = c.release-behind.ensures.sent; is = c.release-behind.ensures.held })

pub returns-clause-serves : goal.returns-clause-serves
returns-clause-serves g c =
    let m = c.args.self.now in
    let s = c.args.store.now in
    let v = c.ready.new.self in
    let t = c.ready.new.store in
    late_kept m (record m { vol = v }) s t (readied m v s t c.in_ok-ready.ensures.same c.in_ok-ready.ensures.store c.in_ok-ready.ensures.holds) c.wake.new.self c.release-behind.new.self c.wake.new.store c.release-behind.result c.requires.serves c.in_ok-outs.ensures.serves c.in_ok-outs.ensures.store (record { sent = c.release-behind.ensures.sent; is = c.release-behind.ensures.held })

pub returns-clause-draws : goal.returns-clause-draws
returns-clause-draws g c =
    let m = c.args.self.now in
    let s = c.args.store.now in
    let v = c.ready.new.self in
    let t = c.ready.new.store in
    late_drawn m (record m { vol = v }) s t (readied m v s t c.in_ok-ready.ensures.same c.in_ok-ready.ensures.store c.in_ok-ready.ensures.holds) (record m { file = c.wake.new.self; vol = v }) c.release-behind.new.self c.wake.new.store c.release-behind.result c.in_ok-outs.ensures.draws.0 c.in_ok-outs.ensures.draws.1 (record { sent = c.release-behind.ensures.sent; is = c.release-behind.ensures.held })

pub returns-clause-store : goal.returns-clause-store
returns-clause-store g c =
    let m = c.args.self.now in
    let s = c.args.store.now in
    let v = c.ready.new.self in
    let t = c.ready.new.store in
    drawn_since m (record m { vol = v }) s t (readied m v s t c.in_ok-ready.ensures.same c.in_ok-ready.ensures.store c.in_ok-ready.ensures.holds) c.wake.new.store c.in_ok-outs.ensures.store

-- ---- a server of it made none

pub returns-in_err-outs-clause-step : goal.returns-in_err-outs-clause-step
returns-in_err-outs-clause-step g c =
    let m = c.args.self.now in
    let s = c.args.store.now in
    let v = c.ready.new.self in
    let t = c.ready.new.store in
    let fault = c.in_err-outs.field-0.0 in
    let r = c.from_residual-in_err-outs.result in
    let is = handed_up r fault c.from_residual-in_err-outs.ensures.1 in
    subst (λ (x : Result (Outs × List Parcel) NodeFault). HandlesNode (node_wake_row s.node (node_seen m s) c.args.now) [] m (record m { file = c.wake.new.self; vol = v }) s c.wake.new.store x) (sym is)
    (woken_err m (record m { vol = v }) s t (readied m v s t c.in_ok-ready.ensures.same c.in_ok-ready.ensures.store c.in_ok-ready.ensures.holds) c.args.now c.wake.new.self c.wake.new.store fault c.in_err-outs.ensures.step)

pub returns-in_err-outs-clause-store : goal.returns-in_err-outs-clause-store
returns-in_err-outs-clause-store g c =
    let m = c.args.self.now in
    let s = c.args.store.now in
    let v = c.ready.new.self in
    let t = c.ready.new.store in
    drawn_since m (record m { vol = v }) s t (readied m v s t c.in_ok-ready.ensures.same c.in_ok-ready.ensures.store c.in_ok-ready.ensures.holds) c.wake.new.store c.in_err-outs.ensures.store

pub returns-in_err-outs-clause-up : goal.returns-in_err-outs-clause-up
returns-in_err-outs-clause-up g c =
    let fault = c.in_err-outs.field-0.0 in
    let r = c.from_residual-in_err-outs.result in
    let is = handed_up r fault c.from_residual-in_err-outs.ensures.1 in
    subst (λ (x : Result (Outs × List Parcel) NodeFault). IsErrOf x faults.Down → ⊥) (sym is) (up_as fault c.in_err-outs.ensures.up)

pub returns-in_err-outs-clause-wants : goal.returns-in_err-outs-clause-wants
returns-in_err-outs-clause-wants g c = λ e.
    let m = c.args.self.now in
    let s = c.args.store.now in
    let v = c.ready.new.self in
    let t = c.ready.new.store in
    let fault = c.in_err-outs.field-0.0 in
    let r = c.from_residual-in_err-outs.result in
    let is = handed_up r fault c.from_residual-in_err-outs.ensures.1 in
    err_wants m (record m { vol = v }) s t (readied m v s t c.in_ok-ready.ensures.same c.in_ok-ready.ensures.store c.in_ok-ready.ensures.holds) (node_wake_row s.node (node_seen m s) c.args.now) (record m { file = c.wake.new.self; vol = v }) c.wake.new.store fault (woken_err m (record m { vol = v }) s t (readied m v s t c.in_ok-ready.ensures.same c.in_ok-ready.ensures.store c.in_ok-ready.ensures.holds) c.args.now c.wake.new.self c.wake.new.store fault c.in_err-outs.ensures.step) (λ down. c.in_err-outs.ensures.up (ap (λ (f : NodeFault). Err f) down))

-- ---- no room could be made

pub returns-in_err-ready-clause-step : goal.returns-in_err-ready-clause-step
returns-in_err-ready-clause-step g c =
    let m = c.args.self.now in
    let s = c.args.store.now in
    let v = c.ready.new.self in
    let t = c.ready.new.store in
    let r = c.from_residual.result in
    let is = out_of_memory r c.from_residual.ensures.1 in
    subst (λ (x : Result (Outs × List Parcel) NodeFault). HandlesNode (node_wake_row s.node (node_seen m s) c.args.now) [] m (record m { vol = v }) s t x) (sym is)
    (own_wants m (record m { vol = v }) s t (readied m v s t c.in_err-ready.ensures.same c.in_err-ready.ensures.store c.in_err-ready.ensures.holds) (node_wake_row s.node (node_seen m s) c.args.now))

pub returns-in_err-ready-clause-store : goal.returns-in_err-ready-clause-store
returns-in_err-ready-clause-store g c =
    let m = c.args.self.now in
    let s = c.args.store.now in
    let v = c.ready.new.self in
    let t = c.ready.new.store in
    room_stored m (record m { vol = v }) s t (readied m v s t c.in_err-ready.ensures.same c.in_err-ready.ensures.store c.in_err-ready.ensures.holds)

pub returns-in_err-ready-clause-wants : goal.returns-in_err-ready-clause-wants
returns-in_err-ready-clause-wants g c = λ e.
    let m = c.args.self.now in
    let s = c.args.store.now in
    let v = c.ready.new.self in
    let t = c.ready.new.store in
    own_wanted m (record m { vol = v }) s t (readied m v s t c.in_err-ready.ensures.same c.in_err-ready.ensures.store c.in_err-ready.ensures.holds)

pub returns-in_err-ready-clause-up : goal.returns-in_err-ready-clause-up
returns-in_err-ready-clause-up g c =
    let r = c.from_residual.result in
    let is = out_of_memory r c.from_residual.ensures.1 in
    subst (λ (x : Result (Outs × List Parcel) NodeFault). IsErrOf x faults.Down → ⊥) (sym is) (λ e. absurd cc)
