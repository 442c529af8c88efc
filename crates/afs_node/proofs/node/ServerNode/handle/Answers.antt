use Rattle.std.specs.Prelude.{Result, IsErrOf}
use Rattle.std.proofs.Common.{◌≡◌, subst, sym}
use Rattle.afs_num.specs.declared.messages.Message.{Message}
use Rattle.afs_num.specs.declared.messages.Received.TheVariants.{Whole}
use Rattle.afs_num.specs.declared.types.Parcel.{Parcel}
use Rattle.std.specs.Prelude.{List, ◌∷◌, []}
use Rattle.spec_history.specs.declared.lines.Line.TheVariants as lines
use Rattle.spec_history.specs.declared.lines.Outs.{Outs}
use Rattle.spec_model.specs.Messages.{received}
use Rattle.afs_server_parts.specs.declared.faults.NodeFault.{NodeFault}
use Rattle.afs_server_parts.specs.declared.faults.NodeFault.TheVariants as faults
use Rattle.afs_saving.proofs.Still.{handed_up, out_of_memory}
use Rattle.spec_volrows.specs.VolSteps.{node_row}
use Rattle.afs_node.specs.Handling.{HandlesNode, StepsNode}
use Rattle.afs_node.specs.Seen.{node_found, node_seen}
use Rattle.afs_node.proofs.Readied.{handles_err, handles_out, handles_wants, readied, ready_serves, steps_err, steps_out, steps_want}
use Rattle.afs_node.proofs.Sides.{some_message}
use Rattle.afs_node.proofs.node.ServerNode.handle.Goals as goal

pub take-requires-clause-serves : goal.take-requires-clause-serves
take-requires-clause-serves g c =
    let m = c.args.self.now in
    let s = c.args.store.now in
    let v = c.ready.new.self in
    let t = c.ready.new.store in
    ready_serves m (record m { vol = v }) s t (readied m v s t c.in_ok-ready.ensures.same c.in_ok-ready.ensures.store c.in_ok-ready.ensures.holds) c.requires.serves

-- ---- it was made

pub returns-clause-step : goal.returns-clause-step
returns-clause-step g c = λ place.
    let m = c.args.self.now in
    let s = c.args.store.now in
    let v = c.ready.new.self in
    let t = c.ready.new.store in
    handles_out m (record m { vol = v }) s t (readied m v s t c.in_ok-ready.ensures.same c.in_ok-ready.ensures.store c.in_ok-ready.ensures.holds) c.args.now place (node_found c.args.bytes.now) c.take.new.self c.release-behind.new.self c.take.new.store c.in_ok-outs.outs c.release-behind.result (c.in_ok-outs.ensures.step place) (record { sent = c.release-behind.ensures.sent; is = c.release-behind.ensures.held })

pub returns-clause-leaves : goal.returns-clause-leaves
returns-clause-leaves g c =
    let m = c.args.self.now in
    let s = c.args.store.now in
    let v = c.ready.new.self in
    let t = c.ready.new.store in
    steps_out m (record m { vol = v }) s t (readied m v s t c.in_ok-ready.ensures.same c.in_ok-ready.ensures.store c.in_ok-ready.ensures.holds) g.D.Disk c.args.now (node_found c.args.bytes.now) c.take.new.self c.release-behind.new.self c.take.new.store c.in_ok-outs.outs c.release-behind.result c.in_ok-outs.ensures.leaves (record { sent = c.release-behind.ensures.sent; is = c.release-behind.ensures.held })

-- ---- a server of it made none

pub returns-in_err-outs-clause-step : goal.returns-in_err-outs-clause-step
returns-in_err-outs-clause-step g c = λ place.
    let m = c.args.self.now in
    let s = c.args.store.now in
    let v = c.ready.new.self in
    let t = c.ready.new.store in
    let fault = c.in_err-outs.field-0.0 in
    let r = c.from_residual-in_err-outs.result in
    let is = handed_up r fault c.from_residual-in_err-outs.ensures.1 in
    subst (λ (x : Result (Outs × List Parcel) NodeFault). HandlesNode (node_row s.node (node_seen m s) c.args.now place (node_found c.args.bytes.now)) (lines.Given place ∷ []) m c.take.new.self s c.take.new.store x) (sym is)
    (handles_err m (record m { vol = v }) s t (readied m v s t c.in_ok-ready.ensures.same c.in_ok-ready.ensures.store c.in_ok-ready.ensures.holds) c.args.now place (node_found c.args.bytes.now) c.take.new.self c.take.new.store fault (c.in_err-outs.ensures.step place))

pub returns-in_err-outs-clause-leaves : goal.returns-in_err-outs-clause-leaves
returns-in_err-outs-clause-leaves g c =
    let m = c.args.self.now in
    let s = c.args.store.now in
    let v = c.ready.new.self in
    let t = c.ready.new.store in
    let fault = c.in_err-outs.field-0.0 in
    let r = c.from_residual-in_err-outs.result in
    let is = handed_up r fault c.from_residual-in_err-outs.ensures.1 in
    subst (λ (x : Result (Outs × List Parcel) NodeFault). StepsNode g.D.Disk c.args.now (node_found c.args.bytes.now) m c.take.new.self s c.take.new.store x) (sym is)
    (steps_err m (record m { vol = v }) s t (readied m v s t c.in_ok-ready.ensures.same c.in_ok-ready.ensures.store c.in_ok-ready.ensures.holds) g.D.Disk c.args.now (node_found c.args.bytes.now) c.take.new.self c.take.new.store fault c.in_err-outs.ensures.leaves)

pub returns-in_err-outs-clause-message : goal.returns-in_err-outs-clause-message
returns-in_err-outs-clause-message g c =
    let m = c.args.self.now in
    let s = c.args.store.now in
    let v = c.ready.new.self in
    let t = c.ready.new.store in
    let fault = c.in_err-outs.field-0.0 in
    let r = c.from_residual-in_err-outs.result in
    let is = handed_up r fault c.from_residual-in_err-outs.ensures.1 in
    let steps = steps_err m (record m { vol = v }) s t (readied m v s t c.in_ok-ready.ensures.same c.in_ok-ready.ensures.store c.in_ok-ready.ensures.holds) g.D.Disk c.args.now (node_found c.args.bytes.now) c.take.new.self c.take.new.store fault c.in_err-outs.ensures.leaves in
    subst (λ (x : Result (Outs × List Parcel) NodeFault). IsErrOf x faults.Down → (n : Message) × (received c.args.bytes.now ≡ Whole n)) (sym is)
    (λ e. some_message s.node (node_seen m s) c.args.now c.args.bytes.now (steps.down e))

-- ---- no room could be made

pub returns-in_err-ready-clause-step : goal.returns-in_err-ready-clause-step
returns-in_err-ready-clause-step g c = λ place.
    let m = c.args.self.now in
    let s = c.args.store.now in
    let v = c.ready.new.self in
    let t = c.ready.new.store in
    let r = c.from_residual.result in
    let is = out_of_memory r c.from_residual.ensures.1 in
    subst (λ (x : Result (Outs × List Parcel) NodeFault). HandlesNode (node_row s.node (node_seen m s) c.args.now place (node_found c.args.bytes.now)) (lines.Given place ∷ []) m (record m { vol = v }) s t x) (sym is)
    (handles_wants m (record m { vol = v }) s t (readied m v s t c.in_err-ready.ensures.same c.in_err-ready.ensures.store c.in_err-ready.ensures.holds) c.args.now place (node_found c.args.bytes.now))

pub returns-in_err-ready-clause-leaves : goal.returns-in_err-ready-clause-leaves
returns-in_err-ready-clause-leaves g c =
    let m = c.args.self.now in
    let s = c.args.store.now in
    let v = c.ready.new.self in
    let t = c.ready.new.store in
    let r = c.from_residual.result in
    let is = out_of_memory r c.from_residual.ensures.1 in
    subst (λ (x : Result (Outs × List Parcel) NodeFault). StepsNode g.D.Disk c.args.now (node_found c.args.bytes.now) m (record m { vol = v }) s t x) (sym is)
    (steps_want m (record m { vol = v }) s t (readied m v s t c.in_err-ready.ensures.same c.in_err-ready.ensures.store c.in_err-ready.ensures.holds) g.D.Disk c.args.now (node_found c.args.bytes.now))

pub returns-in_err-ready-clause-message : goal.returns-in_err-ready-clause-message
returns-in_err-ready-clause-message g c =
    let is = out_of_memory c.from_residual.result c.from_residual.ensures.1 in
    subst (λ (x : Result (Outs × List Parcel) NodeFault). IsErrOf x faults.Down → (n : Message) × (received c.args.bytes.now ≡ Whole n)) (sym is) (λ e. absurd cc)
