use Rattle.std.proofs.Common.{◌∷◌, List, [], ap, subst, ◌∙◌}
use Rattle.spec_history.specs.declared.lines.Line.{Line}
use Rattle.spec_rows.specs.Callbacks.{timeout_line}
use Rattle.afs_sendings.specs.Pieces.{Piece}
use Rattle.afs_sendings.specs.Sendings.{rest_of}
use Rattle.spec_volrows.specs.VolSteps.{given_up, VolTurn}
use Rattle.afs_volserv.specs.Handling.{IsStep}
use Rattle.afs_volserv.specs.Sending.{ended_then}
use Rattle.afs_volserv.proofs.Moving.{timed_last}
use Rattle.afs_volserv.proofs.server.VolServer.give_up.Goals as goal

pub returns : goal.returns
returns g c =
    let m = c.args.self.now in
    let k = c.args.callbacks.now in
    let s = c.args.store.now in
    let call = c.args.call.now in
    let x = c.args.first.now in
    subst (λ (t : VolTurn). IsStep t m c.end_first.new.self k c.end_first.new.callbacks s c.end_first.new.store c.in_ok-outs.outs)
    (ap (λ (ls : List Line). ended_then m k s c.args.now ls c.args.node (rest_of call.content) x given_up) (c.in_ok-lines.ensures ∙ ap (λ (y : Piece). timeout_line s.node s.durable.boot c.args.node y.number 3 ∷ []) c.call.view_is) ∙ timed_last m k s c.args.now c.args.node call x c.requires.first c.requires.last) c.in_ok-outs.ensures
