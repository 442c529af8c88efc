use Rattle.std.proofs.Common.{◌+◌, ℕ, Some, List, [], ◌∷◌, ap, subst, arith, ◌∙◌}
use Rattle.spec_history.specs.declared.lines.Line.{Line}
use Rattle.spec_rows.specs.Callbacks.{timeout_line}
use Rattle.afs_callees.specs.Called.{call_to}
use Rattle.afs_sendings.proofs.Ways.{turned_by}
use Rattle.afs_sendings.specs.Pieces.{retries, Piece}
use Rattle.spec_volrows.specs.VolSteps.{VolTurn}
use Rattle.afs_volserv.specs.Handling.{backs_then, IsStep}
use Rattle.afs_volserv.specs.Seen.{vol_seen}
use Rattle.afs_volserv.specs.Sending.{way_before}
use Rattle.afs_volserv.proofs.Moving.{asked_put, called_node, drawn_on, knows, moved_step, timed_again}
use Rattle.afs_sharing.specs.Lasting.{lasting_of}
use Rattle.afs_volserv.proofs.server.VolServer.retry.Goals as goal

pub retried-requires-clause-callee : goal.retried-requires-clause-callee
retried-requires-clause-callee g c = called_node c.args.self.now c.args.store.now c.args.node c.args.call.now c.requires.serves c.requires.call

pub take_moves-outs-requires : goal.take_moves-outs-requires
take_moves-outs-requires g c =
    let m = c.args.self.now in
    let k = c.args.callbacks.now in
    let s = c.args.store.now in
    let p = c.in_ok-pieces.pieces in
    let e = c.in_ok-moves.moves.ended in
    let x = c.args.first.now in
    let call = c.args.call.now in
    let w = retries s.node s.durable.boot c.args.node call x (way_before m s) in
    drawn_on k s c.args.now w p e (c.in_ok-pieces.ensures.way) (omega arith) c.in_ok-moves.ensures.sent

pub returns : goal.returns
returns g c =
    let m = c.args.self.now in
    let k = c.args.callbacks.now in
    let s = c.args.store.now in
    let p = c.in_ok-pieces.pieces in
    let e = c.in_ok-moves.moves.ended in
    let x = c.args.first.now in
    let call = c.args.call.now in
    let l = c.take_moves-outs.new.callbacks in
    let u = c.take_moves-outs.new.store in
    let new = c.take_moves-outs.new.self in
    let outs = c.take_moves-outs.result in
    let w = retries s.node s.durable.boot c.args.node call x (way_before m s) in
    let made =
    moved_step m new k l s u c.args.now c.in_ok-lines.lines w p c.in_ok-moves.moves.callees.items e outs m.seats (c.in_ok-pieces.ensures.way) c.in_ok-moves.ensures.callees c.in_ok-moves.ensures.sent (omega arith) c.in_ok-pieces.ensures.to (asked_put c.args.node (Some (record call { tries = call.tries + 1 })) (call_to m.callees) (knows m s c.args.node call x c.requires.serves c.requires.call c.requires.first).all c.requires.serves.asked)
    c.take_moves-outs.ensures.callbacks c.take_moves-outs.ensures.store c.take_moves-outs.ensures.outs (c.take_moves-outs.ensures.server) c.requires.beside c.requires.serves in
    subst (λ (t : VolTurn). IsStep t m new k l s u outs) (ap (λ (ls : List Line). turned_by (lasting_of s.durable) (vol_seen m) (backs_then k s c.args.now) ls w) (c.in_ok-lines.ensures ∙ (ap (λ (y : Piece). timeout_line s.node s.durable.boot c.args.node y.number c.args.tries ∷ []) c.call.view_is ∙ ap (λ (n : ℕ). timeout_line s.node s.durable.boot c.args.node call.number n ∷ []) c.requires.tries)) ∙ timed_again m k s c.args.now c.args.node call x c.requires.call c.requires.first c.requires.again) made
