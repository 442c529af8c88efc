use Rattle.std.proofs.Common.{◌≡◌, Some, rules, List, ap, subst, arith, ◌∙◌}
use Rattle.spec_history.specs.declared.lines.Line.{Line}
use Rattle.afs_sendings.proofs.Ways.{turned_by}
use Rattle.afs_sendings.specs.Pieces.{renews}
use Rattle.afs_sendings.specs.Sendings.{first_of}
use Rattle.spec_volrows.specs.VolSteps.{VolTurn}
use Rattle.afs_volserv.specs.Handling.{backs_then, IsStep}
use Rattle.afs_volserv.specs.Seen.{vol_seen}
use Rattle.afs_volserv.specs.Sending.{way_before}
use Rattle.afs_volserv.proofs.Moving.{called_node, drawn_on, moved_step, renewed_first}
use Rattle.afs_sharing.specs.Lasting.{lasting_of}
use Rattle.afs_volserv.proofs.server.VolServer.renew.Goals as goal

pub renewed-requires-clause-callee : goal.renewed-requires-clause-callee
renewed-requires-clause-callee g c = called_node c.args.self.now c.args.store.now c.args.node c.args.call.now c.requires.serves c.requires.call

pub take_moves-outs-requires : goal.take_moves-outs-requires
take_moves-outs-requires g c =
    let m = c.args.self.now in
    let k = c.args.callbacks.now in
    let s = c.args.store.now in
    let p = c.in_ok-pieces.pieces in
    let e = c.in_ok-moves.moves.ended in
    let x = c.in-Some.first.now in
    let first : first_of c.args.call.now.content ≡ Some x = search rules in
    let w = renews s.node s.durable.boot c.args.node c.args.known c.args.call.now x (way_before m s) in
    drawn_on k s c.args.now w p e (c.in_ok-pieces.ensures.way) (omega arith) c.in_ok-moves.ensures.sent

pub returns : goal.returns
returns g c =
    let m = c.args.self.now in
    let k = c.args.callbacks.now in
    let s = c.args.store.now in
    let p = c.in_ok-pieces.pieces in
    let e = c.in_ok-moves.moves.ended in
    let x = c.in-Some.first.now in
    let first : first_of c.args.call.now.content ≡ Some x = search rules in
    let l = c.take_moves-outs.new.callbacks in
    let u = c.take_moves-outs.new.store in
    let new = c.take_moves-outs.new.self in
    let outs = c.take_moves-outs.result in
    let w = renews s.node s.durable.boot c.args.node c.args.known c.args.call.now x (way_before m s) in
    let made =
    moved_step m new k l s u c.args.now c.new-lines.result w p c.in_ok-moves.moves.callees.items e outs m.seats (c.in_ok-pieces.ensures.way) c.in_ok-moves.ensures.callees c.in_ok-moves.ensures.sent (omega arith) c.in_ok-pieces.ensures.to (c.requires.serves.asked)
    c.take_moves-outs.ensures.callbacks c.take_moves-outs.ensures.store c.take_moves-outs.ensures.outs (c.take_moves-outs.ensures.server) c.requires.beside c.requires.serves in
    subst (λ (t : VolTurn). IsStep t m new k l s u outs) (ap (λ (ls : List Line). turned_by (lasting_of s.durable) (vol_seen m) (backs_then k s c.args.now) ls w) c.new-lines.ensures ∙ renewed_first m k s c.args.now c.args.node c.args.call.now c.args.known x first) made
