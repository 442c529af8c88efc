use Rattle.std.proofs.Common.{List, ◌∷◌, refl, sym, ap, subst, ◌∙◌}
use Rattle.spec_history.specs.declared.lines.Line.{Line}
use Rattle.afs_callees.specs.Called.{call_to, known_to}
use Rattle.afs_sendings.proofs.Ways as ways
use Rattle.afs_sendings.proofs.Ways.{turned_by}
use Rattle.afs_sendings.specs.Pieces.{starts}
use Rattle.afs_sendings.specs.Sendings.{rest_of}
use Rattle.spec_volrows.specs.VolSteps.{piece_gone, VolTurn}
use Rattle.afs_volserv.specs.Handling.{backs_then, IsStep}
use Rattle.afs_volserv.specs.Seen.{vol_seen}
use Rattle.afs_volserv.specs.Sending.{way_before}
use Rattle.afs_volserv.proofs.Moving.{called_node, drawn_on, knows, moved_asked, moved_step, starts_asked, starts_least, starts_most}
use Rattle.afs_sharing.specs.Lasting.{lasting_of}
use Rattle.afs_volserv.proofs.server.VolServer.go_on.Goals as goal

pub moved-requires-clause-callee : goal.moved-requires-clause-callee
moved-requires-clause-callee g c = called_node c.args.self.now c.args.store.now c.args.node c.args.call.now c.requires.serves c.requires.call

pub take_moves-outs-requires : goal.take_moves-outs-requires
take_moves-outs-requires g c =
    let m = c.args.self.now in
    let k = c.args.callbacks.now in
    let s = c.args.store.now in
    let p = c.in_ok-pieces.pieces in
    let e = c.in_ok-moves.moves.ended in
    let x = c.args.first.now in
    let xs = piece_gone x ∷ rest_of c.args.call.now.content in
    let all = knows m s c.args.node c.args.call.now x c.requires.serves c.requires.call c.requires.first in
    let w = starts s.node s.durable.boot c.args.node xs (way_before m s) in
    drawn_on k s c.args.now w p e (c.in_ok-pieces.ensures.way) (starts_least s.node s.durable.boot c.args.node xs (way_before m s)) c.in_ok-moves.ensures.sent

pub returns : goal.returns
returns g c =
    let m = c.args.self.now in
    let k = c.args.callbacks.now in
    let s = c.args.store.now in
    let p = c.in_ok-pieces.pieces in
    let e = c.in_ok-moves.moves.ended in
    let x = c.args.first.now in
    let xs = piece_gone x ∷ rest_of c.args.call.now.content in
    let all = knows m s c.args.node c.args.call.now x c.requires.serves c.requires.call c.requires.first in
    let l = c.take_moves-outs.new.callbacks in
    let u = c.take_moves-outs.new.store in
    let new = c.take_moves-outs.new.self in
    let outs = c.take_moves-outs.result in
    let w = starts s.node s.durable.boot c.args.node xs (way_before m s) in
    let made =
    moved_step m new k l s u c.args.now c.new-lines.result w p c.in_ok-moves.moves.callees.items e outs m.seats (c.in_ok-pieces.ensures.way) c.in_ok-moves.ensures.callees c.in_ok-moves.ensures.sent (starts_most s.node s.durable.boot c.args.node xs (way_before m s) s.drawn refl) c.in_ok-pieces.ensures.to (starts_asked s.node s.durable.boot c.args.node xs (way_before m s) (moved_asked x (piece_gone x).at (piece_gone x).left all.first, all.rest) c.requires.serves.asked)
    c.take_moves-outs.ensures.callbacks c.take_moves-outs.ensures.store c.take_moves-outs.ensures.outs (c.take_moves-outs.ensures.server) c.requires.beside c.requires.serves in
    subst (λ (t : VolTurn). IsStep t m new k l s u outs) (ap (λ (ls : List Line). turned_by (lasting_of s.durable) (vol_seen m) (backs_then k s c.args.now) ls w) c.new-lines.ensures ∙ sym (ways.went_on s.node (lasting_of s.durable) (vol_seen m) (backs_then k s c.args.now) c.args.node (call_to m.callees) (known_to m.callees) (rest_of c.args.call.now.content) x)) made
