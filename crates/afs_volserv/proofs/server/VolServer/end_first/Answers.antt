use Rattle.std.proofs.Common.{◌≡◌, refl, sym, ap, subst, to_z-of_z, ◌∙◌}
use Rattle.std.specs.Prelude.{ℤ}
use Rattle.afs_num.specs.declared.messages.Message.{Message}
use Rattle.spec_model.specs.Calls.{finished, key_of}
use Rattle.afs_callees.specs.Called.{call_to, known_to}
use Rattle.afs_sendings.proofs.Ways as ways
use Rattle.afs_sendings.proofs.Ways.{turned_by}
use Rattle.afs_sendings.specs.Pieces.{ends, sends}
use Rattle.afs_sendings.specs.Sendings.{rest_of}
use Rattle.spec_volrows.specs.VolSteps.{forward_reply, VolTurn}
use Rattle.afs_volserv.specs.Handling.{backs_then, IsStep}
use Rattle.afs_volserv.specs.Seen.{vol_seen}
use Rattle.afs_volserv.specs.Sending.{way_before}
use Rattle.afs_volserv.proofs.Moving.{called_node, drawn_on, knows, moved_step, starts_asked, starts_least, starts_most}
use Rattle.afs_sharing.specs.Lasting.{lasting_of}
use Rattle.afs_volserv.proofs.server.VolServer.end_first.Goals as goal

pub ended-requires-clause-callee : goal.ended-requires-clause-callee
ended-requires-clause-callee g c = called_node c.args.self.now c.args.store.now c.args.node c.args.call.now c.requires.serves c.requires.call

pub take_moves-outs-requires : goal.take_moves-outs-requires
take_moves-outs-requires g c =
    let m = c.args.self.now in
    let k = c.args.callbacks.now in
    let s = c.args.store.now in
    let p = c.in_ok-pieces.pieces in
    let e = c.in_ok-moves.moves.ended in
    let x = c.args.first.now in
    let reply = forward_reply s.durable.boot x.head c.args.code in
    let rest = rest_of c.args.call.now.content in
    let told : c.in_ok-reply.reply ≡ reply = c.in_ok-reply.ensures ∙ ap (λ (z : ℤ). forward_reply s.durable.boot x.head z) (to_z-of_z c.ranges.code) in
    let w = ends s.node s.durable.boot c.args.node rest reply (way_before m s) in
    drawn_on k s c.args.now w p e (c.in_ok-pieces.ensures.way ∙ ap (λ (r : Message). ends s.node s.durable.boot c.args.node rest r (way_before m s)) told) (starts_least s.node s.durable.boot c.args.node rest (sends reply (way_before m s))) c.in_ok-moves.ensures.sent

pub returns : goal.returns
returns g c =
    let m = c.args.self.now in
    let k = c.args.callbacks.now in
    let s = c.args.store.now in
    let p = c.in_ok-pieces.pieces in
    let e = c.in_ok-moves.moves.ended in
    let x = c.args.first.now in
    let reply = forward_reply s.durable.boot x.head c.args.code in
    let rest = rest_of c.args.call.now.content in
    let told : c.in_ok-reply.reply ≡ reply = c.in_ok-reply.ensures ∙ ap (λ (z : ℤ). forward_reply s.durable.boot x.head z) (to_z-of_z c.ranges.code) in
    let l = c.take_moves-outs.new.callbacks in
    let u = c.take_moves-outs.new.store in
    let new = c.take_moves-outs.new.self in
    let outs = c.take_moves-outs.result in
    let w = ends s.node s.durable.boot c.args.node rest reply (way_before m s) in
    let made =
    moved_step m new k l s u c.args.now c.args.lines w p c.in_ok-moves.moves.callees.items e outs (finished (key_of x.head) reply m.seats) (c.in_ok-pieces.ensures.way ∙ ap (λ (r : Message). ends s.node s.durable.boot c.args.node rest r (way_before m s)) told) c.in_ok-moves.ensures.callees c.in_ok-moves.ensures.sent (starts_most s.node s.durable.boot c.args.node rest (sends reply (way_before m s)) s.drawn refl) c.in_ok-pieces.ensures.to (starts_asked s.node s.durable.boot c.args.node rest (sends reply (way_before m s)) (knows m s c.args.node c.args.call.now x c.requires.serves c.requires.call c.requires.first).rest c.requires.serves.asked)
    c.take_moves-outs.ensures.callbacks c.take_moves-outs.ensures.store c.take_moves-outs.ensures.outs (c.take_moves-outs.ensures.server ∙ (λ i. record ((c.finish_call.ensures ∙ (λ j. record m { seats = finished ((c.key.ensures ∙ ap key_of c.head.ensures) j) (told j) m.seats })) i) { callees = c.in_ok-moves.moves.callees.items })) c.requires.beside c.requires.serves in
    subst (λ (t : VolTurn). IsStep t m new k l s u outs) (sym (ways.ended s.node (lasting_of s.durable) (vol_seen m) (backs_then k s c.args.now) c.args.lines c.args.node (call_to m.callees) (known_to m.callees) rest x c.args.code)) made
