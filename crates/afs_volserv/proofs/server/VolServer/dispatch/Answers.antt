use Rattle.std.proofs.Common.{List, sym, ap, subst, ◌∙◌}
use Rattle.afs_num.specs.declared.types.Key.{Key}
use Rattle.afs_num.specs.declared.types.Node.TheVariants.{Server}
use Rattle.spec_history.specs.declared.lines.Line.{Line}
use Rattle.spec_model.specs.Calls.{started, key_of}
use Rattle.afs_callees.specs.Called.{call_to, known_to}
use Rattle.afs_sendings.proofs.Ways as ways
use Rattle.afs_sendings.proofs.Ways.{turned_by}
use Rattle.afs_sendings.specs.Pieces.{adds}
use Rattle.afs_voldecisions.specs.Verdicts.{dispatch_of}
use Rattle.spec_volrows.specs.VolSteps.{sending_of, VolTurn}
use Rattle.afs_volserv.specs.Handling.{backs_then, IsStep}
use Rattle.afs_volserv.specs.Seen.{vol_seen}
use Rattle.afs_volserv.specs.Sending.{way_before}
use Rattle.afs_volserv.proofs.Moving.{adds_asked, adds_most, adds_on, drawn_on, moved_step}
use Rattle.afs_sharing.specs.Lasting.{lasting_of}
use Rattle.afs_volserv.proofs.server.VolServer.dispatch.Goals as goal

pub take_moves-outs-requires : goal.take_moves-outs-requires
take_moves-outs-requires g c =
    let m = c.args.self.now in
    let k = c.args.callbacks.now in
    let s = c.args.store.now in
    let p = c.in_ok-pieces.pieces in
    let e = c.in_ok-moves.moves.ended in
    let x = dispatch_of c.args.dispatch in
    let head = c.args.head.now in
    let w = adds s.node s.durable.boot (Server x.server) (sending_of head x) (way_before m s) in
    drawn_on k s c.args.now w p e (c.in_ok-pieces.ensures.way) (adds_on s.node s.durable.boot (Server x.server) (sending_of head x) (way_before m s)) c.in_ok-moves.ensures.sent

pub returns : goal.returns
returns g c =
    let m = c.args.self.now in
    let k = c.args.callbacks.now in
    let s = c.args.store.now in
    let p = c.in_ok-pieces.pieces in
    let e = c.in_ok-moves.moves.ended in
    let x = dispatch_of c.args.dispatch in
    let head = c.args.head.now in
    let l = c.take_moves-outs.new.callbacks in
    let u = c.take_moves-outs.new.store in
    let new = c.take_moves-outs.new.self in
    let outs = c.take_moves-outs.result in
    let w = adds s.node s.durable.boot (Server x.server) (sending_of head x) (way_before m s) in
    let made =
    moved_step m new k l s u c.args.now c.new-lines.result w p c.in_ok-moves.moves.callees.items e outs (started (key_of head) m.seats) (c.in_ok-pieces.ensures.way) c.in_ok-moves.ensures.callees c.in_ok-moves.ensures.sent (adds_most s.node s.durable.boot (Server x.server) (sending_of head x) (way_before m s)) c.in_ok-pieces.ensures.to (adds_asked s.node s.durable.boot (Server x.server) (sending_of head x) (way_before m s) (record { head = c.requires.head; forward = c.requires.opcode }) c.requires.serves.asked)
    c.take_moves-outs.ensures.callbacks c.take_moves-outs.ensures.store c.take_moves-outs.ensures.outs (c.take_moves-outs.ensures.server ∙ (λ i. record ((c.in_ok-start_call.ensures.ok ∙ ap (λ (y : Key). record m { seats = started y m.seats }) c.key.ensures) i) { callees = c.in_ok-moves.moves.callees.items })) c.requires.beside c.requires.serves in
    subst (λ (t : VolTurn). IsStep t m new k l s u outs) (ap (λ (ls : List Line). turned_by (lasting_of s.durable) (record (vol_seen m) { seats = started (key_of head) m.seats }) (backs_then k s c.args.now) ls w) c.new-lines.ensures ∙ sym (ways.added s.node (lasting_of s.durable) (vol_seen m) (backs_then k s c.args.now) head x (call_to m.callees) (known_to m.callees))) made
