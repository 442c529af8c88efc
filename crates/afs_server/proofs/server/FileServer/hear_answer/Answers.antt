use Rattle.std.proofs.Common.{◌≡◌, refl, ap, ◌∙◌}
use Rattle.spec_rows.specs.Callbacks as row
use Rattle.afs_callees.specs.Called.{call_to}
use Rattle.afs_server.specs.Hearing.{answered_turn, settled_turn}
use Rattle.afs_callbacks.specs.Hearing.{heard_by}
use Rattle.afs_server.specs.Seen.{backs_seen}
use Rattle.afs_server.proofs.Making.{turned_as}
use Rattle.afs_server.proofs.Heard.{settled_heard}
use Rattle.afs_server.proofs.server.FileServer.hear_answer.Goals as goal

pub returns : goal.returns
returns g c =
    let old = c.args.self.now in
    let store = c.args.store.now in
    let b = row.expired c.args.now (backs_seen old store.drawn) in
    let call = call_to old.callees c.args.head.now.from in
    let heard : c.in_ok-call.call ≡ heard_by store.node store.durable.boot c.args.head.now call = c.in_ok-call.ensures.call ∙ (λ i. heard_by (c.node.ensures i) (c.boot_number.ensures i) c.args.head.now (call_to (c.callbacks.ensures i).callees c.args.head.now.from)) in
    let turns = ap (settled_turn store.node c.args.head.now b) heard ∙ settled_heard store.node store.durable.boot c.args.head.now b call refl in
    turned_as (settled_turn store.node c.args.head.now b c.in_ok-call.call) (answered_turn store.node store.durable.boot c.args.head.now b) old c.settle_found.new.self store c.settle_found.new.store c.in_ok-outs.outs turns c.in_ok-outs.ensures
