use Rattle.std.proofs.Common.{◌≡◌, Option, refl, ap, sym, subst, ◌∙◌}
use Rattle.spec_rows.specs.Callbacks as row
use Rattle.spec_rows.specs.States.{BackCall}
use Rattle.afs_callees.specs.Called.{call_to, IsGoodOrNone}
use Rattle.afs_callbacks.specs.Hearing.{heard_by}
use Rattle.afs_server.specs.Hearing.{noticed_turn, renewed_turn}
use Rattle.afs_server.specs.Seen.{backs_seen}
use Rattle.afs_server.proofs.Making.{turned_as}
use Rattle.afs_server.proofs.Heard.{heard_good, renewed_heard}
use Rattle.afs_server.proofs.server.FileServer.hear_notice.Goals as goal

pub renew_found-requires-clause-good : goal.renew_found-requires-clause-good
renew_found-requires-clause-good g c =
    let store = c.args.store.now in
    let head = c.args.head.now in
    let call = call_to c.args.self.now.callees head.from in
    let heard : c.in_ok-call.call ≡ heard_by store.node store.durable.boot head call = c.in_ok-call.ensures.call ∙ (λ i. heard_by (c.node.ensures i) (c.boot_number.ensures i) head (call_to (c.callbacks.ensures i).callees head.from)) in
    subst (λ (o : Option BackCall). IsGoodOrNone head.from o) (sym heard) (heard_good store.node store.durable.boot head call (c.requires.serves.calls head.from))

pub returns : goal.returns
returns g c =
    let old = c.args.self.now in
    let store = c.args.store.now in
    let b = row.expired c.args.now (backs_seen old store.drawn) in
    let call = call_to old.callees c.args.head.now.from in
    let heard : c.in_ok-call.call ≡ heard_by store.node store.durable.boot c.args.head.now call = c.in_ok-call.ensures.call ∙ (λ i. heard_by (c.node.ensures i) (c.boot_number.ensures i) c.args.head.now (call_to (c.callbacks.ensures i).callees c.args.head.now.from)) in
    let turns = ap (renewed_turn store.node store.durable.boot c.args.head.now b) heard ∙ renewed_heard store.node store.durable.boot c.args.head.now b call refl in
    turned_as (renewed_turn store.node store.durable.boot c.args.head.now b c.in_ok-call.call) (noticed_turn store.node store.durable.boot c.args.head.now b) old c.renew_found.new.self store c.renew_found.new.store c.in_ok-outs.outs turns c.in_ok-outs.ensures
