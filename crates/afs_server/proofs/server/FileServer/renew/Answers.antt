use Rattle.std.proofs.Common.{◌≤◌, [], refl, subst}
use Rattle.spec_rows.specs.Callbacks as row
use Rattle.spec_rows.specs.Callbacks.{renews}
use Rattle.afs_server_parts.specs.Ending.{IsPlanOf}
use Rattle.afs_server_parts.specs.declared.turns.Stand.{Stand}
use Rattle.afs_callbacks.specs.States.{backs_by, CallbackState}
use Rattle.afs_callbacks.proofs.Lasting.{lasting_promised}
use Rattle.afs_server.specs.Handling.{server_seen}
use Rattle.afs_server.specs.Seen.{backs_seen}
use Rattle.afs_server.proofs.Making.{as_planned, steps, to_nodes}
use Rattle.afs_sharing.specs.Stores.{stand_of}
use Rattle.afs_server.proofs.server.FileServer.renew.Goals as goal

pub plan_renewed-requires-clause-nodes : goal.plan_renewed-requires-clause-nodes
plan_renewed-requires-clause-nodes g c = to_nodes c.args.store.now c.args.self.now c.stand.result c.callbacks.result.now c.stand.ensures c.callbacks.ensures c.requires.serves

pub keep_at-outs-requires : goal.keep_at-outs-requires
keep_at-outs-requires g c = subst (λ (s : Stand). s.last ≤ c.in_ok-ended.ended.last) c.stand.ensures c.in_ok-ended.ensures.drawn

pub returns : goal.returns
returns g c =
    let old = c.args.self.now in
    let store = c.args.store.now in
    let e = c.in_ok-ended.ended in
    let turn = renews store.node store.durable.boot c.args.node c.args.known c.args.call.now (row.expired c.args.now (backs_seen old store.drawn)) in
    let plan : IsPlanOf (stand_of store) turn e =
    as_planned (λ (s : Stand) (k : CallbackState). IsPlanOf s (renews s.node s.boot c.args.node c.args.known c.args.call.now (backs_by k s c.args.now)) e) store old c.stand.result c.callbacks.result.now c.stand.ensures c.callbacks.ensures c.in_ok-ended.ensures in
    steps (server_seen old store) [] turn old c.keep_at-outs.new.self store c.keep_at-outs.new.store e c.keep_at-outs.result
    refl c.keep_at-outs.ensures.server c.keep_at-outs.ensures.store c.keep_at-outs.ensures.outs plan c.requires.serves (lasting_promised c.args.now old.lists.promises c.requires.serves.promises)
