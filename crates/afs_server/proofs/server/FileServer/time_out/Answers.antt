use Rattle.std.proofs.Common.{◌≡◌, ◌≤◌, refl, ap, sym, subst, ◌∙◌}
use Rattle.std.specs.List.{All}
use Rattle.spec_breaks.specs.Promises.{expired, Lists}
use Rattle.spec_rows.specs.Callbacks as row
use Rattle.spec_rows.specs.Callbacks.{call_timed_out}
use Rattle.afs_server_parts.specs.Ending.{IsPlanOf}
use Rattle.afs_server_parts.specs.declared.turns.Stand.{Stand}
use Rattle.afs_callbacks.specs.States.{backs_by, CallbackState, IsPromiseToNode}
use Rattle.afs_callbacks.specs.Waiting.{lists_timed}
use Rattle.afs_callbacks.proofs.Lasting.{lasting_promised, timed_promised}
use Rattle.afs_callbacks.proofs.Timed.{timed_lists}
use Rattle.afs_server.specs.Handling.{server_seen}
use Rattle.afs_server.specs.Seen.{backs_seen, Memory}
use Rattle.afs_server.proofs.Making.{as_planned, remembered, steps, to_nodes}
use Rattle.afs_sharing.specs.Stores.{stand_of}
use Rattle.afs_server.proofs.server.FileServer.time_out.Goals as goal

pub plan_timeout-requires-clause-nodes : goal.plan_timeout-requires-clause-nodes
plan_timeout-requires-clause-nodes g c = to_nodes c.args.store.now c.args.self.now c.stand.result c.callbacks.result.now c.stand.ensures c.callbacks.ensures c.requires.serves

pub keep-outs-requires : goal.keep-outs-requires
keep-outs-requires g c = subst (λ (s : Stand). s.last ≤ c.in_ok-ended.ended.last) c.stand.ensures c.in_ok-ended.ensures.drawn

pub returns : goal.returns
returns g c =
    let old = c.args.self.now in
    let store = c.args.store.now in
    let e = c.in_ok-ended.ended in
    let call = c.args.call.now in
    let lasting = expired c.args.now old.lists in
    let turn = call_timed_out store.node store.durable.boot c.args.callee call (row.expired c.args.now (backs_seen old store.drawn)) in
    let lists : lists_timed call lasting ≡ turn.backs.lists = sym (timed_lists store.node store.durable.boot c.args.callee call (row.expired c.args.now (backs_seen old store.drawn))) in
    let left : c.time_out.new.self.lists ≡ lists_timed call lasting = ap (λ (k : CallbackState). k.lists) c.time_out.ensures ∙ ap (λ (m : Memory). lists_timed call (expired c.args.now m.lists)) c.self.view_is in
    let memory = remembered _ old c.keep-outs.new.self c.time_out.new.self.lists turn.backs.lists e c.self.view_is (left ∙ lists) c.keep-outs.ensures.server in
    let plan : IsPlanOf (stand_of store) turn e =
    as_planned (λ (s : Stand) (k : CallbackState). IsPlanOf s (call_timed_out s.node s.boot c.args.callee call (backs_by k s c.args.now)) e) store old c.stand.result c.callbacks.result.now c.stand.ensures c.callbacks.ensures c.in_ok-ended.ensures in
    steps (server_seen old store) turn.lines turn old c.keep-outs.new.self store c.keep-outs.new.store e c.keep-outs.result
    refl memory c.keep-outs.ensures.store c.keep-outs.ensures.outs plan c.requires.serves
    (subst (λ (l : Lists). All IsPromiseToNode l.promises) lists (timed_promised call lasting (lasting_promised c.args.now old.lists.promises c.requires.serves.promises)))
