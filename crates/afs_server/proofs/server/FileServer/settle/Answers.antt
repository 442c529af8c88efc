use Rattle.std.proofs.Common.{◌≡◌, ◌≤◌, List, refl, ap, subst, ◌∙◌}
use Rattle.spec_breaks.specs.Promises.{expired}
use Rattle.spec_breaks.specs.declared.types.OwedBreak.{OwedBreak}
use Rattle.spec_rows.specs.Callbacks as row
use Rattle.spec_rows.specs.Callbacks.{ends_all, settles}
use Rattle.spec_rows.specs.States.{BackCall}
use Rattle.afs_server_parts.specs.Ending.{IsPlanOf}
use Rattle.afs_server_parts.specs.declared.turns.Stand.{Stand}
use Rattle.afs_callbacks.specs.States.{backs_by, CallbackState}
use Rattle.afs_callbacks.proofs.Lasting.{ended_promised, lasting_promised}
use Rattle.afs_server.specs.Handling.{server_seen}
use Rattle.afs_server.specs.Seen.{backs_seen, Memory}
use Rattle.afs_server.proofs.Making.{as_planned, remembered, steps, to_nodes}
use Rattle.afs_sharing.specs.Stores.{stand_of}
use Rattle.afs_server.proofs.server.FileServer.settle.Goals as goal

pub plan_settled-requires : goal.plan_settled-requires
plan_settled-requires g c = to_nodes c.args.store.now c.args.self.now c.stand.result c.callbacks.result.now c.stand.ensures c.callbacks.ensures c.requires.serves

pub keep-outs-requires : goal.keep-outs-requires
keep-outs-requires g c = subst (λ (s : Stand). s.last ≤ c.in_ok-ended.ended.last) c.stand.ensures c.in_ok-ended.ensures.drawn

pub returns : goal.returns
returns g c =
    let old = c.args.self.now in
    let store = c.args.store.now in
    let e = c.in_ok-ended.ended in
    let call = c.args.call.now in
    let lasting = expired c.args.now old.lists in
    let lists = ends_all call.content lasting in
    let turn = settles store.node c.args.node call (row.expired c.args.now (backs_seen old store.drawn)) in
    let left : c.settle.new.self.lists ≡ lists =
    ap (λ (k : CallbackState). k.lists) c.settle.ensures
    ∙ (ap (λ (os : List OwedBreak). ends_all os (expired c.args.now c.self.inside.callbacks.lists)) (c.as_slice.ensures ∙ ap (λ (k : BackCall). k.content) c.call.view_is)
    ∙ ap (λ (m : Memory). ends_all call.content (expired c.args.now m.lists)) c.self.view_is) in
    let memory = remembered _ old c.keep-outs.new.self c.settle.new.self.lists lists e c.self.view_is left c.keep-outs.ensures.server in
    let plan : IsPlanOf (stand_of store) turn e =
    as_planned (λ (s : Stand) (k : CallbackState). IsPlanOf s (settles s.node c.args.node call (backs_by k s c.args.now)) e) store old c.stand.result c.callbacks.result.now c.stand.ensures c.callbacks.ensures c.in_ok-ended.ensures in
    steps (server_seen old store) turn.lines turn old c.keep-outs.new.self store c.keep-outs.new.store e c.keep-outs.result
    refl memory c.keep-outs.ensures.store c.keep-outs.ensures.outs plan c.requires.serves (ended_promised call.content lasting (lasting_promised c.args.now old.lists.promises c.requires.serves.promises))
