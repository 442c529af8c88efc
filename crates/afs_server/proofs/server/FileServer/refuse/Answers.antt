use Rattle.std.proofs.Common.{◌≡◌, ◌≤◌, [], false, refl, ap, subst, to_z-of_z, ◌∙◌}
use Rattle.std.specs.Prelude.{ℤ}
use Rattle.spec_breaks.specs.Promises.{expired}
use Rattle.spec_model.specs.Calls.{call_seated}
use Rattle.spec_rows.specs.ServerRow.{keeps, refusal, seat_for}
use Rattle.afs_server_parts.specs.declared.turns.Stand.{Stand}
use Rattle.afs_server_parts.specs.Turning.{answer_turn}
use Rattle.afs_callbacks.specs.Answering.{with_lists, IsRepliedNow}
use Rattle.afs_callbacks.specs.States.{CallbackState}
use Rattle.afs_callbacks.proofs.Lasting.{lasting_promised}
use Rattle.afs_callbacks.proofs.Planned.{answer_drawn}
use Rattle.afs_server.specs.Handling.{server_seen}
use Rattle.afs_server.specs.Seen.{backs_seen, callbacks_of, Memory}
use Rattle.afs_server.proofs.Making.{as_planned, replied_in, steps, to_nodes}
use Rattle.afs_sharing.specs.Stores.{stand_of}
use Rattle.afs_server.proofs.server.FileServer.refuse.Goals as goal

pub plan_refused-requires-clause-nodes : goal.plan_refused-requires-clause-nodes
plan_refused-requires-clause-nodes g c = to_nodes c.args.store.now c.args.self.now c.stand.result c.callbacks.result.now c.stand.ensures c.callbacks.ensures c.requires.serves

pub keep_answer-requires-clause-spelling : goal.keep_answer-requires-clause-spelling
keep_answer-requires-clause-spelling g c = (_, c.in_ok-replied.ensures.kept)

pub keep_at-outs-requires : goal.keep_at-outs-requires
keep_at-outs-requires g c = subst (λ (s : Stand). s.last ≤ c.in_ok-replied.replied.ended.last) c.stand.ensures (answer_drawn _ _ _ _ _ _ _ _ c.in_ok-replied.ensures)

pub returns : goal.returns
returns g c =
    let old = c.args.self.now in
    let store = c.args.store.now in
    let head = c.args.head.now in
    let e = c.in_ok-replied.replied.ended in
    let bytes = c.in_ok-replied.replied.kept in
    let answer = refusal store.durable.boot head c.args.code in
    let lists = expired c.args.now old.lists in
    let turn = answer_turn answer [] false (with_lists lists (backs_seen old store.drawn)) in
    let state = keeps head answer (server_seen old store) in
    let refused =
    subst (λ (z : ℤ). IsRepliedNow c.stand.result c.callbacks.result.now c.args.now (refusal c.stand.result.boot head z) [] e bytes) (to_z-of_z c.ranges.code) c.in_ok-replied.ensures in
    let replied : IsRepliedNow (stand_of store) (callbacks_of old) c.args.now answer [] e bytes =
    as_planned (λ (s : Stand) (k : CallbackState). IsRepliedNow s k c.args.now (refusal s.boot head c.args.code) [] e bytes) store old c.stand.result c.callbacks.result.now c.stand.ensures c.callbacks.ensures refused in
    let seats : c.keep_answer.new.callers.seats ≡ state.seats = c.in_ok-keep_answer.ensures.seats answer replied.kept ∙ ap (λ (m : Memory). call_seated (seat_for head answer) m.seats) c.self.view_is in
    let memory = replied_in old c.keep_at-outs.new.self c.keep_answer.new.callers.boot c.keep_answer.new.callers.seats state.seats (expired c.args.now c.self.inside.callbacks.lists) lists e
    (c.in_ok-keep_answer.ensures.boot ∙ ap (λ (m : Memory). m.boot) c.self.view_is) seats (ap (λ (m : Memory). expired c.args.now m.lists) c.self.view_is) c.keep_at-outs.ensures.server in
    steps state [] turn old c.keep_at-outs.new.self store c.keep_at-outs.new.store e c.keep_at-outs.result
    refl memory c.keep_at-outs.ensures.store c.keep_at-outs.ensures.outs (replied.answer lists refl) c.requires.serves (lasting_promised c.args.now old.lists.promises c.requires.serves.promises)
