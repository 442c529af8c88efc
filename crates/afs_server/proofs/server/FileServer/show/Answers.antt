use Rattle.std.proofs.Common.{◌≡◌, ◌≤◌, ◌+◌, List, [], false, map, arith, ap, sym, subst, refl, lt-ltb, ◌∙◌}
use Rattle.afs_num.specs.declared.messages.Message.{Message}
use Rattle.spec_history.specs.declared.lines.Line.{Line}
use Rattle.spec_breaks.specs.Promises.{expired, grants_all}
use Rattle.spec_model.specs.Calls.{call_seated}
use Rattle.spec_rows.specs.Callbacks.{fids_found, gives_up_all, grants_found}
use Rattle.spec_rows.specs.ServerRow.{granted, keeps, read_reply_to, seat_for}
use Rattle.afs_server_parts.specs.Ending.{IsPlan}
use Rattle.afs_callees.specs.Telling.{grant_line}
use Rattle.afs_callees.specs.declared.telling.Grant.{Grant}
use Rattle.afs_server_parts.specs.declared.turns.Stand.{Stand}
use Rattle.afs_server_parts.specs.Turning.{answer_turn}
use Rattle.afs_callbacks.specs.Answering.{reply_told, with_lists, IsRepliedNow}
use Rattle.afs_callbacks.specs.States.{CallbackState}
use Rattle.afs_callbacks.proofs.Granting.{given_up_owed, given_up_to_nodes, granted_to_nodes, shown_lines, shown_lists}
use Rattle.afs_callbacks.proofs.Lasting.{lasting_promised}
use Rattle.afs_callbacks.proofs.Planned.{answer_drawn}
use Rattle.afs_server.specs.Handling.{server_seen}
use Rattle.afs_server.specs.Seen.{backs_seen, callbacks_of, Memory}
use Rattle.afs_server.proofs.Making.{as_planned, replied_in, steps, to_nodes}
use Rattle.afs_sharing.specs.Stores.{stand_of}
use Rattle.afs_server.proofs.server.FileServer.show.Goals as goal

pub plan_shown-requires-clause-nodes : goal.plan_shown-requires-clause-nodes
plan_shown-requires-clause-nodes g c = to_nodes c.args.store.now c.args.self.now c.stand.result c.callbacks.result.now c.stand.ensures c.callbacks.ensures c.requires.serves

pub keep_granted-requires-clause-spelling : goal.keep_granted-requires-clause-spelling
keep_granted-requires-clause-spelling g c = (_, c.in_ok-replied.ensures.kept)

pub keep_at-outs-requires : goal.keep_at-outs-requires
keep_at-outs-requires g c = subst (λ (s : Stand). s.last ≤ c.in_ok-replied.replied.ended.last) c.stand.ensures (answer_drawn _ _ _ _ _ _ _ _ c.in_ok-replied.ensures)

pub returns : goal.returns
returns g c r is =
    let old = c.args.self.now in
    let store = c.args.store.now in
    let head = c.args.head.now in
    let grants = c.args.grants.now in
    let expiry = c.args.now + 7200 in
    let e = c.in_ok-replied.replied.ended in
    let bytes = c.in_ok-replied.replied.kept in
    let answer = read_reply_to store.durable.boot head expiry r in
    let same : reply_told store.durable.boot head expiry c.args.told ≡ answer = ap (reply_told store.durable.boot head expiry) (sym is.reply_is) in
    let lasting = expired c.args.now old.lists in
    let left = gives_up_all head.from r.given_up lasting in
    let lists = grants_found head.from expiry r.granted left in
    let fids = map (λ (g : Grant). g.fid) grants in
    let turn = answer_turn answer [] false (with_lists lists (backs_seen old store.drawn)) in
    let state = keeps head answer (server_seen old store) in
    let shown : IsRepliedNow (stand_of store) (callbacks_of old) c.args.now (reply_told store.durable.boot head expiry c.args.told) (map (grant_line store.node head.from expiry) grants) e bytes =
    as_planned (λ (s : Stand) (k : CallbackState). IsRepliedNow s k c.args.now (reply_told s.boot head expiry c.args.told) (map (grant_line s.node head.from expiry) grants) e bytes) store old c.stand.result c.callbacks.result.now c.stand.ensures c.callbacks.ensures c.in_ok-replied.ensures in
    let replied = subst (λ (m : Message). IsRepliedNow (stand_of store) (callbacks_of old) c.args.now m (map (grant_line store.node head.from expiry) grants) e bytes) same shown in
    let seats : c.keep_granted.new.callers.seats ≡ state.seats = c.in_ok-keep_granted.ensures.seats answer replied.kept ∙ ap (λ (m : Memory). call_seated (seat_for head answer) m.seats) c.self.view_is in
    let given : expired c.args.now c.keep_granted.new.callbacks.lists ≡ lists =
    ap (expired c.args.now) (ap (λ (k : CallbackState). k.lists) c.in_ok-keep_granted.ensures.granted ∙ ap (λ (m : Memory). grants_all head.from expiry fids m.lists) c.self.view_is)
    ∙ shown_lists c.args.now head.from expiry grants r old.lists is.grants_are is.nothing (lt-ltb c.args.now expiry (omega arith)) in
    let memory = replied_in old c.keep_at-outs.new.self c.keep_granted.new.callers.boot c.keep_granted.new.callers.seats state.seats (expired c.args.now c.keep_granted.new.callbacks.lists) lists e
    (c.in_ok-keep_granted.ensures.boot ∙ ap (λ (m : Memory). m.boot) c.self.view_is) seats given c.keep_at-outs.ensures.server in
    let plan = subst (λ (ls : List Line). IsPlan (stand_of store) turn ls e) (shown_lines store.node head.from expiry grants r.granted is.grants_are) (replied.answer lists (given_up_owed head.from r.given_up lasting)) in
    steps state (granted store.node head.from expiry r.granted []) turn old c.keep_at-outs.new.self store c.keep_at-outs.new.store e c.keep_at-outs.result
    refl memory c.keep_at-outs.ensures.store c.keep_at-outs.ensures.outs plan c.requires.serves
    (granted_to_nodes head.from expiry (fids_found r.granted) left c.requires.told.sound.0 (given_up_to_nodes head.from r.given_up lasting (lasting_promised c.args.now old.lists.promises c.requires.serves.promises)))
