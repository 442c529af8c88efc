use Rattle.std.proofs.Common.{◌≡◌, ◌≤◌, Bool, refl, ap, sym, subst}
use Rattle.std.specs.List.{All}
use Rattle.spec_breaks.specs.Promises.{expired, Lists}
use Rattle.spec_model.specs.Calls.{call_seat}
use Rattle.spec_rows.specs.Callbacks as row
use Rattle.spec_rows.specs.Callbacks.{held_under, is_seat_of, key_answered, repeats_by}
use Rattle.spec_rows.specs.States.{Backs}
use Rattle.afs_server_parts.specs.Ending.{IsPlanOf}
use Rattle.afs_server_parts.specs.declared.turns.Stand.{Stand}
use Rattle.afs_callbacks.specs.States.{backs_by, CallbackState, IsPromiseToNode}
use Rattle.afs_callbacks.proofs.Lasting.{lasting_promised}
use Rattle.afs_callbacks.proofs.Turned.{repeated_backs}
use Rattle.afs_server.specs.Answering.{repeated_turn}
use Rattle.afs_server.specs.Handling.{server_seen}
use Rattle.afs_server.specs.Seen.{backs_seen}
use Rattle.afs_server.proofs.Making.{as_planned, remembered, steps, to_nodes}
use Rattle.afs_sharing.specs.Stores.{stand_of}
use Rattle.afs_sharing.specs.Lasting.{lasting_of}
use Rattle.afs_server.proofs.server.FileServer.repeat.Goals as goal

pub plan_repeated-requires : goal.plan_repeated-requires
plan_repeated-requires g c = to_nodes c.args.store.now c.args.self.now c.stand.result c.callbacks.result.now c.stand.ensures c.callbacks.ensures c.requires.serves

pub keep_at-outs-requires : goal.keep_at-outs-requires
keep_at-outs-requires g c = subst (λ (s : Stand). s.last ≤ c.in_ok-ended.ended.last) c.stand.ensures c.in_ok-ended.ensures.drawn

pub returns : goal.returns
returns g c =
    let old = c.args.self.now in
    let store = c.args.store.now in
    let e = c.in_ok-ended.ended in
    let reply = c.args.reply in
    let b = row.expired c.args.now (backs_seen old store.drawn) in
    let held = held_under (key_answered reply) old.held in
    let turn = repeated_turn reply (lasting_of store.durable) b in
    let asked : IsPlanOf (stand_of store) (repeats_by b reply held c.is_last_change-good.result) e =
    as_planned (λ (s : Stand) (k : CallbackState). IsPlanOf s (repeats_by (backs_by k s c.args.now) reply (held_under (key_answered reply) k.held) c.is_last_change-good.result) e) store old c.stand.result c.callbacks.result.now c.stand.ensures c.callbacks.ensures c.in_ok-ended.ensures in
    let plan : IsPlanOf (stand_of store) turn e = subst (λ (t : Bool). IsPlanOf (stand_of store) (repeats_by b reply held t) e) c.is_last_change-good.ensures asked in
    let lists : expired c.args.now old.lists ≡ turn.backs.lists = ap (λ (x : Backs). x.lists) (sym (repeated_backs b reply held (is_seat_of reply (call_seat reply.head.to (lasting_of store.durable).kept)))) in
    let memory = remembered old old c.keep_at-outs.new.self (expired c.args.now old.lists) turn.backs.lists e refl lists c.keep_at-outs.ensures.server in
    steps (server_seen old store) turn.lines turn old c.keep_at-outs.new.self store c.keep_at-outs.new.store e c.keep_at-outs.result
    refl memory c.keep_at-outs.ensures.store c.keep_at-outs.ensures.outs plan c.requires.serves (subst (λ (l : Lists). All IsPromiseToNode l.promises) lists (lasting_promised c.args.now old.lists.promises c.requires.serves.promises))
