use Rattle.std.proofs.Common.{List, ap, ◌∙◌}
use Rattle.spec_rows.specs.Callbacks.{put_at}
use Rattle.afs_callees.specs.Called.{known_to, Callee}
use Rattle.afs_callees.proofs.Calls.{put_again}
use Rattle.afs_callees.proofs.callees.set_call.Goals as goal

pub returns-clause-known : goal.returns-clause-known
returns-clause-known g c =
    let told = c.known-known.ensures ∙ ap (λ (cs : List (Callee g.row.C.Denot)). known_to cs c.args.node) c.deref.ensures.value in
    c.put_callee.ensures.known
    ∙ (ap (λ (cs : List (Callee g.row.C.Denot)). put_at c.args.node c.known-known.result (known_to cs)) c.make_room.ensures.same
    ∙ put_again c.args.node c.known-known.result (known_to c.args.callees.now.items) told)
