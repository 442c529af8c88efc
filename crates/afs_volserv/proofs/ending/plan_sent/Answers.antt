use Rattle.std.proofs.Common.{[], sym, subst}
use Rattle.std.proofs.lemmas.List.{append-nil}
use Rattle.spec_breaks.specs.Promises.{expired, lasting_breaks}
use Rattle.afs_server_parts.specs.Ending.{IsPlan}
use Rattle.afs_server_parts.specs.Turning.{sent_turns}
use Rattle.afs_server_parts.specs.declared.turns.Stand.{Stand}
use Rattle.afs_volserv.specs.Handling.{backs_then}
use Rattle.afs_volserv.proofs.ending.plan_sent.Goals as goal

pub returns : goal.returns
returns g c =
    let k = c.args.callbacks.now in
    let s = c.args.store.now in
    subst (λ (x : Stand). IsPlan x (sent_turns c.args.sent (record (backs_then k s c.args.now) { last_call = x.last })) [] c.in_ok-ended.ended) c.stand_at-stand.ensures
    (c.in_ok-ended.ensures (expired c.args.now k.lists) (sym (append-nil (lasting_breaks c.args.now k.lists.owed))))
