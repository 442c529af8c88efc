use Rattle.std.proofs.Common.{Ok, sym, subst}
use Rattle.afs_num.specs.declared.volumes.Change.{Change}
use Rattle.spec_ideal.specs.Operations.{op, the_user}
use Rattle.afs_changes.specs.Changes.{Applies}
use Rattle.afs_changes.specs.Planning.{edits_seen}
use Rattle.afs_volume.specs.Giving.{volume_of}
use Rattle.afs_volume.proofs.Soundly.{volume_sound}
use Rattle.afs_changes.proofs.applying.apply_ready.Goals as goal

pub plan_within-requires-clause-sound : goal.plan_within-requires-clause-sound
plan_within-requires-clause-sound c = volume_sound c.args.volume.now.head c.args.volume.now.vnodes.table c.args.volume.now.readable c.args.volume.now.sound

pub changed_by-requires-clause-sound : goal.changed_by-requires-clause-sound
changed_by-requires-clause-sound c = volume_sound c.args.volume.now.head c.args.volume.now.vnodes.table c.args.volume.now.readable c.args.volume.now.sound

pub returns-clause-applies : goal.returns-clause-applies
returns-clause-applies c =
    let w = c.args.volume.now in
    let caller = the_user c.args.user.now in
    let made = c.in_ok-change.ensures in
    subst (λ (x : Change). Applies w caller c.args.call.now c.args.now (op w.head.id caller c.args.call.now (volume_of w)) (Ok x)) (sym c.named.ensures)
    (edits_seen c.in_ok-plan.plan.edits, (c.in_ok-plan.plan.shown, (c.in_ok-plan.ensures.plan, (made.change, (made.reply, made.kept)))))
