use Rattle.std.proofs.Common.{sym, subst, arith}
use Rattle.std.proofs.lemmas.List.{length-map}
use Rattle.spec_ideal.specs.Operations as ops
use Rattle.spec_ideal.proofs.Proper.{planned_change}
use Rattle.afs_reads.specs.Replying.{caller_seen}
use Rattle.afs_changes.specs.Planning.{edit_seen, edits_seen, Plans}
use Rattle.afs_volume.specs.Giving.{volume_of}
use Rattle.afs_changes.proofs.Planned.{op_limited}
use Rattle.afs_changes.proofs.planning.plan_within.Goals as goal

pub within_limits-requires-clause-apart : goal.within_limits-requires-clause-apart
within_limits-requires-clause-apart c = (planned_change c.args.volume.now.head.id (caller_seen c.args.caller.now) c.args.call.now (volume_of c.args.volume.now) (edits_seen c.in_ok-plan.plan.edits) c.in_ok-plan.plan.shown c.requires.sound c.requires.on c.in_ok-plan.ensures).apart

pub within_limits-requires-clause-few : goal.within_limits-requires-clause-few
within_limits-requires-clause-few c =
    let few = (planned_change c.args.volume.now.head.id (caller_seen c.args.caller.now) c.args.call.now (volume_of c.args.volume.now) (edits_seen c.in_ok-plan.plan.edits) c.in_ok-plan.plan.shown c.requires.sound c.requires.on c.in_ok-plan.ensures).few in
    let long = length-map c.in_ok-plan.plan.edits edit_seen in
    omega (arith, few, long)

pub returns-clause-plan : goal.returns-clause-plan
returns-clause-plan c = subst (λ (r : ops.Result). Plans r c.within_limits.result) (sym (op_limited c.args.volume.now.head.id (caller_seen c.args.caller.now) c.args.call.now (volume_of c.args.volume.now) (edits_seen c.in_ok-plan.plan.edits) c.in_ok-plan.plan.shown c.in_ok-plan.ensures)) c.within_limits.ensures.plan
