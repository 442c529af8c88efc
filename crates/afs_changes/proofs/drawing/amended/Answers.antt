use Rattle.std.proofs.Common.{◌∙◌}
use Rattle.afs_changes.proofs.Amended.{amended_seen}
use Rattle.afs_changes.proofs.drawing.amended.Goals as goal

pub returns-clause-seen : goal.returns-clause-seen
returns-clause-seen c = c.with_status.ensures.seen ∙ amended_seen c.args.counter c.args.now c.args.amend.now c.args.x.now c.in_ok-after.after c.in_ok-after.ensures c.requires.own
