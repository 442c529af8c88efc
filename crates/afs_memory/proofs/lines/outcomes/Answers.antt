use Rattle.std.proofs.Common.{◌∙◌}
use Rattle.afs_memory.proofs.lines.outcomes.Goals as goal

pub loop-place-preserved : goal.loop-place-preserved
loop-place-preserved c = record { left = c.in_ok-take_away.ensures c.args.images.now ∙ c.loop-place.invariant.left }
