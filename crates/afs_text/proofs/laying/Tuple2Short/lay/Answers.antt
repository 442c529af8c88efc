use Rattle.std.proofs.Common.{arith, length-append}
use Rattle.afs_text.proofs.Placed.{placed_both}
use Rattle.afs_text.proofs.laying.Tuple2Short.lay.Goals as goal

pub returns-clause-laid : goal.returns-clause-laid
returns-clause-laid g c = placed_both _ _ _ _ _ _ _ _ c.lay-behind.ensures.laid c.lay.ensures.laid
