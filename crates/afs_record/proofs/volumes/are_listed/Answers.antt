use Rattle.std.proofs.Common.{rules}
use Rattle.afs_record.proofs.Loops.{none_listed}
use Rattle.afs_record.proofs.volumes.are_listed.Goals as goal

pub returns-in-None : goal.returns-in-None
returns-in-None c = none_listed c.args.pairs.now c.args.vnodes.now c.loop-pair.rest.now c.loop-pair.pair-index c.loop-pair-test.true (search rules) c.loop-pair.invariant.same
