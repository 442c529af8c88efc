use Rattle.std.proofs.Common.{rules}
use Rattle.afs_locstore.proofs.Pairs.{less_ascends}
use Rattle.afs_locstore.proofs.index.Index.take.Goals as goal

pub invariant_of-self : goal.invariant_of-self
invariant_of-self g c = search (rules, less_ascends g.K.Ordered.below g.K.Ordered.same g.K.Ordered.ordered c.args.mark.now c.args.number)
