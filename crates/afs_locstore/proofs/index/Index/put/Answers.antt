use Rattle.std.proofs.Common.{rules}
use Rattle.afs_locstore.proofs.Pairs.{still_ascends}
use Rattle.afs_locstore.proofs.index.Index.put.Goals as goal

pub invariant_of-self-2 : goal.invariant_of-self-2
invariant_of-self-2 g c = search (rules, still_ascends g.K.Ordered.below g.K.Ordered.same g.K.Ordered.ordered c.args.mark c.args.number)
