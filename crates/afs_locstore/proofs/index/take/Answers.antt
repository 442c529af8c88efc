use Rattle.std.proofs.Common.{rules, ◌∙◌}
use Rattle.afs_locstore.proofs.Pairs.{none_taken, taken}
use Rattle.afs_locstore.proofs.index.take.Goals as goal

pub returns-then-is_at-clause-pairs : goal.returns-then-is_at-clause-pairs
returns-then-is_at-clause-pairs g c =
    c.remove.ensures.items ∙ taken g.K.Ordered.below g.K.Ordered.same g.K.Ordered.ordered c.args.mark.now c.args.number c.place-place.result c.args.items.now.items c.requires (search rules) (search rules)

pub returns-else-is_at-clause-pairs : goal.returns-else-is_at-clause-pairs
returns-else-is_at-clause-pairs g c =
    none_taken g.K.Ordered.below g.K.Ordered.same g.K.Ordered.ordered c.args.mark.now c.args.number c.place-place.result c.args.items.now.items c.requires (search rules) (search rules)
