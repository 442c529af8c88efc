use Rattle.std.proofs.Common.{rules}
use Rattle.std.proofs.lemmas.List.Sorted.{IsPartitionPoint-from_clause}
use Rattle.afs_locstore.specs.Indexed.{pair_below}
use Rattle.afs_locstore.proofs.Pairs.{parted, part_is_place}
use Rattle.afs_locstore.proofs.index.place.Goals as goal

pub returns-clause-value : goal.returns-clause-value
returns-clause-value g c =
    let test = pair_below g.K.Ordered.below g.K.Ordered.same c.args.mark.now c.args.number in
    part_is_place test c.args.items.now c.partition_point.result c.partition_point.ensures.bound
    (IsPartitionPoint-from_clause test c.args.items.now c.partition_point.result c.partition_point.ensures.partitioned
    (parted g.K.Ordered.below g.K.Ordered.same g.K.Ordered.ordered c.args.mark.now c.args.number c.args.items.now c.requires) (λ a r f called. search rules))
