use Rattle.std.proofs.Common.{rules}
use Rattle.std.proofs.lemmas.List.Sorted.{IsPartitionPoint-from_clause}
use Rattle.std.specs.Prelude.{nat_lt}
use Rattle.afs_vnode.proofs.Places.{parted, part_is_place}
use Rattle.afs_vnode.proofs.sorted.place.Goals as goal

pub returns-clause-value : goal.returns-clause-value
returns-clause-value c =
    part_is_place c.args.number c.args.vnodes.now c.partition_point.result c.partition_point.ensures.bound
    (IsPartitionPoint-from_clause (λ v. nat_lt v.vnode c.args.number) c.args.vnodes.now c.partition_point.result c.partition_point.ensures.partitioned (parted c.args.number c.args.vnodes.now c.requires) (λ a r f called. search rules))
