use Rattle.std.proofs.Common.{rules}
use Rattle.std.proofs.lemmas.List.Sorted.{IsPartitionPoint-from_clause}
use Rattle.std.specs.Prelude.{nat_lt}
use Rattle.afs_seats.proofs.Places.{parted, part_is_place}
use Rattle.afs_seats.proofs.seats.place.Goals as goal

pub returns-clause-value : goal.returns-clause-value
returns-clause-value g c =
    part_is_place c.args.number c.args.items.now c.partition_point.result c.partition_point.ensures.bound
    (IsPartitionPoint-from_clause (λ p. nat_lt p.0 c.args.number) c.args.items.now c.partition_point.result c.partition_point.ensures.partitioned (parted c.args.number c.args.items.now c.requires) (λ a r f called. search rules))
