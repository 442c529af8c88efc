use Rattle.std.proofs.Common.{[], rules}
use Rattle.std.proofs.lemmas.List.Sorted.{IsPartitionPoint-from_clause}
use Rattle.spec_ideal.specs.Directories.{bytes_below}
use Rattle.afs_dir.proofs.Finding.{parted, place_is}
use Rattle.afs_dir.proofs.places.place_of.Goals as goal

pub returns : goal.returns
returns c =
    let point = IsPartitionPoint-from_clause (λ n. bytes_below n.name c.args.name.now) _ _ c.partition_point.ensures.partitioned (parted c.args.name.now [] _ c.requires.ordered) (λ a r q k. search rules) in
    place_is c.args.name.now c.args.names.now c.partition_point.result c.partition_point.ensures.bound point
