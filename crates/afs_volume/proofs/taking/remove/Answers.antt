use Rattle.std.proofs.Common.{◌≡◌, ◌+◌, nat_eq, arith}
use Rattle.indexmap.specs.IndexMap as maps
use Rattle.spec_ideal.specs.Volumes.{blocks_in}
use Rattle.afs_volume.specs.Seen.{all_seen}
use Rattle.afs_volume.proofs.Listing.{listed_unset}
use Rattle.afs_volume.proofs.Taken.{left_counted, left_readable}
use Rattle.afs_volume.proofs.taking.remove.Goals as goal

sum : (c : goal.After-from) → blocks_in (all_seen c.remove.new.self.table) + c.blocks_at-before.result ≡ c.from.result
sum c = rw c.from.ensures (left_counted c.args.blocks c.blocks_at-before.result c.args.number c.args.vnodes.now.table c.remove.new.self.table c.blocks_at-before.ensures.vnodes c.requires.counted c.blocks_at-before.ensures.value c.remove.ensures.removed)

pub returns-clause-readable : goal.returns-clause-readable
returns-clause-readable c = left_readable c.args.number c.args.vnodes.now.table c.remove.new.self.table c.requires.readable c.remove.ensures.removed

pub overflow_sub-result : goal.overflow_sub-result
overflow_sub-result c = let e = sum c in omega (arith, e)

pub returns-clause-counted : goal.returns-clause-counted
returns-clause-counted c = let e = sum c in omega (arith, e)

pub returns-clause-listed : goal.returns-clause-listed
returns-clause-listed c =
    listed_unset (maps.get nat_eq c.args.dirs.now.dirs) (maps.get nat_eq c.remove-2.new.self.dirs) c.args.vnodes.now.table c.remove.new.self.table c.args.number c.remove-2.ensures.value c.remove.ensures.removed c.requires.listed
