use Rattle.std.proofs.Common.{◌≡◌, ◌+◌, nat_eq, arith}
use Rattle.indexmap.specs.IndexMap as maps
use Rattle.spec_ideal.specs.Volumes.{blocks_in}
use Rattle.afs_volume.specs.Seen.{all_seen}
use Rattle.afs_volume.proofs.Listing.{listed_set}
use Rattle.afs_volume.proofs.Taken.{blocks_small, put_counted, put_readable}
use Rattle.afs_volume.proofs.taking.put.Goals as goal

sum : (c : goal.After-from) → blocks_in (all_seen c.put.new.self.table) + c.blocks_at-before.result ≡ c.from.result + c.blocks_of-after.result
sum c = rw c.from.ensures (put_counted c.args.blocks c.blocks_at-before.result c.blocks_of-after.result c.args.x.vnode c.args.x c.args.vnodes.now.table c.put.new.self.table c.blocks_at-before.ensures.vnodes c.requires.counted c.blocks_at-before.ensures.value c.blocks_of-after.ensures.value c.in-Ok.ensures.ok)

pub returns-clause-readable : goal.returns-clause-readable
returns-clause-readable c = put_readable c.args.x.vnode c.args.x c.args.vnodes.now.table c.put.new.self.table c.requires.read c.requires.readable c.in-Ok.ensures.ok

pub overflow_sub-result : goal.overflow_sub-result
overflow_sub-result c = let e = sum c in omega (arith, e)

pub overflow_cast-result : goal.overflow_cast-result
overflow_cast-result c =
    let e = sum c in
    let small = blocks_small c.put.new.self.table c.put.ensures.vnodes (returns-clause-readable c) in
    omega (arith, e, small)

pub returns-clause-counted : goal.returns-clause-counted
returns-clause-counted c = let e = sum c in omega (arith, e)

pub returns-clause-listed : goal.returns-clause-listed
returns-clause-listed c =
    listed_set (maps.get nat_eq c.args.dirs.now.dirs) (maps.get nat_eq c.set_within.new.self.dirs) c.args.vnodes.now.table c.put.new.self.table c.args.x c.args.names c.requires.names c.set_within.ensures.value c.in-Ok.ensures.ok c.requires.listed
