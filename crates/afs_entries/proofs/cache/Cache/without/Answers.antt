use Rattle.std.proofs.Common.{refl}
use Rattle.afs_entries.proofs.Leaving.{copies_few}
use Rattle.afs_entries.proofs.cache.Cache.without.Goals as goal

pub invariant_of-result : goal.invariant_of-result
invariant_of-result c = record {
  some = c.self.invariant.some;
  few = copies_few c.args.drops.now c.in_ok-copy_left.field-0.entries c.self.inside.entries.entries c.self.inside.capacity c.in_ok-copy_left.ensures.left c.self.invariant.few;
  wide = c.in_ok-copy_left.ensures.wide;
}
