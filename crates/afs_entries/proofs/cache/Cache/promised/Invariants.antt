use Rattle.std.proofs.Common.{◌≡◌, ◌++◌, map, filter, length}
use Rattle.spec_rows.specs.ClientRow.{gift_of}
use Rattle.afs_entries.specs.declared.drops.Drops.TheVariants as drops
use Rattle.afs_entries.specs.Cached.{cached, drops_of}
use Rattle.afs_entries.proofs.cache.Cache.promised.Given as goal

abbrev pub invariant-loop-slot : goal.invariant-loop-slot
invariant-loop-slot l = record {
  same : l.drops ≡ drops.Trusted l.fn.now;
  gifts : l.gifts.items ++ map gift_of (filter (drops_of l.drops) (map cached l.pairs)) ≡ map gift_of (filter (drops_of l.drops) l.self.entries);
}

abbrev pub decreases-loop-slot : goal.decreases-loop-slot
decreases-loop-slot l = length l.pairs
