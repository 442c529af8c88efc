use Rattle.std.proofs.Common.{◌≡◌, ◌++◌, map, length}
use Rattle.afs_entries.specs.Cached.{cached, listed}
use Rattle.afs_entries.proofs.cache.Cache.walk.Given as goal

abbrev pub invariant-loop-slot : goal.invariant-loop-slot
invariant-loop-slot l = l.fids.items ++ listed l.drops (map cached l.pairs) ≡ listed l.drops l.self.entries

abbrev pub decreases-loop-slot : goal.decreases-loop-slot
decreases-loop-slot l = length l.pairs
