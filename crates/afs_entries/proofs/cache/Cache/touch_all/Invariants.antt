use Rattle.std.proofs.Common.{◌≡◌, drop}
use Rattle.afs_entries.specs.Cached.{touched_all}
use Rattle.afs_entries.proofs.cache.Cache.touch_all.Given as goal

abbrev pub invariant-loop-fid : goal.invariant-loop-fid
invariant-loop-fid l = record {
  entries : touched_all (drop l.fid-index l.fids) l.self.entries ≡ touched_all l.fids l.fn.self.entries;
  capacity : l.self.capacity ≡ l.fn.self.capacity;
}
