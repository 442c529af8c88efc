use Rattle.std.proofs.Common.{◌≡◌, ◌++◌, [], drop, map}
use Rattle.spec_rows.specs.ClientRow.{looked, status_look, with_statuses}
use Rattle.afs_entries.specs.Cached.{entry_of}
use Rattle.afs_cache.proofs.node.CacheManager.read_all.Given as goal

abbrev pub invariant-loop-fresh : goal.invariant-loop-fresh
invariant-loop-fresh l = record {
  read : with_statuses (map entry_of (drop l.fresh-index l.all)) l.going ≡ with_statuses (map entry_of l.all) l.fn.going;
  told : l.lines ++ looked l.self.node (map status_look (map entry_of (drop l.fresh-index l.all))) [] ≡ l.fn.lines ++ looked l.self.node (map status_look (map entry_of l.all)) [];
}
