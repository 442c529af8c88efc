use Rattle.std.proofs.Common.{◌≡◌, ◌++◌, take, map}
use Rattle.spec_rows.specs.ClientRow.{drop_line}
use Rattle.afs_cache.proofs.node.CacheManager.tell_dropped.Given as goal

abbrev pub invariant-loop-fid : goal.invariant-loop-fid
invariant-loop-fid l = l.lines ≡ l.fn.lines ++ map (drop_line l.self.node) (take l.fid-index l.fids)
