use Rattle.std.proofs.Common.{◌≡◌}
use Rattle.spec_rows.specs.ClientRow.{put_entry}
use Rattle.afs_entries.specs.Cached.{entry_of}
use Rattle.afs_cache.proofs.Planning.{used_view}
use Rattle.afs_cache.proofs.node.CacheManager.put_used.Goals as goal

pub returns-clause-ok : goal.returns-clause-ok
returns-clause-ok c =
    let old = c.args.self.now in
    used_view _ c.put_alone.new.self old c.touch_all.new.self c.args.used.now (put_entry old.state.client.capacity (entry_of c.args.fresh) old.state.client.cache) c.self.view_is c.in_ok-put_alone.ensures.ok c.touch_all.ensures
