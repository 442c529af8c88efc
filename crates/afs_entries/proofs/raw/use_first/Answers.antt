use Rattle.std.proofs.Common.{ap, ◌∙◌, map, length}
use Rattle.lru.specs.LruCache.{LruCache, promoted}
use Rattle.afs_entries.specs.declared.cache.Slot.{Slot}
use Rattle.afs_entries.specs.declared.cache.Entry.{Entry}
use Rattle.afs_entries.specs.Cached.{cached, same_slot}
use Rattle.afs_entries.proofs.Caching.{used}
use Rattle.afs_entries.proofs.Removing.{promoted_long}
use Rattle.afs_entries.proofs.raw.use_first.Goals as goal

pub returns-clause-seen : goal.returns-clause-seen
returns-clause-seen c =
    let es = c.args.entries.now.entries in
    ap (λ (n : LruCache Slot Entry). map cached n.entries) c.promote.ensures.entries
    ∙ (ap (λ (s : Slot). map cached (promoted (same_slot s) es)) c.slot_for.ensures ∙ used c.args.fid.now es c.len-count.ensures.valid.0)

pub returns-clause-long : goal.returns-clause-long
returns-clause-long c =
    ap (λ (n : LruCache Slot Entry). length n.entries) c.promote.ensures.entries ∙ promoted_long (same_slot c.slot_for.result) c.args.entries.now.entries
