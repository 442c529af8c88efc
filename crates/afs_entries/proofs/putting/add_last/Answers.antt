use Rattle.std.proofs.Common.{◌≤◌, ◌-◌, ap, ◌∙◌, List, length, arith}
use Rattle.lru.specs.LruCache.{LruCache, lru_cache, demoted}
use Rattle.afs_entries.specs.declared.cache.Slot.{Slot}
use Rattle.afs_entries.specs.declared.cache.Entry.{Entry}
use Rattle.afs_entries.specs.Cached.{same_slot}
use Rattle.afs_entries.proofs.Placing.{placed_last}
use Rattle.afs_entries.proofs.putting.add_last.Goals as goal

pub returns-in-Ok-clause-ok : goal.returns-in-Ok-clause-ok
returns-in-Ok-clause-ok c =
    let es = c.args.entries.now.entries in
    let n = c.args.entries.now.cap in
    let few : length es ≤ n - 1 = omega (arith, c.requires.wide, c.len-count.ensures.len, c.len-count.ensures.fits) in
    c.demote.ensures.entries
    ∙ (ap (λ (m : LruCache Slot Entry). lru_cache (demoted (same_slot c.args.slot) m.entries) m.cap) c.in-Ok.ensures.entries
    ∙ ap (λ (xs : List (Slot × Entry)). lru_cache xs n) (placed_last c.args.slot c.args.entry es n c.requires.missing few))
