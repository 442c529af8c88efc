use Rattle.std.proofs.Common.{◌≤◌, ◌-◌, ap, ◌∙◌, List, length, arith}
use Rattle.lru.specs.LruCache.{lru_cache}
use Rattle.afs_entries.specs.declared.cache.Slot.{Slot}
use Rattle.afs_entries.specs.declared.cache.Entry.{Entry}
use Rattle.afs_entries.proofs.Placing.{placed_first}
use Rattle.afs_entries.proofs.putting.add_first.Goals as goal

pub returns-in-Ok-clause-ok : goal.returns-in-Ok-clause-ok
returns-in-Ok-clause-ok c =
    let es = c.args.entries.now.entries in
    let n = c.args.entries.now.cap in
    let few : length es ≤ n - 1 = omega (arith, c.requires.wide, c.len-count.ensures.len, c.len-count.ensures.fits) in
    c.in-Ok.ensures.entries ∙ ap (λ (xs : List (Slot × Entry)). lru_cache xs n) (placed_first c.args.slot c.args.entry es n c.requires.missing few)
