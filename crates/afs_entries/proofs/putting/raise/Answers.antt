use Rattle.std.proofs.Common.{◌≡◌, Some, List, ap, ◌∙◌}
use Rattle.lru.specs.LruCache.{lru_cache}
use Rattle.afs_entries.specs.declared.cache.Slot.{Slot}
use Rattle.afs_entries.specs.declared.cache.Entry.{Entry}
use Rattle.afs_entries.specs.Cached.{entry_joined, raised}
use Rattle.afs_entries.proofs.Behind.{raised_is}
use Rattle.afs_entries.proofs.putting.raise.Goals as goal

pub returns-in-Some : goal.returns-in-Some
returns-in-Some c = λ old h.
    let es = c.args.entries.now.entries in
    let there : Some c.in-Some.held.now ≡ Some old = c.in-Some.ensures.value ∙ h in
    let same : c.in-Some.held.now ≡ old = cc in
    ap (λ (xs : List (Slot × Entry)). lru_cache xs c.args.entries.now.cap)
    (raised_is c.args.slot.now old c.replace.new.held es h
    ∙ ap (λ (w : Entry). raised c.args.slot.now w es) (c.replace.ensures ∙ ap (entry_joined c.args.is_seen c.args.entry) same))
