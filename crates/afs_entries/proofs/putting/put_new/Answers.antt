use Rattle.std.proofs.Common.{ap, ◌∙◌, ◌∷◌, map, take}
use Rattle.lru.specs.LruCache.{LruCache}
use Rattle.afs_entries.specs.declared.cache.Slot.{Slot}
use Rattle.afs_entries.specs.declared.cache.Entry.{Entry}
use Rattle.afs_entries.specs.Cached.{cached}
use Rattle.afs_entries.proofs.Alone.{comes_new}
use Rattle.afs_entries.proofs.putting.put_new.Goals as goal

pub returns-clause-ok : goal.returns-clause-ok
returns-clause-ok c =
    let f = c.args.fresh.fid in
    let e = c.args.fresh.entry in
    let es = c.args.entries.now.entries in
    ap (λ (m : LruCache Slot Entry). map cached m.entries) c.shorten.ensures
    ∙ (ap (λ (m : LruCache Slot Entry). map cached (take c.args.capacity m.entries)) c.in_ok-add_first.ensures.ok
    ∙ (ap (λ (s : Slot). map cached (take c.args.capacity ((s, e) ∷ es))) c.slot_for.ensures
    ∙ comes_new f e es c.args.capacity c.len-count.ensures.valid.0 c.requires.missing))
