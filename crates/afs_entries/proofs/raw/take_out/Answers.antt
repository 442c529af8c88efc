use Rattle.std.proofs.Common.{ap, ◌∙◌, map, length, arith}
use Rattle.std.specs.Map.{remove_entry}
use Rattle.lru.specs.LruCache.{LruCache}
use Rattle.afs_entries.specs.declared.cache.Slot.{Slot}
use Rattle.afs_entries.specs.declared.cache.Entry.{Entry}
use Rattle.afs_entries.specs.Cached.{cached, same_slot}
use Rattle.afs_entries.proofs.Caching.{popped}
use Rattle.afs_entries.proofs.Removing.{removed_few}
use Rattle.afs_entries.proofs.raw.take_out.Goals as goal

pub returns-clause-seen : goal.returns-clause-seen
returns-clause-seen c =
    let es = c.args.entries.now.entries in
    ap (λ (n : LruCache Slot Entry). map cached n.entries) c.pop.ensures.entries
    ∙ (ap (λ (s : Slot). map cached (remove_entry (same_slot s) es)) c.slot_for.ensures ∙ popped c.args.fid.now es c.len-count.ensures.valid.0)

pub returns-clause-few : goal.returns-clause-few
returns-clause-few c =
    let same = ap (λ (n : LruCache Slot Entry). length n.entries) c.pop.ensures.entries in
    let less = removed_few (same_slot c.slot_for.result) c.args.entries.now.entries in
    omega (arith, same, less)
