use Rattle.std.proofs.Common.{true, ap, ◌∙◌, map, length, arith}
use Rattle.lru.specs.LruCache.{LruCache}
use Rattle.afs_entries.specs.declared.cache.Slot.{Slot}
use Rattle.afs_entries.specs.declared.cache.Entry.{Entry}
use Rattle.afs_entries.specs.Cached.{cached, entry_joined, slot_of}
use Rattle.afs_entries.proofs.Alone.{comes_over}
use Rattle.afs_entries.proofs.Behind.{raised_long, stands}
use Rattle.afs_entries.proofs.putting.put_over.Goals as goal

pub returns-clause-put : goal.returns-clause-put
returns-clause-put c =
    let f = c.args.fresh.fid in
    let e = c.args.fresh.entry in
    let es = c.args.entries.now in
    let st = stands c.slot_for.result f true e es c.raise.new.entries c.slot_for.ensures c.requires.key c.raise.ensures in
    ap (λ (m : LruCache Slot Entry). map cached m.entries) st.2 ∙ comes_over f e st.0 es.entries c.args.capacity c.len-count.ensures.valid.0 st.1 c.requires.fits.few

pub returns-clause-fits : goal.returns-clause-fits
returns-clause-fits c =
    let f = c.args.fresh.fid in
    let e = c.args.fresh.entry in
    let es = c.args.entries.now in
    let st = stands c.slot_for.result f true e es c.raise.new.entries c.slot_for.ensures c.requires.key c.raise.ensures in
    let new = ap (λ (m : LruCache Slot Entry). length m.entries) st.2 in
    let long = raised_long (slot_of f) st.0 (entry_joined true e st.0) es.entries st.1 in
    let few = c.requires.fits.few in
    record { some = c.requires.fits.some; few = omega (arith, few, new, long); wide = ap (λ (m : LruCache Slot Entry). m.cap) st.2 ∙ c.requires.fits.wide }
