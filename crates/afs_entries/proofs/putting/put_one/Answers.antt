use Rattle.std.proofs.Common.{◌≡◌, ap, subst, sym, ◌∙◌, map, take, drop, length, false, true, arith}
use Rattle.std.specs.Prelude.{is_some, IsSome}
use Rattle.std.specs.Map.{lookup}
use Rattle.lru.specs.LruCache.{LruCache}
use Rattle.afs_entries.specs.declared.cache.Slot.{Slot}
use Rattle.afs_entries.specs.declared.cache.Entry.{Entry}
use Rattle.afs_entries.specs.Cached.{cached, entry_joined, same_slot, slot_of}
use Rattle.afs_entries.proofs.Behind.{missing, raised_keeps, raised_long, some_behind, stands}
use Rattle.afs_entries.proofs.Coming.{put_first, put_last}
use Rattle.afs_entries.proofs.putting.put_one.Goals as goal

pub returns-then-is_in_tail-clause-put : goal.returns-then-is_in_tail-clause-put
returns-then-is_in_tail-clause-put c =
    let f = c.args.fresh.fid in
    let e = c.args.fresh.entry in
    let es = c.args.entries.now in
    let st = stands c.slot_for-slot.result f false e es c.raise.new.entries c.slot_for-slot.ensures c.requires.key c.raise.ensures in
    let there : IsSome (lookup (same_slot (slot_of f)) (drop c.args.count es.entries)) = subst (λ (s : Slot). IsSome (lookup (same_slot s) (drop c.args.count es.entries))) c.slot_for-slot.ensures (sym c.if-is_in_tail.ensures) in
    ap (λ (m : LruCache Slot Entry). map cached (take c.min.result m.entries)) st.2
    ∙ put_last f e c.args.count c.args.capacity es.entries c.len-count.ensures.valid.0 c.requires.within c.requires.few c.min.result c.requires.some there c.min.ensures

pub returns-then-is_in_tail-clause-within : goal.returns-then-is_in_tail-clause-within
returns-then-is_in_tail-clause-within c =
    let f = c.args.fresh.fid in
    let e = c.args.fresh.entry in
    let es = c.args.entries.now in
    let st = stands c.slot_for-slot.result f false e es c.raise.new.entries c.slot_for-slot.ensures c.requires.key c.raise.ensures in
    let there : IsSome (lookup (same_slot c.slot_for-slot.result) (drop c.args.count es.entries)) = sym c.if-is_in_tail.ensures in
    let more = some_behind (same_slot c.slot_for-slot.result) c.args.count es.entries there in
    let new = ap (λ (m : LruCache Slot Entry). length m.entries) st.2 in
    let long = raised_long (slot_of f) st.0 e es.entries st.1 in
    let least = c.min.ensures in
    omega (arith, more, new, long, least)

pub returns-then-is_in_tail-clause-keys : goal.returns-then-is_in_tail-clause-keys
returns-then-is_in_tail-clause-keys c = λ s h.
    let st = stands c.slot_for-slot.result c.args.fresh.fid false c.args.fresh.entry c.args.entries.now c.raise.new.entries c.slot_for-slot.ensures c.requires.key c.raise.ensures in
    subst (λ (m : LruCache Slot Entry). IsSome (lookup (same_slot s) m.entries)) (sym st.2) (raised_keeps (slot_of c.args.fresh.fid) s (entry_joined false c.args.fresh.entry st.0) c.args.entries.now.entries h)

pub returns-then-is_in_tail-clause-wide : goal.returns-then-is_in_tail-clause-wide
returns-then-is_in_tail-clause-wide c =
    let st = stands c.slot_for-slot.result c.args.fresh.fid false c.args.fresh.entry c.args.entries.now c.raise.new.entries c.slot_for-slot.ensures c.requires.key c.raise.ensures in
    ap (λ (m : LruCache Slot Entry). m.cap) st.2

pub returns-else-is_in_tail-clause-put : goal.returns-else-is_in_tail-clause-put
returns-else-is_in_tail-clause-put c =
    let f = c.args.fresh.fid in
    let e = c.args.fresh.entry in
    let es = c.args.entries.now in
    let st = stands c.slot_for-slot.result f true e es c.raise-else-is_in_tail.new.entries c.slot_for-slot.ensures c.requires.key c.raise-else-is_in_tail.ensures in
    let none = missing (lookup (same_slot (slot_of f)) (drop c.args.count es.entries)) (subst (λ (s : Slot). false ≡ is_some (lookup (same_slot s) (drop c.args.count es.entries))) c.slot_for-slot.ensures c.if-is_in_tail.ensures) in
    ap (λ (m : LruCache Slot Entry). map cached (take c.args.count m.entries)) st.2
    ∙ put_first f e c.args.count c.args.capacity es.entries c.len-count.ensures.valid.0 c.requires.within c.requires.few st.0 st.1 none

pub returns-else-is_in_tail-clause-within : goal.returns-else-is_in_tail-clause-within
returns-else-is_in_tail-clause-within c =
    let f = c.args.fresh.fid in
    let e = c.args.fresh.entry in
    let es = c.args.entries.now in
    let st = stands c.slot_for-slot.result f true e es c.raise-else-is_in_tail.new.entries c.slot_for-slot.ensures c.requires.key c.raise-else-is_in_tail.ensures in
    let new = ap (λ (m : LruCache Slot Entry). length m.entries) st.2 in
    let long = raised_long (slot_of f) st.0 (entry_joined true e st.0) es.entries st.1 in
    let within = c.requires.within in
    omega (arith, within, new, long)

pub returns-else-is_in_tail-clause-keys : goal.returns-else-is_in_tail-clause-keys
returns-else-is_in_tail-clause-keys c = λ s h.
    let st = stands c.slot_for-slot.result c.args.fresh.fid true c.args.fresh.entry c.args.entries.now c.raise-else-is_in_tail.new.entries c.slot_for-slot.ensures c.requires.key c.raise-else-is_in_tail.ensures in
    subst (λ (m : LruCache Slot Entry). IsSome (lookup (same_slot s) m.entries)) (sym st.2) (raised_keeps (slot_of c.args.fresh.fid) s (entry_joined true c.args.fresh.entry st.0) c.args.entries.now.entries h)

pub returns-else-is_in_tail-clause-wide : goal.returns-else-is_in_tail-clause-wide
returns-else-is_in_tail-clause-wide c =
    let st = stands c.slot_for-slot.result c.args.fresh.fid true c.args.fresh.entry c.args.entries.now c.raise-else-is_in_tail.new.entries c.slot_for-slot.ensures c.requires.key c.raise-else-is_in_tail.ensures in
    ap (λ (m : LruCache Slot Entry). m.cap) st.2
