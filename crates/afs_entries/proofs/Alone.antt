-- One entry comes into the cache, which is the whole map.
use Rattle.std.proofs.Common.{◌≡◌, ◌≤◌, ℕ, suc, true, List, [], ◌∷◌, map, take, length, Some, None, ap, sym, subst, ◌∙◌, arith}
use Rattle.std.specs.List.{IsDistinct}
use Rattle.std.specs.Option.{option_map}
use Rattle.std.specs.Map.{lookup, remove_entry, keys_of}
use Rattle.afs_num.specs.declared.types.Fid.{Fid}
use Rattle.spec_rows.specs.States.{CacheEntry}
use Rattle.spec_rows.specs.ClientRow.{find_cached, put_entry}
use Rattle.afs_entries.specs.declared.cache.Slot.{Slot}
use Rattle.afs_entries.specs.declared.cache.Entry.{Entry}
use Rattle.afs_entries.specs.Cached.{cached, entry_at, entry_joined, raised, same_slot, slot_of, without}
use Rattle.afs_entries.proofs.Behind.{pair_at}
use Rattle.afs_entries.proofs.Caching.{found, popped}
use Rattle.afs_entries.proofs.Coming.{comes_alone, joined_is}
use Rattle.afs_entries.proofs.Removing.{fewer, map_length, map_take, whole}

-- its key has a place
pub comes_over : (f : Fid) (e v : Entry) (es : List (Slot × Entry)) (capacity : ℕ) → IsDistinct same_slot (keys_of es) → lookup (same_slot (slot_of f)) es ≡ Some v → length es ≤ capacity
    → map cached (raised (slot_of f) (entry_joined true e v) es) ≡ put_entry capacity (entry_at f e) (map cached es)
comes_over f e v es capacity d h few =
    let key = same_slot (slot_of f) in
    let less : suc (length (remove_entry key es)) ≡ length es = fewer key es (slot_of f, v) (pair_at (slot_of f) v es h) in
    let long : length (map cached (remove_entry key es)) ≡ length (remove_entry key es) = map_length cached (remove_entry key es) in
    let short : length (entry_at f (entry_joined true e v) ∷ map cached (remove_entry key es)) ≤ capacity = omega (arith, less, long, few) in
    let all : entry_at f (entry_joined true e v) ∷ without f (map cached es) ≡ take capacity (entry_at f (entry_joined true e v) ∷ without f (map cached es)) =
    subst (λ (xs : List CacheEntry). entry_at f (entry_joined true e v) ∷ xs ≡ take capacity (entry_at f (entry_joined true e v) ∷ xs)) (popped f es d) (sym (whole capacity _ short)) in
    let there : find_cached f (map cached es) ≡ Some (entry_at f v) = sym (found f es) ∙ ap (option_map (entry_at f)) h in
    ap (λ (xs : List CacheEntry). entry_at f (entry_joined true e v) ∷ xs) (popped f es d)
    ∙ (all ∙ ap (λ (x : CacheEntry). take capacity (x ∷ without f (map cached es))) (joined_is f e v (find_cached f (map cached es)) there))

-- it has none: it stands first, and the last may go
pub comes_new : (f : Fid) (e : Entry) (es : List (Slot × Entry)) (capacity : ℕ) → IsDistinct same_slot (keys_of es) → lookup (same_slot (slot_of f)) es ≡ None
    → map cached (take capacity ((slot_of f, e) ∷ es)) ≡ put_entry capacity (entry_at f e) (map cached es)
comes_new f e es capacity d h = map_take cached capacity ((slot_of f, e) ∷ es) ∙ comes_alone f e e es [] d capacity h
