-- A key gets a place behind the cache.
use Rattle.std.proofs.Common.{◌≡◌, ◌≤◌, ◌-◌, ℕ, Bool, true, false, cond, List, [], ◌∷◌, ◌++◌, length, Option, Some, None, refl, ap, ◌∙◌}
use Rattle.std.specs.Map.{lookup, lookup_entry}
use Rattle.lru.specs.LruCache.{lru_cache, put_entries, demoted}
use Rattle.spec_ideal.proofs.Basics.{same_fid-refl}
use Rattle.afs_entries.specs.declared.cache.Slot.{Slot}
use Rattle.afs_entries.specs.declared.cache.Entry.{Entry}
use Rattle.afs_entries.specs.Cached.{fid_in, same_slot}
use Rattle.afs_entries.proofs.Removing.{whole}

pub same_refl : (s : Slot) → same_slot s s ≡ true
same_refl s = same_fid-refl (fid_in s)

no_entry_by : (b : Bool) (e : Slot × Entry) (o : Option Entry) (p : Option (Slot × Entry)) → (o ≡ None → p ≡ None) → cond b (Some e.1) o ≡ None → cond b (Some e) p ≡ None
no_entry_by true e o p h q = absurd cc
no_entry_by false e o p h q = h q

pub no_entry : (t : Slot → Bool) (es : List (Slot × Entry)) → lookup t es ≡ None → lookup_entry t es ≡ None
no_entry t [] q = refl
no_entry t (e ∷ es) q = no_entry_by (t e.0) e (lookup t es) (lookup_entry t es) (no_entry t es) q

-- the place is the first
pub placed_first : (s : Slot) (v : Entry) (es : List (Slot × Entry)) (n : ℕ) → lookup (same_slot s) es ≡ None → length es ≤ n - 1 → put_entries same_slot (lru_cache es n) s v ≡ (s, v) ∷ es
placed_first s v es n q few = rw (no_entry (same_slot s) es q) (ap (λ (xs : List (Slot × Entry)). (s, v) ∷ xs) (whole (n - 1) es few))

-- the place is the last
pub placed_last : (s : Slot) (v : Entry) (es : List (Slot × Entry)) (n : ℕ) → lookup (same_slot s) es ≡ None → length es ≤ n - 1 → demoted (same_slot s) (put_entries same_slot (lru_cache es n) s v) ≡ es ++ (s, v) ∷ []
placed_last s v es n q few = ap (demoted (same_slot s)) (placed_first s v es n q few) ∙ rw (same_refl s) refl
