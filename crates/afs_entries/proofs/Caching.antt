-- What the map's calls do to the cache.
use Rattle.std.proofs.Common.{◌≡◌, ℕ, Bool, true, false, cond, not, List, [], ◌∷◌, map, Option, Some, None, refl, ap, sym, subst, ◌∙◌}
use Rattle.std.specs.List.{IsDistinct, AllByRecursion}
use Rattle.std.specs.Option.{option_map, option_map_or}
use Rattle.std.specs.Map.{lookup, lookup_entry, remove_entry, keys_of}
use Rattle.lru.specs.LruCache.{promoted}
use Rattle.afs_num.specs.Fids.{same_fid}
use Rattle.afs_num.specs.declared.types.Fid.{Fid}
use Rattle.spec_ideal.proofs.Basics.{same_fid-true, same_fid-refl}
use Rattle.spec_rows.specs.States.{CacheEntry}
use Rattle.spec_rows.specs.ClientRow.{find_cached}
use Rattle.afs_entries.specs.Cached.{Kept, slot_of, fid_in, entry_at, cached, touched, first_by, without, same_slot}
use Rattle.afs_entries.specs.declared.cache.Slot.{Slot}
use Rattle.afs_entries.specs.declared.cache.Entry.{Entry}

alike : (x y : Bool) → (x ≡ true → y ≡ true) → (y ≡ true → x ≡ true) → x ≡ y
alike true y there back = sym (there refl)
alike false true there back = back refl
alike false false there back = refl

turned : (f g : Fid) → same_fid f g ≡ true → same_fid g f ≡ true
turned f g e = subst (λ (h : Fid). same_fid h f ≡ true) (same_fid-true f g e) (same_fid-refl f)

pub same_fid-sym : (f g : Fid) → same_fid f g ≡ same_fid g f
same_fid-sym f g = alike (same_fid f g) (same_fid g f) (turned f g) (turned g f)

abbrev pub kept_as : List CacheEntry → ℕ → Kept
kept_as es n = record { entries = es; capacity = n }

-- ---- what is found

found_by : (b : Bool) (f : Fid) (e : Slot × Entry) (o : Option Entry) (rest : Option CacheEntry) → same_fid f (fid_in e.0) ≡ b → option_map (entry_at f) o ≡ rest
    → option_map (entry_at f) (cond b (Some e.1) o) ≡ cond b (Some (cached e)) rest
found_by true f e o rest p h = ap (λ (g : Fid). Some (entry_at g e.1)) (same_fid-true f (fid_in e.0) p)
found_by false f e o rest p h = h

pub found : (f : Fid) (es : List (Slot × Entry)) → option_map (entry_at f) (lookup (same_slot (slot_of f)) es) ≡ find_cached f (map cached es)
found f [] = refl
found f (e ∷ es) =
    rw (← same_fid-sym f (fid_in e.0)) (found_by (same_fid f (fid_in e.0)) f e (lookup (same_slot (slot_of f)) es) (find_cached f (map cached es)) refl (found f es))

entry_found_by : (b : Bool) (e : Slot × Entry) (o : Option (Slot × Entry)) (rest : Option CacheEntry) → option_map cached o ≡ rest → option_map cached (cond b (Some e) o) ≡ cond b (Some (cached e)) rest
entry_found_by true e o rest h = refl
entry_found_by false e o rest h = h

entry_found : (f : Fid) (es : List (Slot × Entry)) → option_map cached (lookup_entry (same_slot (slot_of f)) es) ≡ find_cached f (map cached es)
entry_found f [] = refl
entry_found f (e ∷ es) =
    rw (← same_fid-sym f (fid_in e.0)) (entry_found_by (same_fid f (fid_in e.0)) e (lookup_entry (same_slot (slot_of f)) es) (find_cached f (map cached es)) (entry_found f es))

under_by : (b : Bool) (f : Fid) (e p : Slot × Entry) (o : Option (Slot × Entry)) → same_fid f (fid_in e.0) ≡ b → (o ≡ Some p → f ≡ fid_in p.0) → cond b (Some e) o ≡ Some p → f ≡ fid_in p.0
under_by true f e p o t h q = let s : e ≡ p = cc in same_fid-true f (fid_in e.0) t ∙ ap (λ (x : Slot × Entry). fid_in x.0) s
under_by false f e p o t h q = h q

pub under : (f : Fid) (es : List (Slot × Entry)) (p : Slot × Entry) → lookup_entry (same_slot (slot_of f)) es ≡ Some p → f ≡ fid_in p.0
under f [] p q = absurd cc
under f (e ∷ es) p q = under_by (same_fid f (fid_in e.0)) f e p (lookup_entry (same_slot (slot_of f)) es) refl (under f es p) q

-- ---- what goes

stays : (b : Bool) (e : CacheEntry) (rest old : List CacheEntry) → b ≡ false → rest ≡ old → cond (not b) (e ∷ rest) rest ≡ e ∷ old
stays true e rest old p h = absurd cc
stays false e rest old p h = ap (λ (es : List CacheEntry). e ∷ es) h

untouched : (s : Slot) (es : List (Slot × Entry)) → AllByRecursion (λ (t : Slot). same_slot s t ≡ false) (keys_of es) → without (fid_in s) (map cached es) ≡ map cached es
untouched s [] h = refl
untouched s (e ∷ es) h = stays (same_fid (fid_in e.0) (fid_in s)) (cached e) (without (fid_in s) (map cached es)) (map cached es) (same_fid-sym (fid_in e.0) (fid_in s) ∙ h.0) (untouched s es h.1)

popped_by : (b : Bool) (f : Fid) (e : Slot × Entry) (es left : List (Slot × Entry)) → same_fid f (fid_in e.0) ≡ b → without (fid_in e.0) (map cached es) ≡ map cached es → map cached left ≡ without f (map cached es)
    → map cached (cond b es (e ∷ left)) ≡ cond (not b) (cached e ∷ without f (map cached es)) (without f (map cached es))
popped_by true f e es left t all h = sym (subst (λ (g : Fid). without g (map cached es) ≡ map cached es) (sym (same_fid-true f (fid_in e.0) t)) all)
popped_by false f e es left t all h = ap (λ (xs : List CacheEntry). cached e ∷ xs) h

pub popped : (f : Fid) (es : List (Slot × Entry)) → IsDistinct same_slot (keys_of es) → map cached (remove_entry (same_slot (slot_of f)) es) ≡ without f (map cached es)
unfolding IsDistinct
popped f [] d = refl
popped f (e ∷ es) d =
    rw (← same_fid-sym f (fid_in e.0)) (popped_by (same_fid f (fid_in e.0)) f e es (remove_entry (same_slot (slot_of f)) es) refl (untouched e.0 es d.0) (popped f es d.1))

-- ---- what is used

used_by : (f : Fid) (es : List (Slot × Entry)) (o : Option (Slot × Entry)) → ((p : Slot × Entry) → o ≡ Some p → f ≡ fid_in p.0) → map cached (remove_entry (same_slot (slot_of f)) es) ≡ without f (map cached es)
    → map cached (option_map_or (λ (e : Slot × Entry). e ∷ remove_entry (same_slot (slot_of f)) es) o es) ≡ first_by (map cached es) (option_map cached o)
used_by f es None at left = refl
used_by f es (Some p) at left = ap (λ (xs : List CacheEntry). cached p ∷ xs) (left ∙ ap (λ (g : Fid). without g (map cached es)) (at p refl))

pub used : (f : Fid) (es : List (Slot × Entry)) → IsDistinct same_slot (keys_of es) → map cached (promoted (same_slot (slot_of f)) es) ≡ touched f (map cached es)
used f es d =
    used_by f es (lookup_entry (same_slot (slot_of f)) es) (under f es) (popped f es d) ∙ ap (first_by (map cached es)) (entry_found f es)
