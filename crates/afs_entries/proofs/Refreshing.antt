-- What a client's own store does to an entry, where it stands.
use Rattle.std.proofs.Common.{◌≡◌, ℕ, Bool, true, false, cond, ◌&&◌, List, [], ◌∷◌, map, Option, Some, None, refl, ap, sym, subst, ◌∙◌}
use Rattle.std.specs.List.{IsDistinct, AllByRecursion}
use Rattle.std.specs.Map.{lookup, set_value, keys_of}
use Rattle.afs_num.specs.Fids.{same_fid}
use Rattle.afs_num.specs.declared.types.Fid.{Fid}
use Rattle.afs_num.specs.declared.histories.Body.{Body}
use Rattle.afs_num.specs.declared.histories.ReadStatus.{ReadStatus}
use Rattle.spec_ideal.proofs.Basics.{same_fid-true}
use Rattle.spec_rows.specs.States.{CacheEntry}
use Rattle.spec_rows.specs.ClientRow.{refreshed, is_trusted}
use Rattle.afs_entries.specs.Cached.{slot_of, fid_in, entry_at, cached, same_slot}
use Rattle.afs_entries.specs.declared.cache.Slot.{Slot}
use Rattle.afs_entries.specs.declared.cache.Entry.{Entry}
use Rattle.afs_entries.proofs.Caching.{same_fid-sym}
use Rattle.afs_entries.proofs.Listing.{others}

-- the value that is there
set_by : (b : Bool) (t : Slot → Bool) (v : Entry) (e : Slot × Entry) (es : List (Slot × Entry)) → cond b (Some e.1) (lookup t es) ≡ Some v → (lookup t es ≡ Some v → map cached (set_value t es v) ≡ map cached es)
    → map cached (cond b ((e.0, v) ∷ es) (e ∷ set_value t es v)) ≡ cached e ∷ map cached es
set_by true t v e es h ih = let same : e.1 ≡ v = cc in ap (λ (w : Entry). entry_at (fid_in e.0) w ∷ map cached es) (sym same)
set_by false t v e es h ih = ap (λ (xs : List CacheEntry). cached e ∷ xs) (ih h)

pub same_set : (t : Slot → Bool) (v : Entry) (es : List (Slot × Entry)) → lookup t es ≡ Some v → map cached (set_value t es v) ≡ map cached es
same_set t v [] h = refl
same_set t v (e ∷ es) h = set_by (t e.0) t v e es h (same_set t v es)

module _ (clock : ℕ) (f : Fid) (i : ℕ) (s : ReadStatus) (made : Option Body → Option Body) where
  abbrev new : CacheEntry → CacheEntry
  new e = refreshed clock f i s made e

  abbrev pub updated : Entry → Entry
  updated v = record v { index = i; status = s; body = made v.body }

  other : (e : CacheEntry) → same_fid e.fid f ≡ false → new e ≡ e
  other e h = rw h refl

  old_by : (b : Bool) (x : CacheEntry) → is_trusted clock x ≡ false → cond (b && is_trusted clock x) (record x { index = i; status = s; body = made x.body }) x ≡ x
  old_by true x q = rw q refl
  old_by false x q = refl

  old : (e : CacheEntry) → is_trusted clock e ≡ false → new e ≡ e
  old e h = old_by (same_fid e.fid f) e h

  all_others : (es : List CacheEntry) → AllByRecursion (λ (x : CacheEntry). same_fid f x.fid ≡ false) es → map new es ≡ es
  all_others [] h = refl
  all_others (e ∷ es) h = rw (other e (same_fid-sym e.fid f ∙ h.0)) (ap (λ (xs : List CacheEntry). e ∷ xs) (all_others es h.1))

  abbrev test : Slot → Bool
  test = same_slot (slot_of f)

  behind : (e : Slot × Entry) (es : List (Slot × Entry)) → same_fid f (fid_in e.0) ≡ true → AllByRecursion (λ (t : Slot). same_slot e.0 t ≡ false) (keys_of es) → map new (map cached es) ≡ map cached es
  behind e es q h = all_others (map cached es) (subst (λ (g : Fid). AllByRecursion (λ (x : CacheEntry). same_fid g x.fid ≡ false) (map cached es)) (sym (same_fid-true f (fid_in e.0) q)) (others e.0 es h))

  -- none is there
  none_by : (b : Bool) (e : Slot × Entry) (es : List (Slot × Entry)) → same_fid f (fid_in e.0) ≡ b → cond b (Some e.1) (lookup test es) ≡ None → (lookup test es ≡ None → map new (map cached es) ≡ map cached es)
      → new (cached e) ∷ map new (map cached es) ≡ cached e ∷ map cached es
  none_by true e es q h ih = absurd cc
  none_by false e es q h ih = rw (other (cached e) (same_fid-sym (fid_in e.0) f ∙ q)) (ap (λ (xs : List CacheEntry). cached e ∷ xs) (ih h))

  pub none : (es : List (Slot × Entry)) → lookup test es ≡ None → map new (map cached es) ≡ map cached es
  none [] h = refl
  none (e ∷ es) h = none_by (same_fid f (fid_in e.0)) e es refl h (none es)

  -- one is there that isn't trusted
  untrusted_by : (b : Bool) (v : Entry) (e : Slot × Entry) (es : List (Slot × Entry)) → same_fid f (fid_in e.0) ≡ b → cond b (Some e.1) (lookup test es) ≡ Some v → is_trusted clock (entry_at f v) ≡ false
      → AllByRecursion (λ (t : Slot). same_slot e.0 t ≡ false) (keys_of es) → (lookup test es ≡ Some v → map new (map cached es) ≡ map cached es) → new (cached e) ∷ map new (map cached es) ≡ cached e ∷ map cached es
  untrusted_by true v e es q h t apart ih =
      let same : e.1 ≡ v = cc in
      let late : is_trusted clock (cached e) ≡ false = subst (λ (w : Entry). is_trusted clock (entry_at (fid_in e.0) w) ≡ false) (sym same) t in
      rw (old (cached e) late) (ap (λ (xs : List CacheEntry). cached e ∷ xs) (behind e es q apart))
  untrusted_by false v e es q h t apart ih = rw (other (cached e) (same_fid-sym (fid_in e.0) f ∙ q)) (ap (λ (xs : List CacheEntry). cached e ∷ xs) (ih h))

  pub untrusted : (v : Entry) (es : List (Slot × Entry)) → IsDistinct same_slot (keys_of es) → lookup test es ≡ Some v → is_trusted clock (entry_at f v) ≡ false → map new (map cached es) ≡ map cached es
  unfolding IsDistinct
  untrusted v [] d h t = absurd cc
  untrusted v (e ∷ es) d h t = untrusted_by (same_fid f (fid_in e.0)) v e es refl h t d.0 (λ q. untrusted v es d.1 q t)

  -- one is there that is
  trusted_by : (b : Bool) (v : Entry) (e : Slot × Entry) (es : List (Slot × Entry)) → same_fid f (fid_in e.0) ≡ b → cond b (Some e.1) (lookup test es) ≡ Some v → is_trusted clock (entry_at f v) ≡ true
      → AllByRecursion (λ (t : Slot). same_slot e.0 t ≡ false) (keys_of es) → (lookup test es ≡ Some v → map new (map cached es) ≡ map cached (set_value test es (updated v)))
      → new (cached e) ∷ map new (map cached es) ≡ map cached (cond b ((e.0, updated v) ∷ es) (e ∷ set_value test es (updated v)))
  trusted_by true v e es q h t apart ih =
      let same : e.1 ≡ v = cc in
      let first : new (cached e) ≡ cached (e.0, updated v) =
      subst (λ (w : Entry). is_trusted clock (entry_at (fid_in e.0) w) ≡ true → new (entry_at (fid_in e.0) w) ≡ cached (e.0, updated v)) (sym same) (λ (u : is_trusted clock (entry_at (fid_in e.0) v) ≡ true). rw (same_fid-sym (fid_in e.0) f ∙ q) (rw u refl)) (subst (λ (w : Entry). is_trusted clock (entry_at (fid_in e.0) w) ≡ true) (sym same) t) in
      rw first (ap (λ (xs : List CacheEntry). cached (e.0, updated v) ∷ xs) (behind e es q apart))
  trusted_by false v e es q h t apart ih = rw (other (cached e) (same_fid-sym (fid_in e.0) f ∙ q)) (ap (λ (xs : List CacheEntry). cached e ∷ xs) (ih h))

  pub trusted : (v : Entry) (es : List (Slot × Entry)) → IsDistinct same_slot (keys_of es) → lookup test es ≡ Some v → is_trusted clock (entry_at f v) ≡ true → map new (map cached es) ≡ map cached (set_value test es (updated v))
  unfolding IsDistinct
  trusted v [] d h t = absurd cc
  trusted v (e ∷ es) d h t = trusted_by (same_fid f (fid_in e.0)) v e es refl h t d.0 (λ q. trusted v es d.1 q t)
