-- What is left of a cache once entries have gone, copied one by one.
use Rattle.std.proofs.Common.{◌≡◌, ◌≤◌, ℕ, suc, Bool, true, false, cond, not, List, [], ◌∷◌, ◌++◌, map, length, None, refl, ap, sym, subst, ◌∙◌, arith, append_assoc}
use Rattle.std.specs.Prelude.{IsSome}
use Rattle.std.specs.List.{IsDistinct, AllByRecursion}
use Rattle.std.specs.Map.{lookup, keys_of}
use Rattle.std.proofs.lemmas.List.{append-nil, map-append}
use Rattle.spec_rows.specs.States.{CacheEntry}
use Rattle.afs_entries.specs.declared.cache.Slot.{Slot}
use Rattle.afs_entries.specs.declared.cache.Entry.{Entry}
use Rattle.afs_entries.specs.declared.drops.Drops.{Drops}
use Rattle.afs_entries.specs.Cached.{cached, drops_of, left, same_slot, with_left}
use Rattle.afs_entries.proofs.Behind.{apart_front}
use Rattle.afs_entries.proofs.Placing.{same_refl}
use Rattle.afs_entries.proofs.Removing.{map_length}

-- ---- keys stay distinct

all_less : (P : Slot → Type 0) (xs rest : List (Slot × Entry)) (p : Slot × Entry) → AllByRecursion P (keys_of (xs ++ p ∷ rest)) → AllByRecursion P (keys_of (xs ++ rest))
all_less P [] rest p h = h.1
all_less P (x ∷ xs) rest p h = (h.0, all_less P xs rest p h.1)

distinct_less : (xs rest : List (Slot × Entry)) (p : Slot × Entry) → IsDistinct same_slot (keys_of (xs ++ p ∷ rest)) → IsDistinct same_slot (keys_of (xs ++ rest))
unfolding IsDistinct
distinct_less [] rest p d = d.1
distinct_less (x ∷ xs) rest p d = (all_less (λ (k : Slot). same_slot x.0 k ≡ false) xs rest p d.0, distinct_less xs rest p d.1)

apart_by : (b : Bool) (p : Slot × Entry) (es rest : List (Slot × Entry)) → IsDistinct same_slot (keys_of (es ++ p ∷ rest)) → IsDistinct same_slot (keys_of (cond b es (es ++ p ∷ []) ++ rest))
apart_by true p es rest d = distinct_less es rest p d
apart_by false p es rest d = subst (λ (xs : List (Slot × Entry)). IsDistinct same_slot (keys_of xs)) (sym (append_assoc es (p ∷ []) rest)) d

-- ---- one pair on

module _ (d : Drops) (p : Slot × Entry) (es pairs rest : List (Slot × Entry)) (steps : pairs ≡ p ∷ rest) where
  pub apart_on : IsDistinct same_slot (keys_of (es ++ pairs)) → IsDistinct same_slot (keys_of (with_left d p es ++ rest))
  apart_on apart = apart_by (drops_of d (cached p)) p es rest (subst (λ (ps : List (Slot × Entry)). IsDistinct same_slot (keys_of (es ++ ps))) steps apart)

  first_found : IsSome (lookup (same_slot p.0) (p ∷ rest))
  first_found = rw (same_refl p.0) refl

  pub is_next : IsDistinct same_slot (keys_of (es ++ pairs)) → lookup (same_slot p.0) es ≡ None
  is_next apart = apart_front p.0 es (p ∷ rest) (subst (λ (ps : List (Slot × Entry)). IsDistinct same_slot (keys_of (es ++ ps))) steps apart) first_found

  left_by : (b : Bool) → map cached (cond b es (es ++ p ∷ [])) ++ left d (map cached rest) ≡ map cached es ++ cond (not b) (cached p ∷ left d (map cached rest)) (left d (map cached rest))
  left_by true = refl
  left_by false = ap (λ (xs : List CacheEntry). xs ++ left d (map cached rest)) (map-append cached es (p ∷ [])) ∙ append_assoc (map cached es) (cached p ∷ []) (left d (map cached rest))

  pub left_on : map cached (with_left d p es) ++ left d (map cached rest) ≡ map cached es ++ left d (map cached pairs)
  left_on = left_by (drops_of d (cached p)) ∙ ap (λ (ps : List (Slot × Entry)). map cached es ++ left d (map cached ps)) (sym steps)

pub left_end : (d : Drops) (es pairs : List (Slot × Entry)) (all : List CacheEntry) → pairs ≡ [] → map cached es ++ left d (map cached pairs) ≡ all → map cached es ≡ all
left_end d es pairs all empty h = sym (append-nil (map cached es)) ∙ (ap (λ (ps : List (Slot × Entry)). map cached es ++ left d (map cached ps)) (sym empty) ∙ h)

-- ---- they aren't more

few_by : (b : Bool) (e : CacheEntry) (left es : List CacheEntry) → length left ≤ length es → length (cond b (e ∷ left) left) ≤ suc (length es)
few_by true e left es h = omega (arith, h)
few_by false e left es h = omega (arith, h)

left_few : (d : Drops) (es : List CacheEntry) → length (left d es) ≤ length es
left_few d [] = omega arith
left_few d (e ∷ es) = few_by (not (drops_of d e)) e (left d es) es (left_few d es)

pub copies_few : (d : Drops) (copies es : List (Slot × Entry)) (n : ℕ) → map cached copies ≡ left d (map cached es) → length es ≤ n → length copies ≤ n
copies_few d copies es n h few =
    let long = map_length cached copies in
    let same = ap length h in
    let less = left_few d (map cached es) in
    let all = map_length cached es in
    omega (arith, long, same, less, all, few)
