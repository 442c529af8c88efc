-- An entry comes into the cache, which is the first so many of the map.
use Rattle.std.proofs.Common.{◌≡◌, ◌≤◌, ◌<◌, ◌+◌, ◌-◌, ℕ, suc, Bool, true, false, List, [], ◌∷◌, ◌++◌, map, take, drop, length, Option, Some, None, refl, ap, sym, subst, ◌∙◌, arith}
use Rattle.std.specs.Prelude.{nat_lt, min, IsSome}
use Rattle.std.specs.List.{IsDistinct}
use Rattle.std.specs.Option.{option_map}
use Rattle.std.specs.Map.{lookup, remove_entry, keys_of}
use Rattle.std.proofs.lemmas.List.{take-append-le, take-append-drop, length-take-le}
use Rattle.std.proofs.lemmas.Bool.{ltb-true, ltb-false}
use Rattle.afs_num.specs.declared.types.Fid.{Fid}
use Rattle.afs_num.specs.declared.histories.Body.{Body}
use Rattle.spec_rows.specs.States.{CacheEntry}
use Rattle.spec_rows.specs.ClientRow.{body_kept, find_cached, put_entry}
use Rattle.afs_entries.specs.declared.cache.Slot.{Slot}
use Rattle.afs_entries.specs.declared.cache.Entry.{Entry}
use Rattle.afs_entries.specs.Cached.{body_over, cached, entry_at, entry_joined, raised, same_slot, slot_of, without}
use Rattle.afs_entries.proofs.Caching.{found, popped}
use Rattle.afs_entries.proofs.Removing.{fewer, map_length, map_take, whole, all_left}
use Rattle.afs_entries.proofs.Placing.{no_entry}
use Rattle.afs_entries.proofs.Behind.{apart_front, distinct_front, in_front, pair_at, removed_behind, removed_front}

-- ---- the first of a list

pub taken_front : {A : Type 0} (xs ys : List A) → take (length xs) (xs ++ ys) ≡ xs
taken_front {A} [] ys = refl
taken_front {A} (x ∷ xs) ys = ap (λ (zs : List A). x ∷ zs) (taken_front xs ys)

-- ---- its body

body_by : (o : Option Body) (index : ℕ) (old : Entry) (f : Fid) → body_over o index old ≡ body_kept o index (Some (entry_at f old))
body_by (Some body) index old f = refl
body_by None index old f = refl

pub joined_is : (f : Fid) (e v : Entry) (o : Option CacheEntry) → o ≡ Some (entry_at f v) → entry_at f (entry_joined true e v) ≡ record (entry_at f e) { body = body_kept e.body e.index o }
joined_is f e v o h = ap (λ (b : Option Body). entry_at f (record e { body = b })) (body_by e.body e.index v f ∙ ap (body_kept e.body e.index) (sym h))

alone : (f : Fid) (e : Entry) (b : Option Body) (o : Option CacheEntry) → o ≡ None → e.body ≡ b → body_kept b e.index o ≡ b
alone f e (Some body) o h q = refl
alone f e None o h q = rw h refl

alone_is : (f : Fid) (e : Entry) (o : Option CacheEntry) → o ≡ None → entry_at f e ≡ record (entry_at f e) { body = body_kept e.body e.index o }
alone_is f e o h = ap (λ (b : Option Body). record (entry_at f e) { body = b }) (sym (alone f e e.body o h refl))

-- ---- where its key is among the first

module _ (f : Fid) (e v : Entry) (front tail : List (Slot × Entry)) (d : IsDistinct same_slot (keys_of front)) where
  abbrev key : Slot → Bool
  key = same_slot (slot_of f)

  seen_all : lookup key front ≡ Some v → map cached (take (length front) (raised (slot_of f) (entry_joined true e v) (front ++ tail))) ≡ entry_at f (entry_joined true e v) ∷ without f (map cached front)
  seen_all h =
      let less : suc (length (remove_entry key front)) ≡ length front = fewer key front (slot_of f, v) (pair_at (slot_of f) v front h) in
      let taken : take (length front) (raised (slot_of f) (entry_joined true e v) (front ++ tail)) ≡ (slot_of f, entry_joined true e v) ∷ remove_entry key front =
      ap (λ (n : ℕ). take n (raised (slot_of f) (entry_joined true e v) (front ++ tail))) (sym less)
      ∙ (ap (λ (xs : List (Slot × Entry)). (slot_of f, entry_joined true e v) ∷ take (length (remove_entry key front)) xs) (removed_front key front tail (rw h refl))
      ∙ ap (λ (xs : List (Slot × Entry)). (slot_of f, entry_joined true e v) ∷ xs) (taken_front (remove_entry key front) tail)) in
      ap (map cached) taken ∙ ap (λ (xs : List CacheEntry). entry_at f (entry_joined true e v) ∷ xs) (popped f front d)

  pub put_seen : (capacity : ℕ) → lookup key front ≡ Some v → length front ≤ capacity
      → map cached (take (length front) (raised (slot_of f) (entry_joined true e v) (front ++ tail))) ≡ put_entry capacity (entry_at f e) (map cached front)
  put_seen capacity h few =
      let less : suc (length (remove_entry key front)) ≡ length front = fewer key front (slot_of f, v) (pair_at (slot_of f) v front h) in
      let long : length (map cached (remove_entry key front)) ≡ length (remove_entry key front) = map_length cached (remove_entry key front) in
      let short : length (entry_at f (entry_joined true e v) ∷ map cached (remove_entry key front)) ≤ capacity = omega (arith, less, long, few) in
      let all : entry_at f (entry_joined true e v) ∷ without f (map cached front) ≡ take capacity (entry_at f (entry_joined true e v) ∷ without f (map cached front)) =
      subst (λ (xs : List CacheEntry). entry_at f (entry_joined true e v) ∷ xs ≡ take capacity (entry_at f (entry_joined true e v) ∷ xs)) (popped f front d) (sym (whole capacity _ short)) in
      let there : find_cached f (map cached front) ≡ Some (entry_at f v) = sym (found f front) ∙ ap (option_map (entry_at f)) h in
      seen_all h ∙ (all ∙ ap (λ (x : CacheEntry). take capacity (x ∷ without f (map cached front))) (joined_is f e v (find_cached f (map cached front)) there))

  -- ---- where it isn't

  not_cached : lookup key front ≡ None → without f (map cached front) ≡ map cached front
  not_cached h = sym (popped f front d) ∙ ap (map cached) (all_left key front (no_entry key front h))

  pub comes_alone : (capacity : ℕ) → lookup key front ≡ None → take capacity (entry_at f e ∷ map cached front) ≡ put_entry capacity (entry_at f e) (map cached front)
  comes_alone capacity h =
      let none : find_cached f (map cached front) ≡ None = sym (found f front) ∙ ap (option_map (entry_at f)) h in
      ap (λ (xs : List CacheEntry). take capacity (entry_at f e ∷ xs)) (sym (not_cached h)) ∙ ap (λ (x : CacheEntry). take capacity (x ∷ without f (map cached front))) (alone_is f e (find_cached f (map cached front)) none)

  pub put_room : (capacity : ℕ) → lookup key front ≡ None → length front < capacity
      → map cached (take (length front + 1) (raised (slot_of f) (entry_joined false e v) (front ++ tail))) ≡ put_entry capacity (entry_at f e) (map cached front)
  put_room capacity h room =
      let more : length front + 1 ≡ suc (length front) = omega arith in
      let taken : take (length front + 1) (raised (slot_of f) e (front ++ tail)) ≡ (slot_of f, e) ∷ front =
      ap (λ (n : ℕ). take n (raised (slot_of f) e (front ++ tail))) more
      ∙ (ap (λ (xs : List (Slot × Entry)). (slot_of f, e) ∷ take (length front) xs) (removed_behind key front tail h)
      ∙ ap (λ (xs : List (Slot × Entry)). (slot_of f, e) ∷ xs) (taken_front front (remove_entry key tail))) in
      let long : length (map cached front) ≡ length front = map_length cached front in
      let short : length (entry_at f e ∷ map cached front) ≤ capacity = omega (arith, long, room) in
      ap (map cached) taken ∙ (sym (whole capacity (entry_at f e ∷ map cached front) short) ∙ comes_alone capacity h)

  pub put_full : (m : ℕ) → lookup key front ≡ None → length front ≡ suc m
      → map cached (take (suc m) (raised (slot_of f) (entry_joined false e v) (front ++ tail))) ≡ put_entry (suc m) (entry_at f e) (map cached front)
  put_full m h full =
      let taken : take (suc m) (raised (slot_of f) e (front ++ tail)) ≡ (slot_of f, e) ∷ take m front =
      ap (λ (xs : List (Slot × Entry)). (slot_of f, e) ∷ take m xs) (removed_behind key front tail h)
      ∙ ap (λ (xs : List (Slot × Entry)). (slot_of f, e) ∷ xs) (take-append-le m front (remove_entry key tail) (omega (arith, full))) in
      ap (map cached) taken ∙ (ap (λ (xs : List CacheEntry). entry_at f e ∷ xs) (map_take cached m front) ∙ comes_alone (suc m) h)

-- ---- the first so many

module _ (f : Fid) (e : Entry) (count capacity : ℕ) (es : List (Slot × Entry)) (d : IsDistinct same_slot (keys_of es)) (within : count ≤ length es) (few : count ≤ capacity) where
  parts : take count es ++ drop count es ≡ es
  parts = take-append-drop count es

  apart : IsDistinct same_slot (keys_of (take count es ++ drop count es))
  apart = subst (λ (xs : List (Slot × Entry)). IsDistinct same_slot (keys_of xs)) (sym parts) d

  long : length (take count es) ≡ count
  long = length-take-le count es within

  pub put_first : (v : Entry) → lookup (same_slot (slot_of f)) es ≡ Some v → lookup (same_slot (slot_of f)) (drop count es) ≡ None
      → map cached (take count (raised (slot_of f) (entry_joined true e v) es)) ≡ put_entry capacity (entry_at f e) (map cached (take count es))
  put_first v h none =
      let there : lookup (same_slot (slot_of f)) (take count es) ≡ Some v = in_front (same_slot (slot_of f)) (take count es) (drop count es) none ∙ (ap (lookup (same_slot (slot_of f))) parts ∙ h) in
      let put = put_seen f e v (take count es) (drop count es) (distinct_front (take count es) (drop count es) apart) capacity there (subst (λ (n : ℕ). n ≤ capacity) (sym long) few) in
      ap (λ (n : ℕ). map cached (take n (raised (slot_of f) (entry_joined true e v) es))) (sym long)
      ∙ (ap (λ (xs : List (Slot × Entry)). map cached (take (length (take count es)) (raised (slot_of f) (entry_joined true e v) xs))) (sym parts) ∙ put)

  put_by : (b : Bool) (m : ℕ) → nat_lt count capacity ≡ b → 0 < capacity → lookup (same_slot (slot_of f)) (take count es) ≡ None → m ≡ min (count + 1) capacity
      → map cached (take m (raised (slot_of f) e (take count es ++ drop count es))) ≡ put_entry capacity (entry_at f e) (map cached (take count es))
  put_by true m q some none is =
      let room : count < capacity = ltb-true count capacity q in
      let same : m ≡ length (take count es) + 1 = omega (arith, is, long, room) in
      ap (λ (n : ℕ). map cached (take n (raised (slot_of f) e (take count es ++ drop count es)))) same
      ∙ put_room f e e (take count es) (drop count es) (distinct_front (take count es) (drop count es) apart) capacity none (omega (arith, long, room))
  put_by false m q some none is =
      let full = ltb-false count capacity q in
      let all : capacity ≡ suc (capacity - 1) = omega (arith, some) in
      let same : m ≡ suc (capacity - 1) = omega (arith, is, full, few, some) in
      let enough : length (take count es) ≡ suc (capacity - 1) = omega (arith, long, full, few, some) in
      ap (λ (n : ℕ). map cached (take n (raised (slot_of f) e (take count es ++ drop count es)))) same
      ∙ (put_full f e e (take count es) (drop count es) (distinct_front (take count es) (drop count es) apart) (capacity - 1) none enough
      ∙ ap (λ (n : ℕ). put_entry n (entry_at f e) (map cached (take count es))) (sym all))

  pub put_last : (m : ℕ) → 0 < capacity → IsSome (lookup (same_slot (slot_of f)) (drop count es)) → m ≡ min (count + 1) capacity
      → map cached (take m (raised (slot_of f) e es)) ≡ put_entry capacity (entry_at f e) (map cached (take count es))
  put_last m some there is =
      let none = apart_front (slot_of f) (take count es) (drop count es) apart there in
      ap (λ (xs : List (Slot × Entry)). map cached (take m (raised (slot_of f) e xs))) (sym parts) ∙ put_by (nat_lt count capacity) m refl some none is
