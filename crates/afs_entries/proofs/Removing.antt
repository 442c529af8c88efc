-- How many entries there are once one has gone, or stands elsewhere.
use Rattle.std.proofs.Common.{◌≡◌, ◌≤◌, ℕ, zero, suc, Bool, true, false, cond, List, [], ◌∷◌, map, take, length, Option, Some, None, refl, ap, arith}
use Rattle.std.specs.Option.{option_map_or}
use Rattle.std.specs.Map.{lookup_entry, remove_entry}
use Rattle.lru.specs.LruCache.{promoted}
use Rattle.afs_entries.specs.declared.cache.Slot.{Slot}
use Rattle.afs_entries.specs.declared.cache.Entry.{Entry}

pub whole : {A : Type 0} (n : ℕ) (xs : List A) → length xs ≤ n → take n xs ≡ xs
whole {A} zero [] h = refl
whole {A} zero (x ∷ xs) h = absurd (omega (arith, h))
whole {A} (suc n) [] h = refl
whole {A} (suc n) (x ∷ xs) h = ap (λ (ys : List A). x ∷ ys) (whole n xs (omega (arith, h)))

pub map_take : {A B : Type 0} (f : A → B) (n : ℕ) (xs : List A) → map f (take n xs) ≡ take n (map f xs)
map_take {A} {B} f zero xs = refl
map_take {A} {B} f (suc n) [] = refl
map_take {A} {B} f (suc n) (x ∷ xs) = ap (λ (ys : List B). f x ∷ ys) (map_take f n xs)

pub map_length : {A B : Type 0} (f : A → B) (xs : List A) → length (map f xs) ≡ length xs
map_length {A} {B} f [] = refl
map_length {A} {B} f (x ∷ xs) = ap suc (map_length f xs)

-- ---- how many are left

fewer_by : (b : Bool) (e p : Slot × Entry) (es left : List (Slot × Entry)) (o : Option (Slot × Entry)) → (o ≡ Some p → suc (length left) ≡ length es) → cond b (Some e) o ≡ Some p
    → suc (length (cond b es (e ∷ left))) ≡ suc (length es)
fewer_by true e p es left o h q = refl
fewer_by false e p es left o h q = ap suc (h q)

pub fewer : (t : Slot → Bool) (es : List (Slot × Entry)) (p : Slot × Entry) → lookup_entry t es ≡ Some p → suc (length (remove_entry t es)) ≡ length es
fewer t [] p q = absurd cc
fewer t (e ∷ es) p q = fewer_by (t e.0) e p es (remove_entry t es) (lookup_entry t es) (fewer t es p) q

all_by : (b : Bool) (e : Slot × Entry) (es left : List (Slot × Entry)) (o : Option (Slot × Entry)) → (o ≡ None → left ≡ es) → cond b (Some e) o ≡ None → cond b es (e ∷ left) ≡ e ∷ es
all_by true e es left o h q = absurd cc
all_by false e es left o h q = ap (λ (xs : List (Slot × Entry)). e ∷ xs) (h q)

pub all_left : (t : Slot → Bool) (es : List (Slot × Entry)) → lookup_entry t es ≡ None → remove_entry t es ≡ es
all_left t [] q = refl
all_left t (e ∷ es) q = all_by (t e.0) e es (remove_entry t es) (lookup_entry t es) (all_left t es) q

removed_by : (t : Slot → Bool) (es : List (Slot × Entry)) (o : Option (Slot × Entry)) → lookup_entry t es ≡ o → length (remove_entry t es) ≤ length es
removed_by t es None q = let same = ap (λ (xs : List (Slot × Entry)). length xs) (all_left t es q) in omega (arith, same)
removed_by t es (Some p) q = let less = fewer t es p q in omega (arith, less)

pub removed_few : (t : Slot → Bool) (es : List (Slot × Entry)) → length (remove_entry t es) ≤ length es
removed_few t es = removed_by t es (lookup_entry t es) refl

promoted_by : (t : Slot → Bool) (es : List (Slot × Entry)) (o : Option (Slot × Entry)) → lookup_entry t es ≡ o → length (option_map_or (λ (e : Slot × Entry). e ∷ remove_entry t es) o es) ≡ length es
promoted_by t es None q = refl
promoted_by t es (Some p) q = fewer t es p q

pub promoted_long : (t : Slot → Bool) (es : List (Slot × Entry)) → length (promoted t es) ≡ length es
promoted_long t es = promoted_by t es (lookup_entry t es) refl
