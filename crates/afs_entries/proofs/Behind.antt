-- The entries in front of others, and behind them.
use Rattle.std.proofs.Common.{◌≡◌, ◌≤◌, ◌<◌, ◌+◌, ◌-◌, ℕ, zero, suc, Bool, true, false, cond, List, [], ◌∷◌, ◌++◌, take, drop, length, Option, Some, None, Result, Ok, Err, OnOk, OnErr, refl, ap, sym, subst, ◌∙◌, arith, append_assoc}
use Rattle.std.specs.Prelude.{is_some, IsSome}
use Rattle.std.specs.List.{IsDistinct, AllByRecursion, slice_index_or}
use Rattle.std.specs.Map.{lookup, lookup_entry, remove_entry, set_value, keys_of}
use Rattle.std.proofs.lemmas.List.{append-nil, drop-drop}
use Rattle.std.proofs.lemmas.List.Elements.{All-more, All-weaker}
use Rattle.lru.specs.LruCache.{LruCache, lru_cache, promoted}
use Rattle.afs_num.specs.declared.types.Fid.{Fid}
use Rattle.spec_ideal.proofs.Basics.{same_fid-true}
use Rattle.afs_entries.specs.declared.cache.Slot.{Slot}
use Rattle.afs_entries.specs.declared.cache.Entry.{Entry}
use Rattle.afs_entries.specs.declared.cache.Fresh.{Fresh}
use Rattle.afs_entries.specs.Cached.{entry_joined, fid_in, slot_of, same_slot, raised, HasAll, HasKey, IsFront, KeepsKeys}
use Rattle.afs_entries.proofs.Placing.{same_refl}
use Rattle.afs_entries.proofs.Removing.{fewer}

-- ---- keys

pub same_slot-true : (s k : Slot) → same_slot s k ≡ true → s ≡ k
same_slot-true s k h = ap slot_of (same_fid-true (fid_in s) (fid_in k) h)

pair_is : (s : Slot) (v : Entry) (e : Slot × Entry) → e.0 ≡ s → e.1 ≡ v → Some e ≡ Some (s, v)
pair_is s v e p q = ap (λ (k : Slot). Some (k, e.1)) p ∙ ap (λ (w : Entry). Some (s, w)) q

at_by : (b : Bool) (s : Slot) (v : Entry) (e : Slot × Entry) (o : Option Entry) (p : Option (Slot × Entry)) → (b ≡ true → s ≡ e.0) → (o ≡ Some v → p ≡ Some (s, v)) → cond b (Some e.1) o ≡ Some v → cond b (Some e) p ≡ Some (s, v)
at_by true s v e o p same ih h = let there : e.1 ≡ v = cc in pair_is s v e (sym (same refl)) there
at_by false s v e o p same ih h = ih h

-- the pair that is found
pub pair_at : (s : Slot) (v : Entry) (es : List (Slot × Entry)) → lookup (same_slot s) es ≡ Some v → lookup_entry (same_slot s) es ≡ Some (s, v)
pair_at s v [] h = absurd cc
pair_at s v (e ∷ es) h = at_by (same_slot s e.0) s v e (lookup (same_slot s) es) (lookup_entry (same_slot s) es) (same_slot-true s e.0) (pair_at s v es) h

pub raised_is : (s : Slot) (v w : Entry) (es : List (Slot × Entry)) → lookup (same_slot s) es ≡ Some v → set_value (same_slot s) (promoted (same_slot s) es) w ≡ raised s w es
raised_is s v w es h = rw (pair_at s v es h) (rw (same_refl s) refl)

-- ---- what stands in front

front_by : (b : Bool) (v : Entry) (o p : Option Entry) → (IsSome o → IsSome p) → IsSome (cond b (Some v) o) → IsSome (cond b (Some v) p)
front_by true v o p ih h = h
front_by false v o p ih h = ih h

pub found_front : (t : Slot → Bool) (xs ys : List (Slot × Entry)) → IsSome (lookup t xs) → IsSome (lookup t (xs ++ ys))
found_front t [] ys h = absurd cc
found_front t (x ∷ xs) ys h = front_by (t x.0) x.1 (lookup t xs) (lookup t (xs ++ ys)) (found_front t xs ys) h

missing_by : (b : Bool) (v : Entry) (o p q : Option Entry) → (o ≡ None → p ≡ q) → cond b (Some v) o ≡ None → cond b (Some v) p ≡ q
missing_by true v o p q ih h = absurd cc
missing_by false v o p q ih h = ih h

-- what isn't in front is behind
pub behind : (t : Slot → Bool) (xs ys : List (Slot × Entry)) → lookup t xs ≡ None → lookup t (xs ++ ys) ≡ lookup t ys
behind t [] ys h = refl
behind t (x ∷ xs) ys h = missing_by (t x.0) x.1 (lookup t xs) (lookup t (xs ++ ys)) (lookup t ys) (behind t xs ys) h

-- what isn't behind is in front
pub in_front : (t : Slot → Bool) (xs ys : List (Slot × Entry)) → lookup t ys ≡ None → lookup t xs ≡ lookup t (xs ++ ys)
in_front t [] ys h = sym h
in_front t (x ∷ xs) ys h = ap (λ (o : Option Entry). cond (t x.0) (Some x.1) o) (in_front t xs ys h)

taken_by : (b : Bool) (x : Slot × Entry) (xs ys left all : List (Slot × Entry)) (o : Option Entry) → (IsSome o → all ≡ left ++ ys) → IsSome (cond b (Some x.1) o) → cond b (xs ++ ys) (x ∷ all) ≡ cond b xs (x ∷ left) ++ ys
taken_by true x xs ys left all o ih h = refl
taken_by false x xs ys left all o ih h = ap (λ (zs : List (Slot × Entry)). x ∷ zs) (ih h)

pub removed_front : (t : Slot → Bool) (xs ys : List (Slot × Entry)) → IsSome (lookup t xs) → remove_entry t (xs ++ ys) ≡ remove_entry t xs ++ ys
removed_front t [] ys h = absurd cc
removed_front t (x ∷ xs) ys h = taken_by (t x.0) x xs ys (remove_entry t xs) (remove_entry t (xs ++ ys)) (lookup t xs) (removed_front t xs ys) h

left_by : (b : Bool) (x : Slot × Entry) (xs ys left all : List (Slot × Entry)) (o : Option Entry) → (o ≡ None → all ≡ xs ++ left) → cond b (Some x.1) o ≡ None → cond b (xs ++ ys) (x ∷ all) ≡ (x ∷ xs) ++ left
left_by true x xs ys left all o ih h = absurd cc
left_by false x xs ys left all o ih h = ap (λ (zs : List (Slot × Entry)). x ∷ zs) (ih h)

pub removed_behind : (t : Slot → Bool) (xs ys : List (Slot × Entry)) → lookup t xs ≡ None → remove_entry t (xs ++ ys) ≡ xs ++ remove_entry t ys
removed_behind t [] ys h = refl
removed_behind t (x ∷ xs) ys h = left_by (t x.0) x xs ys (remove_entry t ys) (remove_entry t (xs ++ ys)) (lookup t xs) (removed_behind t xs ys) h

-- ---- what stands behind

later_by : (b : Bool) (v : Entry) (o : Option Entry) → IsSome o → IsSome (cond b (Some v) o)
later_by true v o h = refl
later_by false v o h = h

found_later : (t : Slot → Bool) (xs ys : List (Slot × Entry)) (e : Slot × Entry) → t e.0 ≡ true → IsSome (lookup t (xs ++ e ∷ ys))
found_later t [] ys e q = rw q refl
found_later t (x ∷ xs) ys e q = later_by (t x.0) x.1 (lookup t (xs ++ e ∷ ys)) (found_later t xs ys e q)

-- a key is found behind the first n
pub found_behind : (t : Slot → Bool) (n : ℕ) (xs ys : List (Slot × Entry)) (e : Slot × Entry) → n ≤ length xs → t e.0 ≡ true → IsSome (lookup t (drop n (xs ++ e ∷ ys)))
found_behind t zero [] ys e h q = rw q refl
found_behind t zero (x ∷ xs) ys e h q = found_later t (x ∷ xs) ys e q
found_behind t (suc n) [] ys e h q = absurd (omega (arith, h))
found_behind t (suc n) (x ∷ xs) ys e h q = found_behind t n xs ys e (omega (arith, h)) q

-- what is missing behind is missing further behind
none_by : (b : Bool) (v : Entry) (o : Option Entry) → cond b (Some v) o ≡ None → o ≡ None
none_by true v o h = absurd cc
none_by false v o h = h

pub none_behind : (t : Slot → Bool) (n : ℕ) (es : List (Slot × Entry)) → lookup t es ≡ None → lookup t (drop n es) ≡ None
none_behind t zero es h = h
none_behind t (suc n) [] h = refl
none_behind t (suc n) (e ∷ es) h = none_behind t n es (none_by (t e.0) e.1 (lookup t es) h)

-- there is something behind
pub some_behind : (t : Slot → Bool) (n : ℕ) (es : List (Slot × Entry)) → IsSome (lookup t (drop n es)) → n < length es
some_behind t zero [] h = absurd cc
some_behind t zero (e ∷ es) h = omega arith
some_behind t (suc n) [] h = absurd cc
some_behind t (suc n) (e ∷ es) h = let less = some_behind t n es h in omega (arith, less)

-- ---- keys are distinct

all_front : (P : Slot → Type 0) (xs ys : List (Slot × Entry)) → AllByRecursion P (keys_of (xs ++ ys)) → AllByRecursion P (keys_of xs)
all_front P [] ys h = tt
all_front P (x ∷ xs) ys h = (h.0, all_front P xs ys h.1)

pub distinct_front : (xs ys : List (Slot × Entry)) → IsDistinct same_slot (keys_of (xs ++ ys)) → IsDistinct same_slot (keys_of xs)
unfolding IsDistinct
distinct_front [] ys d = tt
distinct_front (x ∷ xs) ys d = (all_front (λ (k : Slot). same_slot x.0 k ≡ false) xs ys d.0, distinct_front xs ys d.1)

no_key : (s : Slot) (es : List (Slot × Entry)) → AllByRecursion (λ (k : Slot). same_slot s k ≡ false) (keys_of es) → lookup (same_slot s) es ≡ None
no_key s [] h = refl
no_key s (e ∷ es) h = rw h.0 (no_key s es h.1)

all_behind : (P : Slot → Type 0) (xs ys : List (Slot × Entry)) → AllByRecursion P (keys_of (xs ++ ys)) → AllByRecursion P (keys_of ys)
all_behind P [] ys h = h
all_behind P (x ∷ xs) ys h = all_behind P xs ys h.1

apart_by : (b : Bool) (s : Slot) (x : Slot × Entry) (xs ys : List (Slot × Entry)) → same_slot s x.0 ≡ b → AllByRecursion (λ (k : Slot). same_slot x.0 k ≡ false) (keys_of ys) → IsSome (lookup (same_slot s) ys) → lookup (same_slot s) xs ≡ None
    → cond b (Some x.1) (lookup (same_slot s) xs) ≡ None
apart_by true s x xs ys q h some ih =
    let same = same_slot-true s x.0 q in
    let none = no_key s ys (subst (λ (j : Slot). AllByRecursion (λ (k : Slot). same_slot j k ≡ false) (keys_of ys)) (sym same) h) in
    let never = subst IsSome none some in absurd cc
apart_by false s x xs ys q h some ih = ih

-- a key that stands behind isn't in front
pub apart_front : (s : Slot) (xs ys : List (Slot × Entry)) → IsDistinct same_slot (keys_of (xs ++ ys)) → IsSome (lookup (same_slot s) ys) → lookup (same_slot s) xs ≡ None
unfolding IsDistinct
apart_front s [] ys d some = refl
apart_front s (x ∷ xs) ys d some = apart_by (same_slot s x.0) s x xs ys refl (all_behind (λ (k : Slot). same_slot x.0 k ≡ false) xs ys d.0) some (apart_front s xs ys d.1 some)

-- ---- the old entries in front

pub front_same : (es : List (Slot × Entry)) → IsFront es es
front_same es = ([], sym (append-nil es))

pub front_on : (a b c : List (Slot × Entry)) → IsFront a b → IsFront b c → IsFront a c
front_on a b c h k = (h.0 ++ k.0, k.1 ∙ (ap (λ (xs : List (Slot × Entry)). xs ++ k.0) h.1 ∙ append_assoc a h.0 k.0))

-- ---- a key gets the last place, or none

pub added_front : {A B : Type 0} (s : Slot) (v : Entry) (old new : LruCache Slot Entry) (r : Result A B) → OnOk r (new ≡ lru_cache (old.entries ++ (s, v) ∷ []) old.cap) → OnErr r (new ≡ old) → IsFront old.entries new.entries
added_front s v old new (Ok x) ok err = ((s, v) ∷ [], ap (λ (c : LruCache Slot Entry). c.entries) ok)
added_front s v old new (Err e) ok err = ([], ap (λ (c : LruCache Slot Entry). c.entries) err ∙ sym (append-nil old.entries))

pub added_key : {A B : Type 0} (s : Slot) (v : Entry) (old new : LruCache Slot Entry) (r : Result A B) → OnOk r (new ≡ lru_cache (old.entries ++ (s, v) ∷ []) old.cap) → OnOk r (HasKey s new)
added_key s v old new (Ok x) ok = subst (HasKey s) (sym ok) (found_later (same_slot s) old.entries [] (s, v) (same_refl s))
added_key s v old new (Err e) ok = tt

-- ---- a look from the end

pub dropped_front : {A : Type 0} (xs ys : List A) → drop (length xs) (xs ++ ys) ≡ ys
dropped_front {A} [] ys = refl
dropped_front {A} (x ∷ xs) ys = dropped_front xs ys

one_longer : {A : Type 0} (xs : List A) (x : A) → length (xs ++ x ∷ []) ≡ suc (length xs)
one_longer {A} [] x = refl
one_longer {A} (y ∷ xs) x = ap suc (one_longer xs x)

module _ (t : Slot → Bool) (es pairs left : List (Slot × Entry)) (e : Slot × Entry) (took : pairs ≡ left ++ e ∷ []) (front : pairs ++ drop (length pairs) es ≡ es) where
  splits : es ≡ left ++ e ∷ drop (length pairs) es
  splits = sym front ∙ (ap (λ (ps : List (Slot × Entry)). ps ++ drop (length pairs) es) took ∙ append_assoc left (e ∷ []) (drop (length pairs) es))

  pub seen_there : (n : ℕ) → n ≤ length left → t e.0 ≡ true → is_some (lookup t (drop n es)) ≡ true
  seen_there n le q = subst (λ (xs : List (Slot × Entry)). IsSome (lookup t (drop n xs))) (sym splits) (found_behind t n left (drop (length pairs) es) e le q)

  pub not_there : (n : ℕ) → length left < n → lookup t (drop (length pairs) es) ≡ None → lookup t (drop n es) ≡ None
  not_there n lt none =
      let one : length (left ++ e ∷ []) ≡ suc (length left) = one_longer left e in
      let long : length pairs ≡ suc (length left) = ap length took ∙ one in
      let sum : length pairs + (n - length pairs) ≡ n = omega (arith, long, lt) in
      subst (λ (xs : List (Slot × Entry)). lookup t xs ≡ None) (drop-drop (n - length pairs) (length pairs) es ∙ ap (λ (m : ℕ). drop m es) sum) (none_behind t (n - length pairs) (drop (length pairs) es) none)

pub nothing_behind : (t : Slot → Bool) (n : ℕ) (es pairs : List (Slot × Entry)) → pairs ≡ [] → lookup t (drop (length pairs) es) ≡ None → lookup t (drop n es) ≡ None
nothing_behind t n es pairs empty none = none_behind t n es (subst (λ (ps : List (Slot × Entry)). lookup t (drop (length ps) es) ≡ None) empty none)

-- ---- a place for each

pub all_more : (fresh : List Fresh) (i : ℕ) (f : Fresh) (old new : LruCache Slot Entry) → i < length fresh → f ≡ slice_index_or fresh i f → IsFront old.entries new.entries → HasAll (take i fresh) old → HasKey (slot_of f.fid) new → HasAll (take (i + 1) fresh) new
all_more fresh i f old new lt is front all one =
    All-more (λ (g : Fresh). HasKey (slot_of g.fid) new) fresh i f lt
    (All-weaker (λ (g : Fresh). HasKey (slot_of g.fid) old) (λ (g : Fresh). HasKey (slot_of g.fid) new) (λ g h. subst (λ (xs : List (Slot × Entry)). IsSome (lookup (same_slot (slot_of g.fid)) xs)) (sym front.1) (found_front (same_slot (slot_of g.fid)) old.entries front.0 h)) (take i fresh) all)
    (subst (λ (g : Fresh). HasKey (slot_of g.fid) new) is one)

-- ---- a key that stands first

kept_by : (b : Bool) (w : Entry) (o p : Option Entry) → (b ≡ false → p ≡ o) → IsSome o → IsSome (cond b (Some w) p)
kept_by true w o p h some = refl
kept_by false w o p h some = subst IsSome (sym (h refl)) some

apart_keys : (s k : Slot) → same_slot k s ≡ false → (j : Slot) → same_slot s j ≡ true → same_slot k j ≡ false
apart_keys s k h j q = subst (λ (x : Slot). same_slot k x ≡ false) (same_slot-true s j q) h

left_found : (b : Bool) (k : Slot) (e : Slot × Entry) (es left : List (Slot × Entry)) → (b ≡ true → same_slot k e.0 ≡ false) → lookup (same_slot k) left ≡ lookup (same_slot k) es → lookup (same_slot k) (cond b es (e ∷ left)) ≡ lookup (same_slot k) (e ∷ es)
left_found true k e es left apart h = rw (apart refl) refl
left_found false k e es left apart h = ap (cond (same_slot k e.0) (Some e.1)) h

found_left : (s k : Slot) (es : List (Slot × Entry)) → ((j : Slot) → same_slot s j ≡ true → same_slot k j ≡ false) → lookup (same_slot k) (remove_entry (same_slot s) es) ≡ lookup (same_slot k) es
found_left s k [] apart = refl
found_left s k (e ∷ es) apart = left_found (same_slot s e.0) k e es (remove_entry (same_slot s) es) (apart e.0) (found_left s k es apart)

pub raised_keeps : (s k : Slot) (w : Entry) (es : List (Slot × Entry)) → IsSome (lookup (same_slot k) es) → IsSome (lookup (same_slot k) (raised s w es))
raised_keeps s k w es some = kept_by (same_slot k s) w (lookup (same_slot k) es) (lookup (same_slot k) (remove_entry (same_slot s) es)) (λ h. found_left s k es (apart_keys s k h)) some

pub missing : {A : Type 0} (o : Option A) → false ≡ is_some o → o ≡ None
missing {A} None h = refl
missing {A} (Some x) h = absurd cc

pub some_of : {A : Type 0} (o : Option A) → IsSome o → (x : A) × (o ≡ Some x)
some_of {A} None h = absurd cc
some_of {A} (Some x) h = (x, refl)

pub raised_long : (s : Slot) (v w : Entry) (es : List (Slot × Entry)) → lookup (same_slot s) es ≡ Some v → length (raised s w es) ≡ length es
raised_long s v w es h = fewer (same_slot s) es (s, v) (pair_at s v es h)

-- what `raise` says of a key that has a place
pub stands : (s : Slot) (f : Fid) (seen : Bool) (e : Entry) (old new : LruCache Slot Entry) → s ≡ slot_of f → HasKey (slot_of f) old
    → ((v : Entry) → lookup (same_slot s) old.entries ≡ Some v → new ≡ lru_cache (raised s (entry_joined seen e v) old.entries) old.cap)
    → (v : Entry) × (lookup (same_slot (slot_of f)) old.entries ≡ Some v) × (new ≡ lru_cache (raised (slot_of f) (entry_joined seen e v) old.entries) old.cap)
stands s f seen e old new same some h =
    let there = some_of (lookup (same_slot (slot_of f)) old.entries) some in
    (there.0, there.1, subst (λ (k : Slot). new ≡ lru_cache (raised k (entry_joined seen e there.0) old.entries) old.cap) same (h there.0 (subst (λ (k : Slot). lookup (same_slot k) old.entries ≡ Some there.0) (sym same) there.1)))

pub all_kept : (fresh : List Fresh) (old new : LruCache Slot Entry) → KeepsKeys old new → HasAll fresh old → HasAll fresh new
all_kept fresh old new keeps all = All-weaker (λ (g : Fresh). HasKey (slot_of g.fid) old) (λ (g : Fresh). HasKey (slot_of g.fid) new) (λ g h. keeps (slot_of g.fid) h) fresh all
