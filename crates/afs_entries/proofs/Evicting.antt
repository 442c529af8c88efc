-- Which entry goes where one comes, and what is found then.
use Rattle.std.proofs.Common.{◌≡◌, ◌≤◌, ◌<◌, ◌-◌, ℕ, zero, suc, Bool, true, false, cond, not, ◌||◌, List, [], ◌∷◌, map, take, length, Option, Some, None, refl, ap, sym, subst, ◌∙◌, arith}
use Rattle.std.specs.Prelude.{nat_lt, slice_get, is_some, IsSome}
use Rattle.std.specs.Option.{option_map}
use Rattle.std.specs.List.{AllByRecursion}
use Rattle.std.proofs.lemmas.Option.{slice_get-map}
use Rattle.afs_num.specs.Fids.{same_fid}
use Rattle.afs_num.specs.declared.types.Fid.{Fid}
use Rattle.afs_num.specs.declared.histories.Body.{Body}
use Rattle.std.proofs.lemmas.Bool.{ltb-true, ltb-false}
use Rattle.spec_ideal.proofs.Basics.{same_fid-true}
use Rattle.spec_rows.specs.States.{CacheEntry}
use Rattle.spec_rows.specs.ClientRow.{find_cached, put_entry, joined, body_kept}
use Rattle.afs_entries.specs.Cached.{fid_in, cached, without, evicted, evicted_by, is_fid, last_fid, AreApart}
use Rattle.afs_entries.specs.declared.cache.Slot.{Slot}
use Rattle.afs_entries.specs.declared.cache.Entry.{Entry}
use Rattle.afs_entries.proofs.Caching.{same_fid-sym}
use Rattle.afs_entries.proofs.Removing.{map_length, whole}

-- ---- the program's test

twice : (o : Option (Slot × Entry)) → option_map (λ (e : CacheEntry). e.fid) (option_map cached o) ≡ option_map (λ (p : Slot × Entry). fid_in p.0) o
twice None = refl
twice (Some p) = refl

pub last_is : (es : List (Slot × Entry)) → last_fid (map cached es) ≡ option_map (λ (p : Slot × Entry). fid_in p.0) (slice_get es (length es - 1))
last_is es = ap (λ (k : ℕ). option_map (λ (e : CacheEntry). e.fid) (slice_get (map cached es) (k - 1))) (map_length cached es) ∙ (ap (option_map (λ (e : CacheEntry). e.fid)) (slice_get-map cached es (length es - 1)) ∙ twice (slice_get es (length es - 1)))

-- ---- a list without its last

abbrev last_of : CacheEntry → List CacheEntry → CacheEntry
last_of x [] = x
last_of x (y ∷ ys) = last_of y ys

abbrev init_of : CacheEntry → List CacheEntry → List CacheEntry
init_of x [] = []
init_of x (y ∷ ys) = x ∷ init_of y ys

last_got : (x : CacheEntry) (xs : List CacheEntry) → slice_get (x ∷ xs) (length xs) ≡ Some (last_of x xs)
last_got x [] = refl
last_got x (y ∷ ys) = last_got y ys

init_taken : (x : CacheEntry) (xs : List CacheEntry) → take (length xs) (x ∷ xs) ≡ init_of x xs
init_taken x [] = refl
init_taken x (y ∷ ys) = ap (λ (es : List CacheEntry). x ∷ es) (init_taken y ys)

last_apart : (f : Fid) (y : CacheEntry) (ys : List CacheEntry) → AllByRecursion (λ (x : CacheEntry). same_fid f x.fid ≡ false) (y ∷ ys) → same_fid f (last_of y ys).fid ≡ false
last_apart f y [] h = h.0
last_apart f y (z ∷ zs) h = last_apart f z zs h.1

alone : (b : Bool) (x : CacheEntry) → None ≡ cond b None (cond b (Some x) None)
alone true x = refl
alone false x = refl

swapped : (a l : Bool) (x : CacheEntry) (o : Option CacheEntry) → (a ≡ true → l ≡ false) → cond a (Some x) (cond l None o) ≡ cond l None (cond a (Some x) o)
swapped true true x o h = let no : true ≡ false = h refl in absurd cc
swapped true false x o h = refl
swapped false true x o h = refl
swapped false false x o h = refl

find_init : (g : Fid) (x : CacheEntry) (xs : List CacheEntry) → AreApart (x ∷ xs) → find_cached g (init_of x xs) ≡ cond (same_fid (last_of x xs).fid g) None (find_cached g (x ∷ xs))
find_init g x [] d = alone (same_fid x.fid g) x
find_init g x (y ∷ ys) d =
    ap (λ (o : Option CacheEntry). cond (same_fid x.fid g) (Some x) o) (find_init g y ys d.1)
    ∙ swapped (same_fid x.fid g) (same_fid (last_of y ys).fid g) x (find_cached g (y ∷ ys))
    (λ (t : same_fid x.fid g ≡ true). subst (λ (h : Fid). same_fid (last_of y ys).fid h ≡ false) (same_fid-true x.fid g t) (same_fid-sym (last_of y ys).fid x.fid ∙ last_apart x.fid y ys d.0))

-- ---- a list without a fid

absent_by : (b : Bool) (f : Fid) (e : CacheEntry) (es : List CacheEntry) (o : Option CacheEntry) → cond b (Some e) o ≡ None → (o ≡ None → without f es ≡ es) → cond (not b) (e ∷ without f es) (without f es) ≡ e ∷ es
absent_by true f e es o q h = absurd cc
absent_by false f e es o q h = ap (λ (xs : List CacheEntry). e ∷ xs) (h q)

absent : (f : Fid) (es : List CacheEntry) → find_cached f es ≡ None → without f es ≡ es
absent f [] q = refl
absent f (e ∷ es) q = absent_by (same_fid e.fid f) f e es (find_cached f es) q (absent f es)

few_by : (b : Bool) (e : CacheEntry) (rest : List CacheEntry) (n : ℕ) → length rest ≤ n → length (cond b (e ∷ rest) rest) ≤ suc n
few_by true e rest n h = omega (arith, h)
few_by false e rest n h = omega (arith, h)

without_few : (f : Fid) (es : List CacheEntry) → length (without f es) ≤ length es
without_few f [] = omega arith
without_few f (e ∷ es) = few_by (not (same_fid e.fid f)) e (without f es) (length es) (without_few f es)

present_by : (b : Bool) (f : Fid) (e x : CacheEntry) (es : List CacheEntry) (o : Option CacheEntry) → cond b (Some e) o ≡ Some x → (o ≡ Some x → suc (length (without f es)) ≤ length es) → length (without f es) ≤ length es → suc (length (cond (not b) (e ∷ without f es) (without f es))) ≤ suc (length es)
present_by true f e x es o q h le = omega (arith, le)
present_by false f e x es o q h le = let less = h q in omega (arith, less)

present : (f : Fid) (x : CacheEntry) (es : List CacheEntry) → find_cached f es ≡ Some x → suc (length (without f es)) ≤ length es
present f x [] q = absurd cc
present f x (e ∷ es) q = present_by (same_fid e.fid f) f e x es (find_cached f es) q (present f x es) (without_few f es)

other_by : (a b : Bool) (e : CacheEntry) (left all : Option CacheEntry) (f g : Fid) (es : List CacheEntry) → (a ≡ true → b ≡ false) → find_cached g (without f es) ≡ find_cached g es
    → same_fid e.fid g ≡ b → find_cached g (cond (not a) (e ∷ without f es) (without f es)) ≡ cond b (Some e) (find_cached g es)
other_by true b e left all f g es apart_ab ih q = rw (apart_ab refl) ih
other_by false b e left all f g es apart_ab ih q = ap (λ (o : Option CacheEntry). cond (same_fid e.fid g) (Some e) o) ih ∙ ap (λ (t : Bool). cond t (Some e) (find_cached g es)) q

false_from : (a : Bool) → (a ≡ true → a ≡ false) → a ≡ false
false_from true h = h refl
false_from false h = refl

apart_fids : (f g h : Fid) → same_fid f g ≡ false → same_fid h f ≡ true → same_fid h g ≡ false
apart_fids f g h q t = subst (λ (x : Fid). same_fid x g ≡ false) (sym (same_fid-true h f t)) q

other_found : (f g : Fid) (es : List CacheEntry) → same_fid f g ≡ false → find_cached g (without f es) ≡ find_cached g es
other_found f g [] q = refl
other_found f g (e ∷ es) q = other_by (same_fid e.fid f) (same_fid e.fid g) e None None f g es (apart_fids f g e.fid q) (other_found f g es q) refl

-- ---- what is found once an entry has come

kept_body : (o : Option Body) (i : ℕ) (old : Option CacheEntry) → IsSome o → body_kept o i old ≡ o
kept_body None i old h = absurd cc
kept_body (Some b) i old h = refl

itself : (e : CacheEntry) (es : List CacheEntry) → IsSome e.body → joined e es ≡ e
itself e es h = ap (λ (o : Option Body). record e { body = o }) (kept_body e.body e.index (find_cached e.fid es) h)

-- what stands behind the entry that came
behind_present : (m : ℕ) (e : CacheEntry) (g : Fid) (es : List CacheEntry) (x : CacheEntry) → find_cached e.fid es ≡ Some x → length es ≤ suc m → same_fid e.fid g ≡ false → find_cached g (take m (without e.fid es)) ≡ find_cached g es
behind_present m e g es x q few apart_g =
    let less = present e.fid x es q in
    ap (find_cached g) (whole m (without e.fid es) (omega (arith, less, few))) ∙ other_found e.fid g es apart_g

behind_room : (m : ℕ) (e : CacheEntry) (g : Fid) (es : List CacheEntry) → find_cached e.fid es ≡ None → length es < suc m → find_cached g (take m (without e.fid es)) ≡ find_cached g es
behind_room m e g es q room = ap (λ (xs : List CacheEntry). find_cached g (take m xs)) (absent e.fid es q) ∙ ap (find_cached g) (whole m es (omega (arith, room)))

behind_full : (m : ℕ) (e : CacheEntry) (g : Fid) (es : List CacheEntry) → AreApart es → find_cached e.fid es ≡ None → length es ≡ suc m → find_cached g (take m (without e.fid es)) ≡ cond (is_fid g (last_fid es)) None (find_cached g es)
behind_full m e g [] d q long = absurd (omega (arith, long))
behind_full m e g (x ∷ xs) d q long =
    let count : length xs ≡ m = omega (arith, long) in
    let place : length (x ∷ xs) - 1 ≡ length xs = omega arith in
    ap (λ (ys : List CacheEntry). find_cached g (take m ys)) (absent e.fid (x ∷ xs) q)
    ∙ (ap (λ (k : ℕ). find_cached g (take k (x ∷ xs))) (sym count)
    ∙ (ap (find_cached g) (init_taken x xs)
    ∙ (find_init g x xs d
    ∙ ap (λ (o : Option CacheEntry). cond (is_fid g (option_map (λ (y : CacheEntry). y.fid) o)) None (find_cached g (x ∷ xs))) (sym (ap (slice_get (x ∷ xs)) place ∙ last_got x xs)))))

-- by the tests
behind_by : (a : Bool) (m : ℕ) (e : CacheEntry) (g : Fid) (es : List CacheEntry) (o : Option CacheEntry) → nat_lt (length es) (suc m) ≡ a → find_cached e.fid es ≡ o → AreApart es → length es ≤ suc m → same_fid e.fid g ≡ false
    → find_cached g (take m (without e.fid es)) ≡ cond (is_fid g (evicted_by (a || is_some o) es)) None (find_cached g es)
behind_by true m e g es None p q d few apart_g = behind_room m e g es q (ltb-true (length es) (suc m) p)
behind_by true m e g es (Some x) p q d few apart_g = behind_present m e g es x q few apart_g
behind_by false m e g es None p q d few apart_g = let full = ltb-false (length es) (suc m) p in behind_full m e g es d q (omega (arith, few, full))
behind_by false m e g es (Some x) p q d few apart_g = behind_present m e g es x q few apart_g

found_by : (b : Bool) (m : ℕ) (e : CacheEntry) (g : Fid) (es : List CacheEntry) → same_fid e.fid g ≡ b → AreApart es → length es ≤ suc m
    → cond b (Some e) (find_cached g (take m (without e.fid es))) ≡ cond b (Some e) (cond (is_fid g (evicted (suc m) e.fid es)) None (find_cached g es))
found_by true m e g es q d few = refl
found_by false m e g es q d few = behind_by (nat_lt (length es) (suc m)) m e g es (find_cached e.fid es) refl refl d few q

pub found_after : (n : ℕ) (e : CacheEntry) (g : Fid) (es : List CacheEntry) → IsSome e.body → 0 < n → AreApart es → length es ≤ n
    → find_cached g (put_entry n e es) ≡ cond (same_fid e.fid g) (Some e) (cond (is_fid g (evicted n e.fid es)) None (find_cached g es))
found_after zero e g es h some d few = absurd (omega (arith, some))
found_after (suc m) e g es h some d few =
    ap (λ (x : CacheEntry). find_cached g (take (suc m) (x ∷ without x.fid es))) (itself e es h) ∙ found_by (same_fid e.fid g) m e g es refl d few
