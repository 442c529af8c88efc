-- Which entries go, and what is left.
use Rattle.std.proofs.Common.{◌≡◌, Bool, true, false, cond, not, ◌&&◌, List, [], ◌∷◌, map, filter, Option, Some, None, refl, ap, sym, subst, ◌∙◌}
use Rattle.std.specs.List.{IsDistinct, AllByRecursion}
use Rattle.std.specs.Map.{keys_of}
use Rattle.afs_num.specs.Fids.{same_fid}
use Rattle.afs_num.specs.declared.types.Fid.{Fid}
use Rattle.spec_ideal.proofs.Basics.{same_fid-true, same_fid-refl}
use Rattle.spec_rows.specs.States.{CacheEntry}
use Rattle.spec_rows.specs.ClientRow.{is_among_fids, find_cached}
use Rattle.afs_entries.specs.Cached.{fid_in, AreApart, cached, without, without_all, unlisted, same_slot, drops_of, fid_dropped, taken_by, listed}
use Rattle.afs_entries.specs.declared.drops.Drops.{Drops}
use Rattle.afs_entries.specs.declared.drops.Drops.TheVariants as drops
use Rattle.std.specs.Prelude.{nat_lt, ◌||◌}
use Rattle.afs_entries.specs.declared.cache.Slot.{Slot}
use Rattle.afs_entries.specs.declared.cache.Entry.{Entry}
use Rattle.afs_entries.proofs.Caching.{same_fid-sym}

pub others : (s : Slot) (es : List (Slot × Entry)) → AllByRecursion (λ (t : Slot). same_slot s t ≡ false) (keys_of es) → AllByRecursion (λ (x : CacheEntry). same_fid (fid_in s) x.fid ≡ false) (map cached es)
others s [] h = tt
others s (e ∷ es) h = (h.0, others s es h.1)

pub apart : (es : List (Slot × Entry)) → IsDistinct same_slot (keys_of es) → AreApart (map cached es)
unfolding IsDistinct
apart [] d = tt
apart (e ∷ es) d = (others e.0 es d.0, apart es d.1)

-- ---- entries that go one by one, or at once

kept_by : (a b : Bool) (e : CacheEntry) (once after : List CacheEntry) → once ≡ after → cond (not (cond a true b)) (e ∷ once) once ≡ cond (not a) (cond (not b) (e ∷ after) after) after
kept_by true b e once after h = h
kept_by false true e once after h = h
kept_by false false e once after h = ap (λ (es : List CacheEntry). e ∷ es) h

filter_front : (a : Bool) (q : CacheEntry → Bool) (e : CacheEntry) (es : List CacheEntry) → filter q (cond a (e ∷ es) es) ≡ cond a (cond (q e) (e ∷ filter q es) (filter q es)) (filter q es)
filter_front true q e es = refl
filter_front false q e es = refl

pub unlisted_more : (f : Fid) (fs : List Fid) (es : List CacheEntry) → unlisted (f ∷ fs) es ≡ unlisted fs (without f es)
unlisted_more f fs [] = refl
unlisted_more f fs (e ∷ es) =
    rw (same_fid-sym f e.fid) (kept_by (same_fid e.fid f) (is_among_fids e.fid fs) e (unlisted (f ∷ fs) es) (unlisted fs (without f es)) (unlisted_more f fs es)
    ∙ sym (filter_front (not (same_fid e.fid f)) (λ (x : CacheEntry). not (is_among_fids x.fid fs)) e (without f es)))

pub unlisted_none : (es : List CacheEntry) → unlisted [] es ≡ es
unlisted_none [] = refl
unlisted_none (e ∷ es) = ap (λ (xs : List CacheEntry). e ∷ xs) (unlisted_none es)

pub unlisted_is : (fs : List Fid) (es : List CacheEntry) → without_all fs es ≡ unlisted fs es
unlisted_is [] es = sym (unlisted_none es)
unlisted_is (f ∷ fs) es = unlisted_is fs (without f es) ∙ sym (unlisted_more f fs es)

-- ---- what a test takes, by its fids

module _ (p : CacheEntry → Bool) where
  abbrev pub fids_by : List CacheEntry → List Fid
  fids_by es = map (λ (e : CacheEntry). e.fid) (filter p es)

  abbrev pub kept_of : List CacheEntry → List CacheEntry
  kept_of es = filter (λ (e : CacheEntry). not (p e)) es

  not_among_by : (b : Bool) (f : Fid) (e : CacheEntry) (es : List CacheEntry) → same_fid f e.fid ≡ false → is_among_fids f (fids_by es) ≡ false
      → is_among_fids f (map (λ (x : CacheEntry). x.fid) (cond b (e ∷ filter p es) (filter p es))) ≡ false
  not_among_by true f e es apart_e h = rw (same_fid-sym e.fid f) (rw apart_e h)
  not_among_by false f e es apart_e h = h

  not_among : (f : Fid) (es : List CacheEntry) → AllByRecursion (λ (x : CacheEntry). same_fid f x.fid ≡ false) es → is_among_fids f (fids_by es) ≡ false
  not_among f [] h = refl
  not_among f (e ∷ es) h = not_among_by (p e) f e es h.0 (not_among f es h.1)

  -- a fid that none of them has changes nothing
  passed_by : (b : Bool) (f : Fid) (fs : List Fid) (e : CacheEntry) (es : List CacheEntry) → same_fid f e.fid ≡ b → b ≡ false → unlisted (f ∷ fs) es ≡ unlisted fs es
      → cond (not (cond b true (is_among_fids e.fid fs))) (e ∷ unlisted (f ∷ fs) es) (unlisted (f ∷ fs) es) ≡ cond (not (is_among_fids e.fid fs)) (e ∷ unlisted fs es) (unlisted fs es)
  passed_by true f fs e es q h ih = absurd cc
  passed_by false f fs e es q h ih = ap (λ (xs : List CacheEntry). cond (not (is_among_fids e.fid fs)) (e ∷ xs) xs) ih

  passed : (f : Fid) (fs : List Fid) (es : List CacheEntry) → AllByRecursion (λ (x : CacheEntry). same_fid f x.fid ≡ false) es → unlisted (f ∷ fs) es ≡ unlisted fs es
  passed f fs [] h = refl
  passed f fs (e ∷ es) h = passed_by (same_fid f e.fid) f fs e es refl h.0 (passed f fs es h.1)

  left_by : (b : Bool) (e : CacheEntry) (es : List CacheEntry) → AllByRecursion (λ (x : CacheEntry). same_fid e.fid x.fid ≡ false) es → unlisted (fids_by es) es ≡ kept_of es
      → unlisted (map (λ (x : CacheEntry). x.fid) (cond b (e ∷ filter p es) (filter p es))) (e ∷ es) ≡ cond (not b) (e ∷ kept_of es) (kept_of es)
  left_by true e es h ih = rw (same_fid-refl e.fid) (passed e.fid (fids_by es) es h ∙ ih)
  left_by false e es h ih = rw (not_among e.fid es h) (ap (λ (xs : List CacheEntry). e ∷ xs) ih)

  -- without the fids that the test takes those are left that it doesn't take
  pub left_is : (es : List CacheEntry) → AreApart es → unlisted (fids_by es) es ≡ kept_of es
  left_is [] d = refl
  left_is (e ∷ es) d = left_by (p e) e es d.0 (left_is es d.1)

  -- ---- a test that takes entries of one fid alone

  none_by : (b : Bool) (e : CacheEntry) (es : List CacheEntry) → b ≡ false → filter p es ≡ [] → cond b (e ∷ filter p es) (filter p es) ≡ []
  none_by true e es q h = absurd cc
  none_by false e es q h = h

  false_by : (a b : Bool) → (a ≡ true → b ≡ true) → b ≡ false → a ≡ false
  false_by true b h q = let yes : b ≡ true = h refl in absurd cc
  false_by false b h q = refl

  none : (f : Fid) (es : List CacheEntry) → ((e : CacheEntry) → p e ≡ true → same_fid e.fid f ≡ true) → AllByRecursion (λ (x : CacheEntry). same_fid f x.fid ≡ false) es → filter p es ≡ []
  none f [] of h = refl
  none f (e ∷ es) of h = none_by (p e) e es (false_by (p e) (same_fid e.fid f) (of e) (same_fid-sym e.fid f ∙ h.0)) (none f es of h.1)

  abbrev pub one_by : Option CacheEntry → List CacheEntry
  one_by None = []
  one_by (Some e) = cond (p e) (e ∷ []) []

  found_one : (b : Bool) (f : Fid) (e : CacheEntry) (es : List CacheEntry) → same_fid e.fid f ≡ b → ((x : CacheEntry) → p x ≡ true → same_fid x.fid f ≡ true) → AllByRecursion (λ (x : CacheEntry). same_fid e.fid x.fid ≡ false) es
      → filter p es ≡ one_by (find_cached f es) → cond (p e) (e ∷ filter p es) (filter p es) ≡ one_by (cond b (Some e) (find_cached f es))
  found_one true f e es q of h ih =
      let empty : filter p es ≡ [] = none f es of (subst (λ (g : Fid). AllByRecursion (λ (x : CacheEntry). same_fid g x.fid ≡ false) es) (same_fid-true e.fid f q) h) in
      rw empty refl
  found_one false f e es q of h ih = rw (false_by (p e) (same_fid e.fid f) (of e) q) ih

  pub one_is : (f : Fid) (es : List CacheEntry) → ((e : CacheEntry) → p e ≡ true → same_fid e.fid f ≡ true) → AreApart es → filter p es ≡ one_by (find_cached f es)
  one_is f [] of d = refl
  one_is f (e ∷ es) of d = found_one (same_fid e.fid f) f e es refl of d.0 (one_is f es of d.1)

-- ---- in the program's words

and_left : (a b : Bool) → (a && b) ≡ true → a ≡ true
and_left true b h = refl
and_left false b h = absurd cc

pub of_one : (d : Drops) (f : Fid) → fid_dropped d ≡ Some f → (e : CacheEntry) → drops_of d e ≡ true → same_fid e.fid f ≡ true
of_one drops.Nothing f q e h = absurd cc
of_one (drops.Fid g) f q e h = let same : g ≡ f = cc in subst (λ (x : Fid). same_fid e.fid x ≡ true) same (same_fid-sym e.fid g ∙ h)
of_one (drops.Older g index release) f q e h =
    let same : g ≡ f = cc in
    subst (λ (x : Fid). same_fid e.fid x ≡ true) same (and_left (same_fid e.fid g) (nat_lt e.index index || nat_lt e.release release) h)
of_one (drops.Volume id) f q e h = absurd cc
of_one (drops.Server s) f q e h = absurd cc
of_one (drops.Trusted now) f q e h = absurd cc
of_one (drops.Below id release) f q e h = absurd cc

found_under_by : (b : Bool) (f : Fid) (x e : CacheEntry) (o : Option CacheEntry) → same_fid x.fid f ≡ b → (o ≡ Some e → e.fid ≡ f) → cond b (Some x) o ≡ Some e → e.fid ≡ f
found_under_by true f x e o t h q = let same : x ≡ e = cc in sym (ap (λ (y : CacheEntry). y.fid) same) ∙ same_fid-true x.fid f t
found_under_by false f x e o t h q = h q

pub found_under : (f : Fid) (es : List CacheEntry) (e : CacheEntry) → find_cached f es ≡ Some e → e.fid ≡ f
found_under f [] e q = absurd cc
found_under f (x ∷ es) e q = found_under_by (same_fid x.fid f) f x e (find_cached f es) refl (found_under f es e) q

taken_fid : (b : Bool) (f : Fid) (e : CacheEntry) → e.fid ≡ f → map (λ (x : CacheEntry). x.fid) (cond b (e ∷ []) []) ≡ cond b (f ∷ []) []
taken_fid true f e q = ap (λ (g : Fid). g ∷ []) q
taken_fid false f e q = refl

one_listed_by : (d : Drops) (f : Fid) (es : List CacheEntry) (o : Option CacheEntry) → find_cached f es ≡ o → map (λ (x : CacheEntry). x.fid) (one_by (drops_of d) o) ≡ cond (taken_by d o) (f ∷ []) []
one_listed_by d f es None q = refl
one_listed_by d f es (Some e) q = taken_fid (drops_of d e) f e (found_under f es e q)

pub one_listed : (d : Drops) (f : Fid) (es : List CacheEntry) → fid_dropped d ≡ Some f → AreApart es → listed d es ≡ cond (taken_by d (find_cached f es)) (f ∷ []) []
one_listed d f es q apart_es = ap (map (λ (x : CacheEntry). x.fid)) (one_is (drops_of d) f es (of_one d f q) apart_es) ∙ one_listed_by d f es (find_cached f es) refl

pub none_taken : (b : Bool) (f : Fid) → b ≡ false → cond b (f ∷ []) [] ≡ []
none_taken true f h = absurd cc
none_taken false f h = refl

pub some_taken : (b : Bool) (f : Fid) → b ≡ true → cond b (f ∷ []) [] ≡ f ∷ []
some_taken true f h = refl
some_taken false f h = absurd cc
