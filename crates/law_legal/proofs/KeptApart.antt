-- Caches in which a fid has one entry.
use Rattle.std.proofs.Common.{◌≡◌, ℕ, zero, suc, Bool, true, false, cond, List, [], ◌∷◌, Option, Some, None, filter, map, take, refl, sym, ap, subst, ◌∙◌, not, inl, inr}
use Rattle.std.specs.Option.{option_map}
use Rattle.std.specs.Prelude.{◌&&◌, ⊤, ◌⊎◌}
use Rattle.afs_num.specs.Fids.{same_fid}
use Rattle.afs_num.specs.declared.types.Fid.{Fid}
use Rattle.afs_num.specs.declared.histories.Body.{Body}
use Rattle.afs_num.specs.declared.histories.ReadStatus.{ReadStatus}
use Rattle.law_legal.proofs.BaseLaws.{same_fid-true, found-refreshed, found-first}
use Rattle.law_legal.proofs.BaseWords.{AreApart}
use Rattle.spec_rows.specs.ClientRow.{find_cached, used_first, is_trusted, refreshed, joined, put_entry}
use Rattle.spec_rows.specs.States.{CacheEntry}

-- ---- what is left out

none_by : (b t : Bool) (f : Fid) (x : CacheEntry) (rest old : List CacheEntry) → same_fid x.fid f ≡ t → (find_cached f old ≡ None → find_cached f rest ≡ None) → cond t (Some x) (find_cached f old) ≡ None → find_cached f (cond b (x ∷ rest) rest) ≡ None
none_by b true f x rest old e ih n = absurd cc
none_by true false f x rest old e ih n = ap (λ (t : Bool). cond t (Some x) (find_cached f rest)) e ∙ ih n
none_by false false f x rest old e ih n = ih n

pub none_filter : (p : CacheEntry → Bool) (f : Fid) (cache : List CacheEntry) → find_cached f cache ≡ None → find_cached f (filter p cache) ≡ None
none_filter p f [] n = refl
none_filter p f (x ∷ cache) n = none_by (p x) (same_fid x.fid f) f x (filter p cache) cache refl (none_filter p f cache) n

apart_by : (b : Bool) (x : CacheEntry) (rest : List CacheEntry) → find_cached x.fid rest ≡ None → AreApart rest → AreApart (cond b (x ∷ rest) rest)
apart_by true x rest n a = (n, a)
apart_by false x rest n a = a

pub apart_filter : (p : CacheEntry → Bool) (cache : List CacheEntry) → AreApart cache → AreApart (filter p cache)
apart_filter p [] a = tt
apart_filter p (x ∷ cache) a = apart_by (p x) x (filter p cache) (none_filter p x.fid cache a.0) (apart_filter p cache a.1)

abbrev HoldsOf : (CacheEntry → Bool) → Option CacheEntry → Type 0
HoldsOf p None = ⊤
HoldsOf p (Some x) = p x ≡ true

found_by : (b t : Bool) (p : CacheEntry → Bool) (f : Fid) (x u : CacheEntry) (rest old : List CacheEntry) → p x ≡ b → same_fid x.fid f ≡ t → (f ≡ f → find_cached x.fid rest ≡ None) → (find_cached f rest ≡ Some u → (find_cached f old ≡ Some u) × (p u ≡ true)) → find_cached f (cond b (x ∷ rest) rest) ≡ Some u
    → (cond t (Some x) (find_cached f old) ≡ Some u) × (p u ≡ true)
found_by true true p f x u rest old e t n ih h =
    let is : Some x ≡ Some u = sym (ap (λ (b : Bool). cond b (Some x) (find_cached f rest)) t) ∙ h in
    (is, subst (λ (o : Option CacheEntry). HoldsOf p o) is e)
found_by false true p f x u rest old e t n ih h =
    let none : find_cached f rest ≡ None = ap (λ (g : Fid). find_cached g rest) (sym (same_fid-true x.fid f t)) ∙ n refl in
    absurd cc
found_by true false p f x u rest old e t n ih h = ih (sym (ap (λ (b : Bool). cond b (Some x) (find_cached f rest)) t) ∙ h)
found_by false false p f x u rest old e t n ih h = ih h

-- what is found where some were left out was found before, and is none of those
pub found_filter : (p : CacheEntry → Bool) (f : Fid) (cache : List CacheEntry) (u : CacheEntry) → AreApart cache → find_cached f (filter p cache) ≡ Some u → (find_cached f cache ≡ Some u) × (p u ≡ true)
found_filter p f [] u a h = absurd cc
found_filter p f (x ∷ cache) u a h = found_by (p x) (same_fid x.fid f) p f x u (filter p cache) cache refl refl (λ z. none_filter p x.fid cache a.0) (found_filter p f cache u a.1) h

-- ---- the first ones

none_take_by : (t : Bool) (f : Fid) (x : CacheEntry) (rest old : List CacheEntry) → (find_cached f old ≡ None → find_cached f rest ≡ None) → cond t (Some x) (find_cached f old) ≡ None → cond t (Some x) (find_cached f rest) ≡ None
none_take_by true f x rest old ih n = n
none_take_by false f x rest old ih n = ih n

none_take : (k : ℕ) (f : Fid) (cache : List CacheEntry) → find_cached f cache ≡ None → find_cached f (take k cache) ≡ None
none_take zero f cache n = refl
none_take (suc k) f [] n = refl
none_take (suc k) f (x ∷ cache) n = none_take_by (same_fid x.fid f) f x (take k cache) cache (none_take k f cache) n

pub apart_take : (k : ℕ) (cache : List CacheEntry) → AreApart cache → AreApart (take k cache)
apart_take zero cache a = tt
apart_take (suc k) [] a = tt
apart_take (suc k) (x ∷ cache) a = (none_take k x.fid cache a.0, apart_take k cache a.1)

found_take_by : (t : Bool) (f : Fid) (x u : CacheEntry) (rest old : List CacheEntry) → (find_cached f rest ≡ Some u → find_cached f old ≡ Some u) → cond t (Some x) (find_cached f rest) ≡ Some u → cond t (Some x) (find_cached f old) ≡ Some u
found_take_by true f x u rest old ih h = h
found_take_by false f x u rest old ih h = ih h

pub found_take : (k : ℕ) (f : Fid) (cache : List CacheEntry) (u : CacheEntry) → find_cached f (take k cache) ≡ Some u → find_cached f cache ≡ Some u
found_take zero f cache u h = absurd cc
found_take (suc k) f [] u h = absurd cc
found_take (suc k) f (x ∷ cache) u h = found_take_by (same_fid x.fid f) f x u (take k cache) cache (found_take k f cache u) h

-- ---- entries that are used, or put

none_other_by : (b t : Bool) (f : Fid) (x : CacheEntry) (rest : List CacheEntry) → same_fid x.fid f ≡ t → find_cached f rest ≡ None → find_cached f (cond (not t) (x ∷ rest) rest) ≡ None
none_other_by b true f x rest e n = n
none_other_by b false f x rest e n = ap (λ (t : Bool). cond t (Some x) (find_cached f rest)) e ∙ n

none_other : (f : Fid) (cache : List CacheEntry) → find_cached f (filter (λ e. not (same_fid e.fid f)) cache) ≡ None
none_other f [] = refl
none_other f (x ∷ cache) = none_other_by true (same_fid x.fid f) f x (filter (λ e. not (same_fid e.fid f)) cache) refl (none_other f cache)

pub apart_used : (e : CacheEntry) (cache : List CacheEntry) → AreApart cache → AreApart (used_first e cache)
apart_used e cache a = (none_other e.fid cache, apart_filter (λ x. not (same_fid x.fid e.fid)) cache a)

pub apart_put : (k : ℕ) (e : CacheEntry) (cache : List CacheEntry) → AreApart cache → AreApart (put_entry k e cache)
apart_put k e cache a = apart_take k (used_first (joined e cache) cache) (apart_used (joined e cache) cache a)

-- ---- entries that the client's own store changes

refreshed_fid_by : (c : Bool) (i : ℕ) (t : ReadStatus) (b : Option Body → Option Body) (x : CacheEntry) → (cond c (record x { index = i; status = t; body = b x.body }) x).fid ≡ x.fid
refreshed_fid_by true i t b x = refl
refreshed_fid_by false i t b x = refl

refreshed_fid : (clock : ℕ) (f : Fid) (i : ℕ) (t : ReadStatus) (b : Option Body → Option Body) (x : CacheEntry) → (refreshed clock f i t b x).fid ≡ x.fid
refreshed_fid clock f i t b x = refreshed_fid_by (same_fid x.fid f && is_trusted clock x) i t b x

pub apart_refreshed : (clock : ℕ) (f : Fid) (i : ℕ) (t : ReadStatus) (b : Option Body → Option Body) (cache : List CacheEntry) → AreApart cache → AreApart (map (refreshed clock f i t b) cache)
apart_refreshed clock f i t b [] a = tt
apart_refreshed clock f i t b (x ∷ cache) a = (found-refreshed clock f (refreshed clock f i t b x).fid i t b cache ∙ ap (option_map (refreshed clock f i t b)) (ap (λ (g : Fid). find_cached g cache) (refreshed_fid clock f i t b x) ∙ a.0), apart_refreshed clock f i t b cache a.1)

found_out_by : (t b : Bool) (p : CacheEntry → Bool) (f : Fid) (x u : CacheEntry) (rest old : List CacheEntry) → same_fid x.fid f ≡ t → p x ≡ b → p u ≡ false → find_cached x.fid rest ≡ None → (find_cached f old ≡ Some u → find_cached f rest ≡ None) → cond t (Some x) (find_cached f old) ≡ Some u → find_cached f (cond b (x ∷ rest) rest) ≡ None
found_out_by true true p f x u rest old t b nay none ih e =
    let yes : p u ≡ true = subst (λ (o : Option CacheEntry). HoldsOf p o) e b in
    absurd cc
found_out_by true false p f x u rest old t b nay none ih e = ap (λ (g : Fid). find_cached g rest) (sym (same_fid-true x.fid f t)) ∙ none
found_out_by false true p f x u rest old t b nay none ih e = ap (λ (z : Bool). cond z (Some x) (find_cached f rest)) t ∙ ih e
found_out_by false false p f x u rest old t b nay none ih e = ih e

-- where the entry of a fid isn't among those, none is
pub found_out : (p : CacheEntry → Bool) (f : Fid) (cache : List CacheEntry) (u : CacheEntry) → AreApart cache → find_cached f cache ≡ Some u → p u ≡ false → find_cached f (filter p cache) ≡ None
found_out p f [] u a e nay = absurd cc
found_out p f (x ∷ cache) u a e nay = found_out_by (same_fid x.fid f) (p x) p f x u (filter p cache) cache refl refl nay (none_filter p x.fid cache a.0) (λ z. found_out p f cache u a.1 z nay) e

-- what a cache holds where such an entry was put
pub put_found : (k : ℕ) (g : Fid) (u : CacheEntry) (cache : List CacheEntry) (v : CacheEntry) → find_cached g (put_entry k u cache) ≡ Some v → ((u.fid ≡ g) × (joined u cache ≡ v)) ⊎ ((u.fid ≡ g → ⊥) × (find_cached g cache ≡ Some v))
put_found k g u cache v e = found-first g (joined u cache) cache v (found_take k g (used_first (joined u cache) cache) v e)

-- what is found where an entry was used was found before
pub used_found : (g : Fid) (u : CacheEntry) (cache : List CacheEntry) (v : CacheEntry) → find_cached u.fid cache ≡ Some u → find_cached g (used_first u cache) ≡ Some v → find_cached g cache ≡ Some v
used_found g u cache v at found = elim (found-first g u cache v found) [
  | inl q ↦ subst (λ (x : Fid). find_cached x cache ≡ Some v) q.0 (subst (λ (x : CacheEntry). find_cached u.fid cache ≡ Some x) q.1 at)
  | inr q ↦ q.1
]
