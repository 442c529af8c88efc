-- The promises that a change withdraws, one after the other, with nothing changed.
use Rattle.std.proofs.Common.{◌≡◌, inl, inr, ℕ, ◌+◌, ◌<◌, ◌≤◌, Bool, true, false, List, [], ◌∷◌, ◌++◌, length, filter, Option, Some, None, nat_eq, nat_le, nat_lt, if◌then◌else◌, refl, ap, sym, subst, ◌∙◌, arith}
use Rattle.std.proofs.lemmas.Bool.Decides.{nat_tests}
use Rattle.afs_num.specs.Nodes.{same_node}
use Rattle.afs_num.specs.declared.types.Fid.{Fid}
use Rattle.afs_num.specs.declared.types.Node.{Node}
use Rattle.spec_breaks.specs.declared.types.Promise.{Promise}
use Rattle.spec_breaks.specs.Promises.{is_hit, hits, lasting}
use Rattle.afs_promise.specs.declared.types.Grant.{Grant}
use Rattle.afs_promise.specs.declared.types.Holding.{Holding}
use Rattle.afs_promise.specs.Granting.{holding, holding_in, has_order, is_held, held, IsIn, Rises, hit_of, earlier, oldest, from_place, since, IsLog}
use Rattle.afs_promise.proofs.Hits.{no_hits, first_is, hit_found}

-- ---- from the first place on nothing is left out

from_start : (o : Option Grant) → from_place 0 o ≡ o
from_start None = refl
from_start (Some g) = by (nat_le 0 g.order) (grind (arith, nat_tests))
  where
    by : (t : Bool) → t ≡ true → (if t then Some g else None) ≡ Some g
    by true e = refl
    by false e = absurd cc

hit_from_start : (latest : Holding → Option Grant) (except : Node) (fid : Fid) (c : Node) → hit_of (since 0 latest) except fid c ≡ hit_of latest except fid c
hit_from_start latest except fid c = by (same_node c except)
  where
    by : (t : Bool) → (if t then None else since 0 latest (holding c fid)) ≡ (if t then None else latest (holding c fid))
    by true = refl
    by false = from_start (latest (holding c fid))

pub oldest_from_start : (latest : Holding → Option Grant) (except : Node) (fid : Fid) (best : Option Grant) (cs : List Node) → oldest (since 0 latest) except fid best cs ≡ oldest latest except fid best cs
oldest_from_start latest except fid best [] = refl
oldest_from_start latest except fid best (c ∷ cs) =
    ap (λ (o : Option Grant). oldest (since 0 latest) except fid (earlier best o) cs) (hit_from_start latest except fid c)
    ∙ oldest_from_start latest except fid (earlier best (hit_of latest except fid c)) cs

pub held_from_start : (latest : Holding → Option Grant) (log : List Grant) → held (since 0 latest) log ≡ held latest log
held_from_start latest [] = refl
held_from_start latest (g ∷ gs) = rw (from_start (latest (holding_in g)), held_from_start latest gs) refl

-- ---- which grants are held from a place on

module _ (latest : Holding → Option Grant) where
  held_before : (n : ℕ) (x : Grant) (o : Option Grant) → x.order < n → has_order x.order (from_place n o) ≡ false
  held_before n x None lt = refl
  held_before n x (Some h) lt = by (nat_le n h.order) refl
    where
      by : (t : Bool) → nat_le n h.order ≡ t → has_order x.order (if t then Some h else None) ≡ false
      by true e = grind (arith, nat_tests, lt, e)
      by false e = refl

  held_behind : (n : ℕ) (x : Grant) (o : Option Grant) → n ≤ x.order → has_order x.order (from_place n o) ≡ has_order x.order o
  held_behind n x None le = refl
  held_behind n x (Some h) le = by (nat_le n h.order) refl
    where
      by : (t : Bool) → nat_le n h.order ≡ t → has_order x.order (if t then Some h else None) ≡ nat_eq h.order x.order
      by true e = refl
      by false e = grind (arith, nat_tests, le, e)

  -- behind a place it makes no difference from where before it one looks
  same_behind : (m n high : ℕ) (gs : List Grant) → m ≤ n → Rises n high gs → held (since m latest) gs ≡ held (since n latest) gs
  same_behind m n high [] le up = refl
  same_behind m n high (g ∷ gs) le up =
      step (is_held (since m latest) g) (is_held (since n latest) g) (held_behind m g (latest (holding_in g)) (omega (arith, le, up.0)) ∙ sym (held_behind n g (latest (holding_in g)) up.0))
      (same_behind m (g.order + 1) high gs (omega (arith, le, up.0)) up.1 ∙ sym (same_behind n (g.order + 1) high gs (omega (arith, up.0)) up.1))
    where
      step : (a b : Bool) → a ≡ b → held (since m latest) gs ≡ held (since n latest) gs → (if a then g.promise ∷ held (since m latest) gs else held (since m latest) gs) ≡ (if b then g.promise ∷ held (since n latest) gs else held (since n latest) gs)
      step a b e f = λ i. if e i then g.promise ∷ f i else f i

  module _ (q : Promise → Bool) (from : ℕ) (g : Grant) (is_held_here : is_held (since from latest) g ≡ true) (hit : q g.promise ≡ true) where
    above : (low high : ℕ) (xs : List Grant) → Rises low high xs → IsIn g xs → low ≤ g.order
    above low high [] up i = absurd i
    above low high (x ∷ xs) up (inl e) = subst (λ (y : Grant). low ≤ y.order) e up.0
    above low high (x ∷ xs) up (inr i) = omega (arith, up.0, above (x.order + 1) high xs up.1 i)

    pub below : (low high : ℕ) (xs : List Grant) → Rises low high xs → IsIn g xs → g.order < high
    below low high [] up i = absurd i
    below low high (x ∷ xs) up (inl e) = subst (λ (y : Grant). y.order < high) e (let low : x.order + 1 ≤ high = low_high (x.order + 1) high xs up.1 in omega (arith, low))
      where
        low_high : (low high : ℕ) (xs : List Grant) → Rises low high xs → low ≤ high
        low_high low high [] up = up
        low_high low high (x ∷ xs) up = omega (arith, up.0, low_high (x.order + 1) high xs up.1)
    below low high (x ∷ xs) up (inr i) = below (x.order + 1) high xs up.1 i

    -- the first that is held and hit stands before what is hit behind it
    first_cut : (low high : ℕ) (xs : List Grant) → from ≤ g.order + 1 → Rises low high xs → IsIn g xs
        → ((x : Grant) → IsIn x xs → is_held (since from latest) x ≡ true → q x.promise ≡ true → g.order ≤ x.order)
        → filter q (held (since from latest) xs) ≡ g.promise ∷ filter q (held (since (g.order + 1) latest) xs)
    first_cut low high [] le up i first = absurd i
    first_cut low high (x ∷ xs) le up (inl e) first = subst (λ (y : Grant). filter q (held (since from latest) (y ∷ xs)) ≡ g.promise ∷ filter q (held (since (g.order + 1) latest) (y ∷ xs))) (sym e) here
      where
        rises : Rises (g.order + 1) high xs
        rises = subst (λ (y : Grant). Rises (y.order + 1) high xs) e up.1

        here : filter q (held (since from latest) (g ∷ xs)) ≡ g.promise ∷ filter q (held (since (g.order + 1) latest) (g ∷ xs))
        here = rw (is_held_here, hit, held_before (g.order + 1) g (latest (holding_in g)) (omega arith)) (ap (λ (ps : List Promise). g.promise ∷ filter q ps) (same_behind from (g.order + 1) high xs le rises))
    first_cut low high (x ∷ xs) le up (inr i) first =
        let lower : x.order < g.order = omega (arith, above (x.order + 1) high xs up.1 i) in
        let rest = first_cut (x.order + 1) high xs le up.1 i (λ y j. first y (inr j)) in
        by (is_held (since from latest) x) (q x.promise) refl refl lower (held_before (g.order + 1) x (latest (holding_in x)) (omega (arith, lower))) rest
      where
        by : (h t : Bool) → is_held (since from latest) x ≡ h → q x.promise ≡ t → x.order < g.order → is_held (since (g.order + 1) latest) x ≡ false
            → filter q (held (since from latest) xs) ≡ g.promise ∷ filter q (held (since (g.order + 1) latest) xs)
            → filter q (if h then x.promise ∷ held (since from latest) xs else held (since from latest) xs) ≡ g.promise ∷ filter q (if is_held (since (g.order + 1) latest) x then x.promise ∷ held (since (g.order + 1) latest) xs else held (since (g.order + 1) latest) xs)
        by true true e f lower gone rest = absurd (omega (arith, lower, first x (inl refl) e f))
        by true false e f lower gone rest = rw (f, gone) rest
        by false t e f lower gone rest = rw gone rest

-- ---- the next one

module _ {latest : Holding → Option Grant} {log : List Grant} {clients : List Node} {ended count next : ℕ} {rising : Bool} {highest : ℕ} (except : Node) (fid : Fid) (is : IsLog latest log clients ended count next rising highest) where
  found_before : (from : ℕ) (k : Holding) (g : Grant) (o : Option Grant) → from_place from o ≡ Some g → (o ≡ Some g) × (from ≤ g.order)
  found_before from k g None e = absurd cc
  found_before from k g (Some h) e = by (nat_le from h.order) refl e
    where
      by : (t : Bool) → nat_le from h.order ≡ t → (if t then Some h else None) ≡ Some g → (Some h ≡ Some g) × (from ≤ g.order)
      by true f e = (e, subst (λ (y : Grant). from ≤ y.order) (let same : h ≡ g = cc in same) (grind (arith, nat_tests, f)))
      by false f e = absurd cc

  since_log : (from : ℕ) → IsLog (since from latest) log clients 0 (length (held (since from latest) log)) next rising highest
  since_log from = record {
    rises = is.rises;
    found = λ k g e. is.found k g (found_before from k g (latest k) e).0;
    known = λ k g e. is.known k g (found_before from k g (latest k) e).0;
    past = refl;
    within = omega arith;
    counted = refl;
    ordered = is.ordered;
  }

  pub record IsNext (from : ℕ) (g : Grant) : Type 0 where
    pub low : from ≤ g.order
    pub high : g.order < next
    pub hits : hits except fid (held (since from latest) log) ≡ g.promise ∷ hits except fid (held (since (g.order + 1) latest) log)

  pub next_hit : (from : ℕ) (g : Grant) → oldest (since from latest) except fid None clients ≡ Some g → IsNext from g
  next_hit from g e =
      let first = first_is except fid (since_log from) g e in
      let low = (found_before from (holding_in g) g (latest (holding_in g)) first.latest_is).1 in
      let here : is_held (since from latest) g ≡ true = ap (has_order g.order) first.latest_is ∙ grind (arith, nat_tests) in
      record {
        low = low;
        high = below latest (is_hit except fid) from g here first.hit 0 next log is.rises first.is_in;
        hits = first_cut latest (is_hit except fid) from g here first.hit 0 next log (omega (arith, low)) is.rises first.is_in (λ x i h hit. early x h hit);
      }
    where
      early : (x : Grant) → is_held (since from latest) x ≡ true → is_hit except fid x.promise ≡ true → g.order ≤ x.order
      early x h hit =
          let f = hit_found except fid (since_log from) x h hit in
          let same : f.grant ≡ g = (let o : Some f.grant ≡ Some g = sym f.is ∙ e in cc) in
          omega (arith, f.early, ap (λ (y : Grant). y.order) same)

  pub no_more : (from : ℕ) → oldest (since from latest) except fid None clients ≡ None → hits except fid (held (since from latest) log) ≡ []
  no_more from e = no_hits except fid (since_log from) e

-- ---- of those whose expiry is above the clock

both : (p q : Promise → Bool) (ps : List Promise) → filter p (filter q ps) ≡ filter q (filter p ps)
both p q [] = refl
both p q (x ∷ xs) = by (p x) (q x) refl refl (both p q xs)
  where
    by : (s t : Bool) → p x ≡ s → q x ≡ t → filter p (filter q xs) ≡ filter q (filter p xs) → filter p (if t then x ∷ filter q xs else filter q xs) ≡ filter q (if s then x ∷ filter p xs else filter p xs)
    by true true e f later = rw (e, f) (ap (λ (l : List Promise). x ∷ l) later)
    by true false e f later = rw f later
    by false true e f later = rw e later
    by false false e f later = later

pub lasting_hits : (now : ℕ) (except : Node) (fid : Fid) (ps : List Promise) → lasting now (hits except fid ps) ≡ hits except fid (lasting now ps)
lasting_hits now except fid ps = both (λ p. nat_lt now p.expiry) (is_hit except fid) ps

pub lasting_first : (now : ℕ) (p : Promise) (ps : List Promise) → lasting now (p ∷ ps) ≡ lasting now (p ∷ []) ++ lasting now ps
lasting_first now p ps = by (nat_lt now p.expiry)
  where
    by : (t : Bool) → (if t then p ∷ lasting now ps else lasting now ps) ≡ (if t then p ∷ [] else []) ++ lasting now ps
    by true = refl
    by false = refl
