-- The first of what was gathered, at a place or behind it, is the oldest from there on.
use Rattle.std.proofs.Common.{◌≡◌, inl, inr, ℕ, ◌+◌, ◌<◌, ◌≤◌, Bool, true, false, List, [], ◌∷◌, ◌++◌, Option, Some, None, nat_le, nat_lt, if◌then◌else◌, refl, sym, ap, subst, ◌∙◌, arith, append_assoc}
use Rattle.std.specs.List.{AllByRecursion}
use Rattle.std.specs.Option.{option_to_list}
use Rattle.std.proofs.lemmas.Bool.Decides.{nat_tests}
use Rattle.afs_num.specs.Nodes.{same_node}
use Rattle.afs_num.specs.declared.types.Fid.{Fid}
use Rattle.afs_num.specs.declared.types.Node.{Node}
use Rattle.spec_breaks.specs.Promises.{hits}
use Rattle.afs_promise.specs.declared.types.Grant.{Grant}
use Rattle.afs_promise.specs.declared.types.Holding.{Holding}
use Rattle.afs_promise.specs.Gathered.{first_from, found_by, IsInOrder}
use Rattle.afs_promise.specs.Granting.{earlier, from_place, held, hit_of, holding, oldest, since, IsIn, IsLog, Rises}
use Rattle.afs_promise.proofs.Since.{next_hit, no_more}

nothing_earlier : (best : Option Grant) → earlier best None ≡ best
nothing_earlier None = refl
nothing_earlier (Some g) = refl

first_step : (from : ℕ) (best o : Option Grant) (gs : List Grant) → first_from from best (option_to_list o ++ gs) ≡ first_from from (earlier best (from_place from o)) gs
first_step from best None gs = ap (λ (b : Option Grant). first_from from b gs) (sym (nothing_earlier best))
first_step from best (Some g) gs = refl

since_hit : (from : ℕ) (t : Bool) (o : Option Grant) → from_place from (if t then None else o) ≡ (if t then None else from_place from o)
since_hit from true o = refl
since_hit from false o = refl

pub first_is_oldest : (from : ℕ) (latest : Holding → Option Grant) (except : Node) (fid : Fid) (best : Option Grant) (cs : List Node) → first_from from best (found_by latest except fid cs) ≡ oldest (since from latest) except fid best cs
first_is_oldest from latest except fid best [] = refl
first_is_oldest from latest except fid best (c ∷ cs) =
    first_step from best (hit_of latest except fid c) (found_by latest except fid cs)
    ∙ (first_is_oldest from latest except fid (earlier best (from_place from (hit_of latest except fid c))) cs
    ∙ ap (λ (o : Option Grant). oldest (since from latest) except fid (earlier best o) cs) (since_hit from (same_node c except) (latest (holding c fid))))

-- ---- gathered client by client

pub gathered_next : (latest : Holding → Option Grant) (except : Node) (fid : Fid) (c : Node) (front : List Grant) (cs : List Node) → (front ++ option_to_list (hit_of latest except fid c)) ++ found_by latest except fid cs ≡ front ++ found_by latest except fid (c ∷ cs)
gathered_next latest except fid c front cs = append_assoc front (option_to_list (hit_of latest except fid c)) (found_by latest except fid cs)

-- ---- the first stands at its place or behind it

abbrev IsWithin : ℕ → ℕ → Option Grant → Type 0
IsWithin from next None = Unit {0}
IsWithin from next (Some g) = (from ≤ g.order) × (g.order < next)

earlier_within : (from next : ℕ) (a b : Option Grant) → IsWithin from next a → IsWithin from next b → IsWithin from next (earlier a b)
earlier_within from next None b one two = two
earlier_within from next (Some g) None one two = one
earlier_within from next (Some g) (Some h) one two = by (nat_lt h.order g.order)
  where
    by : (t : Bool) → IsWithin from next (if t then Some h else Some g)
    by true = two
    by false = one

place_within : (from next : ℕ) (g : Grant) → g.order < next → IsWithin from next (from_place from (Some g))
place_within from next g low = by (nat_le from g.order) refl
  where
    by : (t : Bool) → nat_le from g.order ≡ t → IsWithin from next (if t then Some g else None)
    by true e = (grind (arith, nat_tests, e), low)
    by false e = tt

first_within : (from next : ℕ) (best : Option Grant) (gs : List Grant) → AllByRecursion (λ (g : Grant). g.order < next) gs → IsWithin from next best → IsWithin from next (first_from from best gs)
first_within from next best [] all within = within
first_within from next best (g ∷ gs) all within = first_within from next (earlier best (from_place from (Some g))) gs all.1 (earlier_within from next best (from_place from (Some g)) within (place_within from next g all.0))

pub first_is_within : (from next : ℕ) (gs : List Grant) (g : Grant) → AllByRecursion (λ (g : Grant). g.order < next) gs → Some g ≡ first_from from None gs → (from ≤ g.order) × (g.order < next)
first_is_within from next gs g all e = subst (IsWithin from next) (sym e) (first_within from next None gs all tt)

-- ---- what is gathered from a log

rises_up : (low high : ℕ) (xs : List Grant) → Rises low high xs → low ≤ high
rises_up low high [] up = up
rises_up low high (x ∷ xs) up = omega (arith, up.0, rises_up (x.order + 1) high xs up.1)

below_end : (g : Grant) (low high : ℕ) (xs : List Grant) → Rises low high xs → IsIn g xs → g.order < high
below_end g low high [] up i = absurd i
below_end g low high (x ∷ xs) up (inl e) = subst (λ (y : Grant). y.order < high) e (let over = rises_up (x.order + 1) high xs up.1 in omega (arith, over))
below_end g low high (x ∷ xs) up (inr i) = below_end g (x.order + 1) high xs up.1 i

module _ {latest : Holding → Option Grant} {log : List Grant} {clients : List Node} {ended count next : ℕ} {rising : Bool} {highest : ℕ} (except : Node) (fid : Fid) (is : IsLog latest log clients ended count next rising highest) where
  hit_below : (c : Node) (g : Grant) → hit_of latest except fid c ≡ Some g → g.order < next
  hit_below c g e = by (same_node c except) e
    where
      by : (t : Bool) → (if t then None else latest (holding c fid)) ≡ Some g → g.order < next
      by true e = absurd cc
      by false e = below_end g 0 next log is.rises (is.found (holding c fid) g e).0

  all_with : (o : Option Grant) (gs : List Grant) → ((g : Grant) → o ≡ Some g → g.order < next) → AllByRecursion (λ (g : Grant). g.order < next) gs → AllByRecursion (λ (g : Grant). g.order < next) (option_to_list o ++ gs)
  all_with None gs one all = all
  all_with (Some g) gs one all = (one g refl, all)

  pub found_below : (cs : List Node) → AllByRecursion (λ (g : Grant). g.order < next) (found_by latest except fid cs)
  found_below [] = tt
  found_below (c ∷ cs) = all_with (hit_of latest except fid c) (found_by latest except fid cs) (hit_below c) (found_below cs)

  pub in_order : IsInOrder (found_by latest except fid clients) (λ (from : ℕ). hits except fid (held (since from latest) log))
  in_order = record {
    first = λ from g e. (next_hit except fid is from g (sym (first_is_oldest from latest except fid None clients) ∙ e)).hits;
    none = λ from e. no_more except fid is from (sym (first_is_oldest from latest except fid None clients) ∙ e);
  }
