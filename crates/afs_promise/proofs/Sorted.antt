-- Grants sorted by fid and by their places in the order of granting have their promises by fid.
use Rattle.std.proofs.Common.{◌≡◌, ◌⊎◌, inl, inr, ℕ, zero, suc, ◌+◌, ◌<◌, Bool, true, false, List, [], ◌∷◌, length, get_or, nat_eq, nat_lt, cond, if◌then◌else◌, refl, ap, sym, subst, ◌∙◌, arith}
use Rattle.std.specs.Cmp.{IsStrictWeakOrder, IsTotalOrder}
use Rattle.std.specs.List.{All, AllByRecursion, IsDistinct}
use Rattle.std.specs.List.Sorted.{IsPermutation, IsSortedBy}
use Rattle.std.specs.Ordering.{is_lt, nat_cmp, ordering_then, ordering_reverse}
use Rattle.std.specs.declared.cmp.Ordering.{Ordering}
use Rattle.std.specs.declared.cmp.Ordering.TheVariants.{Less, Equal, Greater}
use Rattle.std.proofs.lemmas.Cmp.{nat_cmp_total, on_total, then_total}
use Rattle.std.proofs.lemmas.Bool.Decides.{nat_tests}
use Rattle.std.proofs.lemmas.List.Sorted.{All-permutation, IsPermutation-sym, sorted_far, ranks_by}
use Rattle.std.proofs.lemmas.Map.Keys.{IsDistinct-IsPermutation}
use Rattle.afs_num.specs.Fids.{fid_order}
use Rattle.spec_breaks.specs.declared.types.Promise.{Promise}
use Rattle.afs_promise.specs.declared.types.Grant.{Grant}
use Rattle.spec_breaks.specs.Promises.{promise_put, by_fid}
use Rattle.afs_promise.specs.Granting.{promises_in, IsIn, Rises}
use Rattle.afs_promise.proofs.Ends.{get_in, from_low}

-- ---- the sort of the definition, on grants

put : Grant → List Grant → List Grant
put g [] = g ∷ []
put g (h ∷ hs) = if is_lt (fid_order h.promise.fid g.promise.fid) then h ∷ put g hs else g ∷ h ∷ hs

inserted : List Grant → List Grant
inserted [] = []
inserted (g ∷ gs) = put g (inserted gs)

put_promises : (g : Grant) (hs : List Grant) → promises_in (put g hs) ≡ promise_put g.promise (promises_in hs)
unfolding put
put_promises g [] = refl
put_promises g (h ∷ hs) = by (is_lt (fid_order h.promise.fid g.promise.fid)) (put_promises g hs)
  where
    by : (t : Bool) → promises_in (put g hs) ≡ promise_put g.promise (promises_in hs) → promises_in (if t then h ∷ put g hs else g ∷ h ∷ hs) ≡ (if t then h.promise ∷ promise_put g.promise (promises_in hs) else g.promise ∷ h.promise ∷ promises_in hs)
    by true later = ap (λ (ps : List Promise). h.promise ∷ ps) later
    by false later = refl

inserted_promises : (gs : List Grant) → promises_in (inserted gs) ≡ by_fid (promises_in gs)
unfolding inserted
inserted_promises [] = refl
inserted_promises (g ∷ gs) = put_promises g (inserted gs) ∙ ap (promise_put g.promise) (inserted_promises gs)

put_has : (z g : Grant) (hs : List Grant) → IsIn z (put g hs) → (g ≡ z) ⊎ IsIn z hs
unfolding put
put_has z g [] i = i
put_has z g (h ∷ hs) i = by (is_lt (fid_order h.promise.fid g.promise.fid)) i (put_has z g hs)
  where
    moved : (g ≡ z) ⊎ IsIn z hs → (g ≡ z) ⊎ IsIn z (h ∷ hs)
    moved (inl e) = inl e
    moved (inr i) = inr (inr i)

    first : IsIn z (h ∷ put g hs) → (IsIn z (put g hs) → (g ≡ z) ⊎ IsIn z hs) → (g ≡ z) ⊎ IsIn z (h ∷ hs)
    first (inl e) later = inr (inl e)
    first (inr i) later = moved (later i)

    by : (t : Bool) → IsIn z (if t then h ∷ put g hs else g ∷ h ∷ hs) → (IsIn z (put g hs) → (g ≡ z) ⊎ IsIn z hs) → (g ≡ z) ⊎ IsIn z (h ∷ hs)
    by true i later = first i later
    by false i later = i

has_put : (z g : Grant) (hs : List Grant) → (g ≡ z) ⊎ IsIn z hs → IsIn z (put g hs)
unfolding put
has_put z g [] i = i
has_put z g (h ∷ hs) i = by (is_lt (fid_order h.promise.fid g.promise.fid)) i (has_put z g hs)
  where
    first : (g ≡ z) ⊎ IsIn z (h ∷ hs) → ((g ≡ z) ⊎ IsIn z hs → IsIn z (put g hs)) → IsIn z (h ∷ put g hs)
    first (inl e) later = inr (later (inl e))
    first (inr (inl e)) later = inl e
    first (inr (inr i)) later = inr (later (inr i))

    by : (t : Bool) → (g ≡ z) ⊎ IsIn z (h ∷ hs) → ((g ≡ z) ⊎ IsIn z hs → IsIn z (put g hs)) → IsIn z (if t then h ∷ put g hs else g ∷ h ∷ hs)
    by true i later = first i later
    by false i later = i

inserted_has : (z : Grant) (gs : List Grant) → IsIn z (inserted gs) → IsIn z gs
unfolding inserted
inserted_has z [] i = i
inserted_has z (g ∷ gs) i = by (put_has z g (inserted gs) i) (inserted_has z gs)
  where
    by : (g ≡ z) ⊎ IsIn z (inserted gs) → (IsIn z (inserted gs) → IsIn z gs) → IsIn z (g ∷ gs)
    by (inl e) later = inl e
    by (inr i) later = inr (later i)

has_inserted : (z : Grant) (gs : List Grant) → IsIn z gs → IsIn z (inserted gs)
unfolding inserted
has_inserted z [] i = i
has_inserted z (g ∷ gs) (inl e) = has_put z g (inserted gs) (inl e)
has_inserted z (g ∷ gs) (inr i) = has_put z g (inserted gs) (inr (has_inserted z gs i))

in_all : (P : Grant → Type 0) (z : Grant) (zs : List Grant) → All P zs → IsIn z zs → P z
in_all P z [] all i = absurd i
in_all P z (y ∷ ys) all (inl e) = subst P e (all zero y (omega arith))
in_all P z (y ∷ ys) all (inr i) = in_all P z ys (λ k d less. all (suc k) d (omega (arith, less))) i

pub moved_in : (z : Grant) (xs ys : List Grant) → IsPermutation xs ys → IsIn z ys → IsIn z xs
moved_in z xs ys moved i = in_all (λ y. IsIn y xs) z ys (All-permutation (λ y. IsIn y xs) xs ys moved (λ k d less. get_in k d xs less)) i

-- ---- an order that tells grants apart, first by their fids

module _ (lt : Grant → Grant → Bool) (weak : IsStrictWeakOrder lt) (tells : (x y : Grant) → lt x y ≡ false → lt y x ≡ false → x.order ≡ y.order) (by_fids : (x y : Grant) → is_lt (fid_order x.promise.fid y.promise.fid) ≡ true → lt x y ≡ true)
    (by_orders : (x y : Grant) → is_lt (fid_order y.promise.fid x.promise.fid) ≡ false → x.order < y.order → lt x y ≡ true) where
  EachAfter : Grant → List Grant → Type 0
  EachAfter g [] = Unit {0}
  EachAfter g (h ∷ hs) = (lt g h ≡ true) × EachAfter g hs

  Strict : List Grant → Type 0
  Strict [] = Unit {0}
  Strict (g ∷ gs) = EachAfter g gs × Strict gs

  after_in : (g z : Grant) (hs : List Grant) → EachAfter g hs → IsIn z hs → lt g z ≡ true
  unfolding EachAfter
  after_in g z [] all i = absurd i
  after_in g z (h ∷ hs) all (inl e) = ap (lt g) (sym e) ∙ all.0
  after_in g z (h ∷ hs) all (inr i) = after_in g z hs all.1 i

  in_after : (g : Grant) (hs : List Grant) → ((z : Grant) → IsIn z hs → lt g z ≡ true) → EachAfter g hs
  unfolding EachAfter
  in_after g [] each = tt
  in_after g (h ∷ hs) each = (each h (inl refl), in_after g hs (λ z i. each z (inr i)))

  not_both : (x y : Grant) → lt x y ≡ true → lt y x ≡ true → ⊥
  not_both x y e f = let no_way : lt y x ≡ false = weak.one_way x y e in absurd cc

  through_by : (x y z : Grant) (t : Bool) → lt x z ≡ t → lt x y ≡ true → lt y z ≡ true → t ≡ true
  through_by x y z true g e f = refl
  through_by x y z false g e f = let wrong : lt x y ≡ false = weak.chain x z y g (weak.one_way y z f) in absurd cc

  through : (x y z : Grant) → lt x y ≡ true → lt y z ≡ true → lt x z ≡ true
  through x y z e f = through_by x y z (lt x z) refl e f

  -- such a list is told by what is in it
  tail_in : (x z : Grant) (xs ys : List Grant) → EachAfter x xs → IsIn z xs → IsIn z (x ∷ ys) → IsIn z ys
  tail_in x z xs ys all i (inl e) = let itself : lt x z ≡ true = after_in x z xs all i in absurd (not_both x z itself (ap (λ (g : Grant). lt z g) e ∙ (ap (λ (g : Grant). lt g z) (sym e) ∙ itself)))
  tail_in x z xs ys all i (inr j) = j

  heads : (x y : Grant) (xs ys : List Grant) → EachAfter x xs → EachAfter y ys → IsIn x (y ∷ ys) → IsIn y (x ∷ xs) → x ≡ y
  heads x y xs ys a b (inl e) j = sym e
  heads x y xs ys a b (inr i) (inl f) = f
  heads x y xs ys a b (inr i) (inr j) = absurd (not_both x y (after_in x y xs a j) (after_in y x ys b i))

  one_list : (xs ys : List Grant) → Strict xs → Strict ys → ((z : Grant) → IsIn z xs → IsIn z ys) → ((z : Grant) → IsIn z ys → IsIn z xs) → xs ≡ ys
  unfolding Strict
  one_list [] [] a b f g = refl
  one_list [] (y ∷ ys) a b f g = absurd (g y (inl refl))
  one_list (x ∷ xs) [] a b f g = absurd (f x (inl refl))
  one_list (x ∷ xs) (y ∷ ys) a b f g =
      let same : x ≡ y = heads x y xs ys a.0 b.0 (f x (inl refl)) (g y (inl refl)) in
      let rest : xs ≡ ys = one_list xs ys a.1 b.1 (λ z i. tail_in x z xs ys a.0 i (subst (λ (w : Grant). IsIn z (w ∷ ys)) (sym same) (f z (inr i)))) (λ z i. tail_in y z ys xs b.0 i (subst (λ (w : Grant). IsIn z (w ∷ xs)) same (g z (inr i)))) in
      λ i. same i ∷ rest i

  strict_put : (g : Grant) (hs : List Grant) → ((h : Grant) → IsIn h hs → g.order < h.order) → Strict hs → Strict (put g hs)
  unfolding put Strict EachAfter
  strict_put g [] older all = (tt, tt)
  strict_put g (h ∷ hs) older all = by (is_lt (fid_order h.promise.fid g.promise.fid)) refl (strict_put g hs (λ z i. older z (inr i)) all.1)
    where
      after_put : lt h g ≡ true → (z : Grant) → (g ≡ z) ⊎ IsIn z hs → lt h z ≡ true
      after_put e z (inl f) = ap (lt h) (sym f) ∙ e
      after_put e z (inr i) = after_in h z hs all.0 i

      by : (t : Bool) → is_lt (fid_order h.promise.fid g.promise.fid) ≡ t → Strict (put g hs) → Strict (if t then h ∷ put g hs else g ∷ h ∷ hs)
      by true e later = (in_after h (put g hs) (λ z i. after_put (by_fids h g e) z (put_has z g hs i)), later)
      by false e later =
          let first : lt g h ≡ true = by_orders g h e (older h (inl refl)) in
          ((first, in_after g hs (λ z i. through g h z first (after_in h z hs all.0 i))), all)

  strict_inserted : (low high : ℕ) (gs : List Grant) → Rises low high gs → Strict (inserted gs)
  unfolding inserted Strict
  strict_inserted low high [] up = tt
  strict_inserted low high (g ∷ gs) up = strict_put g (inserted gs) (λ h i. omega (arith, from_low (g.order + 1) high h gs up.1 (inserted_has h gs i))) (strict_inserted (g.order + 1) high gs up.1)

  -- a sorted list of grants with places of their own
  sorted_tail : (x : Grant) (xs : List Grant) → IsSortedBy lt (x ∷ xs) → IsSortedBy lt xs
  sorted_tail x xs up k d low high =
      let next : suc (k + 1) ≡ suc k + 1 = omega arith in
      let one : suc k ≡ k + 1 = omega arith in
      let far = up (suc k) d (omega arith) (omega (arith, high)) in
      subst (λ (n : ℕ). lt (get_or (x ∷ xs) n d) (get_or xs k d) ≡ false) (sym next) far

  apart_in : (x z : Grant) (xs : List Grant) → AllByRecursion (λ y. nat_eq x.order y.order ≡ false) xs → IsIn z xs → nat_eq x.order z.order ≡ false
  apart_in x z [] all i = absurd i
  apart_in x z (y ∷ ys) all (inl e) = ap (λ (w : Grant). nat_eq x.order w.order) (sym e) ∙ all.0
  apart_in x z (y ∷ ys) all (inr i) = apart_in x z ys all.1 i

  not_before : (x z : Grant) (xs : List Grant) → ((j : ℕ) (d : Grant) → j < length xs → lt (get_or xs j d) x ≡ false) → IsIn z xs → lt z x ≡ false
  not_before x z [] each i = absurd i
  not_before x z (y ∷ ys) each (inl e) = ap (λ (w : Grant). lt w x) (sym e) ∙ each zero y (omega arith)
  not_before x z (y ∷ ys) each (inr i) = not_before x z ys (λ j d less. each (suc j) d (omega (arith, less))) i

  before_by : (x z : Grant) (t : Bool) → lt x z ≡ t → lt z x ≡ false → nat_eq x.order z.order ≡ false → t ≡ true
  before_by x z true e f apart = refl
  before_by x z false e f apart = absurd (let same = tells x z e f in let yes : nat_eq x.order z.order ≡ true = grind (arith, nat_tests, same) in cc)

  strict_sorted : (xs : List Grant) → IsSortedBy lt xs → IsDistinct (λ x y. nat_eq x.order y.order) xs → Strict xs
  unfolding Strict IsDistinct
  strict_sorted [] up own = tt
  strict_sorted (x ∷ xs) up own = (
    in_after x xs (λ z i. before_by x z (lt x z) refl (not_before x z xs (λ j d less. sorted_far lt weak (x ∷ xs) up zero (suc j) d (omega arith) (omega (arith, less))) i) (apart_in x z xs own.0 i)),
    strict_sorted xs (sorted_tail x xs up) own.1,
  )

  all_apart : (n low high : ℕ) (gs : List Grant) → n < low → Rises low high gs → AllByRecursion (λ y. nat_eq n y.order ≡ false) gs
  all_apart n low high [] less up = tt
  all_apart n low high (g ∷ gs) less up = (grind (arith, nat_tests, less, up.0), all_apart n (g.order + 1) high gs (omega (arith, less, up.0)) up.1)

  own_places : (low high : ℕ) (gs : List Grant) → Rises low high gs → IsDistinct (λ x y. nat_eq x.order y.order) gs
  unfolding IsDistinct
  own_places low high [] up = tt
  own_places low high (g ∷ gs) up = (all_apart g.order (g.order + 1) high gs (omega arith) up.1, own_places (g.order + 1) high gs up.1)

  orders_flip : (x y : Grant) → nat_eq x.order y.order ≡ nat_eq y.order x.order
  orders_flip x y = grind (arith, nat_tests)

  pub sorted_promises : (low high : ℕ) (gs sorted : List Grant) → Rises low high gs → IsPermutation gs sorted → IsSortedBy lt sorted → promises_in sorted ≡ by_fid (promises_in gs)
  sorted_promises low high gs sorted up moved by_lt =
      let own = IsDistinct-IsPermutation (λ (x y : Grant). nat_eq x.order y.order) orders_flip gs sorted moved (own_places low high gs up) in
      let same : sorted ≡ inserted gs =
      one_list sorted (inserted gs) (strict_sorted sorted by_lt own) (strict_inserted low high gs up) (λ z i. has_inserted z gs (moved_in z gs sorted moved i)) (λ z i. moved_in z sorted gs (IsPermutation-sym gs sorted moved) (inserted_has z gs i))
      in
      ap promises_in same ∙ inserted_promises gs

-- ---- the order by fid, and on one fid by the place in the order of granting

abbrev pub before : Grant → Grant → Ordering
before x y = ordering_then (fid_order x.promise.fid y.promise.fid) (nat_cmp x.order y.order)

fids_total : IsTotalOrder (λ (x y : Grant). fid_order x.promise.fid y.promise.fid)
fids_total = then_total (on_total (λ (g : Grant). g.promise.fid.volume) nat_cmp_total) (then_total (on_total (λ (g : Grant). g.promise.fid.vnode) nat_cmp_total) (on_total (λ (g : Grant). g.promise.fid.unique) nat_cmp_total))

before_total : IsTotalOrder before
before_total = then_total fids_total (on_total (λ (g : Grant). g.order) nat_cmp_total)

equal_orders : (a : Ordering) (m n : ℕ) → ordering_then a (nat_cmp m n) ≡ Equal → m ≡ n
equal_orders Less m n e = absurd cc
equal_orders Equal m n e = by (nat_lt m n) (nat_eq m n) refl refl e
  where
    by : (t u : Bool) → nat_lt m n ≡ t → nat_eq m n ≡ u → cond t Less (cond u Equal Greater) ≡ Equal → m ≡ n
    by true u p q e = absurd cc
    by false true p q e = grind (arith, nat_tests, q)
    by false false p q e = absurd cc
equal_orders Greater m n e = absurd cc

tells_by : (x y : Grant) (a b : Ordering) → before x y ≡ a → before y x ≡ b → b ≡ ordering_reverse a → is_lt a ≡ false → is_lt b ≡ false → x.order ≡ y.order
tells_by x y Less b e f flip p q = absurd cc
tells_by x y Equal b e f flip p q = equal_orders (fid_order x.promise.fid y.promise.fid) x.order y.order e
tells_by x y Greater b e f flip p q = absurd (let less : is_lt b ≡ true = ap is_lt flip in cc)

fid_first : (a b : Ordering) → is_lt a ≡ true → is_lt (ordering_then a b) ≡ true
fid_first Less b e = refl
fid_first Equal b e = absurd cc
fid_first Greater b e = absurd cc

then_order : (a b : Ordering) (m n : ℕ) → b ≡ ordering_reverse a → is_lt a ≡ false → m < n → is_lt (ordering_then b (nat_cmp m n)) ≡ true
then_order Less b m n flip e less = absurd cc
then_order Equal b m n flip e less =
    let low : nat_lt m n ≡ true = grind (arith, nat_tests, less) in
    ap (λ (o : Ordering). is_lt (ordering_then o (nat_cmp m n))) flip ∙ (let is : is_lt (nat_cmp m n) ≡ true = rw low refl in is)
then_order Greater b m n flip e less = ap (λ (o : Ordering). is_lt (ordering_then o (nat_cmp m n))) flip

pub sorted_by_fid : (low high : ℕ) (gs sorted : List Grant) → Rises low high gs → IsPermutation gs sorted → IsSortedBy (λ x y. is_lt (before x y)) sorted → promises_in sorted ≡ by_fid (promises_in gs)
sorted_by_fid = sorted_promises (λ x y. is_lt (before x y)) (ranks_by before_total (λ g. g)) (λ x y e f. tells_by x y (before x y) (before y x) refl refl (before_total.antisymm y x) e f) (λ x y e. fid_first (fid_order x.promise.fid y.promise.fid) (nat_cmp x.order y.order) e)
    (λ x y e less. then_order (fid_order y.promise.fid x.promise.fid) (fid_order x.promise.fid y.promise.fid) x.order y.order (fids_total.antisymm x y) e less)
