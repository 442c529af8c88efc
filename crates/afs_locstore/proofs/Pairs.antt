-- Pairs in order: where one stands, and what is found there.
use Rattle.std.proofs.Common.{◌≡◌, ◌≤◌, ◌<◌, ℕ, zero, suc, ◌+◌, Bool, true, false, List, [], ◌∷◌, length, get_or, Option, Some, None, refl, sym, ap, subst, ◌∙◌, arith, slice_get, filter, if◌then◌else◌}
use Rattle.std.specs.Prelude.{◌&&◌, ◌||◌, is_some, nat_eq, nat_lt, not}
use Rattle.std.specs.List.{insert, remove, prefix_len}
use Rattle.std.specs.List.Sorted.{IsPartitionedBy, IsPartitionPoint}
use mathlib.Core.Bool.{true≢false}
use Rattle.std.proofs.lemmas.Bool.{eqb-true}
use Rattle.std.proofs.lemmas.Bool.Decides.{nat_tests}
use Rattle.afs_locstore.specs.Indexed.{another_of, another_under, first_under, holds_pair, is_number, is_pair, number_under, pair_below, place_of, same_pair, with_pair, without_pair, Ascend, IsOrder}

-- ---- where items part

pub part_is_place : {A : Type 0} (test : A → Bool) (xs : List A) (i : ℕ) → i ≤ length xs → IsPartitionPoint (λ x. test x ≡ true) (λ x. test x ≡ false) xs i → i ≡ prefix_len test xs
part_is_place {A} test [] i le parts = omega (arith, le)
part_is_place {A} test (x ∷ xs) zero le parts = grind (arith, parts.1 0 x (omega arith) (omega arith))
part_is_place {A} test (x ∷ xs) (suc i) le parts =
    let later = part_is_place test xs i (omega (arith, le)) (λ j d ge lt. parts.0 (suc j) d (omega arith) (omega (arith, lt)), λ j d ge lt. parts.1 (suc j) d (omega (arith, ge)) (omega (arith, lt))) in
    grind (arith, parts.0 0 x (omega arith) (omega arith), later)

-- ---- tests

or_first : (a b : Bool) → a ≡ true → (a || b) ≡ true
or_first a b e = rw e refl

or_second : (a b : Bool) → b ≡ true → (a || b) ≡ true
or_second true b e = refl
or_second false b e = e

twice : (a b : Bool) → (a || b) ≡ (a || (a || b))
twice true b = refl
twice false b = refl

swapped : (a b c : Bool) → (a || (b || c)) ≡ (b || (a || c))
swapped true true c = refl
swapped true false c = refl
swapped false b c = refl

and_false : (a : Bool) → (a && false) ≡ false
and_false true = refl
and_false false = refl

module _ {K : Type 0} (below same : K → K → Bool) (o : IsOrder below same) where
  -- ---- the order

  differs_by : (a b : K) (is : Bool) → same a b ≡ is → below a b ≡ true → is ≡ false
  differs_by a b false e lt = refl
  differs_by a b true e lt = absurd (true≢false (sym (subst (λ (x : K). below a x ≡ true) (sym (o.same_is a b e)) lt) ∙ o.irreflexive a))

  -- what is below another isn't the same
  below_differs : (a b : K) → below a b ≡ true → same a b ≡ false
  below_differs a b lt = differs_by a b (same a b) refl lt

  above_by : (a b : K) (is : Bool) → below b a ≡ is → below a b ≡ false → same a b ≡ false → is ≡ true
  above_by a b true e lt differs = refl
  above_by a b false e lt differs = absurd (true≢false (sym (o.is_same a) ∙ (subst (λ (x : K). same a x ≡ false) (sym (o.decides a b lt e)) differs)))

  -- what is neither below another nor the same is above it
  is_above : (a b : K) → below a b ≡ false → same a b ≡ false → below b a ≡ true
  is_above a b lt differs = above_by a b (below b a) refl lt differs

  swapped_by : (a b : K) (is : Bool) → same a b ≡ is → below b a ≡ true → is ≡ false
  swapped_by a b false e lt = refl
  swapped_by a b true e lt = absurd (true≢false (sym (subst (λ (x : K). below x a ≡ true) (sym (o.same_is a b e)) lt) ∙ o.irreflexive a))

  -- and what is above another isn't the same
  above_differs : (a b : K) → below b a ≡ true → same a b ≡ false
  above_differs a b lt = swapped_by a b (same a b) refl lt

  -- ---- the order of pairs

  passes_by : (k : K) (n : ℕ) (p q : K × ℕ) (a b c d : Bool) → below p.0 q.0 ≡ a → same p.0 q.0 ≡ b → below q.0 k ≡ c → same q.0 k ≡ d
      → (a || (b && nat_lt p.1 q.1)) ≡ true → (c || (d && nat_lt q.1 n)) ≡ true → pair_below below same k n p ≡ true
  passes_by k n p q true b true d ea eb ec ed one two = or_first (below p.0 k) (same p.0 k && nat_lt p.1 n) (o.passes p.0 q.0 k ea ec)
  passes_by k n p q true b false true ea eb ec ed one two = or_first (below p.0 k) (same p.0 k && nat_lt p.1 n) (subst (λ (x : K). below p.0 x ≡ true) (o.same_is q.0 k ed) ea)
  passes_by k n p q true b false false ea eb ec ed one two = absurd cc
  passes_by k n p q false true true d ea eb ec ed one two = or_first (below p.0 k) (same p.0 k && nat_lt p.1 n) (subst (λ (x : K). below x k ≡ true) (sym (o.same_is p.0 q.0 eb)) ec)
  passes_by k n p q false true false true ea eb ec ed one two =
      let is : same p.0 k ≡ true = subst (λ (x : K). same x k ≡ true) (sym (o.same_is p.0 q.0 eb)) ed in
      let lt : nat_lt p.1 n ≡ true = grind (arith, nat_tests, one, two) in
      or_second (below p.0 k) (same p.0 k && nat_lt p.1 n) (rw (is, lt) refl)
  passes_by k n p q false true false false ea eb ec ed one two = absurd cc
  passes_by k n p q false false c d ea eb ec ed one two = absurd cc

  -- a pair below one below a third is below that
  pair_passes : (k : K) (n : ℕ) (p q : K × ℕ) → pair_below below same q.0 q.1 p ≡ true → pair_below below same k n q ≡ true → pair_below below same k n p ≡ true
  pair_passes k n p q one two = passes_by k n p q (below p.0 q.0) (same p.0 q.0) (below q.0 k) (same q.0 k) refl refl refl refl one two

  pair_differs_by : (k : K) (n : ℕ) (p : K × ℕ) (a b : Bool) → below p.0 k ≡ a → same p.0 k ≡ b → (a || (b && nat_lt p.1 n)) ≡ true → (b && nat_eq p.1 n) ≡ false
  pair_differs_by k n p true b ea eb lt = rw (sym eb ∙ below_differs p.0 k ea) refl
  pair_differs_by k n p false true ea eb lt = grind (arith, nat_tests, lt)
  pair_differs_by k n p false false ea eb lt = refl

  -- a pair below another isn't the same
  pair_differs : (k : K) (n : ℕ) (p : K × ℕ) → pair_below below same k n p ≡ true → same_pair same k n p ≡ false
  pair_differs k n p lt = pair_differs_by k n p (below p.0 k) (same p.0 k) refl refl lt

  pair_above_by : (k : K) (n : ℕ) (p : K × ℕ) (a b : Bool) → below p.0 k ≡ a → same p.0 k ≡ b → (a || (b && nat_lt p.1 n)) ≡ false → (b && nat_eq p.1 n) ≡ false → pair_below below same p.0 p.1 (k, n) ≡ true
  pair_above_by k n p true b ea eb lt is = absurd cc
  pair_above_by k n p false true ea eb lt is =
      let alike : same k p.0 ≡ true = subst (λ (x : K). same x p.0 ≡ true) (o.same_is p.0 k eb) (o.is_same p.0) in
      let less : nat_lt n p.1 ≡ true = grind (arith, nat_tests, lt, is) in
      or_second (below k p.0) (same k p.0 && nat_lt n p.1) (rw (alike, less) refl)
  pair_above_by k n p false false ea eb lt is = or_first (below k p.0) (same k p.0 && nat_lt n p.1) (is_above p.0 k ea eb)

  -- one that is neither below another nor the same is above it
  pair_above : (k : K) (n : ℕ) (p : K × ℕ) → pair_below below same k n p ≡ false → same_pair same k n p ≡ false → pair_below below same p.0 p.1 (k, n) ≡ true
  pair_above k n p lt is = pair_above_by k n p (below p.0 k) (same p.0 k) refl refl lt is

  behind : (p : K × ℕ) (ps : List (K × ℕ)) → Ascend below same (p ∷ ps) → Ascend below same ps
  behind p [] so = tt
  behind p (q ∷ qs) so = so.1

  -- ---- the place of a pair

  low_first : (k : K) (n : ℕ) (p : K × ℕ) (ps : List (K × ℕ)) (j : ℕ) (d : K × ℕ) → Ascend below same (p ∷ ps) → j < length (p ∷ ps) → pair_below below same k n (get_or (p ∷ ps) j d) ≡ true → pair_below below same k n p ≡ true
  low_first k n p ps zero d so lt e = e
  low_first k n p [] (suc j) d so lt e = absurd (omega (arith, lt))
  low_first k n p (q ∷ qs) (suc j) d so lt e = pair_passes k n p q so.0 (low_first k n q qs j d so.1 (omega (arith, lt)) e)

  pub parted : (k : K) (n : ℕ) (ps : List (K × ℕ)) → Ascend below same ps → IsPartitionedBy (pair_below below same k n) ps
  parted k n [] so i j d le lt e = absurd (omega (arith, lt))
  parted k n (p ∷ ps) so zero j d le lt e = low_first k n p ps j d so lt e
  parted k n (p ∷ ps) so (suc i) zero d le lt e = absurd (omega (arith, le))
  parted k n (p ∷ ps) so (suc i) (suc j) d le lt e = parted k n ps (behind p ps so) i j d (omega (arith, le)) (omega (arith, lt)) e

  -- ---- a pair is put

  there_by : (k : K) (n : ℕ) (p : K × ℕ) (ps : List (K × ℕ)) (lt : Bool) → pair_below below same k n p ≡ lt → is_pair same k n (slice_get (p ∷ ps) (if lt then 1 + place_of below same k n ps else 0)) ≡ true
      → (is_pair same k n (slice_get ps (place_of below same k n ps)) ≡ true → with_pair below same k n ps ≡ ps)
      → (if same_pair same k n p then p ∷ ps else (if lt then p ∷ with_pair below same k n ps else (k, n) ∷ p ∷ ps)) ≡ p ∷ ps
  there_by k n p ps true e has later =
      let next : 1 + place_of below same k n ps ≡ suc (place_of below same k n ps) = omega arith in
      rw (pair_differs k n p e) (ap (λ (t : List (K × ℕ)). p ∷ t) (later (subst (λ (i : ℕ). is_pair same k n (slice_get (p ∷ ps) i) ≡ true) next has)))
  there_by k n p ps false e has later = rw has refl

  -- one that is there stays
  there : (k : K) (n : ℕ) (ps : List (K × ℕ)) → is_pair same k n (slice_get ps (place_of below same k n ps)) ≡ true → with_pair below same k n ps ≡ ps
  there k n [] has = absurd cc
  there k n (p ∷ ps) has = there_by k n p ps (pair_below below same k n p) refl has (there k n ps)

  inserted_by : (k : K) (n : ℕ) (p : K × ℕ) (ps : List (K × ℕ)) (lt : Bool) → pair_below below same k n p ≡ lt → is_pair same k n (slice_get (p ∷ ps) (if lt then 1 + place_of below same k n ps else 0)) ≡ false
      → (is_pair same k n (slice_get ps (place_of below same k n ps)) ≡ false → insert ps (place_of below same k n ps) (k, n) ≡ with_pair below same k n ps)
      → insert (p ∷ ps) (if lt then 1 + place_of below same k n ps else 0) (k, n) ≡ (if same_pair same k n p then p ∷ ps else (if lt then p ∷ with_pair below same k n ps else (k, n) ∷ p ∷ ps))
  inserted_by k n p ps true e has later =
      let next : 1 + place_of below same k n ps ≡ suc (place_of below same k n ps) = omega arith in
      let rest = later (subst (λ (i : ℕ). is_pair same k n (slice_get (p ∷ ps) i) ≡ false) next has) in
      rw (pair_differs k n p e) (subst (λ (i : ℕ). insert (p ∷ ps) i (k, n) ≡ p ∷ with_pair below same k n ps) (sym next) (ap (λ (t : List (K × ℕ)). p ∷ t) rest))
  inserted_by k n p ps false e has later = rw has refl

  -- one that isn't stands between its neighbours
  inserted : (k : K) (n : ℕ) (ps : List (K × ℕ)) → is_pair same k n (slice_get ps (place_of below same k n ps)) ≡ false → insert ps (place_of below same k n ps) (k, n) ≡ with_pair below same k n ps
  inserted k n [] has = refl
  inserted k n (p ∷ ps) has = inserted_by k n p ps (pair_below below same k n p) refl has (inserted k n ps)

  headed_by : (k : K) (n : ℕ) (p q : K × ℕ) (qs rest : List (K × ℕ)) (is lt : Bool) → pair_below below same q.0 q.1 p ≡ true → pair_below below same k n p ≡ true
      → Ascend below same (if is then q ∷ qs else (if lt then q ∷ rest else (k, n) ∷ q ∷ qs)) → Ascend below same (p ∷ (if is then q ∷ qs else (if lt then q ∷ rest else (k, n) ∷ q ∷ qs)))
  headed_by k n p q qs rest true lt next low so = (next, so)
  headed_by k n p q qs rest false true next low so = (next, so)
  headed_by k n p q qs rest false false next low so = (low, so)

  headed : (k : K) (n : ℕ) (p : K × ℕ) (ps : List (K × ℕ)) → Ascend below same (p ∷ ps) → pair_below below same k n p ≡ true → Ascend below same (with_pair below same k n ps) → Ascend below same (p ∷ with_pair below same k n ps)
  headed k n p [] so low later = (low, tt)
  headed k n p (q ∷ qs) so low later = headed_by k n p q qs (with_pair below same k n qs) (same_pair same k n q) (pair_below below same k n q) so.0 low later

  with_by : (k : K) (n : ℕ) (p : K × ℕ) (ps : List (K × ℕ)) (is lt : Bool) → same_pair same k n p ≡ is → pair_below below same k n p ≡ lt → Ascend below same (p ∷ ps) → Ascend below same (with_pair below same k n ps)
      → Ascend below same (if is then p ∷ ps else (if lt then p ∷ with_pair below same k n ps else (k, n) ∷ p ∷ ps))
  with_by k n p ps true lt is low so later = so
  with_by k n p ps false true is low so later = headed k n p ps so low later
  with_by k n p ps false false is low so later = (pair_above k n p low is, so)

  with_ascends : (k : K) (n : ℕ) (ps : List (K × ℕ)) → Ascend below same ps → Ascend below same (with_pair below same k n ps)
  with_ascends k n [] so = tt
  with_ascends k n (p ∷ ps) so = with_by k n p ps (same_pair same k n p) (pair_below below same k n p) refl refl so (with_ascends k n ps (behind p ps so))

  -- ---- a pair is taken out

  not_low_by : (k : K) (n : ℕ) (p q : K × ℕ) (lt : Bool) → pair_below below same k n q ≡ lt → pair_below below same q.0 q.1 p ≡ true → pair_below below same k n p ≡ false → lt ≡ false
  not_low_by k n p q false e next low = refl
  not_low_by k n p q true e next low = absurd (true≢false (sym (pair_passes k n p q next e) ∙ low))

  pair_is : (k : K) (n : ℕ) (q : K × ℕ) (is alike : Bool) → same q.0 k ≡ is → nat_eq q.1 n ≡ alike → (is && alike) ≡ true → q ≡ (k, n)
  pair_is k n q true true is alike e = ap (λ (x : K). (x, q.1)) (o.same_is q.0 k is) ∙ ap (λ (m : ℕ). (k, m)) (eqb-true q.1 n alike)
  pair_is k n q true false is alike e = absurd cc
  pair_is k n q false alike is other e = absurd cc

  other_by : (k : K) (n : ℕ) (p q : K × ℕ) (is : Bool) → same_pair same k n q ≡ is → pair_below below same q.0 q.1 p ≡ true → pair_below below same k n p ≡ false → is ≡ false
  other_by k n p q false e next low = refl
  other_by k n p q true e next low = absurd (true≢false (sym (subst (λ (x : K × ℕ). pair_below below same x.0 x.1 p ≡ true) (pair_is k n q (same q.0 k) (nat_eq q.1 n) refl refl e) next) ∙ low))

  -- behind one that isn't below a pair that pair doesn't stand
  none_behind : (k : K) (n : ℕ) (p : K × ℕ) (ps : List (K × ℕ)) → Ascend below same (p ∷ ps) → pair_below below same k n p ≡ false → without_pair same k n ps ≡ ps
  none_behind k n p [] so low = refl
  none_behind k n p (q ∷ qs) so low =
      let next : pair_below below same k n q ≡ false = not_low_by k n p q (pair_below below same k n q) refl so.0 low in
      rw (other_by k n p q (same_pair same k n q) refl so.0 low) (ap (λ (t : List (K × ℕ)). q ∷ t) (none_behind k n q qs so.1 next))

  removed_by : (k : K) (n : ℕ) (p : K × ℕ) (ps : List (K × ℕ)) (lt : Bool) → pair_below below same k n p ≡ lt → Ascend below same (p ∷ ps) → is_pair same k n (slice_get (p ∷ ps) (if lt then 1 + place_of below same k n ps else 0)) ≡ true
      → (is_pair same k n (slice_get ps (place_of below same k n ps)) ≡ true → remove ps (place_of below same k n ps) ≡ without_pair same k n ps)
      → remove (p ∷ ps) (if lt then 1 + place_of below same k n ps else 0) ≡ without_pair same k n (p ∷ ps)
  removed_by k n p ps true e so has later =
      let next : 1 + place_of below same k n ps ≡ suc (place_of below same k n ps) = omega arith in
      let rest = later (subst (λ (i : ℕ). is_pair same k n (slice_get (p ∷ ps) i) ≡ true) next has) in
      rw (pair_differs k n p e) (subst (λ (i : ℕ). remove (p ∷ ps) i ≡ p ∷ without_pair same k n ps) (sym next) (ap (λ (t : List (K × ℕ)). p ∷ t) rest))
  removed_by k n p ps false e so has later = rw has (sym (none_behind k n p ps so e))

  -- one that is there goes
  removed : (k : K) (n : ℕ) (ps : List (K × ℕ)) → Ascend below same ps → is_pair same k n (slice_get ps (place_of below same k n ps)) ≡ true → remove ps (place_of below same k n ps) ≡ without_pair same k n ps
  removed k n [] so has = absurd cc
  removed k n (p ∷ ps) so has = removed_by k n p ps (pair_below below same k n p) refl so has (removed k n ps (behind p ps so))

  absent_by : (k : K) (n : ℕ) (p : K × ℕ) (ps : List (K × ℕ)) (lt : Bool) → pair_below below same k n p ≡ lt → Ascend below same (p ∷ ps) → is_pair same k n (slice_get (p ∷ ps) (if lt then 1 + place_of below same k n ps else 0)) ≡ false
      → (is_pair same k n (slice_get ps (place_of below same k n ps)) ≡ false → without_pair same k n ps ≡ ps) → without_pair same k n (p ∷ ps) ≡ p ∷ ps
  absent_by k n p ps true e so has later =
      let next : 1 + place_of below same k n ps ≡ suc (place_of below same k n ps) = omega arith in
      rw (pair_differs k n p e) (ap (λ (t : List (K × ℕ)). p ∷ t) (later (subst (λ (i : ℕ). is_pair same k n (slice_get (p ∷ ps) i) ≡ false) next has)))
  absent_by k n p ps false e so has later = rw has (ap (λ (t : List (K × ℕ)). p ∷ t) (none_behind k n p ps so e))

  -- where it isn't, all stay
  absent : (k : K) (n : ℕ) (ps : List (K × ℕ)) → Ascend below same ps → is_pair same k n (slice_get ps (place_of below same k n ps)) ≡ false → without_pair same k n ps ≡ ps
  absent k n [] so has = refl
  absent k n (p ∷ ps) so has = absent_by k n p ps (pair_below below same k n p) refl so has (absent k n ps (behind p ps so))

  -- the next but one is above, too
  skips : (p q : K × ℕ) (qs : List (K × ℕ)) → Ascend below same (p ∷ q ∷ qs) → Ascend below same (p ∷ qs)
  skips p q [] so = tt
  skips p q (r ∷ rs) so = (pair_passes r.0 r.1 p q so.0 so.1.0, so.1.1)

  kept_by : (p q : K × ℕ) (rest : List (K × ℕ)) (keeps : Bool) → pair_below below same q.0 q.1 p ≡ true → Ascend below same (q ∷ rest) → Ascend below same (p ∷ rest) → Ascend below same (p ∷ (if keeps then q ∷ rest else rest))
  kept_by p q rest true next so other = (next, so)
  kept_by p q rest false next so other = other

  kept_behind : (keep : K × ℕ → Bool) (p : K × ℕ) (ps : List (K × ℕ)) → Ascend below same (p ∷ ps) → Ascend below same (p ∷ filter keep ps)
  kept_behind keep p [] so = tt
  kept_behind keep p (q ∷ qs) so = kept_by p q (filter keep qs) (keep q) so.0 (kept_behind keep q qs so.1) (kept_behind keep p qs (skips p q qs so))

  first_kept : (p : K × ℕ) (rest : List (K × ℕ)) (keeps : Bool) → Ascend below same (p ∷ rest) → Ascend below same (if keeps then p ∷ rest else rest)
  first_kept p rest true so = so
  first_kept p rest false so = behind p rest so

  filter_ascends : (keep : K × ℕ → Bool) (ps : List (K × ℕ)) → Ascend below same ps → Ascend below same (filter keep ps)
  filter_ascends keep [] so = tt
  filter_ascends keep (p ∷ ps) so = first_kept p (filter keep ps) (keep p) (kept_behind keep p ps so)

  -- ---- the first under a mark

  -- its mark is below the next one's, or the same
  next_by : (k : K) (p q : K × ℕ) (lt is : Bool) → below p.0 q.0 ≡ lt → same p.0 q.0 ≡ is → (lt || (is && nat_lt p.1 q.1)) ≡ true → below k p.0 ≡ true → below k q.0 ≡ true
  next_by k p q true is e s so up = o.passes k p.0 q.0 up e
  next_by k p q false true e s so up = subst (λ (x : K). below k x ≡ true) (o.same_is p.0 q.0 s) up
  next_by k p q false false e s so up = absurd cc

  -- none behind a pair above a mark is under it
  none_above : (k : K) (p : K × ℕ) (ps : List (K × ℕ)) → below k p.0 ≡ true → Ascend below same (p ∷ ps) → first_under same k ps ≡ None
  none_above k p [] up so = refl
  none_above k p (q ∷ qs) up so =
      let further = next_by k p q (below p.0 q.0) (same p.0 q.0) refl refl so.0 up in
      rw (above_differs q.0 k further) (none_above k q qs further so.1)

  no_less : (n : ℕ) (b : Bool) → (b && nat_lt n 0) ≡ false
  no_less n true = grind (arith, nat_tests)
  no_less n false = refl

  first_here : (k : K) (p : K × ℕ) (ps : List (K × ℕ)) (is : Bool) → same p.0 k ≡ is → below p.0 k ≡ false → Ascend below same (p ∷ ps) → (if is then Some p.1 else None) ≡ (if is then Some p.1 else first_under same k ps)
  first_here k p ps true e lt so = refl
  first_here k p ps false e lt so = sym (none_above k p ps (is_above p.0 k lt e) so)

  first_by : (k : K) (p : K × ℕ) (ps : List (K × ℕ)) (lt less : Bool) → below p.0 k ≡ lt → (same p.0 k && nat_lt p.1 0) ≡ less → less ≡ false → Ascend below same (p ∷ ps)
      → number_under same k (slice_get ps (place_of below same k 0 ps)) ≡ first_under same k ps
      → number_under same k (slice_get (p ∷ ps) (if lt || less then 1 + place_of below same k 0 ps else 0)) ≡ first_under same k (p ∷ ps)
  first_by k p ps lt true e f none so later = absurd cc
  first_by k p ps true false e f none so later =
      let next : 1 + place_of below same k 0 ps ≡ suc (place_of below same k 0 ps) = omega arith in
      rw (below_differs p.0 k e) (subst (λ (i : ℕ). number_under same k (slice_get (p ∷ ps) i) ≡ first_under same k ps) (sym next) later)
  first_by k p ps false false e f none so later = first_here k p ps (same p.0 k) refl e so

  -- the number at the place of a mark with 0 is the first under the mark
  pub first_found : (k : K) (ps : List (K × ℕ)) → Ascend below same ps → number_under same k (slice_get ps (place_of below same k 0 ps)) ≡ first_under same k ps
  first_found k [] so = refl
  first_found k (p ∷ ps) so = first_by k p ps (below p.0 k) (same p.0 k && nat_lt p.1 0) refl refl (no_less p.1 (same p.0 k)) so (first_found k ps (behind p ps so))

  -- ---- another than one under a mark

  none_another_by : (k : K) (but : Option ℕ) (p : K × ℕ) (ps : List (K × ℕ)) (is : Bool) → (if is then Some p.1 else first_under same k ps) ≡ None
      → (first_under same k ps ≡ None → another_under same k but ps ≡ false) → ((is && not (is_number but p.1)) || another_under same k but ps) ≡ false
  none_another_by k but p ps true e later = absurd cc
  none_another_by k but p ps false e later = later e

  none_another : (k : K) (but : Option ℕ) (ps : List (K × ℕ)) → first_under same k ps ≡ None → another_under same k but ps ≡ false
  none_another k but [] e = refl
  none_another k but (p ∷ ps) e = none_another_by k but p ps (same p.0 k) e (none_another k but ps)

  -- two of one mark have two numbers
  rises : (k : K) (p q : K × ℕ) (lt is : Bool) → below p.0 q.0 ≡ lt → same p.0 q.0 ≡ is → (lt || (is && nat_lt p.1 q.1)) ≡ true → same p.0 k ≡ true → same q.0 k ≡ true → p.1 < q.1
  rises k p q true is e s so one other = absurd (true≢false (sym e ∙ (subst (λ (x : K). below p.0 x ≡ false) (o.same_is p.0 k one ∙ sym (o.same_is q.0 k other)) (o.irreflexive p.0))))
  rises k p q false true e s so one other = grind (arith, nat_tests, so)
  rises k p q false false e s so one other = absurd cc

  above_next_by : (k : K) (p q : K × ℕ) (lt is : Bool) → below p.0 q.0 ≡ lt → same p.0 q.0 ≡ is → (lt || (is && nat_lt p.1 q.1)) ≡ true → same p.0 k ≡ true → same q.0 k ≡ false → below k q.0 ≡ true
  above_next_by k p q true is e s so one other = subst (λ (x : K). below x q.0 ≡ true) (o.same_is p.0 k one) e
  above_next_by k p q false true e s so one other = absurd (true≢false (sym (subst (λ (x : K). same x k ≡ true) (o.same_is p.0 q.0 s) one) ∙ other))
  above_next_by k p q false false e s so one other = absurd cc

  -- what follows a pair under a mark, and isn't under it, is above it
  above_next : (k : K) (p q : K × ℕ) → same p.0 k ≡ true → same q.0 k ≡ false → pair_below below same q.0 q.1 p ≡ true → below k q.0 ≡ true
  above_next k p q one other so = above_next_by k p q (below p.0 q.0) (same p.0 q.0) refl refl so one other

  unlike : (a b : ℕ) → a < b → nat_eq b a ≡ false
  unlike a b lt = grind (arith, nat_tests, lt)

  beside_by : (k : K) (p q : K × ℕ) (qs : List (K × ℕ)) (is : Bool) → same q.0 k ≡ is → same p.0 k ≡ true → Ascend below same (p ∷ q ∷ qs)
      → ((is && not (nat_eq q.1 p.1)) || another_under same k (Some p.1) qs) ≡ is_some (if is then Some q.1 else None)
  beside_by k p q qs true other one so = rw (unlike p.1 q.1 (rises k p q (below p.0 q.0) (same p.0 q.0) refl refl so.0 one other)) refl
  beside_by k p q qs false other one so = none_another k (Some p.1) qs (none_above k q qs (above_next k p q one other so.0) so.1)

  -- behind a pair under a mark another stands there just where the next pair is under it too
  beside : (k : K) (p : K × ℕ) (ps : List (K × ℕ)) → same p.0 k ≡ true → Ascend below same (p ∷ ps) → another_under same k (Some p.1) ps ≡ is_some (number_under same k (slice_get ps 0))
  beside k p [] one so = refl
  beside k p (q ∷ qs) one so = beside_by k p q qs (same q.0 k) refl one so

  is_it : (but : Option ℕ) (n : ℕ) → is_number but n ≡ true → but ≡ Some n
  is_it None n e = absurd cc
  is_it (Some m) n e = ap (λ (x : ℕ). Some x) (sym (eqb-true n m e))

  another_under_it : (k : K) (but : Option ℕ) (p : K × ℕ) (ps : List (K × ℕ)) (it : Bool) → is_number but p.1 ≡ it → same p.0 k ≡ true → Ascend below same (p ∷ ps)
      → (not it || is_some (number_under same k (slice_get ps 0))) ≡ (not it || another_under same k but ps)
  another_under_it k but p ps false e one so = refl
  another_under_it k but p ps true e one so = sym (ap (λ (b : Option ℕ). another_under same k b ps) (is_it but p.1 e) ∙ beside k p ps one so)

  another_here : (k : K) (but : Option ℕ) (p : K × ℕ) (ps : List (K × ℕ)) (is : Bool) → same p.0 k ≡ is → below p.0 k ≡ false → Ascend below same (p ∷ ps)
      → another_of but (if is then Some p.1 else None) (number_under same k (slice_get ps 0)) ≡ ((is && not (is_number but p.1)) || another_under same k but ps)
  another_here k but p ps true e lt so = another_under_it k but p ps (is_number but p.1) refl e so
  another_here k but p ps false e lt so = sym (none_another k but ps (none_above k p ps (is_above p.0 k lt e) so))

  another_by : (k : K) (but : Option ℕ) (p : K × ℕ) (ps : List (K × ℕ)) (lt less : Bool) → below p.0 k ≡ lt → (same p.0 k && nat_lt p.1 0) ≡ less → less ≡ false → Ascend below same (p ∷ ps)
      → another_of but (number_under same k (slice_get ps (place_of below same k 0 ps))) (number_under same k (slice_get ps (place_of below same k 0 ps + 1))) ≡ another_under same k but ps
      → another_of but (number_under same k (slice_get (p ∷ ps) (if lt || less then 1 + place_of below same k 0 ps else 0))) (number_under same k (slice_get (p ∷ ps) ((if lt || less then 1 + place_of below same k 0 ps else 0) + 1)))
      ≡ another_under same k but (p ∷ ps)
  another_by k but p ps lt true e f none so later = absurd cc
  another_by k but p ps true false e f none so later =
      let i = place_of below same k 0 ps in
      let one : 1 + i ≡ suc i = omega arith in
      let two : 1 + i + 1 ≡ suc (i + 1) = omega arith in
      rw (below_differs p.0 k e) (subst (λ (j : ℕ). another_of but (number_under same k (slice_get (p ∷ ps) j)) (number_under same k (slice_get (p ∷ ps) (1 + i + 1))) ≡ another_under same k but ps) (sym one)
      (subst (λ (j : ℕ). another_of but (number_under same k (slice_get ps i)) (number_under same k (slice_get (p ∷ ps) j)) ≡ another_under same k but ps) (sym two) later))
  another_by k but p ps false false e f none so later = another_here k but p ps (same p.0 k) refl e so

  -- of the first two at the place of a mark one is another, if any under the mark is
  pub another_found : (k : K) (but : Option ℕ) (ps : List (K × ℕ)) → Ascend below same ps
      → another_of but (number_under same k (slice_get ps (place_of below same k 0 ps))) (number_under same k (slice_get ps (place_of below same k 0 ps + 1))) ≡ another_under same k but ps
  another_found k but [] so = refl
  another_found k but (p ∷ ps) so = another_by k but p ps (below p.0 k) (same p.0 k && nat_lt p.1 0) refl refl (no_less p.1 (same p.0 k)) so (another_found k but ps (behind p ps so))

  -- ---- at the place that a search gave

  pub put_there : (k : K) (n i : ℕ) (ps : List (K × ℕ)) → i ≡ place_of below same k n ps → is_pair same k n (slice_get ps i) ≡ true → ps ≡ with_pair below same k n ps
  put_there k n i ps at has = sym (there k n ps (subst (λ (j : ℕ). is_pair same k n (slice_get ps j) ≡ true) at has))

  pub put_new : (k : K) (n i : ℕ) (ps : List (K × ℕ)) → i ≡ place_of below same k n ps → is_pair same k n (slice_get ps i) ≡ false → insert ps i (k, n) ≡ with_pair below same k n ps
  put_new k n i ps at has = ap (λ (j : ℕ). insert ps j (k, n)) at ∙ inserted k n ps (subst (λ (j : ℕ). is_pair same k n (slice_get ps j) ≡ false) at has)

  pub taken : (k : K) (n i : ℕ) (ps : List (K × ℕ)) → Ascend below same ps → i ≡ place_of below same k n ps → is_pair same k n (slice_get ps i) ≡ true → remove ps i ≡ without_pair same k n ps
  taken k n i ps so at has = ap (λ (j : ℕ). remove ps j) at ∙ removed k n ps so (subst (λ (j : ℕ). is_pair same k n (slice_get ps j) ≡ true) at has)

  pub none_taken : (k : K) (n i : ℕ) (ps : List (K × ℕ)) → Ascend below same ps → i ≡ place_of below same k n ps → is_pair same k n (slice_get ps i) ≡ false → ps ≡ without_pair same k n ps
  none_taken k n i ps so at has = sym (absent k n ps so (subst (λ (j : ℕ). is_pair same k n (slice_get ps j) ≡ false) at has))

  pub still_ascends : (k : K) (n : ℕ) (old new : List (K × ℕ)) → Ascend below same old → new ≡ with_pair below same k n old → Ascend below same new
  still_ascends k n old new so e = subst (λ (t : List (K × ℕ)). Ascend below same t) (sym e) (with_ascends k n old so)

  pub less_ascends : (k : K) (n : ℕ) (old new : List (K × ℕ)) → Ascend below same old → new ≡ without_pair same k n old → Ascend below same new
  less_ascends k n old new so e = subst (λ (t : List (K × ℕ)). Ascend below same t) (sym e) (filter_ascends (λ (p : K × ℕ). not (same_pair same k n p)) old so)

  -- ---- whether a pair stands there

  put_by : (k j : K) (n m : ℕ) (p : K × ℕ) (ps rest : List (K × ℕ)) (is lt : Bool) → same_pair same k n p ≡ is → holds_pair same j m rest ≡ (same_pair same j m (k, n) || holds_pair same j m ps)
      → holds_pair same j m (if is then p ∷ ps else (if lt then p ∷ rest else (k, n) ∷ p ∷ ps)) ≡ (same_pair same j m (k, n) || holds_pair same j m (p ∷ ps))
  put_by k j n m p ps rest true lt e later =
      subst (λ (x : K × ℕ). holds_pair same j m (p ∷ ps) ≡ (same_pair same j m x || holds_pair same j m (p ∷ ps))) (pair_is k n p (same p.0 k) (nat_eq p.1 n) refl refl e) (twice (same_pair same j m p) (holds_pair same j m ps))
  put_by k j n m p ps rest false true e later = ap (λ (b : Bool). same_pair same j m p || b) later ∙ swapped (same_pair same j m p) (same_pair same j m (k, n)) (holds_pair same j m ps)
  put_by k j n m p ps rest false false e later = refl

  -- with a pair it is that one, or it stood there
  pub holds_with : (k j : K) (n m : ℕ) (ps : List (K × ℕ)) → holds_pair same j m (with_pair below same k n ps) ≡ (same_pair same j m (k, n) || holds_pair same j m ps)
  holds_with k j n m [] = refl
  holds_with k j n m (p ∷ ps) = put_by k j n m p ps (with_pair below same k n ps) (same_pair same k n p) (pair_below below same k n p) refl (holds_with k j n m ps)

  take_by : (k j : K) (n m : ℕ) (p : K × ℕ) (ps rest : List (K × ℕ)) (is it : Bool) → same_pair same k n p ≡ is → same_pair same j m p ≡ it → (it ≡ true → same_pair same k n (j, m) ≡ is)
      → holds_pair same j m rest ≡ (not (same_pair same k n (j, m)) && holds_pair same j m ps)
      → holds_pair same j m (if not is then p ∷ rest else rest) ≡ (not (same_pair same k n (j, m)) && (it || holds_pair same j m ps))
  take_by k j n m p ps rest true true e f alike later =
      later ∙ (ap (λ (b : Bool). not b && holds_pair same j m ps) (alike refl) ∙ sym (ap (λ (b : Bool). not b && (true || holds_pair same j m ps)) (alike refl)))
  take_by k j n m p ps rest false true e f alike later = rw (f, alike refl) refl
  take_by k j n m p ps rest true false e f alike later = later
  take_by k j n m p ps rest false false e f alike later = rw f later

  -- without one it isn't that, and stood there
  pub holds_without : (k j : K) (n m : ℕ) (ps : List (K × ℕ)) → holds_pair same j m (without_pair same k n ps) ≡ (not (same_pair same k n (j, m)) && holds_pair same j m ps)
  holds_without k j n m [] = sym (and_false (not (same_pair same k n (j, m))))
  holds_without k j n m (p ∷ ps) = take_by k j n m p ps (without_pair same k n ps) (same_pair same k n p) (same_pair same j m p) refl refl
      (λ it. sym (ap (λ (x : K × ℕ). same_pair same k n x) (pair_is j m p (same p.0 j) (nat_eq p.1 m) refl refl it))) (holds_without k j n m ps)

  -- ---- what the first number, and another, tell of the pairs

  none_by : (k : K) (m : ℕ) (p : K × ℕ) (ps : List (K × ℕ)) (is : Bool) → (if is then Some p.1 else first_under same k ps) ≡ None → (first_under same k ps ≡ None → holds_pair same k m ps ≡ false)
      → ((is && nat_eq p.1 m) || holds_pair same k m ps) ≡ false
  none_by k m p ps true e later = absurd cc
  none_by k m p ps false e later = later e

  -- without a first number nothing stands under the mark
  pub none_under : (k : K) (m : ℕ) (ps : List (K × ℕ)) → first_under same k ps ≡ None → holds_pair same k m ps ≡ false
  none_under k m [] e = refl
  none_under k m (p ∷ ps) e = none_by k m p ps (same p.0 k) e (none_under k m ps)

  higher_by : (k : K) (m : ℕ) (p q : K × ℕ) (qs : List (K × ℕ)) (is : Bool) → same q.0 k ≡ is → same p.0 k ≡ true → m ≤ p.1 → Ascend below same (p ∷ q ∷ qs) → (same q.0 k ≡ true → m ≤ q.1 → holds_pair same k m qs ≡ false)
      → ((is && nat_eq q.1 m) || holds_pair same k m qs) ≡ false
  higher_by k m p q qs true e one le so later =
      let lt : p.1 < q.1 = rises k p q (below p.0 q.0) (same p.0 q.0) refl refl so.0 one e in
      rw (unlike m q.1 (omega (arith, le, lt))) (later e (omega (arith, le, lt)))
  higher_by k m p q qs false e one le so later = none_under k m qs (none_above k q qs (above_next k p q one e so.0) so.1)

  -- behind a pair under a mark only higher numbers stand under it
  higher : (k : K) (m : ℕ) (p : K × ℕ) (ps : List (K × ℕ)) → Ascend below same (p ∷ ps) → same p.0 k ≡ true → m ≤ p.1 → holds_pair same k m ps ≡ false
  higher k m p [] so one le = refl
  higher k m p (q ∷ qs) so one le = higher_by k m p q qs (same q.0 k) refl one le so (λ two more. higher k m q qs so.1 two more)

  -- this number is the lowest under the mark
  abbrev IsLowest : K → ℕ → List (K × ℕ) → Type 0
  IsLowest k n ps = (holds_pair same k n ps ≡ true) × ((m : ℕ) → m < n → holds_pair same k m ps ≡ false)

  lowest_by : (k : K) (n : ℕ) (p : K × ℕ) (ps : List (K × ℕ)) (is : Bool) → same p.0 k ≡ is → Ascend below same (p ∷ ps) → (if is then Some p.1 else first_under same k ps) ≡ Some n → (first_under same k ps ≡ Some n → IsLowest k n ps)
      → (((is && nat_eq p.1 n) || holds_pair same k n ps) ≡ true) × ((m : ℕ) → m < n → ((is && nat_eq p.1 m) || holds_pair same k m ps) ≡ false)
  lowest_by k n p ps true e so first later =
      let it : p.1 ≡ n = cc in
      (or_first (nat_eq p.1 n) (holds_pair same k n ps) (grind (arith, nat_tests, it)), λ m lt. rw (unlike m p.1 (omega (arith, lt, it))) (higher k m p ps so e (omega (arith, lt, it))))
  lowest_by k n p ps false e so first later = later first

  pub first_lowest : (k : K) (n : ℕ) (ps : List (K × ℕ)) → Ascend below same ps → first_under same k ps ≡ Some n → (holds_pair same k n ps ≡ true) × ((m : ℕ) → m < n → holds_pair same k m ps ≡ false)
  first_lowest k n [] so first = absurd cc
  first_lowest k n (p ∷ ps) so first = lowest_by k n p ps (same p.0 k) refl so first (first_lowest k n ps (behind p ps so))

  -- a number under the mark that isn't the one
  abbrev IsAnother : K → Option ℕ → List (K × ℕ) → Type 0
  IsAnother k but ps = (n : ℕ) × ((holds_pair same k n ps ≡ true) × (is_number but n ≡ false))

  another_is_by : (k : K) (but : Option ℕ) (p : K × ℕ) (ps : List (K × ℕ)) (is it : Bool) → same p.0 k ≡ is → is_number but p.1 ≡ it → ((is && not it) || another_under same k but ps) ≡ true → (another_under same k but ps ≡ true → IsAnother k but ps) → IsAnother k but (p ∷ ps)
  another_is_by k but p ps true false e f any later = (p.1, (or_first (same_pair same k p.1 p) (holds_pair same k p.1 ps) (rw e (grind (arith, nat_tests))), f))
  another_is_by k but p ps true true e f any later = let a = later any in (a.0, (or_second (same_pair same k a.0 p) (holds_pair same k a.0 ps) a.1.0, a.1.1))
  another_is_by k but p ps false it e f any later = let a = later any in (a.0, (or_second (same_pair same k a.0 p) (holds_pair same k a.0 ps) a.1.0, a.1.1))

  pub another_is : (k : K) (but : Option ℕ) (ps : List (K × ℕ)) → another_under same k but ps ≡ true → (n : ℕ) × ((holds_pair same k n ps ≡ true) × (is_number but n ≡ false))
  another_is k but [] any = absurd cc
  another_is k but (p ∷ ps) any = another_is_by k but p ps (same p.0 k) (is_number but p.1) refl refl any (another_is k but ps)

  is_another_by : (k : K) (but : Option ℕ) (n : ℕ) (p : K × ℕ) (ps : List (K × ℕ)) (is it : Bool) → same p.0 k ≡ is → nat_eq p.1 n ≡ it → ((is && it) || holds_pair same k n ps) ≡ true → is_number but n ≡ false
      → (holds_pair same k n ps ≡ true → another_under same k but ps ≡ true) → another_under same k but (p ∷ ps) ≡ true
  is_another_by k but n p ps true true e f has other later =
      let not_it : is_number but p.1 ≡ false = subst (λ (m : ℕ). is_number but m ≡ false) (sym (eqb-true p.1 n f)) other in
      or_first (same p.0 k && not (is_number but p.1)) (another_under same k but ps) (rw (e, not_it) refl)
  is_another_by k but n p ps true false e f has other later = or_second (same p.0 k && not (is_number but p.1)) (another_under same k but ps) (later has)
  is_another_by k but n p ps false it e f has other later = or_second (same p.0 k && not (is_number but p.1)) (another_under same k but ps) (later has)

  pub is_another : (k : K) (but : Option ℕ) (n : ℕ) (ps : List (K × ℕ)) → holds_pair same k n ps ≡ true → is_number but n ≡ false → another_under same k but ps ≡ true
  is_another k but n [] has other = absurd cc
  is_another k but n (p ∷ ps) has other = is_another_by k but n p ps (same p.0 k) (nat_eq p.1 n) refl refl has other (λ more. is_another k but n ps more other)
