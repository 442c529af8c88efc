-- What stands at a number, and what is put there.
use Rattle.std.proofs.Common.{refl, arith, ap, sym, subst, ◌∙◌, ◌≡◌, ◌≤◌, ◌<◌, ◌+◌, ◌-◌, ◌⊎◌, inl, inr, ℕ, zero, suc, List, [], ◌∷◌, length, Bool, true, false, Some, None, nat_eq}
use Rattle.std.specs.List.{insert, remove}
use Rattle.std.specs.Prelude.{slice_index_or, slice_set, IfNone, Option}
use Rattle.std.proofs.lemmas.Bool.{eqb-true, eqb-false, ne_eqb, lt-ltb, le-ltb}
use Rattle.afs_num.specs.Places.{at_place}
use Rattle.spec_rows.specs.Runs.{has_client}
use Rattle.spec_runs.specs.NodeRuns.{has_host, NodeCell}
use Rattle.afs_clients.specs.Places.{put_place, Each}

pub some_is : {A : Type 0} (x y : A) → Some x ≡ Some y → x ≡ y
some_is x y e = cc

pub none_some : {A : Type 0} (x : A) → None ≡ Some x → ⊥
none_some x e = absurd cc

pub length_put : {A : Type 0} (n : ℕ) (x : A) (xs : List A) → length (put_place n x xs) ≡ length xs
length_put n x [] = refl
length_put zero x (y ∷ ys) = refl
length_put (suc zero) x (y ∷ ys) = refl
length_put (suc (suc n)) x (y ∷ ys) = ap (λ (k : ℕ). suc k) (length_put (suc n) x ys)

pub at_here : {A : Type 0} (n : ℕ) (x y : A) (xs : List A) → at_place xs n ≡ Some y → at_place (put_place n x xs) n ≡ Some x
at_here n x y [] e = absurd (none_some y e)
at_here zero x y (z ∷ zs) e = absurd (none_some y e)
at_here (suc zero) x y (z ∷ zs) e = refl
at_here (suc (suc n)) x y (z ∷ zs) e = at_here (suc n) x y zs e

less_apart : (n j : ℕ) → nat_eq (suc n) (suc j) ≡ false → nat_eq n j ≡ false
less_apart n j e = ne_eqb n j (λ same. eqb-false (suc n) (suc j) e (ap (λ (k : ℕ). suc k) same))

one_apart : nat_eq 1 1 ≡ false → ⊥
one_apart e = absurd cc

pub at_other : {A : Type 0} (n j : ℕ) (x : A) (xs : List A) → nat_eq n j ≡ false → at_place (put_place n x xs) j ≡ at_place xs j
at_other n j x [] e = refl
at_other zero j x (y ∷ ys) e = refl
at_other (suc zero) zero x (y ∷ ys) e = refl
at_other (suc zero) (suc zero) x (y ∷ ys) e = absurd (one_apart e)
at_other (suc zero) (suc (suc j)) x (y ∷ ys) e = refl
at_other (suc (suc n)) zero x (y ∷ ys) e = refl
at_other (suc (suc n)) (suc zero) x (y ∷ ys) e = refl
at_other (suc (suc n)) (suc (suc j)) x (y ∷ ys) e = at_other (suc n) (suc j) x ys (less_apart (suc n) (suc j) e)

each_put_by : {A : Type 0} (P Q : ℕ → A → Type 0) (b : Bool) (n : ℕ) (x y : A) (xs : List A) → at_place xs n ≡ Some y → Each P xs → ((j : ℕ) (z : A) → nat_eq n j ≡ false → P j z → Q j z) → Q n x
    → (j : ℕ) (z : A) → nat_eq n j ≡ b → at_place (put_place n x xs) j ≡ Some z → Q j z
each_put_by P Q true n x y xs here each step good j z e found =
    let same : n ≡ j = eqb-true n j e in
    let one : x ≡ z = some_is x z (sym (at_here n x y xs here) ∙ (ap (at_place (put_place n x xs)) same ∙ found)) in
    subst (λ w. Q j w) one (subst (λ (k : ℕ). Q k x) same good)
each_put_by P Q false n x y xs here each step good j z e found = step j z e (each j z (sym (at_other n j x xs e) ∙ found))

-- what is so of each, and of what is put at one number, is so of each then
pub each_put : {A : Type 0} (P Q : ℕ → A → Type 0) (n : ℕ) (x y : A) (xs : List A) → at_place xs n ≡ Some y → Each P xs → ((j : ℕ) (z : A) → nat_eq n j ≡ false → P j z → Q j z) → Q n x → Each Q (put_place n x xs)
each_put P Q n x y xs here each step good j z found = each_put_by P Q (nat_eq n j) n x y xs here each step good j z refl found

pub each_map : {A : Type 0} (P Q : ℕ → A → Type 0) (xs : List A) → ((j : ℕ) (z : A) → P j z → Q j z) → Each P xs → Each Q xs
each_map P Q xs f each j z found = f j z (each j z found)

-- ---- numbers

pub place_within : {A : Type 0} (xs : List A) (n : ℕ) (x : A) → at_place xs n ≡ Some x → (1 ≤ n) × (n ≤ length xs)
place_within [] n x e = absurd (none_some x e)
place_within (y ∷ ys) zero x e = absurd (none_some x e)
place_within (y ∷ ys) (suc zero) x e = (omega arith, omega arith)
place_within (y ∷ ys) (suc (suc n)) x e = let more = (place_within ys (suc n) x e).1 in (omega arith, omega (arith, more))

some_none : {A : Type 0} (x : A) → Some x ≡ None → ⊥
some_none x e = absurd cc

past_more : (m n : ℕ) → (suc n ≡ 0) ⊎ (m < suc n) → (suc (suc n) ≡ 0) ⊎ (suc m < suc (suc n))
past_more m n (inl e) = absurd (omega (arith, e))
past_more m n (inr lt) = inr (omega (arith, lt))

place_past : {A : Type 0} (xs : List A) (n : ℕ) → at_place xs n ≡ None → (n ≡ 0) ⊎ (length xs < n)
place_past [] zero e = inl refl
place_past [] (suc n) e = inr (omega arith)
place_past (y ∷ ys) zero e = inl refl
place_past (y ∷ ys) (suc zero) e = absurd (some_none y e)
place_past (y ∷ ys) (suc (suc n)) e = past_more (length ys) n (place_past ys (suc n) e)

client_within : (count n : ℕ) → (1 ≤ n) × (n ≤ count) → has_client count n ≡ true
client_within count zero h = absurd (omega (arith, h.0))
client_within count (suc n) h = lt-ltb n count (omega (arith, h.1))

client_past : (count n : ℕ) → (n ≡ 0) ⊎ (count < n) → has_client count n ≡ false
client_past count zero h = refl
client_past count (suc n) (inl e) = absurd (omega (arith, e))
client_past count (suc n) (inr lt) = le-ltb n count (omega (arith, lt))

-- the cell has a client where one stands
pub client_there : {A : Type 0} (xs : List A) (n : ℕ) (x : A) (count : ℕ) → at_place xs n ≡ Some x → count ≡ length xs → has_client count n ≡ true
client_there xs n x count e same = ap (λ (k : ℕ). has_client k n) same ∙ client_within (length xs) n (place_within xs n x e)

pub no_client : {A : Type 0} (xs : List A) (n : ℕ) (count : ℕ) → at_place xs n ≡ None → count ≡ length xs → has_client count n ≡ false
no_client xs n count e same = ap (λ (k : ℕ). has_client k n) same ∙ client_past (length xs) n (place_past xs n e)

host_as_client : (c : NodeCell) (n : ℕ) → has_host c n ≡ has_client c.host_count n
host_as_client c zero = refl
host_as_client c (suc n) = refl

-- and a server
pub host_there : {A : Type 0} (xs : List A) (n : ℕ) (x : A) (c : NodeCell) → at_place xs n ≡ Some x → c.host_count ≡ length xs → has_host c n ≡ true
host_there xs n x c e same = host_as_client c n ∙ client_there xs n x c.host_count e same

pub no_host : {A : Type 0} (xs : List A) (n : ℕ) (c : NodeCell) → at_place xs n ≡ None → c.host_count ≡ length xs → has_host c n ≡ false
no_host xs n c e same = host_as_client c n ∙ no_client xs n c.host_count e same

put_same_by : {A : Type 0} (n : ℕ) (x : A) (xs : List A) → at_place xs n ≡ Some x → put_place n x xs ≡ xs
put_same_by n x [] e = refl
put_same_by zero x (y ∷ ys) e = refl
put_same_by (suc zero) x (y ∷ ys) e = ap (λ z. z ∷ ys) (sym (some_is y x e))
put_same_by (suc (suc n)) x (y ∷ ys) e = ap (λ zs. y ∷ zs) (put_same_by (suc n) x ys e)

-- to put what stands there changes nothing
pub put_same : {A : Type 0} (n : ℕ) (x y : A) (xs : List A) → at_place xs n ≡ Some y → x ≡ y → put_place n x xs ≡ xs
put_same n x y xs e same = ap (λ z. put_place n z xs) same ∙ put_same_by n y xs e

each_back_by : {A : Type 0} (P : ℕ → A → Type 0) (b : Bool) (n : ℕ) (x y : A) (xs : List A) → at_place xs n ≡ Some y → Each P (put_place n x xs) → (P n x → P n y) → (j : ℕ) (z : A) → nat_eq n j ≡ b → at_place xs j ≡ Some z → P j z
each_back_by P true n x y xs here each back j z e found =
    let same : n ≡ j = eqb-true n j e in
    let one : y ≡ z = some_is y z (sym here ∙ (ap (at_place xs) same ∙ found)) in
    subst (λ w. P j w) one (subst (λ (k : ℕ). P k y) same (back (each n x (at_here n x y xs here))))
each_back_by P false n x y xs here each back j z e found = each j z (at_other n j x xs e ∙ found)

-- what is so of each once something was put there was so before, if it was of that one
pub each_back : {A : Type 0} (P : ℕ → A → Type 0) (n : ℕ) (x y : A) (xs : List A) → at_place xs n ≡ Some y → Each P (put_place n x xs) → (P n x → P n y) → Each P xs
each_back P n x y xs here each back j z found = each_back_by P (nat_eq n j) n x y xs here each back j z refl found

-- ---- one taken out

pub none_at : {A : Type 0} (xs : List A) (n : ℕ) → (n ≡ 0) ⊎ (length xs < n) → at_place xs n ≡ None
none_at [] n past = refl
none_at (x ∷ xs) zero past = refl
none_at (x ∷ xs) (suc zero) (inl e) = absurd (omega (arith, e))
none_at (x ∷ xs) (suc zero) (inr lt) = absurd (omega (arith, lt))
none_at (x ∷ xs) (suc (suc n)) (inl e) = absurd (omega (arith, e))
none_at (x ∷ xs) (suc (suc n)) (inr lt) = none_at xs (suc n) (inr (omega (arith, lt)))

at_index : {A : Type 0} (xs : List A) (i : ℕ) (d : A) → i < length xs → at_place xs (suc i) ≡ Some (slice_index_or xs i d)
at_index [] i d lt = absurd (omega (arith, lt))
at_index (x ∷ xs) zero d lt = refl
at_index (x ∷ xs) (suc i) d lt = at_index xs i d (omega (arith, lt))

back_at : {A : Type 0} (xs : List A) (i : ℕ) (y : A) → i < length xs → insert (remove xs i) i y ≡ put_place (suc i) y xs
back_at [] i y lt = absurd (omega (arith, lt))
back_at (x ∷ xs) zero y lt = refl
back_at (x ∷ xs) (suc i) y lt = ap (λ zs. x ∷ zs) (back_at xs i y (omega (arith, lt)))

pub found_at : {A : Type 0} (n i : ℕ) (xs : List A) (x : A) → i + 1 ≡ n → i < length xs → x ≡ slice_index_or xs i x → at_place xs n ≡ Some x
found_at n i xs x e lt value =
    let next : suc i ≡ n = omega (arith, e) in
    subst (λ (k : ℕ). at_place xs k ≡ Some x) next (at_index xs i x lt ∙ ap (λ z. Some z) (sym value))

pub back_in : {A : Type 0} (n i : ℕ) (xs new : List A) → i + 1 ≡ n → i < length xs → new ≡ remove xs i → (y : A) → insert new (n - 1) y ≡ put_place n y xs
back_in n i xs new e lt is y =
    let next : suc i ≡ n = omega (arith, e) in
    let same : n - 1 ≡ i = omega (arith, e) in
    ap (λ zs. insert zs (n - 1) y) is ∙ ap (λ (k : ℕ). insert (remove xs i) k y) same ∙ back_at xs i y lt ∙ ap (λ (k : ℕ). put_place k y xs) next

-- ---- one changed in its place

set_at : {A : Type 0} (xs : List A) (i : ℕ) (y : A) → slice_set xs i y ≡ put_place (suc i) y xs
set_at [] i y = refl
set_at (x ∷ xs) zero y = refl
set_at (x ∷ xs) (suc i) y = ap (λ zs. x ∷ zs) (set_at xs i y)

pub set_in : {A : Type 0} (n i : ℕ) (xs : List A) (y : A) → i + 1 ≡ n → slice_set xs i y ≡ put_place n y xs
set_in n i xs y e =
    let next : suc i ≡ n = omega (arith, e) in
    subst (λ (k : ℕ). slice_set xs i y ≡ put_place k y xs) next (set_at xs i y)

pub none_found : {A : Type 0} (xs : List A) (n len : ℕ) (o : Option ℕ) → len ≡ length xs → IfNone o ((n ≡ 0) ⊎ (len < n)) → IfNone o (at_place xs n ≡ None)
none_found xs n len None same past = none_at xs n (subst (λ (k : ℕ). (n ≡ 0) ⊎ (k < n)) same past)
none_found xs n len (Some i) same past = tt

pub at_found : {A : Type 0} (xs : List A) (n next : ℕ) (x : A) → next ≡ n → Some x ≡ at_place xs next → at_place xs n ≡ Some x
at_found xs n next x e found = ap (at_place xs) (sym e) ∙ sym found
