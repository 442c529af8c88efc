-- Byte order is a strict total order; the names of a directory, found, added and removed.
use Rattle.std.proofs.Common.{◌≡◌, ◌≤◌, ◌<◌, ℕ, zero, suc, Bool, true, false, not, cond, List, [], ◌∷◌, length, get_or, Option, Some, None, refl, sym, ap, subst, ◌∙◌, arith, inl, inr, ◌⊎◌}
use Rattle.std.specs.Prelude.{◌&&◌, nat_lt, nat_le, find, is_some}
use Rattle.std.specs.Str.{bytes_eq}
use Rattle.std.specs.Ordering.{nat_cmp, is_lt, is_eq, ordering_reverse}
use Rattle.std.specs.declared.cmp.Ordering.{Ordering}
use Rattle.std.specs.declared.cmp.Ordering.TheVariants.{Less, Equal, Greater}
use Rattle.std.specs.Cmp.{first_so, second_so}
use Rattle.std.specs.Cmp.Lexicographic.{slice_cmp, texts_ties, nat_list_cmp_total, bytes_decides}
use mathlib.Core.Bool.{true≢false}
use Rattle.std.proofs.lemmas.Cmp.{tied_itself}
use Rattle.std.proofs.lemmas.Bool.{ltb-true, leb-true}
use Rattle.std.proofs.lemmas.List.Filters.{length-filter_both}
use Rattle.afs_num.specs.Names.{has_size, is_name_byte, is_dots, name_ok}
use Rattle.std.specs.List.{list_all}
use Rattle.afs_num.specs.declared.directories.Name.{Name}
use Rattle.spec_ideal.specs.Directories.{bytes_below, may_follow, follow, most_names, IsDirectory, is_named, named, with_name, without_name, add_refused}

-- ---- byte order

less_is : (o : Ordering) → is_lt o ≡ true → o ≡ Less
less_is Less e = refl
less_is Equal e = absurd cc
less_is Greater e = absurd cc

pub below_itself : (a : List ℕ) → bytes_below a a ≡ false
unfolding bytes_below
below_itself a = ap is_lt (tied_itself nat_list_cmp_total a)

pub below_trans : (a b c : List ℕ) → bytes_below a b ≡ true → bytes_below b c ≡ true → bytes_below a c ≡ true
unfolding bytes_below
below_trans a b c p q = ap is_lt (nat_list_cmp_total.trans a b c (less_is (slice_cmp nat_cmp a b) p) (less_is (slice_cmp nat_cmp b c) q))

-- one of the two is below the other, or they are the same
or_above : (o : Ordering) → is_lt o ≡ false → is_eq o ≡ false → is_lt (ordering_reverse o) ≡ true
or_above Less p q = absurd cc
or_above Equal p q = absurd cc
or_above Greater p q = refl

pub below_total : (a b : List ℕ) → bytes_below a b ≡ false → bytes_eq a b ≡ false → bytes_below b a ≡ true
unfolding bytes_below
below_total a b p q = ap is_lt (nat_list_cmp_total.antisymm b a) ∙ or_above (slice_cmp nat_cmp a b) p (sym (texts_ties a b) ∙ q)

less_differs : (o : Ordering) → is_lt o ≡ true → is_eq o ≡ false
less_differs Less p = refl
less_differs Equal p = absurd cc
less_differs Greater p = absurd cc

pub below_differs : (a b : List ℕ) → bytes_below a b ≡ true → bytes_eq a b ≡ false
unfolding bytes_below
below_differs a b p = texts_ties a b ∙ less_differs (slice_cmp nat_cmp a b) p

pub same_is : (a b : List ℕ) → bytes_eq a b ≡ true → a ≡ b
same_is a b e = (bytes_decides a b).0 e

-- one is below the other, or they are the same
one_of : (a b : List ℕ) (below same : Bool) → bytes_below a b ≡ below → bytes_eq a b ≡ same → (bytes_below a b ≡ true) ⊎ (a ≡ b) ⊎ (bytes_below b a ≡ true)
one_of a b true same p q = inl p
one_of a b false true p q = inr (inl (same_is a b q))
one_of a b false false p q = inr (inr (below_total a b p q))

pub below_or_same : (a b : List ℕ) → (bytes_below a b ≡ true) ⊎ (a ≡ b) ⊎ (bytes_below b a ≡ true)
below_or_same a b = one_of a b (bytes_below a b) (bytes_eq a b) refl refl

-- ---- names that stand behind a name

-- what stands above a name that isn't below this one differs from this one, and isn't below it either
differs_above : (last k name : List ℕ) → bytes_below last k ≡ true → bytes_below last name ≡ false → (b : Bool) → bytes_eq k name ≡ b → b ≡ false
differs_above last k name above not_below false e = refl
differs_above last k name above not_below true e = absurd (true≢false (sym (subst (λ (t : List ℕ). bytes_below last t ≡ true) (same_is k name e) above) ∙ not_below))

stays_above : (last k name : List ℕ) → bytes_below last k ≡ true → bytes_below last name ≡ false → (b : Bool) → bytes_below k name ≡ b → b ≡ false
stays_above last k name above not_below false e = refl
stays_above last k name above not_below true e = absurd (true≢false (sym (below_trans last k name above e) ∙ not_below))

pub first_above : (last : List ℕ) (n : Name) (ns : List Name) → follow last (n ∷ ns) ≡ true → bytes_below last n.name ≡ true
first_above last n ns h = second_so (name_ok n.name) (bytes_below last n.name) (first_so (may_follow last n.name) (follow n.name ns) h)

pub rest_follow : (last : List ℕ) (n : Name) (ns : List Name) → follow last (n ∷ ns) ≡ true → follow n.name ns ≡ true
rest_follow last n ns h = second_so (may_follow last n.name) (follow n.name ns) h

-- no name behind one that isn't below this one is this one
pub named_above : (name last : List ℕ) (ns : List Name) → bytes_below last name ≡ false → follow last ns ≡ true → named name ns ≡ None
named_above name last [] p h = refl
named_above name last (n ∷ ns) p h =
    let above = first_above last n ns h in
    let later = stays_above last n.name name above p (bytes_below n.name name) refl in
    rw (differs_above last n.name name above p (bytes_eq n.name name) refl) (named_above name n.name ns later (rest_follow last n ns h))

pub without_above : (name last : List ℕ) (ns : List Name) → bytes_below last name ≡ false → follow last ns ≡ true → without_name name ns ≡ ns
without_above name last [] p h = refl
without_above name last (n ∷ ns) p h =
    let above = first_above last n ns h in
    let later = stays_above last n.name name above p (bytes_below n.name name) refl in
    rw (differs_above last n.name name above p (bytes_eq n.name name) refl) (ap (λ (t : List Name). n ∷ t) (without_above name n.name ns later (rest_follow last n ns h)))

-- what stands behind a name stands behind each name below it
follow_below : (a b : List ℕ) (ns : List Name) → bytes_below a b ≡ true → follow b ns ≡ true → follow a ns ≡ true
follow_below a b [] p h = refl
follow_below a b (n ∷ ns) p h =
    let good = first_so (name_ok n.name) (bytes_below b n.name) (first_so (may_follow b n.name) (follow n.name ns) h) in
    rw (good, below_trans a b n.name p (first_above b n ns h)) (rest_follow b n ns h)

-- ---- one more name

pub both_so : (s t : Bool) → s ≡ true → t ≡ true → (s && t) ≡ true
both_so s t p q = rw p q

absent_first : (b : Bool) (n : Name) (o : Option Name) → cond b (Some n) o ≡ None → (b ≡ false) × (o ≡ None)
absent_first true n o e = absurd cc
absent_first false n o e = (refl, e)

-- one name on: `more` is the same of the names behind it
with_name_by : (n : Name) (last : List ℕ) (m : Name) (ms : List Name) → (may_follow m.name n.name ≡ true → named n.name ms ≡ None → follow m.name ms ≡ true → follow m.name (with_name n ms) ≡ true)
    → may_follow last n.name ≡ true → named n.name (m ∷ ms) ≡ None → follow last (m ∷ ms) ≡ true → (b : Bool) → bytes_below m.name n.name ≡ b → follow last (cond b (m ∷ with_name n ms) (n ∷ m ∷ ms)) ≡ true
with_name_by n last m ms more may absent h true e =
    let gone = absent_first (bytes_eq m.name n.name) m (named n.name ms) absent in
    let behind = both_so (name_ok n.name) (bytes_below m.name n.name) (first_so (name_ok n.name) (bytes_below last n.name) may) e in
    both_so (may_follow last m.name) (follow m.name (with_name n ms)) (first_so (may_follow last m.name) (follow m.name ms) h) (more behind gone.1 (rest_follow last m ms h))
with_name_by n last m ms more may absent h false e =
    let gone = absent_first (bytes_eq m.name n.name) m (named n.name ms) absent in
    let good = first_so (name_ok m.name) (bytes_below last m.name) (first_so (may_follow last m.name) (follow m.name ms) h) in
    let above = both_so (name_ok m.name) (bytes_below n.name m.name) good (below_total m.name n.name e gone.0) in
    both_so (may_follow last n.name) (follow n.name (m ∷ ms)) may (both_so (may_follow n.name m.name) (follow m.name ms) above (rest_follow last m ms h))

pub with_name_follows : (n : Name) (last : List ℕ) (names : List Name) → may_follow last n.name ≡ true → named n.name names ≡ None → follow last names ≡ true → follow last (with_name n names) ≡ true
with_name_follows n last [] may absent h = both_so (may_follow last n.name) true may refl
with_name_follows n last (m ∷ ms) may absent h = with_name_by n last m ms (with_name_follows n m.name ms) may absent h (bytes_below m.name n.name) refl

longer_by : (n m : Name) (ms : List Name) → length (with_name n ms) ≡ suc (length ms) → (b : Bool) → length (cond b (m ∷ with_name n ms) (n ∷ m ∷ ms)) ≡ suc (suc (length ms))
longer_by n m ms more true = ap suc more
longer_by n m ms more false = refl

pub length-with_name : (n : Name) (names : List Name) → length (with_name n names) ≡ suc (length names)
length-with_name n [] = refl
length-with_name n (m ∷ ms) = longer_by n m ms (length-with_name n ms) (bytes_below m.name n.name)

-- which name is found then: the new one by its own name, and else what was found before
found_by : (n m : Name) (name : List ℕ) (below first this : Bool) (found more : Option Name) → more ≡ cond this (Some n) found → (below ≡ true → first ≡ true → this ≡ true → ⊥)
    → cond below (cond first (Some m) more) (cond this (Some n) (cond first (Some m) found)) ≡ cond this (Some n) (cond first (Some m) found)
found_by n m name true true true found more e apart = absurd (apart refl refl refl)
found_by n m name true true false found more e apart = refl
found_by n m name true false this found more e apart = e
found_by n m name false first this found more e apart = refl

find_cond : (p : Name → Bool) (b : Bool) (xs ys : List Name) → find p (cond b xs ys) ≡ cond b (find p xs) (find p ys)
find_cond p true xs ys = refl
find_cond p false xs ys = refl

pub named-with_name : (n : Name) (name : List ℕ) (names : List Name) → named name (with_name n names) ≡ cond (is_named name n) (Some n) (named name names)
named-with_name n name [] = refl
named-with_name n name (m ∷ ms) =
    find_cond (is_named name) (bytes_below m.name n.name) (m ∷ with_name n ms) (n ∷ m ∷ ms)
    ∙ found_by n m name (bytes_below m.name n.name) (bytes_eq m.name name) (bytes_eq n.name name) (named name ms) (named name (with_name n ms)) (named-with_name n name ms)
    (λ below first this. true≢false (sym (subst (λ (t : List ℕ). bytes_below m.name t ≡ true) (same_is n.name name this ∙ sym (same_is m.name name first)) below) ∙ below_itself m.name))

-- the empty text is below every name
good_is_above : (name : List ℕ) → name_ok name ≡ true → bytes_below [] name ≡ true
unfolding name_ok bytes_below
good_is_above [] h = h
good_is_above (b ∷ bs) h = refl

admitted_by : (good : Bool) (found : Option Name) (room : Bool) → cond {A = Option ℕ} (not good) (Some 22) (cond (is_some found) (Some 17) (cond room None (Some 27))) ≡ None → (good ≡ true) × (found ≡ None) × (room ≡ true)
admitted_by true None true e = (refl, refl, refl)
admitted_by true None false e = absurd cc
admitted_by true (Some n) room e = absurd cc
admitted_by false found room e = absurd cc

pub added_is_directory : (n : Name) (names : List Name) → IsDirectory names → add_refused n.name names ≡ None → IsDirectory (with_name n names)
added_is_directory n names h ok =
    let admitted = admitted_by (name_ok n.name) (named n.name names) (nat_lt (length names) most_names) ok in
    let short : length names < most_names = ltb-true _ _ admitted.2 in
    record {
      ordered = with_name_follows n [] names (both_so (name_ok n.name) (bytes_below [] n.name) admitted.0 (good_is_above n.name admitted.0)) admitted.1 h.ordered;
      few = omega (arith, length-with_name n names, short);
    }

-- ---- one name less

without_name_by : (name last : List ℕ) (n : Name) (ns : List Name) → follow last (n ∷ ns) ≡ true → follow n.name (without_name name ns) ≡ true
    → (b : Bool) → follow last (cond (not b) (n ∷ without_name name ns) (without_name name ns)) ≡ true
without_name_by name last n ns h more true = follow_below last n.name (without_name name ns) (first_above last n ns h) more
without_name_by name last n ns h more false = both_so (may_follow last n.name) (follow n.name (without_name name ns)) (first_so (may_follow last n.name) (follow n.name ns) h) more

pub without_name_follows : (name last : List ℕ) (names : List Name) → follow last names ≡ true → follow last (without_name name names) ≡ true
without_name_follows name last [] h = refl
without_name_follows name last (n ∷ ns) h = without_name_by name last n ns h (without_name_follows name n.name ns (rest_follow last n ns h)) (bytes_eq n.name name)

pub shorter-without_name : (name : List ℕ) (names : List Name) → length (without_name name names) ≤ length names
shorter-without_name name names = omega (arith, length-filter_both (is_named name) (λ (n : Name). not (is_named name n)) (λ n. refl) names)

pub removed_is_directory : (name : List ℕ) (names : List Name) → IsDirectory names → IsDirectory (without_name name names)
removed_is_directory name names h = record { ordered = without_name_follows name [] names h.ordered; few = omega (arith, shorter-without_name name names, h.few) }

-- which name is found then: none by the name that was removed, and else what was found before
gone_by : (n : Name) (here first this : Bool) (found more : Option Name) → more ≡ cond this None found → (here ≡ true → first ≡ this) → (here ≡ false → first ≡ true → this ≡ true → ⊥)
    → cond (not here) (cond first (Some n) more) more ≡ cond this None (cond first (Some n) found)
gone_by n true true this found more e same apart = e ∙ rw (sym (same refl)) refl
gone_by n true false this found more e same apart = e
gone_by n false true true found more e same apart = absurd (apart refl refl refl)
gone_by n false true false found more e same apart = refl
gone_by n false false this found more e same apart = e

none_either : (name : List ℕ) (b : Bool) → named name [] ≡ cond b None (named name [])
none_either name true = refl
none_either name false = refl

pub named-without_name : (gone name : List ℕ) (names : List Name) → named name (without_name gone names) ≡ cond (bytes_eq gone name) None (named name names)
named-without_name gone name [] = none_either name (bytes_eq gone name)
named-without_name gone name (n ∷ ns) =
    find_cond (is_named name) (not (bytes_eq n.name gone)) (n ∷ without_name gone ns) (without_name gone ns)
    ∙ gone_by n (bytes_eq n.name gone) (bytes_eq n.name name) (bytes_eq gone name) (named name ns) (named name (without_name gone ns)) (named-without_name gone name ns)
    (λ here. ap (λ (t : List ℕ). bytes_eq t name) (same_is n.name gone here))
    (λ other first this. true≢false (sym ((bytes_decides n.name gone).1 (same_is n.name name first ∙ sym (same_is gone name this))) ∙ other))

-- ---- each name by itself

pub good_is_short : (name : List ℕ) → name_ok name ≡ true → length name ≤ 255
unfolding name_ok
good_is_short name h =
    let sized = first_so (has_size 255 name) (list_all is_name_byte name) (first_so (has_size 255 name && list_all is_name_byte name) (not (is_dots name)) h) in
    leb-true _ _ (second_so (nat_lt 0 (length name)) (nat_le (length name) 255) sized)

short_behind : (last : List ℕ) (names : List Name) → follow last names ≡ true → (i : ℕ) (d : Name) → i < length names → length (get_or names i d).name ≤ 255
short_behind last [] h i d lt = absurd (omega arith)
short_behind last (n ∷ ns) h zero d lt = good_is_short n.name (first_so (name_ok n.name) (bytes_below last n.name) (first_so (may_follow last n.name) (follow n.name ns) h))
short_behind last (n ∷ ns) h (suc i) d lt = short_behind n.name ns (rest_follow last n ns h) i d (omega arith)

pub name_is_short : (names : List Name) → IsDirectory names → (i : ℕ) (n : Name) → i < length names → n ≡ get_or names i n → length n.name ≤ 255
name_is_short names h i n lt e = subst (λ (m : Name). length m.name ≤ 255) (sym e) (short_behind [] names h.ordered i n lt)
