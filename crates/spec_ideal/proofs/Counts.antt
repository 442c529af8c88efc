-- Names of a directory: how many there are of a kind, with one more and with one less; what holds of each.
use Rattle.std.proofs.Common.{◌≡◌, ℕ, zero, suc, ◌+◌, Bool, true, false, cond, not, List, [], ◌∷◌, length, Some, None, refl, sym, ap, subst, ◌∙◌, arith}
use Rattle.std.specs.Prelude.{filter}
use Rattle.std.specs.Str.{bytes_eq}
use Rattle.std.specs.List.{All, AllByRecursion}
use Rattle.afs_num.specs.declared.directories.Name.{Name}
use Rattle.spec_ideal.specs.Directories.{bytes_below, follow, named, with_name, without_name}
use Rattle.spec_ideal.proofs.Basics.{some_of}
use Rattle.spec_ideal.proofs.Directories.{below_itself, same_is, rest_follow, without_above}

-- ---- counts

abbrev pub one_if : Bool → ℕ
one_if true = 1
one_if false = 0

abbrev pub count : (Name → Bool) → List Name → ℕ
count p names = length (filter p names)

counted_by : (p : Name → Bool) (b : Bool) (n : Name) (ns : List Name) → length (cond b (n ∷ ns) ns) ≡ one_if b + length ns
counted_by p true n ns = omega arith
counted_by p false n ns = omega arith

pub count_more : (p : Name → Bool) (n : Name) (ns : List Name) → count p (n ∷ ns) ≡ one_if (p n) + count p ns
count_more p n ns = counted_by p (p n) n (filter p ns)

added_by : (p : Name → Bool) (n m : Name) (ms : List Name) (below : Bool) → count p (with_name n ms) ≡ one_if (p n) + count p ms → count p (cond below (m ∷ with_name n ms) (n ∷ m ∷ ms)) ≡ one_if (p n) + count p (m ∷ ms)
added_by p n m ms true e =
    let a = count_more p m (with_name n ms) in
    let b = count_more p m ms in
    omega (arith, a, b, e)
added_by p n m ms false e = count_more p n (m ∷ ms)

pub count_with : (p : Name → Bool) (n : Name) (names : List Name) → count p (with_name n names) ≡ one_if (p n) + count p names
count_with p n [] = count_more p n []
count_with p n (m ∷ ms) = added_by p n m ms (bytes_below m.name n.name) (count_with p n ms)

not_above : (a b : List ℕ) → a ≡ b → bytes_below a b ≡ false
not_above a b e = subst (λ (t : List ℕ). bytes_below a t ≡ false) e (below_itself a)

taken_by : (p : Name → Bool) (name last : List ℕ) (n m : Name) (ns : List Name) (b : Bool) → bytes_eq n.name name ≡ b → follow last (n ∷ ns) ≡ true → cond b (Some n) (named name ns) ≡ Some m
    → (named name ns ≡ Some m → count p ns ≡ one_if (p m) + count p (without_name name ns)) → count p (n ∷ ns) ≡ one_if (p m) + count p (cond (not b) (n ∷ without_name name ns) (without_name name ns))
taken_by p name last n m ns true e f is more =
    let rest : without_name name ns ≡ ns = without_above name n.name ns (not_above n.name name (same_is n.name name e)) (rest_follow last n ns f) in
    count_more p n ns ∙ (ap (λ (t : Name). one_if (p t) + count p ns) (some_of n m is) ∙ ap (λ (ts : List Name). one_if (p m) + count p ts) (sym rest))
taken_by p name last n m ns false e f is more =
    let a = count_more p n ns in
    let b = count_more p n (without_name name ns) in
    let c = more is in
    omega (arith, a, b, c)

-- one name less: it is there once
pub count_without : (p : Name → Bool) (name last : List ℕ) (m : Name) (names : List Name) → follow last names ≡ true → named name names ≡ Some m → count p names ≡ one_if (p m) + count p (without_name name names)
count_without p name last m [] f is = absurd cc
count_without p name last m (n ∷ ns) f is = taken_by p name last n m ns (bytes_eq n.name name) refl f is (count_without p name n.name m ns (rest_follow last n ns f))

kept_by : (name : List ℕ) (n : Name) (ns : List Name) (b : Bool) → cond b (Some n) (named name ns) ≡ None → (named name ns ≡ None → without_name name ns ≡ ns) → cond (not b) (n ∷ without_name name ns) (without_name name ns) ≡ n ∷ ns
kept_by name n ns true e more = absurd cc
kept_by name n ns false e more = ap (λ (ts : List Name). n ∷ ts) (more e)

-- a name that isn't there takes nothing away
pub without_none : (name : List ℕ) (names : List Name) → named name names ≡ None → without_name name names ≡ names
without_none name [] e = refl
without_none name (n ∷ ns) e = kept_by name n ns (bytes_eq n.name name) e (without_none name ns)

-- ---- what holds of each name

pub all_each : (P : Name → Type 0) (names : List Name) → All P names → AllByRecursion P names
all_each P [] h = tt
all_each P (n ∷ ns) h = (h zero n (omega arith), all_each P ns (λ k d lt. h (suc k) d (omega (arith, lt))))

pub each_all : (P : Name → Type 0) (names : List Name) → AllByRecursion P names → All P names
each_all P [] h k d lt = absurd (omega (arith, lt))
each_all P (n ∷ ns) h zero d lt = h.0
each_all P (n ∷ ns) h (suc k) d lt = each_all P ns h.1 k d (omega (arith, lt))

pub each_map : (P Q : Name → Type 0) (names : List Name) → ((m : Name) → P m → Q m) → AllByRecursion P names → AllByRecursion Q names
each_map P Q [] f h = tt
each_map P Q (n ∷ ns) f h = (f n h.0, each_map P Q ns f h.1)

with_by : (P : Name → Type 0) (n m : Name) (ms : List Name) (below : Bool) → P n → AllByRecursion P (m ∷ ms) → AllByRecursion P (with_name n ms) → AllByRecursion P (cond below (m ∷ with_name n ms) (n ∷ m ∷ ms))
with_by P n m ms true one h more = (h.0, more)
with_by P n m ms false one h more = (one, h)

pub each_with : (P : Name → Type 0) (n : Name) (names : List Name) → P n → AllByRecursion P names → AllByRecursion P (with_name n names)
each_with P n [] one h = (one, tt)
each_with P n (m ∷ ms) one h = with_by P n m ms (bytes_below m.name n.name) one h (each_with P n ms one h.1)

without_by : (P : Name → Type 0) (n : Name) (ns : List Name) (b : Bool) → P n → AllByRecursion P ns → AllByRecursion P (cond b (n ∷ ns) ns)
without_by P n ns true one h = (one, h)
without_by P n ns false one h = h

pub each_without : (P : Name → Type 0) (name : List ℕ) (names : List Name) → AllByRecursion P names → AllByRecursion P (without_name name names)
each_without P name [] h = tt
each_without P name (n ∷ ns) h = without_by P n (without_name name ns) (not (bytes_eq n.name name)) h.0 (each_without P name ns h.1)

named_by : (P : Name → Type 0) (name : List ℕ) (n m : Name) (ns : List Name) (b : Bool) → P n → cond b (Some n) (named name ns) ≡ Some m → (named name ns ≡ Some m → P m) → P m
named_by P name n m ns true one e more = subst P (some_of n m e) one
named_by P name n m ns false one e more = more e

-- what holds of each holds of one that is found
pub each_named : (P : Name → Type 0) (name : List ℕ) (m : Name) (names : List Name) → AllByRecursion P names → named name names ≡ Some m → P m
each_named P name m [] h e = absurd cc
each_named P name m (n ∷ ns) h e = named_by P name n m ns (bytes_eq n.name name) h.0 e (each_named P name m ns h.1)

none_by : (p : Name → Bool) (b : Bool) (n : Name) (ns : List Name) → p n ≡ b → length (cond b (n ∷ filter p ns) (filter p ns)) ≡ 0 → (p n ≡ false) × (count p ns ≡ 0)
none_by p true n ns e z = absurd (omega (arith, z))
none_by p false n ns e z = (e, z)

-- where none is counted none passes
pub none_pass : (p : Name → Bool) (names : List Name) → count p names ≡ 0 → AllByRecursion (λ (m : Name). p m ≡ false) names
none_pass p [] z = tt
none_pass p (n ∷ ns) z = let r = none_by p (p n) n ns refl z in (r.0, none_pass p ns r.1)

none_more : (p : Name → Bool) (b : Bool) (n : Name) (ns : List Name) → b ≡ false → count p ns ≡ 0 → length (cond b (n ∷ filter p ns) (filter p ns)) ≡ 0
none_more p true n ns e z = absurd cc
none_more p false n ns e z = z

pub none_counted : (p : Name → Bool) (names : List Name) → AllByRecursion (λ (m : Name). p m ≡ false) names → count p names ≡ 0
none_counted p [] h = refl
none_counted p (n ∷ ns) h = none_more p (p n) n ns h.0 (none_counted p ns h.1)

-- all are counted
pub count_all : (names : List Name) → count (λ (m : Name). true) names ≡ length names
count_all [] = refl
count_all (n ∷ ns) = ap suc (count_all ns)
