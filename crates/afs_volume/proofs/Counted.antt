-- The names of a volume's directories, counted one by one.
use Rattle.std.proofs.Common.{◌≡◌, ℕ, zero, suc, ◌+◌, ◌≤◌, ◌<◌, Bool, true, false, List, [], ◌∷◌, take, drop, length, filter, get_or, Option, Some, None, nat_eq, slice_get, if◌then◌else◌, refl, sym, ap, subst, ◌∙◌, arith, eqb-true}
use Rattle.std.specs.Prelude.{◌&&◌}
use Rattle.std.proofs.lemmas.Bool.Decides.{nat_tests}
use Rattle.std.proofs.lemmas.List.{drop_more}
use Rattle.afs_num.specs.declared.directories.Name.{Name}
use Rattle.afs_num.specs.declared.vnodes.Vnode as image
use Rattle.spec_ideal.specs.Soundness.{names_it, names_of}
use Rattle.spec_ideal.specs.Tables.{Table, get, AscendsFrom}
use Rattle.afs_volume.specs.Given.{names_or_none}
use Rattle.afs_volume.specs.Listed.{names_in, Lists}
use Rattle.afs_volume.specs.Naming.{names_for, same_naming, times, CountsNames}
use Rattle.afs_volume.specs.Seen.{all_seen, seen}
use Rattle.afs_volume.specs.declared.naming.Naming.{Naming}
use Rattle.afs_volume.proofs.Listing.{later_number, place_gets, names_listed, ended, taken_gets}

-- what a name of a directory is counted under
abbrev pub naming_of : ℕ → Name → Naming
naming_of d name = record { directory = d; vnode = name.vnode; unique = name.unique }

-- so many names are counted: those before, and the first of the directory's that are no longer among the rest
abbrev pub Counted : (Naming → Option ℕ) → (Naming → Option ℕ) → ℕ → List Name → List Name → Type 0
Counted now before d rest names = (n : Naming) → times (now n) + names_for n d rest ≡ times (before n) + names_for n d names

and_true : (a b : Bool) → (a && b) ≡ true → (a ≡ true) × (b ≡ true)
and_true true true e = (refl, refl)
and_true true false e = absurd cc
and_true false b e = absurd cc

one_naming : (d e v w u t : ℕ) → d ≡ e → v ≡ w → u ≡ t → ◌≡◌ {A = Naming} (record { directory = d; vnode = v; unique = u }) (record { directory = e; vnode = w; unique = t })
one_naming d e v w u t p q r = cc

namings_are_one : (n m : Naming) → same_naming n m ≡ true → n ≡ m
namings_are_one n m e =
    let a = and_true (nat_eq n.directory m.directory) (nat_eq n.vnode m.vnode && nat_eq n.unique m.unique) e in
    let b = and_true (nat_eq n.vnode m.vnode) (nat_eq n.unique m.unique) a.1 in
    one_naming n.directory m.directory n.vnode m.vnode n.unique m.unique (eqb-true n.directory m.directory a.0) (eqb-true n.vnode m.vnode b.0) (eqb-true n.unique m.unique b.1)

-- ---- one name more

-- a name counts one where it is the vnode's, and the directory the one that is asked for
one_by : (here its : Bool) (name : Name) (rest : List Name) (mine : ℕ) (o : Option ℕ) → ((here && its) ≡ true → mine ≡ times o)
    → times (if here && its then Some (mine + 1) else o) + (if here then length rest else 0) ≡ times o + (if here then length (if its then name ∷ rest else rest) else 0)
one_by true true name rest mine o is = omega (arith, is refl)
one_by true false name rest mine o is = refl
one_by false its name rest mine o is = refl

one_counted : (now next : Naming → Option ℕ) (d : ℕ) (name : Name) (rest : List Name) → ((n : Naming) → next n ≡ (if same_naming (naming_of d name) n then Some (times (now (naming_of d name)) + 1) else now n))
    → (n : Naming) → times (next n) + names_for n d rest ≡ times (now n) + names_for n d (name ∷ rest)
one_counted now next d name rest more n =
    ap (λ (o : Option ℕ). times o + names_for n d rest) (more n)
    ∙ one_by (nat_eq d n.directory) (names_it n.vnode n.unique name) name (filter (names_it n.vnode n.unique) rest) (times (now (naming_of d name))) (now n)
    (λ e. ap (λ (m : Naming). times (now m)) (namings_are_one (naming_of d name) n e))

pub one_more : (before now next : Naming → Option ℕ) (d i : ℕ) (names : List Name) (name : Name) → i < length names → name ≡ get_or names i name
    → ((n : Naming) → next n ≡ (if same_naming (naming_of d name) n then Some (times (now (naming_of d name)) + 1) else now n)) → Counted now before d (drop i names) names → Counted next before d (drop (i + 1) names) names
one_more before now next d i names name within is more counted n =
    let first : drop i names ≡ name ∷ drop (i + 1) names = drop_more names i name within ∙ ap (λ (m : Name). m ∷ drop (i + 1) names) (sym is) in
    one_counted now next d name (drop (i + 1) names) more n ∙ (ap (λ (ns : List Name). times (now n) + names_for n d ns) (sym first) ∙ counted n)

none_for : (n : Naming) (d : ℕ) → names_for n d [] ≡ 0
none_for n d = none_by (nat_eq d n.directory)
  where
    none_by : (here : Bool) → ◌≡◌ {A = ℕ} (if here then 0 else 0) 0
    none_by true = refl
    none_by false = refl

pub all_counted : (now before : Naming → Option ℕ) (d : ℕ) (rest names : List Name) → rest ≡ [] → Counted now before d rest names → (n : Naming) → times (now n) ≡ times (before n) + names_for n d names
all_counted now before d rest names none counted n =
    let left : names_for n d rest ≡ 0 = ap (names_for n d) none ∙ none_for n d in
    omega (arith, left, counted n)

-- ---- how many they are at most

few_filtered : (q : Name → Bool) (names : List Name) → length (filter q names) ≤ length names
few_filtered q [] = omega arith
few_filtered q (name ∷ names) = few_by (q name) (few_filtered q names)
  where
    few_by : (b : Bool) → length (filter q names) ≤ length names → length (if b then name ∷ filter q names else filter q names) ≤ suc (length names)
    few_by true le = omega (arith, le)
    few_by false le = omega (arith, le)

few_for : (n : Naming) (d : ℕ) (names : List Name) → names_for n d names ≤ length names
few_for n d names = few_by (nat_eq d n.directory)
  where
    few_by : (here : Bool) → (if here then names_of n.vnode n.unique names else 0) ≤ length names
    few_by true = few_filtered (names_it n.vnode n.unique) names
    few_by false = omega arith

pub few : (now before : Naming → Option ℕ) (d : ℕ) (rest names : List Name) (n : Naming) → times (before n) ≡ 0 → Counted now before d rest names → times (now n) ≤ length names
few now before d rest names n none counted = omega (arith, none, counted n, few_for n d names)

-- ---- place by place

not_yet : (m : ℕ) (t : Table image.Vnode) (i : ℕ) (p : ℕ × image.Vnode) → AscendsFrom m t → slice_get t i ≡ Some p → get p.0 (take i t) ≡ None
not_yet m [] i p up e = absurd cc
not_yet m (q ∷ ps) zero p up e = refl
not_yet m (q ∷ ps) (suc i) p up e =
    let later = later_number (q.0 + 1) ps i p up.1 e in
    let other : nat_eq q.0 p.0 ≡ false = grind (arith, nat_tests, later) in
    rw other (not_yet (q.0 + 1) ps i p up.1 e)

-- none of the names of a directory is counted before its place
pub none_counted : (counts : Naming → Option ℕ) (t : Table image.Vnode) (i : ℕ) (x : image.Vnode) → AscendsFrom 0 t → Some (x.vnode, x) ≡ slice_get t i → CountsNames counts (take i t) → (n : Naming) → n.directory ≡ x.vnode → times (counts n) ≡ 0
none_counted counts t i x up there counted n is =
    let gone : get n.directory (take i t) ≡ None = ap (λ (k : ℕ). get k (take i t)) is ∙ not_yet 0 t i (x.vnode, x) up (sym there) in
    counted n ∙ ap (λ (o : Option image.Vnode). names_of n.vnode n.unique (names_in o)) gone

more_by : (here : Bool) (x : image.Vnode) (o : Option image.Vnode) (n : Naming) (old : ℕ) → (here ≡ true → old ≡ 0) → old ≡ names_of n.vnode n.unique (names_in o)
    → old + (if here then names_of n.vnode n.unique (seen x).names else 0) ≡ names_of n.vnode n.unique (names_in (if here then Some x else o))
more_by true x o n old none is = omega (arith, none refl)
more_by false x o n old none is = let z : old + 0 ≡ old = omega arith in z ∙ is

pub one_place_more : (old new : Naming → Option ℕ) (dirs : ℕ → Option (List Name)) (t : Table image.Vnode) (i : ℕ) (x : image.Vnode) (names : List Name) → AscendsFrom 0 t → Some (x.vnode, x) ≡ slice_get t i → Lists dirs (all_seen t)
    → names ≡ names_or_none (dirs x.vnode) → ((n : Naming) → times (new n) ≡ times (old n) + names_for n x.vnode names) → CountsNames old (take i t) → CountsNames new (take (i + 1) t)
one_place_more old new dirs t i x names up there all are more counted n =
    let its : names ≡ (seen x).names = are ∙ (names_listed dirs t x.vnode all ∙ ap names_in (place_gets t i x up there)) in
    let now : get n.directory (take (i + 1) t) ≡ (if nat_eq x.vnode n.directory then Some x else get n.directory (take i t)) = taken_gets 0 n.directory t i (x.vnode, x) up (sym there) in
    more n ∙ (ap (λ (ns : List Name). times (old n) + names_for n x.vnode ns) its
    ∙ (more_by (nat_eq x.vnode n.directory) x (get n.directory (take i t)) n (times (old n)) (λ e. none_counted old t i x up there counted n (sym (eqb-true x.vnode n.directory e))) (counted n)
    ∙ ap (λ (o : Option image.Vnode). names_of n.vnode n.unique (names_in o)) (sym now)))

pub no_place_more : (counts : Naming → Option ℕ) (t : Table image.Vnode) (i : ℕ) → slice_get t i ≡ None → CountsNames counts (take i t) → CountsNames counts (take (i + 1) t)
no_place_more counts t i none counted = subst (CountsNames counts) (sym (ended t i none)) counted

pub none_named : (counts : Naming → Option ℕ) (t : Table image.Vnode) → ((n : Naming) → times (counts n) ≡ 0) → CountsNames counts (take 0 t)
none_named counts [] none = none
none_named counts (p ∷ ps) none = none
