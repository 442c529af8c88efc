-- The names of a volume's directories, listed place by place.
use Rattle.std.proofs.Common.{◌≡◌, ℕ, zero, suc, ◌+◌, ◌≤◌, ◌<◌, Bool, true, false, List, [], ◌∷◌, take, Option, Some, None, nat_eq, slice_get, if◌then◌else◌, refl, sym, ap, subst, ◌∙◌, arith, eq-eqb}
use Rattle.std.specs.Option.{option_map}
use Rattle.std.proofs.lemmas.Bool.Decides.{nat_tests}
use Rattle.afs_num.specs.declared.directories.Name.{Name}
use Rattle.afs_num.specs.declared.vnodes.Vnode as image
use Rattle.spec_ideal.specs.Operations.{is_kind}
use Rattle.spec_ideal.specs.Tables.{Table, get, set, unset, AscendsFrom}
use Rattle.spec_ideal.proofs.Tables.{get_set, get_unset}
use Rattle.spec_ideal.specs.Volumes.{VnodeKind, a_directory, a_file, a_link}
use Rattle.afs_volume.specs.Given.{names_or_none}
use Rattle.afs_volume.specs.Listed.{listed_as, listed_at, listed_by, names_in, Lists}
use Rattle.afs_volume.specs.Seen.{all_seen, kind_seen, names_seen, seen}
use Rattle.afs_volume.proofs.Given.{names_ready}
use Rattle.afs_volume.proofs.Tables.{got}
use Rattle.afs_volume.proofs.Readable.{next_take, nothing_taken}

-- the names of what stands there
abbrev names_of : Option image.Vnode → Option (List Name)
names_of o = listed_at (option_map seen o)

chosen : (b : Bool) (x : image.Vnode) (o : Option image.Vnode) → names_of (if b then Some x else o) ≡ (if b then listed_as x else names_of o)
chosen true x o = refl
chosen false x o = refl

-- what is listed of the vnodes, by what is found among them
found : (names : ℕ → Option (List Name)) (t : Table image.Vnode) → Lists names (all_seen t) → (n : ℕ) → names n ≡ names_of (get n t)
found names t all n = all n ∙ ap listed_at (got n t)

listed : (names : ℕ → Option (List Name)) (t : Table image.Vnode) → ((n : ℕ) → names n ≡ names_of (get n t)) → Lists names (all_seen t)
listed names t all n = all n ∙ ap listed_at (sym (got n t))

-- ---- place by place

pub later_number : (m : ℕ) (t : Table image.Vnode) (i : ℕ) (p : ℕ × image.Vnode) → AscendsFrom m t → slice_get t i ≡ Some p → m ≤ p.0
later_number m [] i p up e = absurd cc
later_number m (q ∷ ps) zero p up e = subst (λ (r : ℕ × image.Vnode). m ≤ r.0) (let z : q ≡ p = cc in z) up.0
later_number m (q ∷ ps) (suc i) p up e = let later = later_number (q.0 + 1) ps i p up.1 e in omega (arith, up.0, later)

first_of : (b : Bool) (q p : ℕ × image.Vnode) → q ≡ p → (if b then Some q.1 else None) ≡ (if b then Some p.1 else None)
first_of b q p is = ap (λ (r : ℕ × image.Vnode). if b then Some r.1 else None) is

turned : (n a b : ℕ) (x y : image.Vnode) (o : Option image.Vnode) (c d : Bool) → a < b → nat_eq a n ≡ c → nat_eq b n ≡ d → (if c then Some x else (if d then Some y else o)) ≡ (if d then Some y else (if c then Some x else o))
turned n a b x y o true true lt one other = absurd (grind (arith, nat_tests, lt, one, other))
turned n a b x y o true false lt one other = refl
turned n a b x y o false d lt one other = refl

pub taken_gets : (m n : ℕ) (t : Table image.Vnode) (i : ℕ) (p : ℕ × image.Vnode) → AscendsFrom m t → slice_get t i ≡ Some p → get n (take (i + 1) t) ≡ (if nat_eq p.0 n then Some p.1 else get n (take i t))
taken_gets m n [] i p up e = absurd cc
taken_gets m n (q ∷ ps) zero p up e =
    let is : q ≡ p = cc in
    first_of (nat_eq q.0 n) q p is ∙ ap (λ (r : ℕ × image.Vnode). if nat_eq r.0 n then Some p.1 else None) is
taken_gets m n (q ∷ ps) (suc i) p up e =
    let later = later_number (q.0 + 1) ps i p up.1 e in
    ap (get n) (next_take q ps i)
    ∙ (ap (λ (o : Option image.Vnode). if nat_eq q.0 n then Some q.1 else o) (taken_gets (q.0 + 1) n ps i p up.1 e)
    ∙ turned n q.0 p.0 q.1 p.1 (get n (take i ps)) (nat_eq q.0 n) (nat_eq p.0 n) (omega (arith, later)) refl refl)

pub one_more : (old new : ℕ → Option (List Name)) (t : Table image.Vnode) (i : ℕ) (x : image.Vnode) → AscendsFrom 0 t → slice_get t i ≡ Some (x.vnode, x) → ((n : ℕ) → new n ≡ (if nat_eq x.vnode n then listed_as x else old n))
    → Lists old (all_seen (take i t)) → Lists new (all_seen (take (i + 1) t))
one_more old new t i x up there is all =
    listed new (take (i + 1) t) (λ n. is n ∙ (ap (λ (o : Option (List Name)). if nat_eq x.vnode n then listed_as x else o) (found old (take i t) all n)
    ∙ (sym (chosen (nat_eq x.vnode n) x (get n (take i t))) ∙ ap names_of (sym (taken_gets 0 n t i (x.vnode, x) up there)))))

pub one_more_as : (old new : ℕ → Option (List Name)) (t : Table image.Vnode) (i : ℕ) (x : image.Vnode) (names : Option (List Name)) → AscendsFrom 0 t → Some (x.vnode, x) ≡ slice_get t i → names ≡ listed_as x
    → ((n : ℕ) → new n ≡ (if nat_eq x.vnode n then names else old n)) → Lists old (all_seen (take i t)) → Lists new (all_seen (take (i + 1) t))
one_more_as old new t i x names up there is h all = one_more old new t i x up (sym there) (λ n. h n ∙ ap (λ (o : Option (List Name)). if nat_eq x.vnode n then o else old n) is) all

pub ended : (t : Table image.Vnode) (i : ℕ) → slice_get t i ≡ None → take (i + 1) t ≡ take i t
ended [] i e = nothing_taken (i + 1) ∙ sym (nothing_taken i)
ended (p ∷ ps) zero e = absurd cc
ended (p ∷ ps) (suc i) e = next_take p ps i ∙ ap (λ (u : Table image.Vnode). p ∷ u) (ended ps i e)

pub none_more : (names : ℕ → Option (List Name)) (t : Table image.Vnode) (i : ℕ) → slice_get t i ≡ None → Lists names (all_seen (take i t)) → Lists names (all_seen (take (i + 1) t))
none_more names t i none all = subst (λ (u : Table image.Vnode). Lists names (all_seen u)) (sym (ended t i none)) all

pub none_yet : (names : ℕ → Option (List Name)) (t : Table image.Vnode) → ((n : ℕ) → names n ≡ None) → Lists names (all_seen (take 0 t))
unfolding all_seen
none_yet names [] is = is
none_yet names (p ∷ ps) is = is

-- ---- what is found by number and by place

names_by : (o : Option image.Vnode) → names_or_none (names_of o) ≡ names_in o
names_by None = refl
names_by (Some x) = names_ready x

pub names_listed : (names : ℕ → Option (List Name)) (t : Table image.Vnode) (n : ℕ) → Lists names (all_seen t) → names_or_none (names n) ≡ names_in (get n t)
names_listed names t n all = ap names_or_none (found names t all n) ∙ names_by (get n t)

gets_from : (m : ℕ) (t : Table image.Vnode) (i : ℕ) (p : ℕ × image.Vnode) → AscendsFrom m t → slice_get t i ≡ Some p → get p.0 t ≡ Some p.1
gets_from m [] i p up e = absurd cc
gets_from m (q ∷ ps) zero p up e = let is : q ≡ p = cc in subst (λ (r : ℕ × image.Vnode). get r.0 (q ∷ ps) ≡ Some r.1) is (rw (eq-eqb q.0 q.0 refl) refl)
gets_from m (q ∷ ps) (suc i) p up e =
    let later = later_number (q.0 + 1) ps i p up.1 e in
    let other : nat_eq q.0 p.0 ≡ false = grind (arith, nat_tests, later) in
    rw other (gets_from (q.0 + 1) ps i p up.1 e)

pub place_gets : (t : Table image.Vnode) (i : ℕ) (x : image.Vnode) → AscendsFrom 0 t → Some (x.vnode, x) ≡ slice_get t i → get x.vnode t ≡ Some x
place_gets t i x up e = gets_from 0 t i (x.vnode, x) up (sym e)

-- what is listed under the number of a vnode are its names
pub listed_here : (names : ℕ → Option (List Name)) (t : Table image.Vnode) (i : ℕ) (x : image.Vnode) → AscendsFrom 0 t → Some (x.vnode, x) ≡ slice_get t i → Lists names (all_seen t) → names x.vnode ≡ listed_as x
listed_here names t i x up there all = found names t all x.vnode ∙ ap names_of (place_gets t i x up there)

-- ---- a vnode that is put or removed

pub listed_set : (old new : ℕ → Option (List Name)) (t u : Table image.Vnode) (x : image.Vnode) (names : Option (List Name)) → names ≡ listed_as x → ((n : ℕ) → new n ≡ (if nat_eq x.vnode n then names else old n)) → u ≡ set x.vnode x t
    → Lists old (all_seen t) → Lists new (all_seen u)
listed_set old new t u x names is h put all =
    listed new u (λ n. h n ∙ (ap (λ (o : Option (List Name)). if nat_eq x.vnode n then o else old n) is
    ∙ (ap (λ (o : Option (List Name)). if nat_eq x.vnode n then listed_as x else o) (found old t all n)
    ∙ (sym (chosen (nat_eq x.vnode n) x (get n t)) ∙ ap names_of (sym (ap (get n) put ∙ get_set n x.vnode x t))))))

none_chosen : (b : Bool) (o : Option image.Vnode) → names_of (if b then None else o) ≡ (if b then None else names_of o)
none_chosen true o = refl
none_chosen false o = refl

pub listed_unset : (old new : ℕ → Option (List Name)) (t u : Table image.Vnode) (k : ℕ) → ((n : ℕ) → new n ≡ (if nat_eq k n then None else old n)) → u ≡ unset k t → Lists old (all_seen t) → Lists new (all_seen u)
listed_unset old new t u k h gone all =
    listed new u (λ n. h n ∙ (ap (λ (o : Option (List Name)). if nat_eq k n then None else o) (found old t all n)
    ∙ (sym (none_chosen (nat_eq k n) (get n t)) ∙ ap names_of (sym (ap (get n) gone ∙ get_unset n k t)))))

-- ---- the names of a directory that is there

directory_by : (k : VnodeKind) (x : image.Vnode) → is_kind k a_directory ≡ true → listed_by k (names_seen k x.contents) ≡ Some (names_seen k x.contents)
directory_by a_directory x is = refl
directory_by a_file x is = absurd cc
directory_by a_link x is = absurd cc

directory_listed : (x : image.Vnode) → is_kind (seen x).kind a_directory ≡ true → listed_as x ≡ Some (seen x).names
unfolding seen
directory_listed x is = directory_by (kind_seen x.kind) x is

there_listed : (names : ℕ → Option (List Name)) (t : Table image.Vnode) (n : ℕ) (x : image.Vnode) → Lists names (all_seen t) → get n t ≡ Some x → is_kind (seen x).kind a_directory ≡ true → names n ≡ Some (seen x).names
there_listed names t n x all there is = found names t all n ∙ (ap names_of there ∙ directory_listed x is)

some_names : (d e : List Name) → Some d ≡ Some e → d ≡ e
some_names d e is = cc

pub kept_directory : (names : ℕ → Option (List Name)) (t : Table image.Vnode) (n : ℕ) (x : image.Vnode) (d : List Name) → Lists names (all_seen t) → get n t ≡ Some x → is_kind (seen x).kind a_directory ≡ true → Some d ≡ names n → d ≡ (seen x).names
kept_directory names t n x d all there is e = some_names d (seen x).names (e ∙ there_listed names t n x all there is)

pub some_directory : (names : ℕ → Option (List Name)) (t : Table image.Vnode) (n : ℕ) (x : image.Vnode) → Lists names (all_seen t) → get n t ≡ Some x → is_kind (seen x).kind a_directory ≡ true → None ≡ names n → ⊥
some_directory names t n x all there is e = let z : ◌≡◌ {A = Option (List Name)} None (Some (seen x).names) = e ∙ there_listed names t n x all there is in cc
