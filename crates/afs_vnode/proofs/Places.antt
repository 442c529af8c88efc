-- Vnodes by ascending numbers: what stands at a number's place, and what an edit there makes of the map.
use Rattle.std.proofs.Common.{◌≡◌, ℕ, zero, suc, ◌+◌, ◌<◌, ◌≤◌, Bool, true, false, not, ◌&&◌, List, [], ◌∷◌, length, get_or, set, Option, Some, None, is_some, nat_eq, nat_lt, slice_get, ap, subst, sym, ◌∙◌, arith, refl, if◌then◌else◌, Bor, IfSome}
use Rattle.std.specs.List.{insert, remove}
use Rattle.std.specs.Option.{option_copied}
use Rattle.std.specs.List.Sorted.{IsPartitionedBy, IsPartitionPoint}
use Rattle.std.proofs.lemmas.Bool.Decides.{nat_tests}
use Rattle.afs_num.specs.declared.vnodes.Vnode.{Vnode}
use Rattle.spec_ideal.specs.Tables.{Table, get, unset, AscendsFrom}
use Rattle.spec_ideal.specs.Tables as tables
use Rattle.spec_ideal.specs.VnodeImage.{FitsImage}
use Rattle.spec_ideal.specs.VnodeMaps.{AllFit}
use Rattle.spec_ideal.proofs.Tables.{get_below}
use Rattle.afs_vnode.specs.Stores.{table_of, place_of, has_number}

found_from : (m k : ℕ) (vs : List Vnode) → AscendsFrom m (table_of vs) → get k (table_of vs) ≡ (if has_number k (slice_get vs (place_of k vs)) then slice_get vs (place_of k vs) else None)
found_from m k [] up = refl
found_from m k (v ∷ vs) up = grind (arith, nat_tests, up.0, up.1, get_below (v.vnode + 1) k (table_of vs), found_from (v.vnode + 1) k vs up.1)

found : (k : ℕ) (vs : List Vnode) → AscendsFrom 0 (table_of vs) → get k (table_of vs) ≡ (if has_number k (slice_get vs (place_of k vs)) then slice_get vs (place_of k vs) else None)
found k vs up = found_from 0 k vs up

-- the vnode of a number stands in its place, or there is none
pub present : (k : ℕ) (vs : List Vnode) → AscendsFrom 0 (table_of vs) → has_number k (slice_get vs (place_of k vs)) ≡ true → get k (table_of vs) ≡ slice_get vs (place_of k vs)
present k vs up has = rw has at (found k vs up)

pub missing : (k : ℕ) (vs : List Vnode) → AscendsFrom 0 (table_of vs) → has_number k (slice_get vs (place_of k vs)) ≡ false → get k (table_of vs) ≡ None
missing k vs up has = rw has at (found k vs up)

chosen_if : (o : Option Vnode) (test : Bool) → is_some (if test then o else None) ≡ (test && is_some o)
chosen_if o true = refl
chosen_if o false = refl

numbered : (k : ℕ) (o : Option Vnode) → (has_number k o && is_some o) ≡ has_number k o
numbered k None = refl
numbered k (Some v) = grind (arith, nat_tests)

pub is_found : (k : ℕ) (vs : List Vnode) → AscendsFrom 0 (table_of vs) → is_some (get k (table_of vs)) ≡ has_number k (slice_get vs (place_of k vs))
is_found k vs up =
    let o = slice_get vs (place_of k vs) in
    ap (λ (x : Option Vnode). is_some x) (found k vs up) ∙ (chosen_if o (has_number k o) ∙ numbered k o)

-- one with the number takes its place
pub replaced : (x : Vnode) (vs : List Vnode) → has_number x.vnode (slice_get vs (place_of x.vnode vs)) ≡ true → table_of (set vs (place_of x.vnode vs) x) ≡ tables.set x.vnode x (table_of vs)
replaced x [] has = absurd cc
replaced x (v ∷ vs) has = grind (arith, nat_tests, has, replaced x vs)

-- one without stands between its neighbours
pub inserted : (x : Vnode) (vs : List Vnode) → has_number x.vnode (slice_get vs (place_of x.vnode vs)) ≡ false → table_of (insert vs (place_of x.vnode vs) x) ≡ tables.set x.vnode x (table_of vs)
inserted x [] has = refl
inserted x (v ∷ vs) has = grind (arith, nat_tests, has, inserted x vs)

-- what isn't there is not taken away
unset_below : (m k : ℕ) (t : Table Vnode) → k < m → AscendsFrom m t → unset k t ≡ t
unset_below m k [] lt up = refl
unset_below m k (p ∷ ps) lt up = grind (arith, nat_tests, lt, up.0, unset_below (p.0 + 1) k ps (omega (arith, lt, up.0)) up.1)

removed_behind : (k i : ℕ) (v : Vnode) (vs : List Vnode) → nat_eq v.vnode k ≡ false → table_of (remove vs i) ≡ unset k (table_of vs) → table_of (remove (v ∷ vs) (suc i)) ≡ unset k (table_of (v ∷ vs))
removed_behind k i v vs differs e = rw differs (ap (λ (t : Table Vnode). (v.vnode, v) ∷ t) e)

removed_by : (m k : ℕ) (v : Vnode) (vs : List Vnode) (below : Bool) → nat_lt v.vnode k ≡ below → AscendsFrom m (table_of (v ∷ vs)) → has_number k (slice_get (v ∷ vs) (if below then 1 + place_of k vs else 0)) ≡ true →
    (has_number k (slice_get vs (place_of k vs)) ≡ true → table_of (remove vs (place_of k vs)) ≡ unset k (table_of vs)) → table_of (remove (v ∷ vs) (if below then 1 + place_of k vs else 0)) ≡ unset k (table_of (v ∷ vs))
removed_by m k v vs true is up has later =
    let next : 1 + place_of k vs ≡ suc (place_of k vs) = omega arith in
    let deeper : has_number k (slice_get vs (place_of k vs)) ≡ true = subst (λ (i : ℕ). has_number k (slice_get (v ∷ vs) i) ≡ true) next has in
    subst (λ (i : ℕ). table_of (remove (v ∷ vs) i) ≡ unset k (table_of (v ∷ vs))) (sym next) (removed_behind k (place_of k vs) v vs (grind (arith, nat_tests, is)) (later deeper))
removed_by m k v vs false is up has later = grind (arith, nat_tests, has, unset_below (v.vnode + 1) k (table_of vs) (grind (arith, nat_tests, has)) up.1)

removed_from : (m k : ℕ) (vs : List Vnode) → AscendsFrom m (table_of vs) → has_number k (slice_get vs (place_of k vs)) ≡ true → table_of (remove vs (place_of k vs)) ≡ unset k (table_of vs)
removed_from m k [] up has = absurd cc
removed_from m k (v ∷ vs) up has = removed_by m k v vs (nat_lt v.vnode k) refl up has (removed_from (v.vnode + 1) k vs up.1)

-- one with the number is taken away
pub removed : (k : ℕ) (vs : List Vnode) → AscendsFrom 0 (table_of vs) → has_number k (slice_get vs (place_of k vs)) ≡ true → table_of (remove vs (place_of k vs)) ≡ unset k (table_of vs)
removed k vs up has = removed_from 0 k vs up has

absent_from : (m k : ℕ) (vs : List Vnode) → AscendsFrom m (table_of vs) → has_number k (slice_get vs (place_of k vs)) ≡ false → unset k (table_of vs) ≡ table_of vs
absent_from m k [] up has = refl
absent_from m k (v ∷ vs) up has = grind (arith, nat_tests, has, unset_below (v.vnode + 1) k (table_of vs), up.1, absent_from (v.vnode + 1) k vs up.1)

pub absent : (k : ℕ) (vs : List Vnode) → AscendsFrom 0 (table_of vs) → has_number k (slice_get vs (place_of k vs)) ≡ false → unset k (table_of vs) ≡ table_of vs
absent k vs up has = absent_from 0 k vs up has

-- ---- the place itself

key_from : (m : ℕ) (vs : List Vnode) (i : ℕ) (d : Vnode) → AscendsFrom m (table_of vs) → i < length vs → m ≤ (get_or vs i d).vnode
key_from m [] i d up lt = absurd (omega (arith, lt))
key_from m (v ∷ vs) zero d up lt = up.0
key_from m (v ∷ vs) (suc i) d up lt = omega (arith, up.0, key_from (v.vnode + 1) vs i d up.1 (omega (arith, lt)))

keys_rise : (m : ℕ) (vs : List Vnode) (i j : ℕ) (d : Vnode) → AscendsFrom m (table_of vs) → i ≤ j → j < length vs → (get_or vs i d).vnode ≤ (get_or vs j d).vnode
keys_rise m [] i j d up le lt = absurd (omega (arith, lt))
keys_rise m (v ∷ vs) zero zero d up le lt = omega arith
keys_rise m (v ∷ vs) zero (suc j) d up le lt = omega (arith, key_from (v.vnode + 1) vs j d up.1 (omega (arith, lt)))
keys_rise m (v ∷ vs) (suc i) zero d up le lt = absurd (omega (arith, le))
keys_rise m (v ∷ vs) (suc i) (suc j) d up le lt = keys_rise (v.vnode + 1) vs i j d up.1 (omega (arith, le)) (omega (arith, lt))

pub parted : (k : ℕ) (vs : List Vnode) → AscendsFrom 0 (table_of vs) → IsPartitionedBy (λ (v : Vnode). nat_lt v.vnode k) vs
parted k vs up i j d le lt later = grind (arith, nat_tests, later, keys_rise 0 vs i j d up le lt)

-- where the vnodes part is the number's place
pub part_is_place : (k : ℕ) (vs : List Vnode) (i : ℕ) → i ≤ length vs → IsPartitionPoint (λ (v : Vnode). nat_lt v.vnode k ≡ true) (λ (v : Vnode). nat_lt v.vnode k ≡ false) vs i → i ≡ place_of k vs
part_is_place k [] i le parts = omega (arith, le)
part_is_place k (v ∷ vs) zero le parts = grind (arith, parts.1 0 v (omega arith) (omega arith))
part_is_place k (v ∷ vs) (suc i) le parts =
    let later = part_is_place k vs i (omega (arith, le)) (λ j d ge lt. parts.0 (suc j) d (omega arith) (omega (arith, lt)), λ j d ge lt. parts.1 (suc j) d (omega (arith, ge)) (omega (arith, lt))) in
    grind (arith, parts.0 0 v (omega arith) (omega arith), later)

-- ---- limits

set_fits : (n : ℕ) (x : Vnode) (p : ℕ × Vnode) (ps : Table Vnode) (same below : Bool) → FitsImage x → AllFit (p ∷ ps) → AllFit (tables.set n x ps) → AllFit (if same then (n, x) ∷ ps else (if below then (n, x) ∷ p ∷ ps else p ∷ tables.set n x ps))
set_fits n x p ps true below fits all later = (fits, all.1)
set_fits n x p ps false true fits all later = (fits, all)
set_fits n x p ps false false fits all later = (all.0, later)

pub fit_set : (n : ℕ) (x : Vnode) (t : Table Vnode) → FitsImage x → AllFit t → AllFit (tables.set n x t)
fit_set n x [] fits all = (fits, tt)
fit_set n x (p ∷ ps) fits all = set_fits n x p ps (nat_eq p.0 n) (nat_lt n p.0) fits all (fit_set n x ps fits all.1)

unset_fits : (p : ℕ × Vnode) (rest : Table Vnode) (keeps : Bool) → FitsImage p.1 → AllFit rest → AllFit (if keeps then p ∷ rest else rest)
unset_fits p rest true fits all = (fits, all)
unset_fits p rest false fits all = all

pub fit_unset : (n : ℕ) (t : Table Vnode) → AllFit t → AllFit (unset n t)
fit_unset n [] all = tt
fit_unset n (p ∷ ps) all = unset_fits p (unset n ps) (not (nat_eq p.0 n)) all.0 (fit_unset n ps all.1)

fit_here : (n : ℕ) (p : ℕ × Vnode) (ps : Table Vnode) (v : Vnode) (same : Bool) → AllFit (p ∷ ps) → (if same then Some p.1 else get n ps) ≡ Some v → (get n ps ≡ Some v → FitsImage v) → FitsImage v
fit_here n p ps v true all e later = subst (λ (x : Vnode). FitsImage x) (let z : p.1 ≡ v = cc in z) all.0
fit_here n p ps v false all e later = later e

pub fit_get : (n : ℕ) (t : Table Vnode) (v : Vnode) → AllFit t → get n t ≡ Some v → FitsImage v
fit_get n [] v all e = absurd cc
fit_get n (p ∷ ps) v all e = fit_here n p ps v (nat_eq p.0 n) all e (fit_get n ps v all.1)

pub fit_nth : (i : ℕ) (vs : List Vnode) (v : Vnode) → AllFit (table_of vs) → slice_get vs i ≡ Some v → FitsImage v
fit_nth i [] v all e = absurd cc
fit_nth zero (x ∷ xs) v all e = subst (λ (y : Vnode). FitsImage y) (let z : x ≡ v = cc in z) all.0
fit_nth (suc i) (x ∷ xs) v all e = fit_nth i xs v all.1 e

numbered_here : (n : ℕ) (x : Vnode) (xs : List Vnode) (v : Vnode) (same : Bool) → nat_eq x.vnode n ≡ same → (if same then Some x else get n (table_of xs)) ≡ Some v → (get n (table_of xs) ≡ Some v → v.vnode ≡ n) → v.vnode ≡ n
numbered_here n x xs v true is e later = ap (λ (y : Vnode). y.vnode) (let z : v ≡ x = cc in z) ∙ (let z : x.vnode ≡ n = grind (arith, nat_tests, is) in z)
numbered_here n x xs v false is e later = later e

pub number_of : (n : ℕ) (vs : List Vnode) (v : Vnode) → get n (table_of vs) ≡ Some v → v.vnode ≡ n
number_of n [] v e = absurd cc
number_of n (x ∷ xs) v e = numbered_here n x xs v (nat_eq x.vnode n) refl e (number_of n xs v)

-- what is known of a value is known of the one that is pointed at
pub if_pointed : (r : Option (Bor Vnode)) (o : Option Vnode) (P : Vnode → Type 0) → option_copied r ≡ o → ((v : Vnode) → o ≡ Some v → P v) → IfSome r (λ v. P v.now)
if_pointed None o P e f = tt
if_pointed (Some b) o P e f = f b.now (sym e)
