-- Items by ascending numbers: what stands at a number's place, and what an edit there makes of the table.
use Rattle.std.proofs.Common.{◌≡◌, ℕ, zero, suc, ◌+◌, ◌<◌, ◌≤◌, Bool, true, false, List, [], ◌∷◌, length, get_or, set, Option, Some, None, nat_eq, nat_lt, slice_get, slice_index_or, filter, ◌∙◌, ap, subst, sym, arith, refl, if◌then◌else◌}
use Rattle.std.specs.List.{insert, remove}
use Rattle.std.specs.Option.{option_map}
use Rattle.std.specs.List.Sorted.{IsPartitionedBy, IsPartitionPoint}
use Rattle.std.proofs.lemmas.Bool.Decides.{nat_tests}
use Rattle.spec_ideal.specs.Tables.{Table, get, unset, AscendsFrom}
use Rattle.spec_ideal.specs.Tables as tables
use Rattle.spec_ideal.proofs.Tables.{ascends_lower, ascends_set, ascends_unset, get_below}
use Rattle.afs_seats.specs.Seated.{place_of, has_number, item_of, seen_as}

found_from : {A : Type 0} (m k : ℕ) (t : Table A) → AscendsFrom m t → get k t ≡ (if has_number k (slice_get t (place_of k t)) then item_of (slice_get t (place_of k t)) else None)
found_from {A} m k [] up = refl
found_from {A} m k (p ∷ ps) up = grind (arith, nat_tests, up.0, up.1, get_below (p.0 + 1) k ps, found_from (p.0 + 1) k ps up.1)

-- the item of a number stands in its place, or there is none
pub present : {A : Type 0} (k : ℕ) (t : Table A) → AscendsFrom 0 t → has_number k (slice_get t (place_of k t)) ≡ true → get k t ≡ item_of (slice_get t (place_of k t))
present {A} k t up has = rw has at (found_from 0 k t up)

pub missing : {A : Type 0} (k : ℕ) (t : Table A) → AscendsFrom 0 t → has_number k (slice_get t (place_of k t)) ≡ false → get k t ≡ None
missing {A} k t up has = rw has at (found_from 0 k t up)

-- one with the number takes its place
pub replaced : {A : Type 0} (n : ℕ) (x : A) (t : Table A) → has_number n (slice_get t (place_of n t)) ≡ true → set t (place_of n t) (n, x) ≡ tables.set n x t
replaced {A} n x [] has = absurd cc
replaced {A} n x (p ∷ ps) has = grind (arith, nat_tests, has, replaced n x ps)

-- one without stands between its neighbours
pub inserted : {A : Type 0} (n : ℕ) (x : A) (t : Table A) → has_number n (slice_get t (place_of n t)) ≡ false → insert t (place_of n t) (n, x) ≡ tables.set n x t
inserted {A} n x [] has = refl
inserted {A} n x (p ∷ ps) has = grind (arith, nat_tests, has, inserted n x ps)

pub still_ascends : {A : Type 0} (n : ℕ) (x : A) (old new : Table A) → AscendsFrom 0 old → new ≡ tables.set n x old → AscendsFrom 0 new
still_ascends {A} n x old new up e = subst (λ (t : Table A). AscendsFrom 0 t) (sym e) (ascends_set 0 n x old (omega arith) up)

-- what isn't there is not taken away
unset_below : {A : Type 0} (m k : ℕ) (t : Table A) → k < m → AscendsFrom m t → unset k t ≡ t
unset_below {A} m k [] lt up = refl
unset_below {A} m k (p ∷ ps) lt up = grind (arith, nat_tests, lt, up.0, unset_below (p.0 + 1) k ps (omega (arith, lt, up.0)) up.1)

removed_behind : {A : Type 0} (k i : ℕ) (p : ℕ × A) (ps : Table A) → nat_eq p.0 k ≡ false → remove ps i ≡ unset k ps → remove (p ∷ ps) (suc i) ≡ unset k (p ∷ ps)
removed_behind {A} k i p ps differs e = rw differs (ap (λ (t : Table A). p ∷ t) e)

removed_by : {A : Type 0} (m k : ℕ) (p : ℕ × A) (ps : Table A) (below : Bool) → nat_lt p.0 k ≡ below → AscendsFrom m (p ∷ ps) → has_number k (slice_get (p ∷ ps) (if below then 1 + place_of k ps else 0)) ≡ true →
    (has_number k (slice_get ps (place_of k ps)) ≡ true → remove ps (place_of k ps) ≡ unset k ps) → remove (p ∷ ps) (if below then 1 + place_of k ps else 0) ≡ unset k (p ∷ ps)
removed_by {A} m k p ps true is up has later =
    let next : 1 + place_of k ps ≡ suc (place_of k ps) = omega arith in
    let deeper : has_number k (slice_get ps (place_of k ps)) ≡ true = subst (λ (i : ℕ). has_number k (slice_get (p ∷ ps) i) ≡ true) next has in
    subst (λ (i : ℕ). remove (p ∷ ps) i ≡ unset k (p ∷ ps)) (sym next) (removed_behind k (place_of k ps) p ps (grind (arith, nat_tests, is)) (later deeper))
removed_by {A} m k p ps false is up has later = grind (arith, nat_tests, has, unset_below (p.0 + 1) k ps (grind (arith, nat_tests, has)) up.1)

removed_from : {A : Type 0} (m k : ℕ) (t : Table A) → AscendsFrom m t → has_number k (slice_get t (place_of k t)) ≡ true → remove t (place_of k t) ≡ unset k t
removed_from {A} m k [] up has = absurd cc
removed_from {A} m k (p ∷ ps) up has = removed_by m k p ps (nat_lt p.0 k) refl up has (removed_from (p.0 + 1) k ps up.1)

-- one with the number is taken away
pub removed : {A : Type 0} (k : ℕ) (t : Table A) → AscendsFrom 0 t → has_number k (slice_get t (place_of k t)) ≡ true → remove t (place_of k t) ≡ unset k t
removed {A} k t up has = removed_from 0 k t up has

absent_from : {A : Type 0} (m k : ℕ) (t : Table A) → AscendsFrom m t → has_number k (slice_get t (place_of k t)) ≡ false → unset k t ≡ t
absent_from {A} m k [] up has = refl
absent_from {A} m k (p ∷ ps) up has = grind (arith, nat_tests, has, unset_below (p.0 + 1) k ps, up.1, absent_from (p.0 + 1) k ps up.1)

pub absent : {A : Type 0} (k : ℕ) (t : Table A) → AscendsFrom 0 t → has_number k (slice_get t (place_of k t)) ≡ false → unset k t ≡ t
absent {A} k t up has = absent_from 0 k t up has

pub less_ascends : {A : Type 0} (n : ℕ) (old new : Table A) → AscendsFrom 0 old → new ≡ unset n old → AscendsFrom 0 new
less_ascends {A} n old new up e = subst (λ (t : Table A). AscendsFrom 0 t) (sym e) (ascends_unset 0 n old up)

nth_or : {A : Type 0} (t : List A) (i : ℕ) (d y : A) → slice_get t i ≡ Some y → slice_index_or t i d ≡ y
nth_or {A} [] i d y e = absurd cc
nth_or {A} (x ∷ xs) zero d y e = let z : x ≡ y = cc in z
nth_or {A} (x ∷ xs) (suc i) d y e = nth_or xs i d y e

item_is : {A : Type 0} (k : ℕ) (o : Option (ℕ × A)) (x : ℕ × A) → ((y : ℕ × A) → o ≡ Some y → x ≡ y) → has_number k o ≡ true → item_of o ≡ Some x.1
item_is {A} k None x same has = absurd cc
item_is {A} k (Some y) x same has = ap (λ (p : ℕ × A). Some p.1) (sym (same y refl))

pub taken_is : {A : Type 0} (k i : ℕ) (t : Table A) (x : ℕ × A) → AscendsFrom 0 t → i ≡ place_of k t → has_number k (slice_get t i) ≡ true → x ≡ slice_index_or t i x → Some x.1 ≡ get k t
taken_is {A} k i t x up at has is =
    let there : has_number k (slice_get t (place_of k t)) ≡ true = subst (λ (j : ℕ). has_number k (slice_get t j) ≡ true) at has in
    sym (present k t up there ∙ (ap (λ (j : ℕ). item_of (slice_get t j)) (sym at) ∙ item_is k (slice_get t i) x (λ y e. is ∙ nth_or t i x y e) has))

pub less_is : {A : Type 0} (k i : ℕ) (t : Table A) → AscendsFrom 0 t → i ≡ place_of k t → has_number k (slice_get t i) ≡ true → remove t i ≡ unset k t
less_is {A} k i t up at has =
    ap (λ (j : ℕ). remove t j) at ∙ removed k t up (subst (λ (j : ℕ). has_number k (slice_get t j) ≡ true) at has)

-- what is put again stands where it stood
put_below : {A : Type 0} (n : ℕ) (x : A) (m : ℕ) (t : Table A) → n < m → AscendsFrom m t → tables.set n x t ≡ (n, x) ∷ t
put_below {A} n x m [] lt up = refl
put_below {A} n x m (p ∷ ps) lt up = grind (arith, nat_tests, lt, up.0)

put_again_from : {A : Type 0} (m n : ℕ) (x : A) (t : Table A) → AscendsFrom m t → tables.set n x (unset n t) ≡ tables.set n x t
put_again_from {A} m n x [] up = refl
put_again_from {A} m n x (p ∷ ps) up =
    grind (arith, nat_tests, up.0, up.1, unset_below (p.0 + 1) n ps, put_below n x (p.0 + 1) ps, put_again_from (p.0 + 1) n x ps up.1)

pub put_again : {A : Type 0} (n : ℕ) (x : A) (t : Table A) → AscendsFrom 0 t → tables.set n x (unset n t) ≡ tables.set n x t
put_again {A} n x t up = put_again_from 0 n x t up

-- ---- the place itself

key_from : {A : Type 0} (m : ℕ) (t : Table A) (i : ℕ) (d : ℕ × A) → AscendsFrom m t → i < length t → m ≤ (get_or t i d).0
key_from {A} m [] i d up lt = absurd (omega (arith, lt))
key_from {A} m (p ∷ ps) zero d up lt = up.0
key_from {A} m (p ∷ ps) (suc i) d up lt = omega (arith, up.0, key_from (p.0 + 1) ps i d up.1 (omega (arith, lt)))

keys_rise : {A : Type 0} (m : ℕ) (t : Table A) (i j : ℕ) (d : ℕ × A) → AscendsFrom m t → i ≤ j → j < length t → (get_or t i d).0 ≤ (get_or t j d).0
keys_rise {A} m [] i j d up le lt = absurd (omega (arith, lt))
keys_rise {A} m (p ∷ ps) zero zero d up le lt = omega arith
keys_rise {A} m (p ∷ ps) zero (suc j) d up le lt = omega (arith, key_from (p.0 + 1) ps j d up.1 (omega (arith, lt)))
keys_rise {A} m (p ∷ ps) (suc i) zero d up le lt = absurd (omega (arith, le))
keys_rise {A} m (p ∷ ps) (suc i) (suc j) d up le lt = keys_rise (p.0 + 1) ps i j d up.1 (omega (arith, le)) (omega (arith, lt))

pub parted : {A : Type 0} (k : ℕ) (t : Table A) → AscendsFrom 0 t → IsPartitionedBy (λ (p : ℕ × A). nat_lt p.0 k) t
parted {A} k t up i j d le lt later = grind (arith, nat_tests, later, keys_rise 0 t i j d up le lt)

-- where the items part is the number's place
pub part_is_place : {A : Type 0} (k : ℕ) (t : Table A) (i : ℕ) → i ≤ length t → IsPartitionPoint (λ (p : ℕ × A). nat_lt p.0 k ≡ true) (λ (p : ℕ × A). nat_lt p.0 k ≡ false) t i → i ≡ place_of k t
part_is_place {A} k [] i le parts = omega (arith, le)
part_is_place {A} k (p ∷ ps) zero le parts = grind (arith, parts.1 0 p (omega arith) (omega arith))
part_is_place {A} k (p ∷ ps) (suc i) le parts =
    let later = part_is_place k ps i (omega (arith, le)) (λ j d ge lt. parts.0 (suc j) d (omega arith) (omega (arith, lt)), λ j d ge lt. parts.1 (suc j) d (omega (arith, ge)) (omega (arith, lt))) in
    grind (arith, parts.0 0 p (omega arith) (omega arith), later)

-- ---- each item as something else

chosen : {A B : Type 0} (f : A → B) (b : Bool) (x : A) (o : Option A) (q : Option B) → q ≡ option_map f o → (if b then Some (f x) else q) ≡ option_map f (if b then Some x else o)
chosen {A} {B} f true x o q e = refl
chosen {A} {B} f false x o q e = e

pub get_seen : {A B : Type 0} (f : A → B) (n : ℕ) (t : Table A) → get n (seen_as f t) ≡ option_map f (get n t)
get_seen {A} {B} f n [] = refl
get_seen {A} {B} f n (p ∷ ps) = chosen f (nat_eq p.0 n) p.1 (get n ps) (get n (seen_as f ps)) (get_seen f n ps)

placed : {A B : Type 0} (f : A → B) (same below : Bool) (n : ℕ) (x : A) (p : ℕ × A) (ps rest : Table A) (later : Table B) → later ≡ seen_as f rest
    → (if same then (n, f x) ∷ seen_as f ps else (if below then (n, f x) ∷ (p.0, f p.1) ∷ seen_as f ps else (p.0, f p.1) ∷ later)) ≡ seen_as f (if same then (n, x) ∷ ps else (if below then (n, x) ∷ p ∷ ps else p ∷ rest))
placed {A} {B} f true below n x p ps rest later e = refl
placed {A} {B} f false true n x p ps rest later e = refl
placed {A} {B} f false false n x p ps rest later e = ap (λ (l : Table B). (p.0, f p.1) ∷ l) e

pub set_seen : {A B : Type 0} (f : A → B) (n : ℕ) (x : A) (t : Table A) → tables.set n (f x) (seen_as f t) ≡ seen_as f (tables.set n x t)
set_seen {A} {B} f n x [] = refl
set_seen {A} {B} f n x (p ∷ ps) = placed f (nat_eq p.0 n) (nat_lt n p.0) n x p ps (tables.set n x ps) (tables.set n (f x) (seen_as f ps)) (set_seen f n x ps)

-- what stays of a table ascends
kept_ascends : {A : Type 0} (m : ℕ) (b : Bool) (p : ℕ × A) (ps rest : Table A) → m ≤ p.0 → AscendsFrom (p.0 + 1) rest → AscendsFrom m (if b then p ∷ rest else rest)
kept_ascends {A} m true p ps rest le up = (le, up)
kept_ascends {A} m false p ps rest le up = ascends_lower m (p.0 + 1) rest (omega (arith, le)) up

pub filter_ascends : {A : Type 0} (m : ℕ) (keep : ℕ × A → Bool) (t : Table A) → AscendsFrom m t → AscendsFrom m (filter keep t)
filter_ascends {A} m keep [] up = tt
filter_ascends {A} m keep (p ∷ ps) up = kept_ascends m (keep p) p ps (filter keep ps) up.0 (filter_ascends (p.0 + 1) keep ps up.1)

-- a test of what items are seen as
kept_seen : {A B : Type 0} (f : A → B) (b : Bool) (p : ℕ × A) (rest : Table A) (later : Table B) → later ≡ seen_as f rest → (if b then (p.0, f p.1) ∷ later else later) ≡ seen_as f (if b then p ∷ rest else rest)
kept_seen {A} {B} f true p rest later e = ap (λ (l : Table B). (p.0, f p.1) ∷ l) e
kept_seen {A} {B} f false p rest later e = e

pub filter_seen : {A B : Type 0} (f : A → B) (keep : B → Bool) (t : Table A) → filter (λ (q : ℕ × B). keep q.1) (seen_as f t) ≡ seen_as f (filter (λ (p : ℕ × A). keep (f p.1)) t)
filter_seen {A} {B} f keep [] = refl
filter_seen {A} {B} f keep (p ∷ ps) = kept_seen f (keep (f p.1)) p (filter (λ (q : ℕ × A). keep (f q.1)) ps) (filter (λ (q : ℕ × B). keep q.1) (seen_as f ps)) (filter_seen f keep ps)
