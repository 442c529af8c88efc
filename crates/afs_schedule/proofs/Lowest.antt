-- The lowest place that none named.
use Rattle.std.proofs.Common.{refl, arith, ap, sym, subst, ◌∙◌, ◌≡◌, ◌≤◌, ◌<◌, ◌+◌, ◌^◌, ℕ, zero, suc, List, Bool, true, false, Option, Some, None, nat_eq, nat_le, ◌||◌}
use Rattle.std.specs.List.{list_any}
use Rattle.std.specs.BTreeSet.{contains}
use Rattle.std.specs.Ordering.{nat_cmp}
use Rattle.std.proofs.lemmas.Bool.{eqb-true, eqb-false, le-leb, lt-leb}
use Rattle.afs_schedule.specs.Named.{has, IsNamed}
use Rattle.afs_schedule.specs.Schedules.{lowest}
use Rattle.afs_schedule.specs.declared.schedule.Named.{Named}

found_by : (b : Bool) (n place free : ℕ) (named : List ℕ) → nat_eq place free ≡ b → place ≤ free → ((q : ℕ) → place ≤ q → q < free → list_any (nat_eq q) named ≡ true) → list_any (nat_eq free) named ≡ false
    → (place + 1 ≤ free → lowest n (place + 1) named ≡ Some free) → lowest (suc n) place named ≡ Some free
found_by true n place free named e from all none later =
    let same : place ≡ free = eqb-true place free e in
    let no : list_any (nat_eq place) named ≡ false = subst (λ (p : ℕ). list_any (nat_eq p) named ≡ false) (sym same) none in
    rw no (ap (λ (p : ℕ). Some p) same)
found_by false n place free named e from all none later =
    let other = eqb-false place free e in
    let less : place < free = omega (arith, from, other) in
    let yes : list_any (nat_eq place) named ≡ true = all place (omega arith) less in
    rw yes (later (omega (arith, less)))

-- where all below a place are named, and it isn't, it is the lowest
pub lowest_found : (n place free : ℕ) (named : List ℕ) → place ≤ free → free < place + n → ((q : ℕ) → place ≤ q → q < free → list_any (nat_eq q) named ≡ true) → list_any (nat_eq free) named ≡ false → lowest n place named ≡ Some free
lowest_found zero place free named from to all none = absurd (omega (arith, from, to))
lowest_found (suc n) place free named from to all none =
    found_by (nat_eq place free) n place free named refl from all none
    (λ next. lowest_found n (place + 1) free named next (omega (arith, to)) (λ q from_next below. all q (omega (arith, from_next)) below) none)

-- where all of them are named there is none
pub lowest_none : (n place : ℕ) (named : List ℕ) → ((q : ℕ) → place ≤ q → q < place + n → list_any (nat_eq q) named ≡ true) → lowest n place named ≡ None
lowest_none zero place named all = refl
lowest_none (suc n) place named all =
    let yes : list_any (nat_eq place) named ≡ true = all place (omega arith) (omega arith) in
    rw yes (lowest_none n (place + 1) named (λ q from below. all q (omega (arith, from)) (omega (arith, below))))

-- the first so many are named, and the next one isn't
first_are : (kept : Named) (named : List ℕ) → IsNamed kept named → (q : ℕ) → 1 ≤ q → q < kept.first + 1 → list_any (nat_eq q) named ≡ true
first_are kept named h q from below =
    let here : nat_le q kept.first ≡ true = le-leb q kept.first (omega (arith, below)) in
    sym (h.are q from) ∙ ap (λ (b : Bool). b || contains nat_cmp kept.above q) here

next_is_not : (kept : Named) (named : List ℕ) → IsNamed kept named → kept.first + 1 < 2 ^ 64 → list_any (nat_eq (kept.first + 1)) named ≡ false
next_is_not kept named h small =
    let past : nat_le (kept.first + 1) kept.first ≡ false = lt-leb (kept.first + 1) kept.first (omega arith) in
    let some : 1 ≤ kept.first + 1 = omega arith in
    sym (h.are (kept.first + 1) some) ∙ ap (λ (b : Bool). b || contains nat_cmp kept.above (kept.first + 1)) past ∙ h.closed small

pub waiting_found : (kept : Named) (named : List ℕ) (sent : ℕ) → IsNamed kept named → kept.first < sent → sent < 2 ^ 64 → lowest sent 1 named ≡ Some (kept.first + 1)
waiting_found kept named sent h less small =
    lowest_found sent 1 (kept.first + 1) named (omega arith) (omega (arith, less)) (first_are kept named h) (next_is_not kept named h (omega (arith, less, small)))

pub waiting_none : (kept : Named) (named : List ℕ) (sent : ℕ) → IsNamed kept named → sent ≤ kept.first → lowest sent 1 named ≡ None
waiting_none kept named sent h all = lowest_none sent 1 named (λ q from below. first_are kept named h q from (omega (arith, all, below)))
