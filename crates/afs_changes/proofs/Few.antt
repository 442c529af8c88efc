-- How many vnodes a volume has after the edits of an operation.
use Rattle.std.proofs.Common.{◌≡◌, ℕ, ◌+◌, ◌<◌, ◌≤◌, Bool, true, false, List, [], ◌∷◌, length, Option, Some, None, nat_eq, nat_lt, refl, sym, ◌∙◌, arith, ltb-true, if◌then◌else◌}
use Rattle.std.specs.Prelude.{not, ◌||◌}
use Rattle.std.specs.List.{list_all, list_any, AllByRecursion}
use Rattle.spec_ideal.specs.Operations.{edit_fits}
use Rattle.spec_ideal.specs.Tables.{Table, get, set, unset, AscendsFrom}
use Rattle.spec_ideal.specs.VnodeMaps.{most_vnodes}
use Rattle.spec_ideal.specs.Volumes.{Vnode, Volume, Amend, Edit, amends, makes, frees, amended, fresh, amends_at, makes_at, frees_at, edited, edited_all}
use Rattle.spec_ideal.proofs.Basics.{both}
use Rattle.spec_ideal.proofs.Looks.{IsNoMake, MakesAs, later_makes}
use Rattle.spec_ideal.proofs.Tables.{get_below}
use Rattle.afs_changes.specs.Drawing.{makes_vnode}
use Rattle.afs_changes.proofs.Sums.{edit_order}

-- ---- tables

set_most_by : (b l : Bool) (n : ℕ) (x : Vnode) (p : ℕ × Vnode) (ps : Table Vnode) → length (set n x ps) ≤ length ps + 1 → length (if b then (n, x) ∷ ps else (if l then (n, x) ∷ p ∷ ps else p ∷ set n x ps)) ≤ length (p ∷ ps) + 1
set_most_by true l n x p ps h = omega arith
set_most_by false true n x p ps h = omega arith
set_most_by false false n x p ps h = omega (arith, h)

set_most : (n : ℕ) (x : Vnode) (t : Table Vnode) → length (set n x t) ≤ length t + 1
set_most n x [] = omega arith
set_most n x (p ∷ ps) = set_most_by (nat_eq p.0 n) (nat_lt n p.0) n x p ps (set_most n x ps)

none_below : (n : ℕ) (p : ℕ × Vnode) (ps : Table Vnode) (y : Vnode) → nat_lt n p.0 ≡ true → AscendsFrom (p.0 + 1) ps → get n ps ≡ Some y → ⊥
none_below n p ps y lt up e = let none = get_below (p.0 + 1) n ps (let z : n < p.0 = ltb-true n p.0 lt in omega (arith, z)) up in let z : None ≡ Some y = sym none ∙ e in cc

set_there_by : (b l : Bool) (n : ℕ) (x y : Vnode) (p : ℕ × Vnode) (ps : Table Vnode) → nat_lt n p.0 ≡ l → AscendsFrom (p.0 + 1) ps → (get n ps ≡ Some y → length (set n x ps) ≡ length ps) → (if b then Some p.1 else get n ps) ≡ Some y
    → length (if b then (n, x) ∷ ps else (if l then (n, x) ∷ p ∷ ps else p ∷ set n x ps)) ≡ length (p ∷ ps)
set_there_by true l n x y p ps lt up more e = omega arith
set_there_by false true n x y p ps lt up more e = absurd (none_below n p ps y lt up e)
set_there_by false false n x y p ps lt up more e = let same = more e in omega (arith, same)

-- one in the place of another
pub set_there : (m n : ℕ) (x y : Vnode) (t : Table Vnode) → AscendsFrom m t → get n t ≡ Some y → length (set n x t) ≡ length t
set_there m n x y [] up e = absurd cc
set_there m n x y (p ∷ ps) up e = set_there_by (nat_eq p.0 n) (nat_lt n p.0) n x y p ps refl up.1 (λ h. set_there (p.0 + 1) n x y ps up.1 h) e

unset_by : (b : Bool) (n : ℕ) (p : ℕ × Vnode) (ps : Table Vnode) → length (unset n ps) ≤ length ps → length (if not b then p ∷ unset n ps else unset n ps) ≤ length (p ∷ ps)
unset_by true n p ps h = omega (arith, h)
unset_by false n p ps h = omega (arith, h)

unset_most : (n : ℕ) (t : Table Vnode) → length (unset n t) ≤ length t
unset_most n [] = omega arith
unset_most n (p ∷ ps) = unset_by (nat_eq p.0 n) n p ps (unset_most n ps)

-- ---- edits

amends_few : (id n : ℕ) (a : Amend) (v : Volume) (o : Option Vnode) → get n v.vnodes ≡ o → AscendsFrom 0 v.vnodes → length (amends_at id n a v o).volume.vnodes ≤ length v.vnodes
amends_few id n a v None is up = omega arith
amends_few id n a v (Some x) is up = let same = set_there 0 n (amended (v.counter + 1) a x) x v.vnodes up is in omega (arith, same)

makes_few : (id n : ℕ) (x : Vnode) (v : Volume) (o : Option Vnode) → length (makes_at id n x v o).volume.vnodes ≤ length v.vnodes + 1
makes_few id n x v None = set_most n (fresh (v.counter + 1) v.next x) v.vnodes
makes_few id n x v (Some y) = omega arith

frees_few : (id n : ℕ) (v : Volume) (o : Option Vnode) → length (frees_at id n v o).volume.vnodes ≤ length v.vnodes
frees_few id n v None = omega arith
frees_few id n v (Some x) = unset_most n v.vnodes

one_few : (id : ℕ) (e : Edit) (v : Volume) → IsNoMake e → AscendsFrom 0 v.vnodes → length (edited id e v).volume.vnodes ≤ length v.vnodes
one_few id (amends n a) v h up = amends_few id n a v (get n v.vnodes) refl up
one_few id (frees n) v h up = frees_few id n v (get n v.vnodes)
one_few id (makes n x) v h up = absurd h

none_more : (id : ℕ) (es : List Edit) (v : Volume) → AllByRecursion IsNoMake es → AscendsFrom 0 v.vnodes → length (edited_all id es v).vnodes ≤ length v.vnodes
none_more id [] v h up = omega arith
none_more id (e ∷ es) v h up =
    let one = one_few id e v h.0 up in
    let rest = none_more id es (edited id e v).volume h.1 (edit_order id e v up) in
    omega (arith, one, rest)

one_more : (id u : ℕ) (es : List Edit) (v : Volume) → MakesAs u v.next es → AscendsFrom 0 v.vnodes → length (edited_all id es v).vnodes ≤ length v.vnodes + 1
one_more id u [] v h up = omega arith
one_more id u (amends n a ∷ es) v h up =
    let one = one_few id (amends n a) v tt up in
    let rest = one_more id u es (edited id (amends n a) v).volume (later_makes id u (amends n a) es v h) (edit_order id (amends n a) v up) in
    omega (arith, one, rest)
one_more id u (frees n ∷ es) v h up =
    let one = one_few id (frees n) v tt up in
    let rest = one_more id u es (edited id (frees n) v).volume (later_makes id u (frees n) es v h) (edit_order id (frees n) v up) in
    omega (arith, one, rest)
one_more id u (makes n x ∷ es) v h up =
    let one = makes_few id n x v (get n v.vnodes) in
    let rest = none_more id es (edited id (makes n x) v).volume h.1 (edit_order id (makes n x) v up) in
    omega (arith, one, rest)

no_makes_by : (b : Bool) (e : Edit) (es : List Edit) → makes_vnode e ≡ b → (b || list_any makes_vnode es) ≡ false → (list_any makes_vnode es ≡ false → AllByRecursion IsNoMake es) → AllByRecursion IsNoMake (e ∷ es)
no_makes_by true e es is h more = absurd cc
no_makes_by false (amends n a) es is h more = (tt, more h)
no_makes_by false (frees n) es is h more = (tt, more h)
no_makes_by false (makes n x) es is h more = absurd cc

no_makes : (es : List Edit) → list_any makes_vnode es ≡ false → AllByRecursion IsNoMake es
no_makes [] h = tt
no_makes (e ∷ es) h = no_makes_by (makes_vnode e) e es refl h (no_makes es)

room_by : (b : Bool) (v : Volume) (e : Edit) (es : List Edit) → makes_vnode e ≡ b → edit_fits v e ≡ true → (list_any makes_vnode es ≡ true → length v.vnodes < most_vnodes) → (b || list_any makes_vnode es) ≡ true → length v.vnodes < most_vnodes
room_by true v (makes n x) es is fits more h = ltb-true (length v.vnodes) most_vnodes (both (nat_lt (length v.vnodes) most_vnodes) _ fits).0
room_by true v (amends n a) es is fits more h = absurd cc
room_by true v (frees n) es is fits more h = absurd cc
room_by false v e es is fits more h = more h

room : (v : Volume) (es : List Edit) → list_all (edit_fits v) es ≡ true → list_any makes_vnode es ≡ true → length v.vnodes < most_vnodes
room v [] fits h = absurd cc
room v (e ∷ es) fits h =
    let two = both (edit_fits v e) (list_all (edit_fits v) es) fits in
    room_by (makes_vnode e) v e es refl two.0 (room v es two.1) h

few_by : (b : Bool) (id : ℕ) (es : List Edit) (v : Volume) → list_any makes_vnode es ≡ b → MakesAs v.next v.next es → list_all (edit_fits v) es ≡ true → AscendsFrom 0 v.vnodes → length v.vnodes ≤ most_vnodes → length (edited_all id es v).vnodes ≤ most_vnodes
few_by true id es v is one fits up few =
    let more = one_more id v.next es v one up in
    let left = room v es fits is in
    omega (arith, more, left)
few_by false id es v is one fits up few =
    let more = none_more id es v (no_makes es is) up in
    omega (arith, more, few)

-- no more than there may be
pub few_after : (id : ℕ) (es : List Edit) (v : Volume) → MakesAs v.next v.next es → list_all (edit_fits v) es ≡ true → AscendsFrom 0 v.vnodes → length v.vnodes ≤ most_vnodes → length (edited_all id es v).vnodes ≤ most_vnodes
few_after id es v one fits up few = few_by (list_any makes_vnode es) id es v refl one fits up few
