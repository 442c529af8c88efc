-- The blocks of a table's vnodes, as one is put or goes.
use Rattle.std.proofs.Common.{◌≡◌, ℕ, ◌+◌, ◌<◌, Bool, true, false, not, [], ◌∷◌, Some, None, refl, ap, arith, eqb-true, ltb-true, if◌then◌else◌, nat_eq, nat_lt}
use Rattle.spec_ideal.specs.Tables.{Table, get, set, unset, AscendsFrom}
use Rattle.spec_ideal.specs.Volumes.{Vnode, blocks_of, blocks_in}
use Rattle.spec_ideal.proofs.Tables.{get_below}
use Rattle.afs_num.specs.declared.vnodes.Vnode as image
use Rattle.afs_volume.specs.Seen.{all_seen}
use Rattle.afs_volume.specs.Counting.{blocks_at}

none_below : (n k : ℕ) (t : Table Vnode) → nat_lt n k ≡ true → AscendsFrom (k + 1) t → get n t ≡ None
none_below n k t lt up = get_below (k + 1) n t (let z : n < k = ltb-true n k lt in omega (arith, z)) up

none_at : (n k : ℕ) (t : Table Vnode) → nat_eq k n ≡ true → AscendsFrom (k + 1) t → get n t ≡ None
none_at n k t same up = get_below (k + 1) n t (let z : k ≡ n = eqb-true k n same in omega (arith, z)) up

set_by : (b l : Bool) (n k : ℕ) (x y : Vnode) (t : Table Vnode) → nat_eq k n ≡ b → nat_lt n k ≡ l → AscendsFrom (k + 1) t → blocks_in (set n x t) + blocks_at (get n t) ≡ blocks_in t + blocks_of x
    → blocks_in (if b then (n, x) ∷ t else (if l then (n, x) ∷ (k, y) ∷ t else (k, y) ∷ set n x t)) + blocks_at (if b then Some y else get n t) ≡ blocks_of y + blocks_in t + blocks_of x
set_by true l n k x y t same lt up h = omega arith
set_by false true n k x y t same lt up h = rw (none_below n k t lt up) (omega arith)
set_by false false n k x y t same lt up h = omega (arith, h)

pub blocks_set : (m n : ℕ) (x : Vnode) (t : Table Vnode) → AscendsFrom m t → blocks_in (set n x t) + blocks_at (get n t) ≡ blocks_in t + blocks_of x
blocks_set m n x [] up = omega arith
blocks_set m n x (p ∷ ps) up = set_by (nat_eq p.0 n) (nat_lt n p.0) n p.0 x p.1 ps refl refl up.1 (blocks_set (p.0 + 1) n x ps up.1)

unset_by : (b : Bool) (n k : ℕ) (y : Vnode) (t : Table Vnode) → nat_eq k n ≡ b → AscendsFrom (k + 1) t → blocks_in (unset n t) + blocks_at (get n t) ≡ blocks_in t
    → blocks_in (if not b then (k, y) ∷ unset n t else unset n t) + blocks_at (if b then Some y else get n t) ≡ blocks_of y + blocks_in t
unset_by true n k y t same up h = let gone : blocks_at (get n t) ≡ 0 = ap blocks_at (none_at n k t same up) in omega (arith, h, gone)
unset_by false n k y t same up h = omega (arith, h)

pub blocks_unset : (m n : ℕ) (t : Table Vnode) → AscendsFrom m t → blocks_in (unset n t) + blocks_at (get n t) ≡ blocks_in t
blocks_unset m n [] up = refl
blocks_unset m n (p ∷ ps) up = unset_by (nat_eq p.0 n) n p.0 p.1 ps refl up.1 (blocks_unset (p.0 + 1) n ps up.1)

-- ---- vnodes as they are seen

ordered_from : (n : ℕ) (t : Table image.Vnode) → AscendsFrom n t → AscendsFrom n (all_seen t)
unfolding all_seen
ordered_from n [] up = tt
ordered_from n (p ∷ ps) up = (up.0, ordered_from (p.0 + 1) ps up.1)

pub ordered : (t : Table image.Vnode) → AscendsFrom 0 t → AscendsFrom 0 (all_seen t)
ordered t up = ordered_from 0 t up
