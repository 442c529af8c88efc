-- Small laws: of tests, and of fids.
use Rattle.std.proofs.Common.{◌≡◌, ℕ, ◌+◌, ◌<◌, Bool, true, false, eqb, ◌&&◌, nat_le, Some, if◌then◌else◌, refl, ap, ◌∙◌, arith, le-leb, eq-eqb, eqb-true}
use Rattle.afs_num.specs.Fids.{same_fid}
use Rattle.afs_num.specs.Names.{is_in}
use Rattle.afs_num.specs.declared.types.Fid.{Fid}

-- ---- tests

pub both : (a b : Bool) → (a && b) ≡ true → (a ≡ true) × (b ≡ true)
both true b e = (refl, e)
both false b e = absurd cc

pub both_true : (a b : Bool) → a ≡ true → b ≡ true → (a && b) ≡ true
both_true true b p q = q
both_true false b p q = absurd cc

pub yes_no : (b : Bool) → b ≡ true → b ≡ false → ⊥
yes_no b t f = absurd cc

pub if_true : {A : Type 0} (t : Bool) (x y : A) → t ≡ true → (if t then x else y) ≡ x
if_true true x y e = refl
if_true false x y e = absurd cc

pub if_false : {A : Type 0} (t : Bool) (x y : A) → t ≡ false → (if t then x else y) ≡ y
if_false true x y e = absurd cc
if_false false x y e = refl

pub is_digit : (d : ℕ) → d < 10 → is_in 48 57 (48 + d) ≡ true
is_digit d lt = both_true (nat_le 48 (48 + d)) (nat_le (48 + d) 57) (le-leb 48 (48 + d) (omega arith)) (le-leb (48 + d) 57 (omega arith))

pub some_of : {A : Type 0} (x y : A) → Some x ≡ Some y → x ≡ y
some_of x y e = cc

-- ---- fids

abbrev fid_of : ℕ → ℕ → ℕ → Fid
fid_of v n u = record { volume = v; vnode = n; unique = u }

pub same_fid-true : (a b : Fid) → same_fid a b ≡ true → a ≡ b
same_fid-true a b e =
    let p = both (eqb a.volume b.volume) (eqb a.vnode b.vnode && eqb a.unique b.unique) e in
    let q = both (eqb a.vnode b.vnode) (eqb a.unique b.unique) p.1 in
    ap (λ (v : ℕ). fid_of v a.vnode a.unique) (eqb-true _ _ p.0) ∙ (ap (λ (n : ℕ). fid_of b.volume n a.unique) (eqb-true _ _ q.0) ∙ ap (fid_of b.volume b.vnode) (eqb-true _ _ q.1))

pub same_fid-refl : (a : Fid) → same_fid a a ≡ true
same_fid-refl a = rw (eq-eqb a.volume a.volume refl, eq-eqb a.vnode a.vnode refl, eq-eqb a.unique a.unique refl) refl

pub apart : (f g : Fid) → same_fid f g ≡ false → f ≡ g → ⊥
apart f g ne e = let yes : same_fid f g ≡ true = ap (λ (x : Fid). same_fid x g) e ∙ same_fid-refl g in absurd cc
