-- The blocks of a volume after edits of different vnodes: those before, without those of the vnodes that are edited, and with theirs.
use Rattle.std.proofs.Common.{◌≡◌, ℕ, ◌+◌, ◌<◌, ◌≤◌, Bool, true, false, not, eqb, ltb, List, [], ◌∷◌, Option, Some, None, refl, sym, ap, ◌∙◌, arith, eqb-true, leb, leb-true, leb-false, ltb-true, ltb-false}
use Rattle.std.specs.List.{AllByRecursion}
use Rattle.std.specs.Option.{option_map}
use Rattle.spec_ideal.specs.Tables.{get, AscendsFrom}
use Rattle.spec_ideal.specs.Volumes.{VnodeKind, a_file, a_directory, a_link, Vnode, Volume, Amend, Edit, amends, makes, frees, amended, fresh, blocks_of, blocks_in, amends_at, makes_at, frees_at, edited, edited_all, edit_number}
use Rattle.spec_ideal.proofs.Looks.{Distinct, MakesAs, looks}
use Rattle.spec_ideal.proofs.Tables.{ascends_set, ascends_unset}
use Rattle.afs_volume.specs.Counting.{blocks_at}
use Rattle.afs_changes.specs.Counting.{blocks_before, blocks_after, made_of}
use Rattle.afs_volume.proofs.Sums.{blocks_set, blocks_unset}

-- ---- one edit

amended_blocks : (k : VnodeKind) (c : ℕ) (a : Amend) (x : Vnode) → k ≡ x.kind → blocks_of (amended c a x) ≡ blocks_of (amended 0 a x)
amended_blocks a_file c a x is = rw (← is) refl
amended_blocks a_directory c a x is = rw (← is) refl
amended_blocks a_link c a x is = rw (← is) refl

fresh_blocks : (k : VnodeKind) (c u : ℕ) (x : Vnode) → k ≡ x.kind → blocks_of (fresh c u x) ≡ blocks_of x
fresh_blocks a_file c u x is = rw (← is) refl
fresh_blocks a_directory c u x is = rw (← is) refl
fresh_blocks a_link c u x is = rw (← is) refl

amends_blocks : (id n m : ℕ) (a : Amend) (v : Volume) (o : Option Vnode) → get n v.vnodes ≡ o → AscendsFrom m v.vnodes → blocks_in (amends_at id n a v o).volume.vnodes + blocks_at o ≡ blocks_in v.vnodes + blocks_at (option_map (amended 0 a) o)
amends_blocks id n m a v None e up = refl
amends_blocks id n m a v (Some x) e up =
    let h = blocks_set m n (amended (v.counter + 1) a x) v.vnodes up in
    let same = amended_blocks x.kind (v.counter + 1) a x refl in
    let was : blocks_at (get n v.vnodes) ≡ blocks_of x = ap blocks_at e in
    omega (arith, h, same, was)

makes_blocks : (id n m : ℕ) (x : Vnode) (v : Volume) (o : Option Vnode) → get n v.vnodes ≡ o → AscendsFrom m v.vnodes → blocks_in (makes_at id n x v o).volume.vnodes + blocks_at o ≡ blocks_in v.vnodes + blocks_at (made_of (makes n x) o)
makes_blocks id n m x v (Some y) e up = refl
makes_blocks id n m x v None e up =
    let h = blocks_set m n (fresh (v.counter + 1) v.next x) v.vnodes up in
    let same = fresh_blocks x.kind (v.counter + 1) v.next x refl in
    let was : blocks_at (get n v.vnodes) ≡ 0 = ap blocks_at e in
    omega (arith, h, same, was)

frees_blocks : (id n m : ℕ) (v : Volume) (o : Option Vnode) → get n v.vnodes ≡ o → AscendsFrom m v.vnodes → blocks_in (frees_at id n v o).volume.vnodes + blocks_at o ≡ blocks_in v.vnodes + 0
frees_blocks id n m v None e up = refl
frees_blocks id n m v (Some x) e up =
    let h = blocks_unset m n v.vnodes up in
    let was : blocks_at (get n v.vnodes) ≡ blocks_of x = ap blocks_at e in
    omega (arith, h, was)

edit_blocks : (id m : ℕ) (e : Edit) (v : Volume) → AscendsFrom m v.vnodes → blocks_in (edited id e v).volume.vnodes + blocks_at (get (edit_number e) v.vnodes) ≡ blocks_in v.vnodes + blocks_at (made_of e (get (edit_number e) v.vnodes))
edit_blocks id m (amends n a) v up = amends_blocks id n m a v (get n v.vnodes) refl up
edit_blocks id m (makes n x) v up = makes_blocks id n m x v (get n v.vnodes) refl up
edit_blocks id m (frees n) v up = frees_blocks id n m v (get n v.vnodes) refl up

-- ---- the table stays in order, and others stay

amends_order : (id n : ℕ) (a : Amend) (v : Volume) (o : Option Vnode) → AscendsFrom 0 v.vnodes → AscendsFrom 0 (amends_at id n a v o).volume.vnodes
amends_order id n a v None up = up
amends_order id n a v (Some x) up = ascends_set 0 n (amended (v.counter + 1) a x) v.vnodes (omega arith) up

makes_order : (id n : ℕ) (x : Vnode) (v : Volume) (o : Option Vnode) → AscendsFrom 0 v.vnodes → AscendsFrom 0 (makes_at id n x v o).volume.vnodes
makes_order id n x v (Some y) up = up
makes_order id n x v None up = ascends_set 0 n (fresh (v.counter + 1) v.next x) v.vnodes (omega arith) up

frees_order : (id n : ℕ) (v : Volume) (o : Option Vnode) → AscendsFrom 0 v.vnodes → AscendsFrom 0 (frees_at id n v o).volume.vnodes
frees_order id n v None up = up
frees_order id n v (Some x) up = ascends_unset 0 n v.vnodes up

pub edit_order : (id : ℕ) (e : Edit) (v : Volume) → AscendsFrom 0 v.vnodes → AscendsFrom 0 (edited id e v).volume.vnodes
edit_order id (amends n a) v up = amends_order id n a v (get n v.vnodes) up
edit_order id (makes n x) v up = makes_order id n x v (get n v.vnodes) up
edit_order id (frees n) v up = frees_order id n v (get n v.vnodes) up

one_makes : (e : Edit) (v : Volume) → MakesAs v.next v.next (e ∷ [])
one_makes (amends n a) v = tt
one_makes (makes n x) v = (refl, tt)
one_makes (frees n) v = tt

differ : (b : Bool) (n m : ℕ) → eqb n m ≡ b → (m ≡ n → ⊥) → b ≡ false
differ true n m e ne = absurd (ne (sym (eqb-true n m e)))
differ false n m e ne = refl

others : (id m : ℕ) (e : Edit) (v : Volume) → (m ≡ edit_number e → ⊥) → get m (edited id e v).volume.vnodes ≡ get m v.vnodes
others id m e v ne = looks id v.next m (e ∷ []) v (tt, tt) (one_makes e v) ∙ rw (differ (eqb (edit_number e) m) (edit_number e) m refl ne) refl

before_same : (id : ℕ) (e : Edit) (es : List Edit) (v : Volume) → AllByRecursion (λ (d : Edit). edit_number d ≡ edit_number e → ⊥) es → blocks_before es (edited id e v).volume ≡ blocks_before es v
before_same id e [] v apart = refl
before_same id e (d ∷ ds) v apart = let at = ap blocks_at (others id (edit_number d) e v apart.0) in let more = before_same id e ds v apart.1 in omega (arith, at, more)

after_same : (id : ℕ) (e : Edit) (es : List Edit) (v : Volume) → AllByRecursion (λ (d : Edit). edit_number d ≡ edit_number e → ⊥) es → blocks_after es (edited id e v).volume ≡ blocks_after es v
after_same id e [] v apart = refl
after_same id e (d ∷ ds) v apart = let at = ap (λ (o : Option Vnode). blocks_at (made_of d o)) (others id (edit_number d) e v apart.0) in let more = after_same id e ds v apart.1 in omega (arith, at, more)

pub blocks_follow : (id : ℕ) (es : List Edit) (v : Volume) → Distinct es → AscendsFrom 0 v.vnodes → blocks_in (edited_all id es v).vnodes + blocks_before es v ≡ blocks_in v.vnodes + blocks_after es v
blocks_follow id [] v apart up = refl
blocks_follow id (e ∷ es) v apart up =
    let one = edit_blocks id 0 e v up in
    let more = blocks_follow id es (edited id e v).volume apart.1 (edit_order id e v up) in
    let was = before_same id e es v apart.0 in
    let is = after_same id e es v apart.0 in
    omega (arith, one, more, was, is)

-- ---- the quota

within_by : (t s : Bool) (b a q p w : ℕ) → leb (b + a) (q + p) ≡ t → ltb q w ≡ s → w + p ≡ b + a → t ≡ not s
within_by true true b a q p w le lt is = let l : b + a ≤ q + p = leb-true (b + a) (q + p) le in let m : q < w = ltb-true q w lt in absurd (omega (arith, l, m, is))
within_by true false b a q p w le lt is = refl
within_by false true b a q p w le lt is = refl
within_by false false b a q p w le lt is = let l : q + p < b + a = leb-false (b + a) (q + p) le in let m : w ≤ q = ltb-false q w lt in absurd (omega (arith, l, m, is))

pub within : (b a q p w : ℕ) → w + p ≡ b + a → leb (b + a) (q + p) ≡ not (ltb q w)
within b a q p w is = within_by (leb (b + a) (q + p)) (ltb q w) b a q p w refl refl is
