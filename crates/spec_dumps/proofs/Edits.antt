-- The edits of one change: their numbers ascend, and each finds what it asks for.
use Rattle.std.proofs.Common.{◌≡◌, ℕ, ◌+◌, ◌<◌, ◌≤◌, Bool, true, false, List, [], ◌∷◌, Option, Some, None, nat_eq, refl, ap, subst, ◌∙◌, arith}
use Rattle.std.specs.Prelude.{⊤}
use Rattle.std.proofs.lemmas.Bool.Decides.{nat_tests}
use Rattle.afs_num.specs.declared.types.Fid.{Fid}
use Rattle.afs_num.specs.declared.histories.Version.{Version}
use Rattle.spec_ideal.specs.ChangeLaws.{by_vnode, RaisesAt, Tells, TellsEach}
use Rattle.spec_ideal.specs.Tables.{get, AscendsFrom}
use Rattle.spec_ideal.specs.Volumes.{amends, edit_number, edited, frees, makes, Edit, Vnode, Volume}
use Rattle.spec_records.proofs.Kept.{edited_keeps, is_edited}

-- the numbers ascend
unfoldable pub Up : ℕ → List Edit → Type 0
Up m [] = ⊤
Up m (e ∷ es) = (m ≤ edit_number e) × Up (edit_number e + 1) es

-- a new vnode has a number that was free
unfoldable pub Finds : Edit → Option Vnode → Type 0
Finds (makes n x) o = o ≡ None
Finds (amends n a) o = ⊤
Finds (frees n) o = ⊤

unfoldable pub Same : List Edit → Volume → Volume → Type 0
Same [] v w = ⊤
Same (e ∷ es) v w = (get (edit_number e) v.vnodes ≡ get (edit_number e) w.vnodes) × Same es v w

pub same_itself : (es : List Edit) (v : Volume) → Same es v v
unfolding Same
same_itself [] v = tt
same_itself (e ∷ es) v = (refl, same_itself es v)

pub not_edited : (n m : ℕ) (es : List Edit) → n < m → Up m es → is_edited n es ≡ false
unfolding Up
not_edited n m [] lt up = refl
not_edited n m (e ∷ es) lt up =
    let other : nat_eq (edit_number e) n ≡ false = let le : m ≤ edit_number e = up.0 in grind (arith, nat_tests, lt, le) in
    rw other (not_edited n (edit_number e + 1) es (let le : m ≤ edit_number e = up.0 in omega (arith, lt, le)) up.1)

pub still : (id m : ℕ) (d : Edit) (es : List Edit) (v w : Volume) → edit_number d < m → Up m es → Same es v w → Same es (edited id d v).volume w
unfolding Same Up
still id m d [] v w lt up same = tt
still id m d (e ∷ es) v w lt up same =
    let le : m ≤ edit_number e = up.0 in
    let other : nat_eq (edit_number d) (edit_number e) ≡ false = grind (arith, nat_tests, lt, le) in
    (edited_keeps id (edit_number e) d v (get (edit_number d) v.vnodes) refl other ∙ same.0, still id (edit_number e + 1) d es v w (omega (arith, lt, le)) up.1 same.1)

unfoldable pub FindsAll : List Edit → Volume → Type 0
FindsAll [] v = ⊤
FindsAll (e ∷ es) v = Finds e (get (edit_number e) v.vnodes) × FindsAll es v

-- ---- one change

raised_number : (id n : ℕ) (o : Option Vnode) (body : Bool) (w : Version) → RaisesAt id n o body w → w.fid.vnode ≡ n
raised_number id n None body w h = absurd h
raised_number id n (Some x) body w h = ap (λ (f : Fid). f.vnode) h.fid

number_is : (id : ℕ) (v : Volume) (e : Edit) (w : Version) → Tells id v e w → w.fid.vnode ≡ edit_number e
number_is id v (amends n a) w h = raised_number id n (get n v.vnodes) _ w h
number_is id v (frees n) w h = raised_number id n (get n v.vnodes) true w h.0
number_is id v (makes n x) w h = ap (λ (f : Fid). f.vnode) h.0.fid

finds_it : (id : ℕ) (v : Volume) (e : Edit) (w : Version) → Tells id v e w → Finds e (get (edit_number e) v.vnodes)
unfolding Finds
finds_it id v (amends n a) w h = tt
finds_it id v (frees n) w h = tt
finds_it id v (makes n x) w h = h.1

pub all_up : (id m : ℕ) (es : List Edit) (v : Volume) (ws : List Version) → TellsEach id v es ws → AscendsFrom m (by_vnode ws) → Up m es
unfolding Up
all_up id m [] v ws h up = tt
all_up id m (e ∷ es) v [] h up = absurd h
all_up id m (e ∷ es) v (w ∷ ws) h up =
    let n : w.fid.vnode ≡ edit_number e = number_is id v e w h.0 in
    (subst (λ (k : ℕ). m ≤ k) n up.0, all_up id (edit_number e + 1) es v ws h.1 (subst (λ (k : ℕ). AscendsFrom (k + 1) (by_vnode ws)) n up.1))

pub all_found : (id : ℕ) (es : List Edit) (v : Volume) (ws : List Version) → TellsEach id v es ws → FindsAll es v
unfolding FindsAll
all_found id [] v ws h = tt
all_found id (e ∷ es) v [] h = absurd h
all_found id (e ∷ es) v (w ∷ ws) h = (finds_it id v e w h.0, all_found id es v ws h.1)
