-- Edits of different vnodes: each tells one version, of the volume as it was before all of them.
use Rattle.std.proofs.Common.{◌≡◌, ℕ, ◌+◌, ◌<◌, ◌≤◌, Bool, true, false, cond, eqb, ltb, List, [], ◌∷◌, ◌++◌, length, Option, Some, None, refl, sym, ap, subst, ◌∙◌, arith, eqb-true, ltb-true, ltb-false}
use Rattle.std.specs.Prelude.{nat_lt, ⊤, if◌then◌else◌}
use Rattle.std.specs.List.{AllByRecursion}
use Rattle.afs_num.specs.Fids.{same_fid}
use Rattle.afs_num.specs.declared.types.Fid.{Fid}
use Rattle.afs_num.specs.declared.calls.FsCall.{FsCall}
use Rattle.afs_num.specs.declared.histories.Version.{Version}
use Rattle.spec_ideal.specs.Tables.{get, AscendsFrom}
use Rattle.spec_ideal.specs.Volumes.{Vnode, Volume, Edit, amends, makes, frees, has_body, amended, fresh, version_at, gone_at, amends_at, makes_at, frees_at, edited, edited_all, versions_by, edit_number, edit_put, ascending}
use Rattle.spec_ideal.specs.Told.{touches, fid_at}
use Rattle.spec_ideal.specs.ChangeLaws.{may_touch, RaisesAt, Tells, TellsEach, by_vnode, IsOneChange}
use Rattle.spec_ideal.proofs.Basics.{same_fid-true}
use Rattle.spec_ideal.proofs.Looks.{edit_look, same_next, next_all, Distinct, MakesAs, later_makes, each_ascending, distinct_ascending}
use Rattle.spec_ideal.proofs.Preserved.{ascending_some}

-- ---- one edit

abbrev pub unique_in : Option Vnode → ℕ
unique_in None = 0
unique_in (Some x) = x.unique

-- the fid of which it tells
abbrev pub edited_fid : ℕ → Volume → Edit → Fid
edited_fid id v (amends n a) = fid_at id n (unique_in (get n v.vnodes))
edited_fid id v (frees n) = fid_at id n (unique_in (get n v.vnodes))
edited_fid id v (makes n x) = fid_at id n v.next

-- a vnode is there, or none where one is made
abbrev pub Finds : Edit → Option Vnode → Type 0
Finds (makes n x) o = o ≡ None
Finds e o = (x : Vnode) × (o ≡ Some x)

raised_fid : (id n : ℕ) (o : Option Vnode) (body : Bool) (w : Version) → RaisesAt id n o body w → w.fid ≡ fid_at id n (unique_in o)
raised_fid id n None body w h = absurd h
raised_fid id n (Some x) body w h = h.fid

tells_fid : (id : ℕ) (v : Volume) (e : Edit) (w : Version) → Tells id v e w → w.fid ≡ edited_fid id v e
tells_fid id v (amends n a) w h = raised_fid id n (get n v.vnodes) (has_body a.contents a.names) w h
tells_fid id v (frees n) w h = raised_fid id n (get n v.vnodes) true w h.0
tells_fid id v (makes n x) w h = h.0.fid

edited_number : (id : ℕ) (v : Volume) (e : Edit) → (edited_fid id v e).vnode ≡ edit_number e
edited_number id v (amends n a) = refl
edited_number id v (frees n) = refl
edited_number id v (makes n x) = refl

-- after edits of other vnodes it tells what it would have told at first
abbrev OneTold : ℕ → Volume → Volume → Edit → Type 0
OneTold id first v e = (w : Version) × (((edited id e v).versions ≡ w ∷ []) × Tells id first e w)

one_told : (id : ℕ) (first v : Volume) (e : Edit) (es : List Edit) → Finds e (get (edit_number e) first.vnodes) → get (edit_number e) v.vnodes ≡ get (edit_number e) first.vnodes → MakesAs first.next v.next (e ∷ es) → OneTold id first v e
one_told id first v (amends n a) es f same one =
    let w : Version = version_at id n (amended (v.counter + 1) a f.0) in
    (w, (ap (λ (o : Option Vnode). (amends_at id n a v o).versions) (same ∙ f.1), subst (λ (o : Option Vnode). RaisesAt id n o (has_body a.contents a.names) w) (sym f.1) (record { fid = refl; index = refl; data_version = refl })))
one_told id first v (frees n) es f same one =
    let w : Version = gone_at id n f.0 in
    (w, (ap (λ (o : Option Vnode). (frees_at id n v o).versions) (same ∙ f.1), (subst (λ (o : Option Vnode). RaisesAt id n o true w) (sym f.1) (record { fid = refl; index = refl; data_version = refl }), refl)))
one_told id first v (makes n x) es f same one =
    let w : Version = version_at id n (fresh (v.counter + 1) v.next x) in
    (w, (ap (λ (o : Option Vnode). (makes_at id n x v o).versions) (same ∙ f), (record { fid = ap (fid_at id n) one.0; index = refl; data_version = refl }, f)))

-- ---- all of them

unchanged_by : (b : Bool) (n m : ℕ) (a o : Option Vnode) → eqb n m ≡ b → (m ≡ n → ⊥) → cond b a o ≡ o
unchanged_by true n m a o e ne = absurd (ne (sym (eqb-true n m e)))
unchanged_by false n m a o e ne = refl

abbrev pub AreAs : Volume → Volume → List Edit → Type 0
AreAs first v es = AllByRecursion (λ (d : Edit). get (edit_number d) v.vnodes ≡ get (edit_number d) first.vnodes) es

pub as_before : (id : ℕ) (e : Edit) (es : List Edit) (first v : Volume) → AllByRecursion (λ (d : Edit). edit_number d ≡ edit_number e → ⊥) es → AreAs first v es → AreAs first (edited id e v).volume es
as_before id e [] first v apart same = tt
as_before id e (d ∷ ds) first v apart same =
    (edit_look id (edit_number d) e v ∙ (unchanged_by (eqb (edit_number e) (edit_number d)) (edit_number e) (edit_number d) _ (get (edit_number d) v.vnodes) refl apart.0 ∙ same.0), as_before id e ds first v apart.1 same.1)

told_each : (id : ℕ) (es : List Edit) (first v : Volume) → Distinct es → MakesAs first.next v.next es → AllByRecursion (λ (e : Edit). Finds e (get (edit_number e) first.vnodes)) es → AreAs first v es → TellsEach id first es (versions_by id es v)
told_each id [] first v apart one finds same = tt
told_each id (e ∷ es) first v apart one finds same =
    let t = one_told id first v e es finds.0 same.0 one in
    let rest = told_each id es first (edited id e v).volume apart.1 (later_makes id first.next e es v one) finds.1 (as_before id e es first v apart.0 same.1) in
    subst (λ (vs : List Version). TellsEach id first (e ∷ es) (vs ++ versions_by id es (edited id e v).volume)) (sym t.1.0) (t.1.1, rest)

pub same_all : (v : Volume) (es : List Edit) → AreAs v v es
same_all v [] = tt
same_all v (e ∷ es) = (refl, same_all v es)

-- ---- their order

abbrev Up : ℕ → List Edit → Type 0
Up k [] = ⊤
Up k (e ∷ es) = (k ≤ edit_number e) × Up (edit_number e + 1) es

above : (a b : ℕ) → a ≤ b → (b ≡ a → ⊥) → a + 1 ≤ b
above a b le ne = above_by (ltb a b) refl
  where
    above_by : (t : Bool) → ltb a b ≡ t → a + 1 ≤ b
    above_by true e = let z : a < b = ltb-true a b e in omega (arith, z)
    above_by false e = let z : b ≤ a = ltb-false a b e in absurd (ne (omega (arith, z, le)))

placed_by : (t : Bool) (k : ℕ) (e d : Edit) (ds : List Edit) → nat_lt (edit_number d) (edit_number e) ≡ t → k ≤ edit_number e → k ≤ edit_number d → Up (edit_number d + 1) ds → (edit_number d ≡ edit_number e → ⊥) → (edit_number d + 1 ≤ edit_number e → Up (edit_number d + 1) (edit_put e ds))
    → Up k (if t then d ∷ edit_put e ds else e ∷ d ∷ ds)
placed_by true k e d ds t le led up ne more = (led, more (let z : edit_number d < edit_number e = ltb-true (edit_number d) (edit_number e) t in omega (arith, z)))
placed_by false k e d ds t le led up ne more = (le, (above (edit_number e) (edit_number d) (ltb-false (edit_number d) (edit_number e) t) ne, up))

placed_up : (k : ℕ) (e : Edit) (ds : List Edit) → k ≤ edit_number e → Up k ds → AllByRecursion (λ (d : Edit). edit_number d ≡ edit_number e → ⊥) ds → Up k (edit_put e ds)
placed_up k e [] le up apart = (le, tt)
placed_up k e (d ∷ ds) le up apart = placed_by (nat_lt (edit_number d) (edit_number e)) k e d ds refl le up.0 up.1 apart.0 (λ lt. placed_up (edit_number d + 1) e ds lt up.1 apart.1)

ascending_up : (es : List Edit) → Distinct es → Up 0 (ascending es)
ascending_up [] apart = tt
ascending_up (e ∷ es) apart = placed_up 0 e (ascending es) (omega arith) (ascending_up es apart.1) (each_ascending (λ (d : Edit). edit_number d ≡ edit_number e → ⊥) es apart.0)

versions_up : (id : ℕ) (v : Volume) (k : ℕ) (es : List Edit) (ws : List Version) → Up k es → TellsEach id v es ws → AscendsFrom k (by_vnode ws)
versions_up id v k [] [] up h = tt
versions_up id v k [] (w ∷ ws) up h = absurd h
versions_up id v k (e ∷ es) [] up h = absurd h
versions_up id v k (e ∷ es) (w ∷ ws) up h =
    let number : edit_number e ≡ w.fid.vnode = sym (ap (λ (f : Fid). f.vnode) (tells_fid id v e w h.0) ∙ edited_number id v e) in
    (subst (λ (n : ℕ). k ≤ n) number up.0, subst (λ (n : ℕ). AscendsFrom (n + 1) (by_vnode ws)) number (versions_up id v (edit_number e + 1) es ws up.1 h.1))

-- ---- how many, and of which fids

told_some : (id : ℕ) (v : Volume) (es : List Edit) (ws : List Version) → 0 < length es → TellsEach id v es ws → 0 < length ws
told_some id v [] ws some h = absurd (omega (arith, some))
told_some id v (e ∷ es) [] some h = absurd h
told_some id v (e ∷ es) (w ∷ ws) some h = omega arith

made_next : (id n : ℕ) (x : Vnode) (v : Volume) (o : Option Vnode) → (makes_at id n x v o).volume.next ≤ v.next + 1
made_next id n x v None = omega arith
made_next id n x v (Some y) = omega arith

next_most : (id u : ℕ) (es : List Edit) (v : Volume) → MakesAs u v.next es → (edited_all id es v).next ≤ v.next + 1
next_most id u [] v h = omega arith
next_most id u (amends n a ∷ es) v h = subst (λ (k : ℕ). (edited_all id es (edited id (amends n a) v).volume).next ≤ k + 1) (same_next id (amends n a) v tt) (next_most id u es (edited id (amends n a) v).volume (later_makes id u (amends n a) es v h))
next_most id u (frees n ∷ es) v h = subst (λ (k : ℕ). (edited_all id es (edited id (frees n) v).volume).next ≤ k + 1) (same_next id (frees n) v tt) (next_most id u es (edited id (frees n) v).volume (later_makes id u (frees n) es v h))
next_most id u (makes n x ∷ es) v h = subst (λ (k : ℕ). k ≤ v.next + 1) (sym (next_all id es (edited id (makes n x) v).volume h.1)) (made_next id n x v (get n v.vnodes))

own_by : (t : Bool) (Q : Fid → Bool) (f g : Fid) (more : Bool) → same_fid f g ≡ t → Q f ≡ true → (more ≡ true → Q g ≡ true) → cond t true more ≡ true → Q g ≡ true
own_by true Q f g more t q rest e = subst (λ (h : Fid). Q h ≡ true) (same_fid-true f g t) q
own_by false Q f g more t q rest e = rest e

touched_own : (Q : Fid → Bool) (id : ℕ) (v : Volume) (es : List Edit) (ws : List Version) (g : Fid) → AllByRecursion (λ (e : Edit). Q (edited_fid id v e) ≡ true) es → TellsEach id v es ws → touches g ws ≡ true → Q g ≡ true
touched_own Q id v [] [] g own h t = absurd cc
touched_own Q id v [] (w ∷ ws) g own h t = absurd h
touched_own Q id v (e ∷ es) [] g own h t = absurd h
touched_own Q id v (e ∷ es) (w ∷ ws) g own h t =
    own_by (same_fid w.fid g) Q w.fid g (touches g ws) refl (subst (λ (f : Fid). Q f ≡ true) (sym (tells_fid id v e w h.0)) own.0) (touched_own Q id v es ws g own.1 h.1) t

-- ---- edits as a call makes them, in any order

-- each of a vnode that is there, or a new one
abbrev pub FindEach : Volume → List Edit → Type 0
FindEach v es = AllByRecursion (λ (e : Edit). Finds e (get (edit_number e) v.vnodes)) es

-- of a vnode that is there, or a new one, and one of the call's own
pub record IsFit (id : ℕ) (call : FsCall) (v : Volume) (e : Edit) : Type 0 where
  pub finds : Finds e (get (edit_number e) v.vnodes)
  pub own : may_touch call v (edited_fid id v e) ≡ true

pub record Proper (id : ℕ) (call : FsCall) (v : Volume) (ds : List Edit) : Type 0 where
  pub apart : Distinct ds
  pub one : MakesAs v.next v.next (ascending ds)
  pub fit : AllByRecursion (IsFit id call v) ds
  pub some : 0 < length ds
  pub few : length ds ≤ 4

pub record Change (id : ℕ) (call : FsCall) (v : Volume) (es : List Edit) : Type 0 where
  pub is : IsOneChange id es v
  pub apart : Distinct es
  pub one : MakesAs v.next v.next es
  pub finds : FindEach v es
  pub few : length es ≤ 4
  pub own : (g : Fid) → touches g (versions_by id es v) ≡ true → may_touch call v g ≡ true

each_edit : (P Q : Edit → Type 0) (es : List Edit) → ((e : Edit) → P e → Q e) → AllByRecursion P es → AllByRecursion Q es
each_edit P Q [] f h = tt
each_edit P Q (e ∷ es) f h = (f e h.0, each_edit P Q es f h.1)

placed_length : (b : Bool) (e d : Edit) (ds : List Edit) → length (edit_put e ds) ≡ 1 + length ds → length (if b then d ∷ edit_put e ds else e ∷ d ∷ ds) ≡ 1 + length (d ∷ ds)
placed_length true e d ds h = omega (arith, h)
placed_length false e d ds h = omega arith

one_placed : (e : Edit) (ds : List Edit) → length (edit_put e ds) ≡ 1 + length ds
one_placed e [] = refl
one_placed e (d ∷ ds) = placed_length (nat_lt (edit_number d) (edit_number e)) e d ds (one_placed e ds)

ascending_length : (es : List Edit) → length (ascending es) ≡ length es
ascending_length [] = refl
ascending_length (e ∷ es) = let one = one_placed e (ascending es) in let more = ascending_length es in omega (arith, one, more)

pub as_change : (id : ℕ) (call : FsCall) (v : Volume) (ds : List Edit) → Proper id call v ds → Change id call v (ascending ds)
as_change id call v ds p =
    let es : List Edit = ascending ds in
    let fit : AllByRecursion (IsFit id call v) es = each_ascending (IsFit id call v) ds p.fit in
    let finds : FindEach v es = each_edit (IsFit id call v) (λ (e : Edit). Finds e (get (edit_number e) v.vnodes)) es (λ e f. f.finds) fit in
    let told : TellsEach id v es (versions_by id es v) = told_each id es v v (distinct_ascending ds p.apart) p.one finds (same_all v es) in
    record {
      is = record {
        some = told_some id v es (versions_by id es v) (ascending_some ds p.some) told;
        ascending = versions_up id v 0 es (versions_by id es v) (ascending_up ds p.apart) told;
        told = told;
        one_new = next_most id v.next es v p.one;
      };
      apart = distinct_ascending ds p.apart;
      one = p.one;
      finds = finds;
      few = (let long = ascending_length ds in let few = p.few in omega (arith, long, few));
      own = λ g t. touched_own (may_touch call v) id v es (versions_by id es v) g (each_edit (IsFit id call v) (λ (e : Edit). may_touch call v (edited_fid id v e) ≡ true) es (λ e f. f.own) fit) told t;
    }
