-- What the record of a change tells is what its edits tell.
use Rattle.std.proofs.Common.{◌≡◌, ℕ, ◌+◌, ◌<◌, ◌≤◌, Bool, true, false, cond, List, [], ◌∷◌, ◌++◌, Option, Some, None, nat_eq, refl, sym, ap, subst, ◌∙◌, arith}
use Rattle.std.specs.Prelude.{◌||◌, ⊤}
use Rattle.std.proofs.lemmas.Bool.Decides.{nat_tests}
use Rattle.afs_num.specs.declared.types.Fid.{Fid}
use Rattle.afs_num.specs.declared.histories.Version.{Version}
use Rattle.spec_ideal.specs.ChangeLaws.{by_vnode, RaisesAt, Tells, TellsEach}
use Rattle.spec_ideal.specs.Images.{Image, image_of, value_of}
use Rattle.spec_ideal.specs.Tables.{Table, get, set, unset, AscendsFrom}
use Rattle.spec_ideal.specs.Volumes.{amended, amends, amends_at, counted, edit_number, edited, edited_all, fresh, frees, frees_at, makes, makes_at, version_at, versions_by, Amend, Edit, Vnode, Volume}
use Rattle.spec_ideal.proofs.Tables.{ascends_lower, ascends_set, get_set, get_unset}
use Rattle.spec_records.specs.Changes.{gone_between, image_left, images_left, numbers_gone}
use Rattle.spec_records.specs.Durable.{gone_versions, outcome_versions, with_outcomes, with_removed}
use Rattle.spec_records.specs.Laws.{ChangesAreTold}
use Rattle.spec_records.proofs.Kept.{all_keep, edited_keeps, is_edited, same_tables, value_back}

-- ---- the vnodes that are left

put_out : ℕ → Option Vnode → Table (Option Vnode) → Table (Option Vnode)
put_out n None t = t
put_out n (Some x) t = set n (Some x) t

put_outs : List Edit → Volume → Table (Option Vnode) → Table (Option Vnode)
put_outs [] after t = t
put_outs (e ∷ es) after t = put_outs es after (put_out (edit_number e) (get (edit_number e) after.vnodes) t)

out_step : (time n : ℕ) (o : Option Vnode) (is : List Image) (t : Table (Option Vnode)) → ((x : Vnode) → o ≡ Some x → value_of (image_of n time x) ≡ Some x) → with_outcomes (image_left time n o ++ is) t ≡ with_outcomes is (put_out n o t)
unfolding put_out
out_step time n None is t h = refl
out_step time n (Some x) is t h = rw (h x refl) refl

outs_put : (time : ℕ) (es : List Edit) (after : Volume) (t : Table (Option Vnode)) → ((n : ℕ) (x : Vnode) → get n after.vnodes ≡ Some x → value_of (image_of n time x) ≡ Some x) → with_outcomes (images_left time es after) t ≡ put_outs es after t
unfolding put_outs
outs_put time [] after t h = refl
outs_put time (e ∷ es) after t h =
    let n = edit_number e in
    out_step time n (get n after.vnodes) (images_left time es after) t (h n) ∙ outs_put time es after (put_out n (get n after.vnodes) t) h

or_out : Option Vnode → Option (Option Vnode) → Option (Option Vnode)
or_out None b = b
or_out (Some x) b = Some (Some x)

put_out_gets : (k n : ℕ) (o a : Option Vnode) (t : Table (Option Vnode)) (b : Bool) → nat_eq n k ≡ b → (b ≡ true → o ≡ a) → get k (put_out n o t) ≡ cond b (or_out a (get k t)) (get k t)
unfolding put_out or_out
put_out_gets k n None a t true is same = rw (← same refl) refl
put_out_gets k n (Some x) a t true is same = get_set k n (Some x) t ∙ rw (is, ← same refl) refl
put_out_gets k n None a t false is same = refl
put_out_gets k n (Some x) a t false is same = get_set k n (Some x) t ∙ rw is refl

out_twice : (b c : Bool) (a : Option Vnode) (o : Option (Option Vnode)) → cond c (or_out a (cond b (or_out a o) o)) (cond b (or_out a o) o) ≡ cond (b || c) (or_out a o) o
unfolding or_out
out_twice true true None o = refl
out_twice true true (Some x) o = refl
out_twice true false a o = refl
out_twice false true a o = refl
out_twice false false a o = refl

outs_gets : (k : ℕ) (es : List Edit) (after : Volume) (t : Table (Option Vnode)) → get k (put_outs es after t) ≡ cond (is_edited k es) (or_out (get k after.vnodes) (get k t)) (get k t)
unfolding put_outs
outs_gets k [] after t = refl
outs_gets k (e ∷ es) after t =
    let n = edit_number e in
    let one = put_out_gets k n (get n after.vnodes) (get k after.vnodes) t (nat_eq n k) refl (λ is. ap (λ (j : ℕ). get j after.vnodes) (grind (arith, nat_tests, is))) in
    outs_gets k es after (put_out n (get n after.vnodes) t)
    ∙ (ap (λ (o : Option (Option Vnode)). cond (is_edited k es) (or_out (get k after.vnodes) o) o) one
    ∙ out_twice (nat_eq n k) (is_edited k es) (get k after.vnodes) (get k t))

-- ---- and those that are gone

gone_out : Option Vnode → Option Vnode → Option (Option Vnode) → Option (Option Vnode)
gone_out (Some x) None o = Some None
gone_out b a o = o

gone_same : (b a bk ak : Option Vnode) (o : Option (Option Vnode)) → b ≡ bk → a ≡ ak → gone_out b a o ≡ gone_out bk ak o
gone_same b a bk ak o p q = ap (λ (c : Option Vnode). gone_out c a o) p ∙ ap (λ (c : Option Vnode). gone_out bk c o) q

gone_one : (k n : ℕ) (b a bk ak : Option Vnode) (ns : List ℕ) (t : Table (Option Vnode)) (same : Bool) → nat_eq n k ≡ same → (same ≡ true → (b ≡ bk) × (a ≡ ak)) →
    (u : Table (Option Vnode)) × ((with_removed (gone_between n b a ++ ns) t ≡ with_removed ns u) × (get k u ≡ cond same (gone_out bk ak (get k t)) (get k t)))
unfolding gone_out
gone_one k n (Some x) None bk ak ns t true is both = (set n None t, (refl, get_set k n None t ∙ (rw is refl ∙ gone_same (Some x) None bk ak (get k t) (both refl).0 (both refl).1)))
gone_one k n (Some x) None bk ak ns t false is both = (set n None t, (refl, get_set k n None t ∙ rw is refl))
gone_one k n (Some x) (Some y) bk ak ns t true is both = (t, (refl, gone_same (Some x) (Some y) bk ak (get k t) (both refl).0 (both refl).1))
gone_one k n (Some x) (Some y) bk ak ns t false is both = (t, (refl, refl))
gone_one k n None None bk ak ns t true is both = (t, (refl, gone_same None None bk ak (get k t) (both refl).0 (both refl).1))
gone_one k n None None bk ak ns t false is both = (t, (refl, refl))
gone_one k n None (Some y) bk ak ns t true is both = (t, (refl, gone_same None (Some y) bk ak (get k t) (both refl).0 (both refl).1))
gone_one k n None (Some y) bk ak ns t false is both = (t, (refl, refl))

gone_twice : (b c : Bool) (x y : Option Vnode) (o : Option (Option Vnode)) → cond c (gone_out x y (cond b (gone_out x y o) o)) (cond b (gone_out x y o) o) ≡ cond (b || c) (gone_out x y o) o
unfolding gone_out
gone_twice true true (Some x) None o = refl
gone_twice true true (Some x) (Some y) o = refl
gone_twice true true None None o = refl
gone_twice true true None (Some y) o = refl
gone_twice true false x y o = refl
gone_twice false true x y o = refl
gone_twice false false x y o = refl

gone_gets : (k : ℕ) (es : List Edit) (before after : Volume) (t : Table (Option Vnode)) → get k (with_removed (numbers_gone es before after) t) ≡ cond (is_edited k es) (gone_out (get k before.vnodes) (get k after.vnodes) (get k t)) (get k t)
gone_gets k [] before after t = refl
gone_gets k (e ∷ es) before after t =
    let n = edit_number e in
    let one = gone_one k n (get n before.vnodes) (get n after.vnodes) (get k before.vnodes) (get k after.vnodes) (numbers_gone es before after) t (nat_eq n k) refl
    (λ is. (let j : n ≡ k = grind (arith, nat_tests, is) in (ap (λ (i : ℕ). get i before.vnodes) j, ap (λ (i : ℕ). get i after.vnodes) j))) in
    ap (λ (u : Table (Option Vnode)). get k u) one.1.0
    ∙ (gone_gets k es before after one.0
    ∙ (ap (λ (o : Option (Option Vnode)). cond (is_edited k es) (gone_out (get k before.vnodes) (get k after.vnodes) o) o) one.1.1
    ∙ gone_twice (nat_eq n k) (is_edited k es) (get k before.vnodes) (get k after.vnodes) (get k t)))

-- ---- the same, edit by edit

comes_to : Option Vnode → Option Vnode → Option (Option Vnode)
comes_to b (Some x) = Some (Some x)
comes_to (Some y) None = Some None
comes_to None None = None

comes : (c : Bool) (b a : Option Vnode) → cond c (gone_out b a (cond c (or_out a None) None)) (cond c (or_out a None) None) ≡ cond c (comes_to b a) None
unfolding gone_out or_out comes_to
comes true (Some y) None = refl
comes true (Some y) (Some x) = refl
comes true None None = refl
comes true None (Some x) = refl
comes false b a = refl

outcome_at : ℕ → Option Vnode → Option Vnode → Table (Option Vnode)
outcome_at n b (Some x) = (n, Some x) ∷ []
outcome_at n (Some y) None = (n, None) ∷ []
outcome_at n None None = []

outcomes : List Edit → Table Vnode → Table Vnode → Table (Option Vnode)
outcomes [] before after = []
outcomes (e ∷ es) before after = outcome_at (edit_number e) (get (edit_number e) before) (get (edit_number e) after) ++ outcomes es before after

or_first : Option (Option Vnode) → Option (Option Vnode) → Option (Option Vnode)
or_first None o = o
or_first (Some y) o = Some y

outcome_gets : (k n : ℕ) (b a bk ak : Option Vnode) (t : Table (Option Vnode)) (same : Bool) → nat_eq n k ≡ same → (same ≡ true → (b ≡ bk) × (a ≡ ak)) → get k (outcome_at n b a ++ t) ≡ cond same (or_first (comes_to bk ak) (get k t)) (get k t)
unfolding outcome_at or_first comes_to
outcome_gets k n b (Some x) bk ak t true is both = rw is (ap (λ (o : Option (Option Vnode)). or_first o (get k t)) (ap (comes_to b) (both refl).1 ∙ ap (λ (c : Option Vnode). comes_to c ak) (both refl).0))
outcome_gets k n (Some y) None bk ak t true is both = rw is (ap (λ (o : Option (Option Vnode)). or_first o (get k t)) (ap (comes_to (Some y)) (both refl).1 ∙ ap (λ (c : Option Vnode). comes_to c ak) (both refl).0))
outcome_gets k n None None bk ak t true is both = ap (λ (o : Option (Option Vnode)). or_first o (get k t)) (ap (comes_to None) (both refl).1 ∙ ap (λ (c : Option Vnode). comes_to c ak) (both refl).0)
outcome_gets k n b (Some x) bk ak t false is both = rw is refl
outcome_gets k n (Some y) None bk ak t false is both = rw is refl
outcome_gets k n None None bk ak t false is both = refl

firsts : (s e : Bool) (c : Option (Option Vnode)) → cond s (or_first c (cond e c None)) (cond e c None) ≡ cond (s || e) c None
unfolding or_first
firsts true true None = refl
firsts true false None = refl
firsts true e (Some y) = refl
firsts false e c = refl

outcomes_gets : (k : ℕ) (es : List Edit) (before after : Table Vnode) → get k (outcomes es before after) ≡ cond (is_edited k es) (comes_to (get k before) (get k after)) None
unfolding outcomes
outcomes_gets k [] before after = refl
outcomes_gets k (e ∷ es) before after =
    let n = edit_number e in
    let c = comes_to (get k before) (get k after) in
    outcome_gets k n (get n before) (get n after) (get k before) (get k after) (outcomes es before after) (nat_eq n k) refl
    (λ is. (let j : n ≡ k = grind (arith, nat_tests, is) in (ap (λ (i : ℕ). get i before) j, ap (λ (i : ℕ). get i after) j)))
    ∙ (ap (λ (o : Option (Option Vnode)). cond (nat_eq n k) (or_first c o) o) (outcomes_gets k es before after) ∙ firsts (nat_eq n k) (is_edited k es) c)

-- ---- in order

-- the numbers ascend
Up : ℕ → List Edit → Type 0
Up m [] = ⊤
Up m (e ∷ es) = (m ≤ edit_number e) × Up (edit_number e + 1) es

one_up : (m n : ℕ) (b a : Option Vnode) (t : Table (Option Vnode)) → m ≤ n → AscendsFrom (n + 1) t → AscendsFrom m (outcome_at n b a ++ t)
unfolding outcome_at
one_up m n b (Some x) t le up = (le, up)
one_up m n (Some y) None t le up = (le, up)
one_up m n None None t le up = ascends_lower m (n + 1) t (omega (arith, le)) up

outcomes_up : (m : ℕ) (es : List Edit) (before after : Table Vnode) → Up m es → AscendsFrom m (outcomes es before after)
unfolding outcomes Up
outcomes_up m [] before after up = tt
outcomes_up m (e ∷ es) before after up = one_up m (edit_number e) (get (edit_number e) before) (get (edit_number e) after) (outcomes es before after) up.0 (outcomes_up (edit_number e + 1) es before after up.1)

put_out_up : (n : ℕ) (o : Option Vnode) (t : Table (Option Vnode)) → AscendsFrom 0 t → AscendsFrom 0 (put_out n o t)
unfolding put_out
put_out_up n None t up = up
put_out_up n (Some x) t up = ascends_set 0 n (Some x) t (omega arith) up

outs_up : (es : List Edit) (after : Volume) (t : Table (Option Vnode)) → AscendsFrom 0 t → AscendsFrom 0 (put_outs es after t)
unfolding put_outs
outs_up [] after t up = up
outs_up (e ∷ es) after t up = outs_up es after (put_out (edit_number e) (get (edit_number e) after.vnodes) t) (put_out_up (edit_number e) (get (edit_number e) after.vnodes) t up)

removed_up : (ns : List ℕ) (t : Table (Option Vnode)) → AscendsFrom 0 t → AscendsFrom 0 (with_removed ns t)
removed_up [] t up = up
removed_up (n ∷ ns) t up = removed_up ns (set n None t) (ascends_set 0 n None t (omega arith) up)

same_outcomes : (time : ℕ) (es : List Edit) (before after : Volume) → Up 0 es → ((n : ℕ) (x : Vnode) → get n after.vnodes ≡ Some x → value_of (image_of n time x) ≡ Some x) →
    with_removed (numbers_gone es before after) (with_outcomes (images_left time es after) []) ≡ outcomes es before.vnodes after.vnodes
same_outcomes time es before after up values =
    ap (with_removed (numbers_gone es before after)) (outs_put time es after [] values)
    ∙ same_tables 0 0 (with_removed (numbers_gone es before after) (put_outs es after [])) (outcomes es before.vnodes after.vnodes)
    (removed_up (numbers_gone es before after) (put_outs es after []) (outs_up es after [] tt)) (outcomes_up 0 es before.vnodes after.vnodes up)
    (λ k. gone_gets k es before after (put_outs es after [])
    ∙ (ap (λ (o : Option (Option Vnode)). cond (is_edited k es) (gone_out (get k before.vnodes) (get k after.vnodes) o) o) (outs_gets k es after [])
    ∙ (comes (is_edited k es) (get k before.vnodes) (get k after.vnodes) ∙ sym (outcomes_gets k es before.vnodes after.vnodes))))

-- ---- what each edit tells

told_one : ℕ → ℕ → Option Vnode → Option Vnode → List Version
told_one id n b (Some x) = version_at id n x ∷ []
told_one id n b None = gone_versions id n b

told_all : ℕ → List Edit → Table Vnode → Table Vnode → List Version
told_all id [] before after = []
told_all id (e ∷ es) before after = told_one id (edit_number e) (get (edit_number e) before) (get (edit_number e) after) ++ told_all id es before after

outcome_told : (id n : ℕ) (b a : Option Vnode) (before : Volume) (rest : Table (Option Vnode)) → get n before.vnodes ≡ b → outcome_versions id before (outcome_at n b a ++ rest) ≡ told_one id n b a ++ outcome_versions id before rest
unfolding outcome_at told_one
outcome_told id n b (Some x) before rest is = refl
outcome_told id n (Some y) None before rest is = rw is refl
outcome_told id n None None before rest is = refl

outcomes_told : (id : ℕ) (es : List Edit) (before : Volume) (after : Table Vnode) → outcome_versions id before (outcomes es before.vnodes after) ≡ told_all id es before.vnodes after
unfolding outcomes told_all
outcomes_told id [] before after = refl
outcomes_told id (e ∷ es) before after =
    let n = edit_number e in
    outcome_told id n (get n before.vnodes) (get n after) before (outcomes es before.vnodes after) refl
    ∙ ap (λ (vs : List Version). told_one id n (get n before.vnodes) (get n after) ++ vs) (outcomes_told id es before after)

-- a new vnode has a number that was free
Finds : Edit → Option Vnode → Type 0
Finds (makes n x) o = o ≡ None
Finds (amends n a) o = ⊤
Finds (frees n) o = ⊤

there : {A : Type 0} (n : ℕ) (x : A) (t : Table A) → get n (set n x t) ≡ Some x
there {A} n x t = get_set n n x t ∙ rw (let z : nat_eq n n ≡ true = grind (arith, nat_tests) in z) refl

missing : {A : Type 0} (n : ℕ) (t : Table A) → get n (unset n t) ≡ None
missing {A} n t = get_unset n n t ∙ rw (let z : nat_eq n n ≡ true = grind (arith, nat_tests) in z) refl

amend_told : (id n : ℕ) (a : Amend) (v : Volume) (o : Option Vnode) → get n v.vnodes ≡ o → (amends_at id n a v (get n v.vnodes)).versions ≡ told_one id n o (get n (amends_at id n a v (get n v.vnodes)).volume.vnodes)
unfolding told_one
amend_told id n a v None is = rw is (sym (ap (told_one id n None) is))
amend_told id n a v (Some x) is = rw (is, there n (amended (v.counter + 1) a x) v.vnodes) refl

make_told : (id n : ℕ) (y : Vnode) (v : Volume) (o : Option Vnode) → get n v.vnodes ≡ o → o ≡ None → (makes_at id n y v (get n v.vnodes)).versions ≡ told_one id n o (get n (makes_at id n y v (get n v.vnodes)).volume.vnodes)
unfolding told_one
make_told id n y v None is free = rw (is, there n (fresh (v.counter + 1) v.next y) v.vnodes) refl
make_told id n y v (Some x) is free = absurd cc

free_told : (id n : ℕ) (v : Volume) (o : Option Vnode) → get n v.vnodes ≡ o → (frees_at id n v (get n v.vnodes)).versions ≡ told_one id n o (get n (frees_at id n v (get n v.vnodes)).volume.vnodes)
unfolding told_one
free_told id n v None is = rw is (sym (ap (told_one id n None) is))
free_told id n v (Some x) is = rw (is, missing n v.vnodes) refl

edit_told : (id : ℕ) (e : Edit) (v : Volume) (o : Option Vnode) → get (edit_number e) v.vnodes ≡ o → Finds e o → (edited id e v).versions ≡ told_one id (edit_number e) o (get (edit_number e) (edited id e v).volume.vnodes)
unfolding Finds
edit_told id (amends n a) v o is finds = amend_told id n a v o is
edit_told id (makes n y) v o is finds = make_told id n y v o is finds
edit_told id (frees n) v o is finds = free_told id n v o is

-- ---- and all of them

Same : List Edit → Volume → Volume → Type 0
Same [] v w = ⊤
Same (e ∷ es) v w = (get (edit_number e) v.vnodes ≡ get (edit_number e) w.vnodes) × Same es v w

same_itself : (es : List Edit) (v : Volume) → Same es v v
unfolding Same
same_itself [] v = tt
same_itself (e ∷ es) v = (refl, same_itself es v)

not_edited : (n m : ℕ) (es : List Edit) → n < m → Up m es → is_edited n es ≡ false
unfolding Up
not_edited n m [] lt up = refl
not_edited n m (e ∷ es) lt up =
    let other : nat_eq (edit_number e) n ≡ false = let le : m ≤ edit_number e = up.0 in grind (arith, nat_tests, lt, le) in
    rw other (not_edited n (edit_number e + 1) es (let le : m ≤ edit_number e = up.0 in omega (arith, lt, le)) up.1)

still : (id m : ℕ) (d : Edit) (es : List Edit) (v w : Volume) → edit_number d < m → Up m es → Same es v w → Same es (edited id d v).volume w
unfolding Same Up
still id m d [] v w lt up same = tt
still id m d (e ∷ es) v w lt up same =
    let le : m ≤ edit_number e = up.0 in
    let other : nat_eq (edit_number d) (edit_number e) ≡ false = grind (arith, nat_tests, lt, le) in
    (edited_keeps id (edit_number e) d v (get (edit_number d) v.vnodes) refl other ∙ same.0, still id (edit_number e + 1) d es v w (omega (arith, lt, le)) up.1 same.1)

FindsAll : List Edit → Volume → Type 0
FindsAll [] v = ⊤
FindsAll (e ∷ es) v = Finds e (get (edit_number e) v.vnodes) × FindsAll es v

all_told : (id m : ℕ) (es : List Edit) (v w : Volume) → Up m es → Same es v w → FindsAll es w → versions_by id es v ≡ told_all id es w.vnodes (edited_all id es v).vnodes
unfolding Up Same FindsAll told_all
all_told id m [] v w up same finds = refl
all_told id m (e ∷ es) v w up same finds =
    let n = edit_number e in
    let after : Volume = (edited id e v).volume in
    let now : (edited id e v).versions ≡ told_one id n (get n w.vnodes) (get n (edited_all id es after).vnodes) =
    edit_told id e v (get n w.vnodes) same.0 finds.0 ∙ ap (told_one id n (get n w.vnodes)) (sym (all_keep id n es after (not_edited n (n + 1) es (omega arith) up.1))) in
    ap (λ (vs : List Version). vs ++ versions_by id es after) now
    ∙ ap (λ (vs : List Version). told_one id n (get n w.vnodes) (get n (edited_all id es after).vnodes) ++ vs) (all_told id (n + 1) es after w up.1 (still id (n + 1) e es v w (omega arith) up.1 same.1) finds.1)

-- ---- one change

raised_number : (id n : ℕ) (o : Option Vnode) (body : Bool) (w : Version) → RaisesAt id n o body w → w.fid.vnode ≡ n
raised_number id n None body w h = absurd h
raised_number id n (Some x) body w h = ap (λ (f : Fid). f.vnode) h.fid

number_is : (id : ℕ) (v : Volume) (e : Edit) (w : Version) → Tells id v e w → w.fid.vnode ≡ edit_number e
number_is id v (amends n a) w h = raised_number id n (get n v.vnodes) _ w h
number_is id v (frees n) w h = raised_number id n (get n v.vnodes) true w h.0
number_is id v (makes n x) w h = ap (λ (f : Fid). f.vnode) h.0.fid

finds_it : (id : ℕ) (v : Volume) (e : Edit) (w : Version) → Tells id v e w → Finds e (get (edit_number e) v.vnodes)
unfolding Finds
finds_it id v (amends n a) w h = tt
finds_it id v (frees n) w h = tt
finds_it id v (makes n x) w h = h.1

all_up : (id m : ℕ) (es : List Edit) (v : Volume) (ws : List Version) → TellsEach id v es ws → AscendsFrom m (by_vnode ws) → Up m es
unfolding Up
all_up id m [] v ws h up = tt
all_up id m (e ∷ es) v [] h up = absurd h
all_up id m (e ∷ es) v (w ∷ ws) h up =
    let n : w.fid.vnode ≡ edit_number e = number_is id v e w h.0 in
    (subst (λ (k : ℕ). m ≤ k) n up.0, all_up id (edit_number e + 1) es v ws h.1 (subst (λ (k : ℕ). AscendsFrom (k + 1) (by_vnode ws)) n up.1))

all_found : (id : ℕ) (es : List Edit) (v : Volume) (ws : List Version) → TellsEach id v es ws → FindsAll es v
unfolding FindsAll
all_found id [] v ws h = tt
all_found id (e ∷ es) v [] h = absurd h
all_found id (e ∷ es) v (w ∷ ws) h = (finds_it id v e w h.0, all_found id es v ws h.1)

pub changes_told : ChangesAreTold
changes_told id time es s one can =
    let before : Volume = s.volume in
    let after : Volume = edited_all id es before in
    let up : Up 0 es = all_up id 0 es before (versions_by id es before) one.told one.ascending in
    ap (outcome_versions id before) (same_outcomes time es before (counted after) up (λ n x e. value_back n time x (can.sound.vnodes n x e).body (can.images n x e).names))
    ∙ (outcomes_told id es before after.vnodes ∙ sym (all_told id 0 es before before up (same_itself es before) (all_found id es before (versions_by id es before) one.told)))
