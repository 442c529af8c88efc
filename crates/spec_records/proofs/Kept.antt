-- The fold of the record of a change puts the volume that the edits make.
use Rattle.std.proofs.Common.{◌≡◌, ℕ, ◌+◌, ◌<◌, ◌≤◌, Bool, true, false, cond, List, [], ◌∷◌, ◌++◌, length, Option, Some, None, nat_eq, refl, sym, ap, ◌∙◌, arith, inl, inr, le-ltb}
use Rattle.std.specs.Prelude.{◌||◌}
use Rattle.std.specs.List.{list_all}
use Rattle.std.proofs.lemmas.Bool.{cases_lt}
use Rattle.std.proofs.lemmas.Bool.Decides.{nat_tests}
use Rattle.spec_ideal.specs.Tables.{Table, get, set, unset, AscendsFrom}
use Rattle.spec_ideal.specs.Directories.{FitNames}
use Rattle.spec_ideal.specs.Images.{Image, acl_by, image_of, kind_of, value_of_kind, value_of}
use Rattle.spec_ideal.specs.VnodeMaps.{most_vnodes}
use Rattle.spec_ideal.specs.Volumes.{VnodeKind, a_file, a_directory, a_link, type_of, bytes_by, Vnode, Volume, Edit, amends, makes, frees, edit_number, edited, edited_all, counted}
use Rattle.spec_ideal.specs.Soundness.{HasByKind}
use Rattle.spec_ideal.proofs.Tables.{get_below, ascends_set, ascends_unset, get_set, get_unset}
use Rattle.spec_ideal.proofs.AccessLists.{acl_again}
use Rattle.spec_ideal.proofs.DirectoryBytes.{spelled_is_read}
use Rattle.spec_records.specs.Sound.{is_sound}
use Rattle.spec_records.specs.Durable.{Stored, allowed, with_images, is_there, without_one, without, counted_as, changed_stored}
use Rattle.spec_records.specs.Changes.{image_left, images_left, gone_between, numbers_gone, set_times, unset_times, stored_after, stored_between}

-- ---- a value that is spelled as an image is read again

image_with : VnodeKind → ℕ → ℕ → Vnode → Image
image_with k n time x = record (image_of n time x) { kind = type_of k; acl = acl_by k x; contents = bytes_by k x }

empty : {A : Type 0} → List A
empty = []

value_with_kind : (k : VnodeKind) (n time : ℕ) (x : Vnode) → HasByKind k x → FitNames x.names → value_of_kind (kind_of (type_of k)) (image_with k n time x) ≡ Some (record x { kind = k })
unfolding image_with
value_with_kind a_file n time x h fit = rw (h.names, h.acl) refl
value_with_kind a_link n time x h fit = rw (h.names, h.acl) refl
value_with_kind a_directory n time x h fit = rw (spelled_is_read x.names h.names fit, acl_again x.acl h.acl, h.contents) refl

pub value_back : (n time : ℕ) (x : Vnode) → HasByKind x.kind x → FitNames x.names → value_of (image_of n time x) ≡ Some x
unfolding value_of image_with
value_back n time x h fit = value_with_kind x.kind n time x h fit

-- ---- tables with the same entries are the same

here : {A : Type 0} (p : ℕ × A) (ps : Table A) → get p.0 (p ∷ ps) ≡ Some p.1
here {A} p ps = grind (arith, nat_tests)

elsewhere : {A : Type 0} (k : ℕ) (p : ℕ × A) (ps : Table A) → nat_eq p.0 k ≡ false → get k (p ∷ ps) ≡ get k ps
elsewhere {A} k p ps ne = rw ne refl

missing : {A : Type 0} (x : A) → None ≡ Some x → ⊥
missing {A} x e = cc

some_is : {A : Type 0} (x y : A) → Some x ≡ Some y → x ≡ y
some_is {A} x y e = cc

tail_same : {A : Type 0} (p q : ℕ × A) (s t : Table A) (k : ℕ) (b : Bool) → nat_eq p.0 k ≡ b → p.0 ≡ q.0 → AscendsFrom (p.0 + 1) s → AscendsFrom (q.0 + 1) t → get k (p ∷ s) ≡ get k (q ∷ t) → get k s ≡ get k t
tail_same {A} p q s t k true is same up down e =
    let below : k < p.0 + 1 = grind (arith, nat_tests, is) in
    let under : k < q.0 + 1 = omega (arith, below, same) in
    get_below (p.0 + 1) k s below up ∙ sym (get_below (q.0 + 1) k t under down)
tail_same {A} p q s t k false is same up down e =
    let other : nat_eq q.0 k ≡ false = grind (arith, nat_tests, is, same) in
    sym (elsewhere k p s is) ∙ (e ∙ elsewhere k q t other)

pub same_tables : {A : Type 0} (m n : ℕ) (s t : Table A) → AscendsFrom m s → AscendsFrom n t → ((k : ℕ) → get k s ≡ get k t) → s ≡ t
same_tables {A} m n [] [] up down e = refl
same_tables {A} m n [] (q ∷ t) up down e = absurd (missing q.1 (e q.0 ∙ here q t))
same_tables {A} m n (p ∷ s) [] up down e = absurd (missing p.1 (sym (e p.0) ∙ here p s))
same_tables {A} m n (p ∷ s) (q ∷ t) up down e =
    elim (cases_lt p.0 q.0) [
      | inl lt ↦ absurd (missing p.1 (sym (get_below q.0 p.0 (q ∷ t) lt (omega arith, down.1)) ∙ (sym (e p.0) ∙ here p s)))
      | inr le ↦ elim (cases_lt q.0 p.0) [
        | inl lt ↦ absurd (missing q.1 (sym (get_below p.0 q.0 (p ∷ s) lt (omega arith, up.1)) ∙ (e q.0 ∙ here q t)))
        | inr ge ↦
            let same : p.0 ≡ q.0 = omega (arith, le, ge) in
            let value : p.1 ≡ q.1 = some_is p.1 q.1 (sym (here p s) ∙ (e p.0 ∙ (ap (λ (k : ℕ). get k (q ∷ t)) same ∙ here q t))) in
            let first : p ≡ q = ap (λ (k : ℕ). (k, p.1)) same ∙ ap (λ (x : A). (q.0, x)) value in
            let rest : s ≡ t = same_tables (p.0 + 1) (q.0 + 1) s t up.1 down.1 (λ k. tail_same p q s t k (nat_eq p.0 k) refl same up.1 down.1 (e k)) in
            ap (λ (r : ℕ × A). r ∷ s) first ∙ ap (λ (r : Table A). q ∷ r) rest
      ]
    ]

-- ---- what edits leave alone

abbrev pub is_edited : ℕ → List Edit → Bool
is_edited k [] = false
is_edited k (e ∷ es) = nat_eq (edit_number e) k || is_edited k es

set_keeps : (k n : ℕ) (x : Vnode) (t : Table Vnode) → nat_eq n k ≡ false → get k (set n x t) ≡ get k t
set_keeps k n x t ne = get_set k n x t ∙ rw ne refl

unset_keeps : (k n : ℕ) (t : Table Vnode) → nat_eq n k ≡ false → get k (unset n t) ≡ get k t
unset_keeps k n t ne = get_unset k n t ∙ rw ne refl

pub edited_keeps : (id k : ℕ) (e : Edit) (v : Volume) (o : Option Vnode) → get (edit_number e) v.vnodes ≡ o → nat_eq (edit_number e) k ≡ false → get k (edited id e v).volume.vnodes ≡ get k v.vnodes
edited_keeps id k (amends n a) v None is ne = rw is refl
edited_keeps id k (amends n a) v (Some x) is ne = rw is (set_keeps k n _ v.vnodes ne)
edited_keeps id k (makes n y) v None is ne = rw is (set_keeps k n _ v.vnodes ne)
edited_keeps id k (makes n y) v (Some x) is ne = rw is refl
edited_keeps id k (frees n) v None is ne = rw is refl
edited_keeps id k (frees n) v (Some x) is ne = rw is (unset_keeps k n v.vnodes ne)

neither : (a b : Bool) → (a || b) ≡ false → (a ≡ false) × (b ≡ false)
neither true b e = absurd cc
neither false b e = (refl, e)

pub all_keep : (id k : ℕ) (es : List Edit) (v : Volume) → is_edited k es ≡ false → get k (edited_all id es v).vnodes ≡ get k v.vnodes
all_keep id k [] v h = refl
all_keep id k (e ∷ es) v h =
    let both = neither (nat_eq (edit_number e) k) (is_edited k es) h in
    all_keep id k es (edited id e v).volume both.1 ∙ edited_keeps id k e v (get (edit_number e) v.vnodes) refl both.0

-- ---- the images that are put

put_one : ℕ → Option Vnode → Table Vnode → Table Vnode
put_one n None t = t
put_one n (Some x) t = set n x t

put_left : List Edit → Volume → Table Vnode → Table Vnode
put_left [] after t = t
put_left (e ∷ es) after t = put_left es after (put_one (edit_number e) (get (edit_number e) after.vnodes) t)

or_else : Option Vnode → Option Vnode → Option Vnode
or_else None b = b
or_else (Some x) b = Some x

put_one_gets : (k n : ℕ) (o a : Option Vnode) (t : Table Vnode) (b : Bool) → nat_eq n k ≡ b → (b ≡ true → o ≡ a) → get k (put_one n o t) ≡ cond b (or_else a (get k t)) (get k t)
unfolding put_one or_else
put_one_gets k n None a t true is same = rw (← same refl) refl
put_one_gets k n (Some x) a t true is same = get_set k n x t ∙ rw (is, ← same refl) refl
put_one_gets k n None a t false is same = refl
put_one_gets k n (Some x) a t false is same = get_set k n x t ∙ rw is refl

twice : (b c : Bool) (a o : Option Vnode) → cond c (or_else a (cond b (or_else a o) o)) (cond b (or_else a o) o) ≡ cond (b || c) (or_else a o) o
unfolding or_else
twice true true None o = refl
twice true true (Some x) o = refl
twice true false a o = refl
twice false true a o = refl
twice false false a o = refl

put_gets : (k : ℕ) (es : List Edit) (after : Volume) (t : Table Vnode) → get k (put_left es after t) ≡ cond (is_edited k es) (or_else (get k after.vnodes) (get k t)) (get k t)
unfolding put_left
put_gets k [] after t = refl
put_gets k (e ∷ es) after t =
    let n = edit_number e in
    let one = put_one_gets k n (get n after.vnodes) (get k after.vnodes) t (nat_eq n k) refl (λ is. ap (λ (j : ℕ). get j after.vnodes) (grind (arith, nat_tests, is))) in
    put_gets k es after (put_one n (get n after.vnodes) t)
    ∙ (ap (λ (o : Option Vnode). cond (is_edited k es) (or_else (get k after.vnodes) o) o) one
    ∙ twice (nat_eq n k) (is_edited k es) (get k after.vnodes) (get k t))

-- ---- the numbers that go

unset_all : List ℕ → Table Vnode → Table Vnode
unset_all [] t = t
unset_all (n ∷ ns) t = unset_all ns (unset n t)

-- what is found where something was there before, and something is there after
gone_or : Option Vnode → Option Vnode → Option Vnode → Option Vnode
gone_or (Some x) None o = None
gone_or b a o = o

gone_same : (b a bk ak o : Option Vnode) → b ≡ bk → a ≡ ak → gone_or b a o ≡ gone_or bk ak o
gone_same b a bk ak o p q = ap (λ (c : Option Vnode). gone_or c a o) p ∙ ap (λ (c : Option Vnode). gone_or bk c o) q

gone_one : (k n : ℕ) (b a bk ak : Option Vnode) (ns : List ℕ) (t : Table Vnode) (same : Bool) → nat_eq n k ≡ same → (same ≡ true → (b ≡ bk) × (a ≡ ak)) →
    (u : Table Vnode) × ((unset_all (gone_between n b a ++ ns) t ≡ unset_all ns u) × (get k u ≡ cond same (gone_or bk ak (get k t)) (get k t)))
unfolding unset_all gone_or
gone_one k n (Some x) None bk ak ns t true is both = (unset n t, (refl, get_unset k n t ∙ (rw is refl ∙ gone_same (Some x) None bk ak (get k t) (both refl).0 (both refl).1)))
gone_one k n (Some x) None bk ak ns t false is both = (unset n t, (refl, get_unset k n t ∙ rw is refl))
gone_one k n (Some x) (Some y) bk ak ns t true is both = (t, (refl, gone_same (Some x) (Some y) bk ak (get k t) (both refl).0 (both refl).1))
gone_one k n (Some x) (Some y) bk ak ns t false is both = (t, (refl, refl))
gone_one k n None None bk ak ns t true is both = (t, (refl, gone_same None None bk ak (get k t) (both refl).0 (both refl).1))
gone_one k n None None bk ak ns t false is both = (t, (refl, refl))
gone_one k n None (Some y) bk ak ns t true is both = (t, (refl, gone_same None (Some y) bk ak (get k t) (both refl).0 (both refl).1))
gone_one k n None (Some y) bk ak ns t false is both = (t, (refl, refl))

gone_twice : (b c : Bool) (x y o : Option Vnode) → cond c (gone_or x y (cond b (gone_or x y o) o)) (cond b (gone_or x y o) o) ≡ cond (b || c) (gone_or x y o) o
unfolding gone_or
gone_twice true true (Some x) None o = refl
gone_twice true true (Some x) (Some y) o = refl
gone_twice true true None None o = refl
gone_twice true true None (Some y) o = refl
gone_twice true false x y o = refl
gone_twice false true x y o = refl
gone_twice false false x y o = refl

gone_gets : (k : ℕ) (es : List Edit) (before after : Volume) (t : Table Vnode) → get k (unset_all (numbers_gone es before after) t) ≡ cond (is_edited k es) (gone_or (get k before.vnodes) (get k after.vnodes) (get k t)) (get k t)
unfolding unset_all
gone_gets k [] before after t = refl
gone_gets k (e ∷ es) before after t =
    let n = edit_number e in
    let one = gone_one k n (get n before.vnodes) (get n after.vnodes) (get k before.vnodes) (get k after.vnodes) (numbers_gone es before after) t (nat_eq n k) refl
    (λ is. (let j : n ≡ k = grind (arith, nat_tests, is) in (ap (λ (i : ℕ). get i before.vnodes) j, ap (λ (i : ℕ). get i after.vnodes) j))) in
    ap (λ (u : Table Vnode). get k u) one.1.0
    ∙ (gone_gets k es before after one.0
    ∙ (ap (λ (o : Option Vnode). cond (is_edited k es) (gone_or (get k before.vnodes) (get k after.vnodes) o) o) one.1.1
    ∙ gone_twice (nat_eq n k) (is_edited k es) (get k before.vnodes) (get k after.vnodes) (get k t)))

-- ---- both together leave the table after the change

settles : (c : Bool) (b a : Option Vnode) → (c ≡ false → a ≡ b) → cond c (gone_or b a (cond c (or_else a b) b)) (cond c (or_else a b) b) ≡ a
unfolding gone_or or_else
settles true (Some x) None h = refl
settles true (Some x) (Some y) h = refl
settles true None None h = refl
settles true None (Some y) h = refl
settles false b a h = sym (h refl)

leaves_after : (k : ℕ) (es : List Edit) (before after : Volume) → (is_edited k es ≡ false → get k after.vnodes ≡ get k before.vnodes) →
    get k (unset_all (numbers_gone es before after) (put_left es after before.vnodes)) ≡ get k after.vnodes
leaves_after k es before after keeps =
    gone_gets k es before after (put_left es after before.vnodes)
    ∙ (ap (λ (o : Option Vnode). cond (is_edited k es) (gone_or (get k before.vnodes) (get k after.vnodes) o) o) (put_gets k es after before.vnodes)
    ∙ settles (is_edited k es) (get k before.vnodes) (get k after.vnodes) keeps)

from_one : (n : ℕ) (t : Table Vnode) (x : Vnode) → AscendsFrom 1 t → get n t ≡ Some x → 1 ≤ n
from_one n t x up e = elim (cases_lt n 1) [
  | inl lt ↦ absurd (missing x (sym (get_below 1 n t lt up) ∙ e))
  | inr le ↦ le
]

put_one_up : (n : ℕ) (o : Option Vnode) (after t : Table Vnode) → AscendsFrom 1 after → get n after ≡ o → AscendsFrom 1 t → AscendsFrom 1 (put_one n o t)
unfolding put_one
put_one_up n None after t up is down = down
put_one_up n (Some x) after t up is down = ascends_set 1 n x t (from_one n after x up is) down

put_up : (es : List Edit) (after : Volume) (t : Table Vnode) → AscendsFrom 1 after.vnodes → AscendsFrom 1 t → AscendsFrom 1 (put_left es after t)
unfolding put_left
put_up [] after t up down = down
put_up (e ∷ es) after t up down = put_up es after (put_one (edit_number e) (get (edit_number e) after.vnodes) t) up (put_one_up (edit_number e) (get (edit_number e) after.vnodes) after.vnodes t up refl down)

unset_up : (ns : List ℕ) (t : Table Vnode) → AscendsFrom 1 t → AscendsFrom 1 (unset_all ns t)
unfolding unset_all
unset_up [] t up = up
unset_up (n ∷ ns) t up = unset_up ns (unset n t) (ascends_unset 1 n t up)

vnodes_after : (es : List Edit) (before after : Volume) → AscendsFrom 1 before.vnodes → AscendsFrom 1 after.vnodes → ((k : ℕ) → is_edited k es ≡ false → get k after.vnodes ≡ get k before.vnodes) →
    unset_all (numbers_gone es before after) (put_left es after before.vnodes) ≡ after.vnodes
vnodes_after es before after up down keeps =
    same_tables 1 1 (unset_all (numbers_gone es before after) (put_left es after before.vnodes)) after.vnodes
    (unset_up (numbers_gone es before after) (put_left es after before.vnodes) (put_up es after before.vnodes down up)) down
    (λ k. leaves_after k es before after (keeps k))

-- ---- the fold of the record

-- a volume with these vnodes and times
held : Table Vnode → Table ℕ → Stored → Stored
held vnodes times s = record s { volume = record s.volume { vnodes = vnodes }; times = times }

image_step : (time n : ℕ) (o : Option Vnode) (is : List Image) (s : Stored) → ((x : Vnode) → o ≡ Some x → value_of (image_of n time x) ≡ Some x) →
    with_images (image_left time n o ++ is) s ≡ with_images is (held (put_one n o s.volume.vnodes) (set_times (image_left time n o) s.times) s)
unfolding held put_one
image_step time n None is s h = refl
image_step time n (Some x) is s h = rw (h x refl) refl

time_step : (time n : ℕ) (o : Option Vnode) (is : List Image) (t : Table ℕ) → set_times (image_left time n o ++ is) t ≡ set_times is (set_times (image_left time n o) t)
time_step time n None is t = refl
time_step time n (Some x) is t = refl

images_put : (time : ℕ) (es : List Edit) (after : Volume) (s : Stored) → ((n : ℕ) (x : Vnode) → get n after.vnodes ≡ Some x → value_of (image_of n time x) ≡ Some x) →
    with_images (images_left time es after) s ≡ Some (held (put_left es after s.volume.vnodes) (set_times (images_left time es after) s.times) s)
unfolding held put_left
images_put time [] after s h = refl
images_put time (e ∷ es) after s h =
    let n = edit_number e in
    let o = get n after.vnodes in
    image_step time n o (images_left time es after) s (h n)
    ∙ (images_put time es after (held (put_one n o s.volume.vnodes) (set_times (image_left time n o) s.times) s) h
    ∙ ap (λ (t : Table ℕ). Some (held (put_left es after (put_one n o s.volume.vnodes)) t s)) (sym (time_step time n o (images_left time es after) s.times)))

without_is : (ns : List ℕ) (s : Stored) → without ns s ≡ held (unset_all ns s.volume.vnodes) (unset_times ns s.times) s
unfolding held unset_all
without_is [] s = refl
without_is (n ∷ ns) s = without_is ns (without_one n s)

there_one : (s : Stored) (n : ℕ) (b a : Option Vnode) (ns : List ℕ) → get n s.volume.vnodes ≡ b → list_all (is_there s) ns ≡ true → list_all (is_there s) (gone_between n b a ++ ns) ≡ true
there_one s n (Some x) None ns is h = rw is h
there_one s n (Some x) (Some y) ns is h = h
there_one s n None None ns is h = h
there_one s n None (Some y) ns is h = h

are_there : (es : List Edit) (s : Stored) (after : Volume) → list_all (is_there s) (numbers_gone es s.volume after) ≡ true
are_there [] s after = refl
are_there (e ∷ es) s after = there_one s (edit_number e) (get (edit_number e) s.volume.vnodes) (get (edit_number e) after.vnodes) (numbers_gone es s.volume after) refl (are_there es s after)

counter_same : (id n : ℕ) (e : Edit) (v : Volume) (o : Option Vnode) → get (edit_number e) v.vnodes ≡ o → (edited id e v).volume ≡ record v { vnodes = (edited id e v).volume.vnodes; next = (edited id e v).volume.next }
counter_same id n (amends m a) v None is = rw is refl
counter_same id n (amends m a) v (Some x) is = rw is refl
counter_same id n (makes m y) v None is = rw is refl
counter_same id n (makes m y) v (Some x) is = rw is refl
counter_same id n (frees m) v None is = rw is refl
counter_same id n (frees m) v (Some x) is = rw is refl

pub same_rest : (id : ℕ) (es : List Edit) (v : Volume) → edited_all id es v ≡ record v { vnodes = (edited_all id es v).vnodes; next = (edited_all id es v).next }
same_rest id [] v = refl
same_rest id (e ∷ es) v = same_rest id es (edited id e v).volume ∙ ap (λ (w : Volume). record w { vnodes = (edited_all id es (edited id e v).volume).vnodes; next = (edited_all id es (edited id e v).volume).next }) (counter_same id 0 e v (get (edit_number e) v.vnodes) refl)

may_be_stored : (s : Stored) → length s.volume.vnodes ≤ most_vnodes → is_sound s.volume ≡ true → allowed s ≡ Some s
may_be_stored s few sound = rw (le-ltb most_vnodes (length s.volume.vnodes) few, sound) refl

-- a volume that differs in the vnodes of these edits, its counter and its next unique number
pub changed_for : (time : ℕ) (es : List Edit) (s : Stored) (after : Volume) → AscendsFrom 1 s.volume.vnodes → AscendsFrom 1 after.vnodes → ((k : ℕ) → is_edited k es ≡ false → get k after.vnodes ≡ get k s.volume.vnodes) →
    after ≡ record s.volume { vnodes = after.vnodes; counter = after.counter; next = after.next } →
    ((n : ℕ) (x : Vnode) → get n after.vnodes ≡ Some x → value_of (image_of n time x) ≡ Some x) → length after.vnodes ≤ most_vnodes → is_sound after ≡ true →
    changed_stored after.counter after.next (images_left time es after) (numbers_gone es s.volume after) s ≡ Some (stored_between time es after s)
unfolding held
changed_for time es s after up down keeps rest values few sound =
    let gone = numbers_gone es s.volume after in
    let images = images_left time es after in
    let put = held (put_left es after s.volume.vnodes) (set_times images s.times) s in
    let told = counted_as after.counter after.next put in
    let left : without gone told ≡ stored_between time es after s =
    without_is gone told
    ∙ ap (λ (t : Table Vnode). record s { volume = record s.volume { vnodes = t; counter = after.counter; next = after.next }; times = unset_times gone (set_times images s.times) }) (vnodes_after es s.volume after up down keeps)
    ∙ ap (λ (v : Volume). record s { volume = v; times = unset_times gone (set_times images s.times) }) (sym rest) in
    rw (are_there es s after, images_put time es after s values, left) (may_be_stored (stored_between time es after s) few sound)

pub changed_is : (id time : ℕ) (es : List Edit) (s : Stored) → AscendsFrom 1 s.volume.vnodes → AscendsFrom 1 (edited_all id es s.volume).vnodes →
    ((n : ℕ) (x : Vnode) → get n (edited_all id es s.volume).vnodes ≡ Some x → value_of (image_of n time x) ≡ Some x) →
    length (edited_all id es s.volume).vnodes ≤ most_vnodes → is_sound (counted (edited_all id es s.volume)) ≡ true →
    changed_stored (counted (edited_all id es s.volume)).counter (counted (edited_all id es s.volume)).next (images_left time es (counted (edited_all id es s.volume))) (numbers_gone es s.volume (counted (edited_all id es s.volume))) s
    ≡ Some (stored_after id time es s)
changed_is id time es s up down values few sound =
    changed_for time es s (counted (edited_all id es s.volume)) up down (λ k. all_keep id k es s.volume) (ap (λ (v : Volume). record v { counter = (edited_all id es s.volume).counter + 1 }) (same_rest id es s.volume)) values few sound
