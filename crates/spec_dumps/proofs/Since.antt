-- What was changed since a counter is told by the counter at each vnode's last change.
use Rattle.std.proofs.Common.{◌≡◌, ◌⊎◌, ℕ, ◌+◌, ◌<◌, ◌≤◌, Bool, true, false, List, [], ◌∷◌, ◌++◌, Option, Some, None, nat_eq, refl, sym, ap, subst, ◌∙◌, arith, inl, inr}
use Rattle.std.specs.Prelude.{◌||◌}
use Rattle.std.proofs.lemmas.Bool.Decides.{nat_tests}
use Rattle.spec_ideal.specs.ChangeLaws.{IsOneChange}
use Rattle.spec_ideal.specs.Images.{Image}
use Rattle.spec_ideal.specs.Tables.{Table, get, set, unset}
use Rattle.spec_ideal.specs.Volumes.{amended, amends, amends_at, counted, edit_number, edited, edited_all, fresh, frees, frees_at, makes, makes_at, versions_by, Edit, Vnode, Volume}
use Rattle.spec_ideal.proofs.Tables.{get_set, get_unset}
use Rattle.spec_records.specs.Changes.{gone_between, image_left, images_left, numbers_gone, set_times, unset_times, stored_after}
use Rattle.spec_records.specs.Durable.{Stored, or_zero}
use Rattle.spec_dumps.specs.Laws.{HoldsUntil, ChangesAreSince}
use Rattle.spec_records.proofs.Kept.{all_keep, is_edited, same_rest}
use Rattle.spec_dumps.proofs.Edits.{Finds, Up, Same, same_itself, not_edited, still, FindsAll, all_up, all_found}

-- ---- an edit sets the counter of its vnode

some_is : {A : Type 0} (x y : A) → Some x ≡ Some y → x ≡ y
some_is {A} x y e = cc

set_here : (n : ℕ) (x y : Vnode) (t : Table Vnode) → get n (set n x t) ≡ Some y → x ≡ y
set_here n x y t e = some_is x y (sym (get_set n n x t ∙ rw (let z : nat_eq n n ≡ true = grind (arith, nat_tests) in z) refl) ∙ e)

unset_here : (n : ℕ) (y : Vnode) (t : Table Vnode) → get n (unset n t) ≡ Some y → ⊥
unset_here n y t e = let z : None ≡ Some y = sym (get_unset n n t ∙ rw (let w : nat_eq n n ≡ true = grind (arith, nat_tests) in w) refl) ∙ e in cc

edit_sets : (id : ℕ) (e : Edit) (v : Volume) (o : Option Vnode) (x : Vnode) → get (edit_number e) v.vnodes ≡ o → Finds e o → get (edit_number e) (edited id e v).volume.vnodes ≡ Some x → x.changed ≡ v.counter + 1
unfolding Finds
edit_sets id (amends n a) v None x is finds e = let z : None ≡ Some x = sym is ∙ (sym (ap (λ (o : Option Vnode). get n (amends_at id n a v o).volume.vnodes) is) ∙ e) in absurd cc
edit_sets id (amends n a) v (Some y) x is finds e = ap (λ (z : Vnode). z.changed) (sym (set_here n (amended (v.counter + 1) a y) x v.vnodes (sym (ap (λ (o : Option Vnode). get n (amends_at id n a v o).volume.vnodes) is) ∙ e)))
edit_sets id (makes n y) v None x is finds e = ap (λ (z : Vnode). z.changed) (sym (set_here n (fresh (v.counter + 1) v.next y) x v.vnodes (sym (ap (λ (o : Option Vnode). get n (makes_at id n y v o).volume.vnodes) is) ∙ e)))
edit_sets id (makes n y) v (Some z) x is finds e = absurd cc
edit_sets id (frees n) v None x is finds e = let z : None ≡ Some x = sym is ∙ (sym (ap (λ (o : Option Vnode). get n (frees_at id n v o).volume.vnodes) is) ∙ e) in absurd cc
edit_sets id (frees n) v (Some y) x is finds e = absurd (unset_here n x v.vnodes (sym (ap (λ (o : Option Vnode). get n (frees_at id n v o).volume.vnodes) is) ∙ e))

same_counter : (id : ℕ) (e : Edit) (v : Volume) → (edited id e v).volume.counter ≡ v.counter
same_counter id e v = ap (λ (w : Volume). w.counter) (same_rest id (e ∷ []) v)

changed_now : (id m n : ℕ) (es : List Edit) (v w : Volume) (x : Vnode) → Up m es → Same es v w → FindsAll es w → is_edited n es ≡ true → get n (edited_all id es v).vnodes ≡ Some x → x.changed ≡ v.counter + 1
unfolding Up Same FindsAll
changed_now id m n [] v w x up same finds is e = absurd cc
changed_now id m n (d ∷ es) v w x up same finds is e =
    let after : Volume = (edited id d v).volume in
    changed_by (nat_eq (edit_number d) n) id m n d es v w x refl up same finds is e
    (λ k. changed_now id (edit_number d + 1) n es after w x up.1 (still id (edit_number d + 1) d es v w (omega arith) up.1 same.1) finds.1 k e ∙ ap (λ (c : ℕ). c + 1) (same_counter id d v))
  where
    changed_by : (b : Bool) (id m n : ℕ) (d : Edit) (es : List Edit) (v w : Volume) (x : Vnode) → nat_eq (edit_number d) n ≡ b → Up m (d ∷ es) → Same (d ∷ es) v w → FindsAll (d ∷ es) w → (b || is_edited n es) ≡ true → get n (edited_all id (d ∷ es) v).vnodes ≡ Some x →
        (is_edited n es ≡ true → x.changed ≡ v.counter + 1) → x.changed ≡ v.counter + 1
    changed_by true id m n d es v w x is up same finds h e later =
        let k : edit_number d ≡ n = grind (arith, nat_tests, is) in
        let kept : get n (edited_all id es (edited id d v).volume).vnodes ≡ get n (edited id d v).volume.vnodes = all_keep id n es (edited id d v).volume (not_edited n (edit_number d + 1) es (omega (arith, k)) up.1) in
        edit_sets id d v (get (edit_number d) v.vnodes) x refl (subst (λ (o : Option Vnode). Finds d o) (sym same.0) finds.0) (ap (λ (j : ℕ). get j (edited id d v).volume.vnodes) k ∙ (sym kept ∙ e))
    changed_by false id m n d es v w x is up same finds h e later = later h

-- ---- the time of a vnode that isn't edited stays

neither : (a b : Bool) → (a || b) ≡ false → (a ≡ false) × (b ≡ false)
neither true b e = absurd cc
neither false b e = (refl, e)

image_time : (time n k : ℕ) (o : Option Vnode) (is : List Image) (t : Table ℕ) → nat_eq n k ≡ false → get k (set_times (image_left time n o ++ is) t) ≡ get k (set_times is (set_times (image_left time n o) t))
image_time time n k None is t ne = refl
image_time time n k (Some x) is t ne = refl

one_time : (time n k : ℕ) (o : Option Vnode) (t : Table ℕ) → nat_eq n k ≡ false → get k (set_times (image_left time n o) t) ≡ get k t
one_time time n k None t ne = refl
one_time time n k (Some x) t ne = get_set k n time t ∙ rw ne refl

times_stay : (time k : ℕ) (es : List Edit) (after : Volume) (t : Table ℕ) → is_edited k es ≡ false → get k (set_times (images_left time es after) t) ≡ get k t
times_stay time k [] after t ne = refl
times_stay time k (e ∷ es) after t ne =
    let both = neither (nat_eq (edit_number e) k) (is_edited k es) ne in
    let o = get (edit_number e) after.vnodes in
    image_time time (edit_number e) k o (images_left time es after) t both.0
    ∙ (times_stay time k es after (set_times (image_left time (edit_number e) o) t) both.1 ∙ one_time time (edit_number e) k o t both.0)

gone_time : (n k : ℕ) (b a : Option Vnode) (ns : List ℕ) (t : Table ℕ) → nat_eq n k ≡ false → (u : Table ℕ) × ((unset_times (gone_between n b a ++ ns) t ≡ unset_times ns u) × (get k u ≡ get k t))
gone_time n k (Some x) None ns t ne = (unset n t, (refl, get_unset k n t ∙ rw ne refl))
gone_time n k (Some x) (Some y) ns t ne = (t, (refl, refl))
gone_time n k None None ns t ne = (t, (refl, refl))
gone_time n k None (Some y) ns t ne = (t, (refl, refl))

times_left : (k : ℕ) (es : List Edit) (before after : Volume) (t : Table ℕ) → is_edited k es ≡ false → get k (unset_times (numbers_gone es before after) t) ≡ get k t
times_left k [] before after t ne = refl
times_left k (e ∷ es) before after t ne =
    let both = neither (nat_eq (edit_number e) k) (is_edited k es) ne in
    let one = gone_time (edit_number e) k (get (edit_number e) before.vnodes) (get (edit_number e) after.vnodes) (numbers_gone es before after) t both.0 in
    ap (get k) one.1.0 ∙ (times_left k es before after one.0 both.1 ∙ one.1.1)

-- ---- both

since_by : (b : Bool) (from id time n : ℕ) (c s : Stored) (es : List Edit) (x : Vnode) → IsOneChange id es s.volume → from ≤ s.volume.counter → HoldsUntil from c s → is_edited n es ≡ b → get n (edited_all id es s.volume).vnodes ≡ Some x →
    (from < x.changed) ⊎ ((get n c.volume.vnodes ≡ Some x) × (or_zero (get n c.times) ≡ or_zero (get n (stored_after id time es s).times)))
since_by true from id time n c s es x one le holds is e =
    let up : Up 0 es = all_up id 0 es s.volume (versions_by id es s.volume) one.told one.ascending in
    let now : x.changed ≡ s.volume.counter + 1 = changed_now id 0 n es s.volume s.volume x up (same_itself es s.volume) (all_found id es s.volume (versions_by id es s.volume) one.told) is e in
    inl (omega (arith, le, now))
since_by false from id time n c s es x one le holds is e =
    elim (holds n x (sym (all_keep id n es s.volume is) ∙ e)) [
      | inl lt ↦ inl lt
      | inr h ↦
          let after : Volume = counted (edited_all id es s.volume) in
          inr (h.0, h.1 ∙ ap or_zero (sym (times_left n es s.volume after (set_times (images_left time es after) s.times) is ∙ times_stay time n es after s.times is)))
    ]

pub changes_since : ChangesAreSince
changes_since = record {
  itself = λ from s n x e. inr (e, refl);
  changed = λ from id time t s edits one le holds n x e. since_by (is_edited n edits) from id time n t s edits x one le holds refl e;
  other = λ from t s later vnodes times holds n x e.
      subst (λ (ts : Table ℕ). (from < x.changed) ⊎ ((get n t.volume.vnodes ≡ Some x) × (or_zero (get n t.times) ≡ or_zero (get n ts)))) (sym times) (holds n x (sym (ap (get n) vnodes) ∙ e));
}
