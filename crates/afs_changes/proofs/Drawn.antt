-- What edits of different vnodes leave and tell, each of the volume as it was before all of them, is what they do one after the other.
use Rattle.std.proofs.Common.{◌≡◌, ℕ, ◌+◌, Bool, true, false, cond, eqb, List, [], ◌∷◌, ◌++◌, map, Option, Some, None, refl, sym, ap, subst, ◌∙◌, eqb-true, eq-eqb, if◌then◌else◌}
use Rattle.std.specs.Prelude.{not, nat_eq, is_some}
use Rattle.std.specs.List.{list_any, AllByRecursion}
use Rattle.std.specs.Option.{option_map}
use Rattle.afs_num.specs.declared.histories.Version.{Version}
use Rattle.spec_ideal.specs.Images.{Image, image_of}
use Rattle.spec_ideal.specs.Replies.{vnode_or_none}
use Rattle.spec_ideal.specs.Tables.{Table, get}
use Rattle.spec_ideal.specs.Volumes.{Vnode, Volume, Amend, Edit, amends, makes, frees, amended, fresh, version_at, amends_at, makes_at, frees_at, edited, edited_all, versions_by, edit_number}
use Rattle.spec_ideal.proofs.Looks.{one_edit, look, looks, Distinct, MakesAs, later_makes, same_next, next_all}
use Rattle.spec_ideal.proofs.Tellings.{Finds, FindEach, AreAs, as_before, same_all}
use Rattle.spec_records.specs.Changes.{image_left, images_left, gone_between, numbers_gone}
use Rattle.afs_changes.specs.Drawing.{before_edit, after_edit, left_at, told_between, told_by, all_left, all_told, all_freed, makes_vnode, without, with_left}

-- ---- each edit's vnode after all of them

abbrev IsOther : Edit → Edit → Type 0
IsOther e d = edit_number d ≡ edit_number e → ⊥

abbrev Own : Volume → List Edit → Edit → Type 0
Own v es d = look (v.counter + 1) v.next es (edit_number d) (before_edit v d) ≡ after_edit v d

passed : (b : Bool) (x o p : Option Vnode) (n m : ℕ) → eqb n m ≡ b → (m ≡ n → ⊥) → o ≡ p → cond b x o ≡ p
passed true x o p n m e ne is = absurd (ne (sym (eqb-true n m e)))
passed false x o p n m e ne is = is

own_more : (v : Volume) (e : Edit) (es ds : List Edit) → AllByRecursion (IsOther e) ds → AllByRecursion (Own v es) ds → AllByRecursion (Own v (e ∷ es)) ds
own_more v e es [] apart own = tt
own_more v e es (d ∷ ds) apart own = (passed (eqb (edit_number e) (edit_number d)) _ _ (after_edit v d) (edit_number e) (edit_number d) refl apart.0 own.0, own_more v e es ds apart.1 own.1)

look_own : (v : Volume) (es : List Edit) → Distinct es → AllByRecursion (Own v es) es
look_own v [] apart = tt
look_own v (e ∷ es) apart = (rw (eq-eqb (edit_number e) (edit_number e) refl) refl, own_more v e es es apart.0 (look_own v es apart.1))

-- the edit's vnode in this volume is what the edit leaves
abbrev pub LeavesIn : Volume → Volume → Edit → Type 0
LeavesIn v after d = get (edit_number d) after.vnodes ≡ after_edit v d

all_leave : (id : ℕ) (v : Volume) (es ds : List Edit) → Distinct es → MakesAs v.next v.next es → AllByRecursion (Own v es) ds → AllByRecursion (LeavesIn v (edited_all id es v)) ds
all_leave id v es [] apart one own = tt
all_leave id v es (d ∷ ds) apart one own = (looks id v.next (edit_number d) es v apart one ∙ own.0, all_leave id v es ds apart one own.1)

pub each_leaves : (id : ℕ) (v : Volume) (es : List Edit) → Distinct es → MakesAs v.next v.next es → AllByRecursion (LeavesIn v (edited_all id es v)) es
each_leaves id v es apart one = all_leave id v es es apart one (look_own v es apart)

-- ---- images and numbers

abbrev pub imaged : ℕ → ℕ × Vnode → Image
imaged time p = image_of p.0 time p.1

left_more : (time n : ℕ) (o : Option Vnode) (t : Table Vnode) → map (imaged time) (left_at n o ++ t) ≡ image_left time n o ++ map (imaged time) t
left_more time n None t = refl
left_more time n (Some x) t = refl

pub images_are : (time : ℕ) (v after : Volume) (es : List Edit) → AllByRecursion (LeavesIn v after) es → images_left time es after ≡ map (imaged time) (all_left v es)
images_are time v after [] h = refl
images_are time v after (e ∷ es) h = rw (h.0, images_are time v after es h.1) (sym (left_more time (edit_number e) (after_edit v e) (all_left v es)))

pub numbers_are : (v after : Volume) (es : List Edit) → AllByRecursion (LeavesIn v after) es → numbers_gone es v after ≡ all_freed v es
numbers_are v after [] h = refl
numbers_are v after (e ∷ es) h = rw (h.0, numbers_are v after es h.1) refl

-- ---- versions

amended_told : (id n c k : ℕ) (a : Amend) (v : Volume) (o : Option Vnode) → v.counter + 1 ≡ c → (amends_at id n a v o).versions ≡ told_between id n o (option_map (amended c a) o)
amended_told id n c k a v None e = refl
amended_told id n c k a v (Some x) e = ap (λ (m : ℕ). version_at id n (amended m a x) ∷ []) e

freed_told : (id n : ℕ) (v : Volume) (o : Option Vnode) → (frees_at id n v o).versions ≡ told_between id n o None
freed_told id n v None = refl
freed_told id n v (Some x) = refl

one_told : (id : ℕ) (first v : Volume) (e : Edit) (es : List Edit) → Finds e (before_edit first e) → before_edit v e ≡ before_edit first e → v.counter ≡ first.counter → MakesAs first.next v.next (e ∷ es) → (edited id e v).versions ≡ told_by id first e
one_told id first v (amends n a) es f same c one =
    ap (λ (o : Option Vnode). (amends_at id n a v o).versions) same ∙ amended_told id n (first.counter + 1) 0 a v (get n first.vnodes) (ap (λ (k : ℕ). k + 1) c)
one_told id first v (frees n) es f same c one = ap (λ (o : Option Vnode). (frees_at id n v o).versions) same ∙ freed_told id n v (get n first.vnodes)
one_told id first v (makes n x) es f same c one =
    ap (λ (o : Option Vnode). (makes_at id n x v o).versions) (same ∙ f)
    ∙ (ap (λ (k : ℕ). version_at id n (fresh (k + 1) v.next x) ∷ []) c
    ∙ (ap (λ (k : ℕ). version_at id n (fresh (first.counter + 1) k x) ∷ []) one.0
    ∙ ap (λ (o : Option Vnode). told_between id n o (one_edit (first.counter + 1) first.next (makes n x) o)) (sym f)))

counter_by : (id n : ℕ) (a : Amend) (v : Volume) (o : Option Vnode) → (amends_at id n a v o).volume.counter ≡ v.counter
counter_by id n a v None = refl
counter_by id n a v (Some x) = refl

made_counter : (id n : ℕ) (x : Vnode) (v : Volume) (o : Option Vnode) → (makes_at id n x v o).volume.counter ≡ v.counter
made_counter id n x v None = refl
made_counter id n x v (Some y) = refl

freed_counter : (id n : ℕ) (v : Volume) (o : Option Vnode) → (frees_at id n v o).volume.counter ≡ v.counter
freed_counter id n v None = refl
freed_counter id n v (Some x) = refl

same_counter : (id : ℕ) (e : Edit) (v : Volume) → (edited id e v).volume.counter ≡ v.counter
same_counter id (amends n a) v = counter_by id n a v (get n v.vnodes)
same_counter id (makes n x) v = made_counter id n x v (get n v.vnodes)
same_counter id (frees n) v = freed_counter id n v (get n v.vnodes)

told_after : (id : ℕ) (es : List Edit) (first v : Volume) → Distinct es → MakesAs first.next v.next es → FindEach first es → AreAs first v es → v.counter ≡ first.counter → versions_by id es v ≡ all_told id first es
told_after id [] first v apart one finds same c = refl
told_after id (e ∷ es) first v apart one finds same c =
    ap (λ (ws : List Version). ws ++ versions_by id es (edited id e v).volume) (one_told id first v e es finds.0 same.0 c one)
    ∙ ap (λ (ws : List Version). told_by id first e ++ ws) (told_after id es first (edited id e v).volume apart.1 (later_makes id first.next e es v one) finds.1 (as_before id e es first v apart.0 same.1) (same_counter id e v ∙ c))

pub versions_are : (id : ℕ) (es : List Edit) (v : Volume) → Distinct es → MakesAs v.next v.next es → FindEach v es → versions_by id es v ≡ all_told id v es
versions_are id es v apart one finds = told_after id es v v apart one finds (same_all v es) refl

-- ---- the counters

pub counter_all : (id : ℕ) (es : List Edit) (v : Volume) → (edited_all id es v).counter ≡ v.counter
counter_all id [] v = refl
counter_all id (e ∷ es) v = counter_all id es (edited id e v).volume ∙ same_counter id e v

next_after : (id : ℕ) (es : List Edit) (first v : Volume) → Distinct es → MakesAs first.next v.next es → FindEach first es → AreAs first v es → (edited_all id es v).next ≡ (if list_any makes_vnode es then v.next + 1 else v.next)
next_after id [] first v apart one finds same = refl
next_after id (amends n a ∷ es) first v apart one finds same =
    next_after id es first (edited id (amends n a) v).volume apart.1 (later_makes id first.next (amends n a) es v one) finds.1 (as_before id (amends n a) es first v apart.0 same.1)
    ∙ ap (λ (k : ℕ). if list_any makes_vnode es then k + 1 else k) (same_next id (amends n a) v tt)
next_after id (frees n ∷ es) first v apart one finds same =
    next_after id es first (edited id (frees n) v).volume apart.1 (later_makes id first.next (frees n) es v one) finds.1 (as_before id (frees n) es first v apart.0 same.1)
    ∙ ap (λ (k : ℕ). if list_any makes_vnode es then k + 1 else k) (same_next id (frees n) v tt)
next_after id (makes n x ∷ es) first v apart one finds same =
    next_all id es (edited id (makes n x) v).volume one.1 ∙ ap (λ (o : Option Vnode). (makes_at id n x v o).volume.next) (same.0 ∙ finds.0)

pub next_is : (id : ℕ) (es : List Edit) (v : Volume) → Distinct es → MakesAs v.next v.next es → FindEach v es → (edited_all id es v).next ≡ (if list_any makes_vnode es then v.next + 1 else v.next)
next_is id es v apart one finds = next_after id es v v apart one finds (same_all v es)

-- ---- what is found under a number

get_by : (b : Bool) (m : ℕ) (p : ℕ × Vnode) (s t : Table Vnode) → get m (s ++ t) ≡ (if is_some (get m s) then get m s else get m t) → (if b then Some p.1 else get m (s ++ t)) ≡ (if is_some (if b then Some p.1 else get m s) then (if b then Some p.1 else get m s) else get m t)
get_by true m p s t h = refl
get_by false m p s t h = h

pub get_among : (m : ℕ) (s t : Table Vnode) → get m (s ++ t) ≡ (if is_some (get m s) then get m s else get m t)
get_among m [] t = refl
get_among m (p ∷ s) t = get_by (nat_eq p.0 m) m p s t (get_among m s t)

-- what is found among the first ones
pub found_first : (m : ℕ) (s t : Table Vnode) (x : Vnode) → get m s ≡ Some x → vnode_or_none (get m (s ++ t)) ≡ x
found_first m s t x is = rw (get_among m s t, is) refl

abbrev pub is_among : List ℕ → ℕ → Bool
is_among ns m = list_any (λ (n : ℕ). nat_eq n m) ns

kept_by : (g b : Bool) (m : ℕ) (p : ℕ × Vnode) (ns : List ℕ) (t : Table Vnode) → is_among ns p.0 ≡ g → nat_eq p.0 m ≡ b → get m (without ns t) ≡ (if is_among ns m then None else get m t)
    → get m (if not g then p ∷ without ns t else without ns t) ≡ (if is_among ns m then None else (if b then Some p.1 else get m t))
kept_by true true m p ns t gone is h =
    let here : is_among ns m ≡ true = subst (λ (k : ℕ). is_among ns k ≡ true) (eqb-true p.0 m is) gone in
    h ∙ rw here refl
kept_by true false m p ns t gone is h = h
kept_by false true m p ns t gone is h =
    let here : is_among ns m ≡ false = subst (λ (k : ℕ). is_among ns k ≡ false) (eqb-true p.0 m is) gone in
    rw (is, here) refl
kept_by false false m p ns t gone is h = rw is h

pub get_without : (m : ℕ) (ns : List ℕ) (t : Table Vnode) → get m (without ns t) ≡ (if is_among ns m then None else get m t)
get_without m ns [] = nothing (is_among ns m)
  where
    nothing : (b : Bool) → ◌≡◌ {A = Option Vnode} None (if b then None else None)
    nothing true = refl
    nothing false = refl
get_without m ns (p ∷ t) = kept_by (is_among ns p.0) (nat_eq p.0 m) m p ns t refl refl (get_without m ns t)

-- what stands at a number, by what edits leave and free
abbrev stands : Volume → List Edit → ℕ → Option Vnode → Option Vnode
stands v es m o = if is_some (get m (all_left v es)) then get m (all_left v es) else (if is_among (all_freed v es) m then None else o)

skipped : (n m : ℕ) (o : Option Vnode) (t : Table Vnode) → nat_eq n m ≡ false → get m (left_at n o ++ t) ≡ get m t
skipped n m None t e = refl
skipped n m (Some x) t e = rw e refl

gone_skipped : (n m : ℕ) (o p : Option Vnode) (ns : List ℕ) → nat_eq n m ≡ false → is_among (gone_between n o p ++ ns) m ≡ is_among ns m
gone_skipped n m None p ns e = refl
gone_skipped n m (Some x) None ns e = rw e refl
gone_skipped n m (Some x) (Some y) ns e = refl

not_at : (b : Bool) (n m : ℕ) → nat_eq n m ≡ b → (n ≡ m → ⊥) → b ≡ false
not_at true n m e ne = absurd (ne (eqb-true n m e))
not_at false n m e ne = refl

none_left : (v : Volume) (m : ℕ) (es : List Edit) → AllByRecursion (λ (d : Edit). edit_number d ≡ m → ⊥) es → get m (all_left v es) ≡ None
none_left v m [] apart = refl
none_left v m (e ∷ es) apart = skipped (edit_number e) m (after_edit v e) (all_left v es) (not_at (nat_eq (edit_number e) m) (edit_number e) m refl apart.0) ∙ none_left v m es apart.1

-- the edit's own number
stands_here : (v : Volume) (e : Edit) (es : List Edit) → Finds e (before_edit v e) → get (edit_number e) (all_left v es) ≡ None → stands v (e ∷ es) (edit_number e) (before_edit v e) ≡ after_edit v e
stands_here v (amends n a) es f none = rw (f.1, eq-eqb n n refl) refl
stands_here v (makes n x) es f none = rw (f, eq-eqb n n refl) refl
stands_here v (frees n) es f none = rw (f.1, none, eq-eqb n n refl) refl

stands_by : (b : Bool) (v : Volume) (e : Edit) (es : List Edit) (m : ℕ) → nat_eq (edit_number e) m ≡ b → Finds e (before_edit v e) → AllByRecursion (IsOther e) es → stands v es m (get m v.vnodes) ≡ look (v.counter + 1) v.next es m (get m v.vnodes)
    → stands v (e ∷ es) m (get m v.vnodes) ≡ cond b (one_edit (v.counter + 1) v.next e (get m v.vnodes)) (look (v.counter + 1) v.next es m (get m v.vnodes))
stands_by true v e es m is f apart h =
    subst (λ (k : ℕ). stands v (e ∷ es) k (get k v.vnodes) ≡ one_edit (v.counter + 1) v.next e (get k v.vnodes)) (eqb-true (edit_number e) m is) (stands_here v e es f (none_left v (edit_number e) es apart))
stands_by false v e es m is f apart h =
    rw (skipped (edit_number e) m (after_edit v e) (all_left v es) is, gone_skipped (edit_number e) m (before_edit v e) (after_edit v e) (all_freed v es) is) h

stands_looks : (v : Volume) (es : List Edit) (m : ℕ) → Distinct es → FindEach v es → stands v es m (get m v.vnodes) ≡ look (v.counter + 1) v.next es m (get m v.vnodes)
stands_looks v [] m apart finds = refl
stands_looks v (e ∷ es) m apart finds = stands_by (nat_eq (edit_number e) m) v e es m refl finds.0 apart.0 (stands_looks v es m apart.1 finds.1)

-- what is found by what the edits leave and free is found after them
pub sees : (id : ℕ) (es : List Edit) (v : Volume) (m : ℕ) → Distinct es → MakesAs v.next v.next es → FindEach v es → get m (with_left (all_left v es) (all_freed v es) v).vnodes ≡ get m (edited_all id es v).vnodes
sees id es v m apart one finds =
    get_among m (all_left v es) (without (all_freed v es) v.vnodes)
    ∙ (ap (λ (o : Option Vnode). if is_some (get m (all_left v es)) then get m (all_left v es) else o) (get_without m (all_freed v es) v.vnodes)
    ∙ (stands_looks v es m apart finds ∙ sym (looks id v.next m es v apart one)))
