-- What a change may touch: the vnodes that its edits name, and new ones.
use Rattle.std.proofs.Common.{◌≡◌, ℕ, ◌+◌, ◌-◌, ◌≤◌, ◌⊎◌, inl, inr, Bool, true, false, cond, eqb, List, [], ◌∷◌, ◌++◌, Option, Some, None, refl, sym, ap, subst, ◌∙◌, arith, eq-eqb, eqb-true}
use Rattle.std.specs.Prelude.{◌&&◌, ◌||◌, nat_eq, nat_lt, is_some, if◌then◌else◌}
use Rattle.std.specs.List.{AllByRecursion}
use Rattle.afs_num.specs.Names.{name_ok}
use Rattle.afs_num.specs.Fids.{same_fid}
use Rattle.afs_num.specs.declared.types.Fid.{Fid}
use Rattle.afs_num.specs.declared.calls.FsCall.{FsCall}
use Rattle.afs_num.specs.declared.calls.FsCall.TheVariants as calls
use Rattle.afs_num.specs.declared.histories.Version.{Version}
use Rattle.spec_ideal.specs.Tables.{get}
use Rattle.spec_ideal.specs.Volumes.{a_file, a_directory, a_link, Vnode, Volume, if_unique, vnode_of, Edit, amends, makes, frees, Amend, amended, fresh, amends_at, makes_at, frees_at, edited, versions_by, edit_put, ascending, edit_number}
use Rattle.spec_ideal.specs.Operations as ops
use Rattle.spec_ideal.specs.Operations.{Caller, Result, changes, first_failing, tests, effect, limits, limited, by_tests, implies, may_link, Found, Shown, op, IsOn}
use Rattle.spec_ideal.specs.Told.{touches, fid_at}
use Rattle.spec_ideal.specs.ChangeLaws.{is_in_scope}
use Rattle.spec_ideal.proofs.Basics.{both, both_true, same_fid-true, some_of}
use Rattle.spec_ideal.proofs.Tables.{get_set, get_unset}

-- ---- an accepted change: its tests pass, and it is the effect

pub none_fails : (o : Option ℕ) (r : Result) (es : List Edit) (n : ℕ) → by_tests o r ≡ changes es n → (o ≡ None) × (r ≡ changes es n)
none_fails None r es n e = (refl, e)
none_fails (Some code) r es n e = absurd cc

pub record Accepted (id : ℕ) (caller : Caller) (call : FsCall) (v : Volume) (es : List Edit) (n : ℕ) : Type 0 where
  pub tested : first_failing (tests caller call v) ≡ None
  pub effected : effect caller call v ≡ changes es n
  pub fits : first_failing (limits id es v) ≡ None

limited_changes : (id : ℕ) (v : Volume) (r : Result) (es : List Edit) (n : ℕ) → limited id v r ≡ changes es n → (r ≡ changes es n) × (first_failing (limits id es v) ≡ None)
limited_changes id v (changes ds m) es n e =
    let p = none_fails (first_failing (limits id ds v)) (changes ds m) es n e in
    let same : ds ≡ es = (let q = p.1 in cc) in
    (p.1, subst (λ (xs : List Edit). first_failing (limits id xs v) ≡ None) same p.0)
limited_changes id v (ops.refused code) es n e = absurd cc
limited_changes id v (ops.reads shown) es n e = absurd cc
limited_changes id v ops.no_operation es n e = absurd cc

pub accepted : (id : ℕ) (caller : Caller) (call : FsCall) (v : Volume) (es : List Edit) (n : ℕ) → op id caller call v ≡ changes es n → Accepted id caller call v es n
accepted id caller call v es n e =
    let p = none_fails (first_failing (tests caller call v)) (limited id v (effect caller call v)) es n e in
    let q = limited_changes id v (effect caller call v) es n p.1 in
    record { tested = p.0; effected = q.0; fits = q.1 }

-- ---- what edits touch

-- the vnode had this unique number
abbrev HadUnique : Volume → ℕ → ℕ → Type 0
HadUnique v n u = (y : Vnode) × ((get n v.vnodes ≡ Some y) × (y.unique ≡ u))

abbrev IsOldOrNew : Volume → ℕ → ℕ → Type 0
IsOldOrNew v n u = HadUnique v n u ⊎ (v.next ≤ u)

-- a later volume has the vnodes of the first, under their fids, and new ones
record Later (first v : Volume) : Type 0 where
  next : first.next ≤ v.next
  kept : (n : ℕ) (x : Vnode) → get n v.vnodes ≡ Some x → IsOldOrNew first n x.unique

later_itself : (v : Volume) → Later v v
later_itself v = record { next = omega arith; kept = λ n x e. inl (x, (e, refl)) }

set_by : (t : Bool) (first v : Volume) (n m : ℕ) (y z : Vnode) → eqb n m ≡ t → Later first v → IsOldOrNew first n y.unique → cond t (Some y) (get m v.vnodes) ≡ Some z → IsOldOrNew first m z.unique
set_by true first v n m y z t h w e = subst (λ (k : ℕ). IsOldOrNew first k z.unique) (eqb-true n m t) (subst (λ (k : Vnode). IsOldOrNew first n k.unique) (some_of y z e) w)
set_by false first v n m y z t h w e = h.kept m z e

unset_by : (t : Bool) (first v : Volume) (n m : ℕ) (z : Vnode) → Later first v → cond t None (get m v.vnodes) ≡ Some z → IsOldOrNew first m z.unique
unset_by true first v n m z h e = absurd cc
unset_by false first v n m z h e = h.kept m z e

amends_later : (first v : Volume) (id n : ℕ) (a : Amend) (o : Option Vnode) → get n v.vnodes ≡ o → Later first v → Later first (amends_at id n a v o).volume
amends_later first v id n a None e h = h
amends_later first v id n a (Some x) e h = record {
  next = h.next;
  kept = λ m z e'. set_by (eqb n m) first v n m (amended (v.counter + 1) a x) z refl h (h.kept n x e) (sym (get_set m n (amended (v.counter + 1) a x) v.vnodes) ∙ e');
}

makes_later : (first v : Volume) (id n : ℕ) (x : Vnode) (o : Option Vnode) → Later first v → Later first (makes_at id n x v o).volume
makes_later first v id n x (Some y) h = h
makes_later first v id n x None h = record {
  next = (let a : first.next ≤ v.next = h.next in omega arith);
  kept = λ m z e'. set_by (eqb n m) first v n m (fresh (v.counter + 1) v.next x) z refl h (inr h.next) (sym (get_set m n (fresh (v.counter + 1) v.next x) v.vnodes) ∙ e');
}

frees_later : (first v : Volume) (id n : ℕ) (o : Option Vnode) → Later first v → Later first (frees_at id n v o).volume
frees_later first v id n None h = h
frees_later first v id n (Some x) h = record {
  next = h.next;
  kept = λ m z e'. unset_by (eqb n m) first v n m z h (sym (get_unset m n v.vnodes) ∙ e');
}

edit_later : (first v : Volume) (id : ℕ) (e : Edit) → Later first v → Later first (edited id e v).volume
edit_later first v id (amends n a) h = amends_later first v id n a (get n v.vnodes) refl h
edit_later first v id (makes n x) h = makes_later first v id n x (get n v.vnodes) h
edit_later first v id (frees n) h = frees_later first v id n (get n v.vnodes) h

-- the edit is one of a vnode that is there
abbrev edits_it : ℕ → Edit → Bool
edits_it n (amends m a) = nat_eq m n
edits_it n (makes m x) = false
edits_it n (frees m) = nat_eq m n

abbrev edits_one : ℕ → List Edit → Bool
edits_one n [] = false
edits_one n (e ∷ es) = cond (edits_it n e) true (edits_one n es)

abbrev IsTouched : Volume → ℕ → Bool → Fid → Type 0
IsTouched first id b g = (g.volume ≡ id) × (((b ≡ true) × HadUnique first g.vnode g.unique) ⊎ (first.next ≤ g.unique))

if_so : (b : Bool) → cond b true false ≡ true → b ≡ true
if_so true e = refl
if_so false e = absurd cc

one_fid : (f g : Fid) → cond (same_fid f g) true false ≡ true → f ≡ g
one_fid f g e = same_fid-true f g (if_so (same_fid f g) e)

old_touched : (first : Volume) (id n u : ℕ) (g : Fid) → fid_at id n u ≡ g → IsOldOrNew first n u → IsTouched first id (eqb n g.vnode) g
old_touched first id n u g e (inl had) = subst (λ (f : Fid). IsTouched first id (eqb n f.vnode) f) e (refl, inl (eq-eqb n n refl, had))
old_touched first id n u g e (inr new) = subst (λ (f : Fid). IsTouched first id (eqb n f.vnode) f) e (refl, inr new)

amends_touched : (first v : Volume) (id n : ℕ) (a : Amend) (g : Fid) (o : Option Vnode) → get n v.vnodes ≡ o → Later first v → touches g (amends_at id n a v o).versions ≡ true → IsTouched first id (eqb n g.vnode) g
amends_touched first v id n a g None e h t = absurd cc
amends_touched first v id n a g (Some x) e h t = old_touched first id n x.unique g (one_fid (fid_at id n x.unique) g t) (h.kept n x e)

frees_touched : (first v : Volume) (id n : ℕ) (g : Fid) (o : Option Vnode) → get n v.vnodes ≡ o → Later first v → touches g (frees_at id n v o).versions ≡ true → IsTouched first id (eqb n g.vnode) g
frees_touched first v id n g None e h t = absurd cc
frees_touched first v id n g (Some x) e h t = old_touched first id n x.unique g (one_fid (fid_at id n x.unique) g t) (h.kept n x e)

makes_touched : (first v : Volume) (id n : ℕ) (x : Vnode) (g : Fid) (o : Option Vnode) → Later first v → touches g (makes_at id n x v o).versions ≡ true → IsTouched first id false g
makes_touched first v id n x g (Some y) h t = absurd cc
makes_touched first v id n x g None h t = subst (λ (f : Fid). IsTouched first id false f) (one_fid (fid_at id n v.next) g t) (refl, inr h.next)

edit_touched : (first v : Volume) (id : ℕ) (e : Edit) (g : Fid) → Later first v → touches g (edited id e v).versions ≡ true → IsTouched first id (edits_it g.vnode e) g
edit_touched first v id (amends n a) g h t = amends_touched first v id n a g (get n v.vnodes) refl h t
edit_touched first v id (makes n x) g h t = makes_touched first v id n x g (get n v.vnodes) h t
edit_touched first v id (frees n) g h t = frees_touched first v id n g (get n v.vnodes) refl h t

touched_more : (first : Volume) (id : ℕ) (a b : Bool) (g : Fid) → (IsTouched first id a g) ⊎ (IsTouched first id b g) → IsTouched first id (cond a true b) g
touched_more first id true b g (inl (is, inl h)) = (is, inl (refl, h.1))
touched_more first id a b g (inl (is, inr h)) = (is, inr h)
touched_more first id false b g (inl (is, inl h)) = absurd (let z = h.0 in cc)
touched_more first id true b g (inr (is, inl h)) = (is, inl (refl, h.1))
touched_more first id false b g (inr (is, inl h)) = (is, inl h)
touched_more first id a b g (inr (is, inr h)) = (is, inr h)

either_by : (t : Bool) (g : Fid) (vs ws : List Version) → cond t true (touches g (vs ++ ws)) ≡ true → (touches g (vs ++ ws) ≡ true → (touches g vs ≡ true) ⊎ (touches g ws ≡ true)) → (cond t true (touches g vs) ≡ true) ⊎ (touches g ws ≡ true)
either_by true g vs ws e h = inl refl
either_by false g vs ws e h = h e

either_touches : (g : Fid) (vs ws : List Version) → touches g (vs ++ ws) ≡ true → (touches g vs ≡ true) ⊎ (touches g ws ≡ true)
either_touches g [] ws t = inr t
either_touches g (v ∷ vs) ws t = either_by (same_fid v.fid g) g vs ws t (either_touches g vs ws)

both_touched : (first : Volume) (id : ℕ) (a b : Bool) (g : Fid) (vs ws : List Version) → (touches g vs ≡ true) ⊎ (touches g ws ≡ true) → (touches g vs ≡ true → IsTouched first id a g) → (touches g ws ≡ true → IsTouched first id b g) → IsTouched first id (cond a true b) g
both_touched first id a b g vs ws (inl t) p q = touched_more first id a b g (inl (p t))
both_touched first id a b g vs ws (inr t) p q = touched_more first id a b g (inr (q t))

edits_touched : (first v : Volume) (id : ℕ) (es : List Edit) (g : Fid) → Later first v → touches g (versions_by id es v) ≡ true → IsTouched first id (edits_one g.vnode es) g
edits_touched first v id [] g h t = absurd cc
edits_touched first v id (e ∷ es) g h t =
    both_touched first id (edits_it g.vnode e) (edits_one g.vnode es) g (edited id e v).versions (versions_by id es (edited id e v).volume)
    (either_touches g (edited id e v).versions (versions_by id es (edited id e v).volume) t)
    (edit_touched first v id e g h)
    (edits_touched first (edited id e v).volume id es g (edit_later first v id e h))

swapped : (a b c : Bool) → cond a true (cond b true c) ≡ cond b true (cond a true c)
swapped true true c = refl
swapped true false c = refl
swapped false b c = refl

placed_by : (t : Bool) (n : ℕ) (e d : Edit) (ds : List Edit) → edits_one n (edit_put e ds) ≡ cond (edits_it n e) true (edits_one n ds) → edits_one n (if t then d ∷ edit_put e ds else e ∷ d ∷ ds) ≡ cond (edits_it n e) true (edits_one n (d ∷ ds))
placed_by true n e d ds h = ap (cond (edits_it n d) true) h ∙ swapped (edits_it n d) (edits_it n e) (edits_one n ds)
placed_by false n e d ds h = refl

placed_one : (n : ℕ) (e : Edit) (ds : List Edit) → edits_one n (edit_put e ds) ≡ cond (edits_it n e) true (edits_one n ds)
placed_one n e [] = refl
placed_one n e (d ∷ ds) = placed_by (nat_lt (edit_number d) (edit_number e)) n e d ds (placed_one n e ds)

ascending_one : (n : ℕ) (es : List Edit) → edits_one n (ascending es) ≡ edits_one n es
ascending_one n [] = refl
ascending_one n (e ∷ es) = placed_one n e (ascending es) ∙ ap (cond (edits_it n e) true) (ascending_one n es)

-- ---- the scope of each call

pub passes : (b : Bool) (code : ℕ) (rest : Option ℕ) → (if b then rest else Some code) ≡ None → (b ≡ true) × (rest ≡ None)
passes true code rest e = (refl, e)
passes false code rest e = absurd cc

-- all tests pass
pub all_pass : (ts : List (Bool × ℕ)) → first_failing ts ≡ None → AllByRecursion (λ (t : Bool × ℕ). t.0 ≡ true) ts
all_pass [] e = tt
all_pass (t ∷ ts) e = ((passes t.0 t.1 (first_failing ts) e).0, all_pass ts (passes t.0 t.1 (first_failing ts) e).1)

unique_by : (b : Bool) (n u : ℕ) (x : Vnode) → nat_eq n u ≡ b → is_some (if b then Some x else None) ≡ true → n ≡ u
unique_by true n u x e t = eqb-true n u e
unique_by false n u x e t = absurd cc

pub or_left : (a b : Bool) → a ≡ true → (a || b) ≡ true
or_left true b e = refl
or_left false b e = absurd cc

pub or_right : (a b : Bool) → b ≡ true → (a || b) ≡ true
or_right true b e = refl
or_right false b e = e

pub implied : (a b : Bool) → a ≡ true → implies a b ≡ true → b ≡ true
implied true b p e = e
implied false b p e = absurd cc

-- a vnode that is found under its fid
pub found_by : (f : Fid) (o : Option Vnode) → is_some (if_unique f.unique o) ≡ true → (x : Vnode) × ((o ≡ Some x) × (x.unique ≡ f.unique))
found_by f None t = absurd cc
found_by f (Some x) t = (x, (refl, unique_by (nat_eq x.unique f.unique) x.unique f.unique x refl t))

own_fid : (f g : Fid) (id : ℕ) (v : Volume) → f.volume ≡ id → is_some (vnode_of f v) ≡ true → nat_eq f.vnode g.vnode ≡ true → g.volume ≡ id → HadUnique v g.vnode g.unique → same_fid f g ≡ true
own_fid f g id v e t p q had =
    let found = found_by f (get f.vnode v.vnodes) t in
    let number : f.vnode ≡ g.vnode = eqb-true f.vnode g.vnode p in
    let one : Some found.0 ≡ Some had.0 = sym found.1.0 ∙ (ap (λ (n : ℕ). get n v.vnodes) number ∙ had.1.0) in
    let unique : f.unique ≡ g.unique = sym found.1.1 ∙ (ap (λ (x : Vnode). x.unique) (some_of found.0 had.0 one) ∙ had.1.1) in
    both_true (nat_eq f.volume g.volume) _ (eq-eqb f.volume g.volume (e ∙ sym q)) (both_true (nat_eq f.vnode g.vnode) (nat_eq f.unique g.unique) p (eq-eqb f.unique g.unique unique))

abbrev IsIn : Volume → FsCall → Fid → Type 0
IsIn v call g = (is_in_scope call g ≡ true) ⊎ (v.next ≤ g.unique)

-- an edit of the call's fid, or of none
one_scope : (v : Volume) (id : ℕ) (f g : Fid) → f.volume ≡ id → is_some (vnode_of f v) ≡ true → IsTouched v id (cond (nat_eq f.vnode g.vnode) true false) g → (same_fid f g ≡ true) ⊎ (v.next ≤ g.unique)
one_scope v id f g e t (is, inl (p, had)) = inl (own_fid f g id v e t (if_so (nat_eq f.vnode g.vnode) p) is had)
one_scope v id f g e t (is, inr new) = inr new

two_scope : (v : Volume) (id : ℕ) (d f g : Fid) → d.volume ≡ id → f.volume ≡ id → is_some (vnode_of d v) ≡ true → is_some (vnode_of f v) ≡ true → (b : Bool) → nat_eq d.vnode g.vnode ≡ b
    → IsTouched v id (cond b true (cond (nat_eq f.vnode g.vnode) true false)) g → ((same_fid d g || same_fid f g) ≡ true) ⊎ (v.next ≤ g.unique)
two_scope v id d f g p q t u true same (is, inl (e, had)) = inl (or_left (same_fid d g) (same_fid f g) (own_fid d g id v p t same is had))
two_scope v id d f g p q t u false same (is, inl (e, had)) = inl (or_right (same_fid d g) (same_fid f g) (own_fid f g id v q u (if_so (nat_eq f.vnode g.vnode) e) is had))
two_scope v id d f g p q t u b same (is, inr new) = inr new

volume_scope : (v : Volume) (id : ℕ) (d g : Fid) (b : Bool) → d.volume ≡ id → IsTouched v id b g → (nat_eq d.volume g.volume ≡ true) ⊎ (v.next ≤ g.unique)
volume_scope v id d g b e h = inl (eq-eqb d.volume g.volume (e ∙ sym h.0))

-- what the edits of an accepted change touch
made : (id : ℕ) (v : Volume) (es ds : List Edit) (n m : ℕ) (g : Fid) → changes ds m ≡ changes es n → touches g (versions_by id es v) ≡ true → IsTouched v id (edits_one g.vnode ds) g
made id v es ds n m g e t =
    let same : es ≡ ds = (let z = e in cc) in
    subst (λ (xs : List Edit). IsTouched v id (edits_one g.vnode xs) g) same (edits_touched v v id es g (later_itself v) t)

made_ascending : (id : ℕ) (v : Volume) (es ds : List Edit) (n m : ℕ) (g : Fid) → changes (ascending ds) m ≡ changes es n → touches g (versions_by id es v) ≡ true → IsTouched v id (edits_one g.vnode ds) g
made_ascending id v es ds n m g e t = subst (λ (b : Bool). IsTouched v id b g) (ascending_one g.vnode ds) (made id v es (ascending ds) n m g e t)

pub read_is_none : (show : Found → Shown) (f : Fid) (o : Option Vnode) (es : List Edit) (n : ℕ) → ops.read_by show f o ≡ changes es n → ⊥
read_is_none show f None es n e = absurd cc
read_is_none show f (Some x) es n e = absurd cc

one_more_none : (f : Fid) (o : Option ℕ) (x : Option Vnode) (r : Result) (es : List Edit) (n : ℕ) → ((ds : List Edit) (m : ℕ) → r ≡ changes ds m → ⊥) → ops.one_more f o x r ≡ changes es n → ⊥
one_more_none f (Some code) x r es n h e = absurd cc
one_more_none f None None r es n h e = absurd cc
one_more_none f None (Some x) (ops.reads (ops.shows_statuses xs)) es n h e = absurd cc
one_more_none f None (Some x) (ops.reads (ops.shows_body y)) es n h e = absurd cc
one_more_none f None (Some x) (ops.reads (ops.shows_status y)) es n h e = absurd cc
one_more_none f None (Some x) (ops.reads (ops.shows_acl y)) es n h e = absurd cc
one_more_none f None (Some x) (ops.reads ops.shows_volume) es n h e = absurd cc
one_more_none f None (Some x) (ops.refused code) es n h e = absurd cc
one_more_none f None (Some x) ops.no_operation es n h e = absurd cc
one_more_none f None (Some x) (changes ds m) es n h e = h ds m refl

pub statuses_none : (caller : Caller) (v : Volume) (fs : List Fid) (es : List Edit) (n : ℕ) → ops.shows_several caller v fs ≡ changes es n → ⊥
statuses_none caller v [] es n e = absurd cc
statuses_none caller v (f ∷ fs) es n e = one_more_none f (first_failing (tests caller (calls.FetchStatus f) v)) (vnode_of f v) (ops.shows_several caller v fs) es n (λ ds m. statuses_none caller v fs ds m) e

scope_by : (id : ℕ) (caller : Caller) (call : FsCall) (v : Volume) (es : List Edit) (n : ℕ) (g : Fid) → IsOn id call → first_failing (tests caller call v) ≡ None → effect caller call v ≡ changes es n → touches g (versions_by id es v) ≡ true → IsIn v call g
scope_by id caller (calls.StoreData f status position stored file_length contents) v es n g on ok e t = one_scope v id f g (some_of _ _ on) (passes _ _ _ ok).0 (made id v es _ n _ g e t)
scope_by id caller (calls.StoreAcl f acl) v es n g on ok e t = one_scope v id f g (some_of _ _ on) (passes _ _ _ ok).0 (made id v es _ n _ g e t)
scope_by id caller (calls.StoreStatus f status) v es n g on ok e t = one_scope v id f g (some_of _ _ on) (passes _ _ _ ok).0 (made id v es _ n _ g e t)
scope_by id caller (calls.CreateFile d name status) v es n g on ok e t = one_scope v id d g (some_of _ _ on) (passes _ _ _ ok).0 (made_ascending id v es (ops.creating d name status None (ops.new_file d) v) n (ops.free_number a_file v) g e t)
scope_by id caller (calls.Symlink d name target status) v es n g on ok e t = one_scope v id d g (some_of _ _ on) (passes _ _ _ ok).0 (made_ascending id v es (ops.creating d name status None (ops.new_link d target) v) n (ops.free_number a_link v) g e t)
scope_by id caller (calls.MakeDir d name status) v es n g on ok e t = one_scope v id d g (some_of _ _ on) (passes _ _ _ ok).0 (made_ascending id v es (ops.creating d name status (Some (ops.links_of (vnode_of d v) + 1)) (ops.new_directory d (ops.acl_of (vnode_of d v))) v) n (ops.free_number a_directory v) g e t)
scope_by id caller (calls.Link d name f) v es n g on ok e t =
    let p = all_pass (tests caller (calls.Link d name f) v) ok in
    let good = p.1.1.1.1.1.0 in
    let same : nat_eq f.volume d.volume ≡ true = (both (nat_eq f.volume d.volume) (may_link d (vnode_of f v)) (both (nat_eq f.volume d.volume && may_link d (vnode_of f v)) (name_ok name) good).0).0 in
    two_scope v id d f g (some_of _ _ on) (eqb-true f.volume d.volume same ∙ some_of _ _ on) p.0 (implied (nat_eq f.volume d.volume) (is_some (vnode_of f v)) same p.1.0) (nat_eq d.vnode g.vnode) refl (made_ascending id v es (ops.linking d name f v) n f.vnode g e t)
scope_by id caller (calls.RemoveFile d name) v es n g on ok e t = volume_scope v id d g (edits_one g.vnode (ops.removing d name None v)) (some_of _ _ on) (made_ascending id v es (ops.removing d name None v) n d.vnode g e t)
scope_by id caller (calls.RemoveDir d name) v es n g on ok e t =
    let ds = ops.removing d name (Some (ops.links_of (vnode_of d v) - 1)) v in
    volume_scope v id d g (edits_one g.vnode ds) (some_of _ _ on) (made_ascending id v es ds n d.vnode g e t)
scope_by id caller (calls.Rename d old e' new) v es n g on ok e t =
    let ds = ops.renaming d e' old new (ops.name_in d old v) (ops.name_in e' new v) v in
    volume_scope v id d g (edits_one g.vnode ds) (some_of _ _ on) (made_ascending id v es ds n e'.vnode g e t)
scope_by id caller (calls.FetchData f position wanted) v es n g on ok e t = absurd (read_is_none ops.shows_body f (vnode_of f v) es n e)
scope_by id caller (calls.FetchAcl f) v es n g on ok e t = absurd (read_is_none ops.shows_acl f (vnode_of f v) es n e)
scope_by id caller (calls.FetchStatus f) v es n g on ok e t = absurd (read_is_none ops.shows_status f (vnode_of f v) es n e)
scope_by id caller (calls.BulkStatus fs) v es n g on ok e t = absurd (statuses_none caller v fs es n e)
scope_by id caller call v es n g on ok e t = absurd cc

pub stays_in_scope : (id : ℕ) (caller : Caller) (call : FsCall) (v : Volume) (es : List Edit) (n : ℕ) (g : Fid) → IsOn id call → op id caller call v ≡ changes es n → touches g (versions_by id es v) ≡ true → IsIn v call g
stays_in_scope id caller call v es n g on e t =
    let a = accepted id caller call v es n e in
    scope_by id caller call v es n g on a.tested a.effected t
