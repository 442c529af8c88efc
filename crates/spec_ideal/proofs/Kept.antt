-- A sound volume as a sound map and back, and the operations one by one.
use Rattle.std.proofs.Common.{◌≡◌, ℕ, zero, suc, ◌+◌, ◌≤◌, Bool, true, false, cond, eqb, List, [], ◌∷◌, Option, Some, None, refl, sym, ap, subst, ◌∙◌, arith, eq-eqb, eqb-true}
use Rattle.std.specs.Prelude.{⊤, is_some}
use Rattle.std.specs.List.{AllByRecursion}
use Rattle.std.specs.Option.{option_map}
use Rattle.afs_num.specs.declared.types.Fid.{Fid}
use Rattle.afs_num.specs.declared.acls.AccessList.{AccessList}
use Rattle.afs_num.specs.declared.calls.AfsStoreStatus.{AfsStoreStatus}
use Rattle.spec_ideal.specs.Tables.{Table, get, AscendsFrom}
use Rattle.spec_ideal.specs.AccessLists.{IsAccessList}
use Rattle.spec_ideal.specs.Volumes.{VnodeKind, a_file, a_directory, a_link, Vnode, Volume, if_unique, vnode_of, Amend, Edit, amends, makes, frees, or_old, amended, edited_all, edit_number, ascending, counted}
use Rattle.spec_ideal.specs.Operations.{is_kind, kind_is, no_amend}
use Rattle.spec_ideal.specs.Soundness.{GivesOne, IsNamedIn, HasByKind, IsSound}
use Rattle.spec_ideal.proofs.Basics.{some_of}
use Rattle.spec_ideal.proofs.Tables.{get_below}
use Rattle.spec_ideal.proofs.Counts.{all_each, each_all}
use Rattle.spec_ideal.proofs.Maps.{Map, Own, Sound, AreSeen, as_seen, Like, AreLike, like_itself, as_like}
use Rattle.spec_ideal.proofs.Ranks.{Ranked, at, steps, reaching_ranked, HasParents, ranked_reaching, ranked_same}
use Rattle.spec_ideal.proofs.Looks.{one_edit, look, looks, ascending_looks, Distinct, distinct_ascending, MakesAs, no_makes, IsNoMake, next_all, each_ascending, IsAboveRoot, all_up}
use Rattle.spec_ideal.proofs.Scopes.{found_by}

-- ---- a volume as a map

pub as_map : (v : Volume) → IsSound v → Sound v.next (at v)
as_map v h = record {
  root = h.root;
  own = λ n x e. (let s = h.vnodes n x e in record { kind = s.kind; unique = s.unique; body = s.body });
  given = λ d x e. all_each (GivesOne v d x.unique) x.names (h.vnodes d x e).given;
  named = λ n x e ne. ((h.vnodes n x e).placed ne).named;
}

pub as_ranked : (v : Volume) → IsSound v → Ranked (at v) (steps v)
as_ranked v h = reaching_ranked v (λ n x e ne. ((h.vnodes n x e).placed ne).reaches)

parent_by : (o : Option Vnode) (n : ℕ) (x : Vnode) → IsNamedIn o n x → (d : Vnode) × (o ≡ Some d)
parent_by None n x h = absurd h
parent_by (Some d) n x h = (d, refl)

pub has_parents : (next : ℕ) (g : Map) → Sound next g → HasParents g
has_parents next g h n x e ne = parent_by (g x.parent) n x (h.named n x e ne)

pub as_volume : (v : Volume) (rank : ℕ → ℕ) → AscendsFrom 1 v.vnodes → Sound v.next (at v) → Ranked (at v) rank → IsSound v
as_volume v rank up h ranked = record {
  root = h.root;
  ascending = up;
  vnodes = λ n x e. (let own = h.own n x e in record {
    kind = own.kind;
    unique = own.unique;
    body = own.body;
    given = each_all (GivesOne v n x.unique) x.names (h.given n x e);
    placed = λ ne. record { named = h.named n x e ne; reaches = ranked_reaching v rank ranked (has_parents v.next (at v) h) n x e };
  });
}

-- after edits
pub edited_sound : (id next : ℕ) (es : List Edit) (v : Volume) (rank : ℕ → ℕ) → IsSound v → AllByRecursion IsAboveRoot es → (edited_all id es v).next ≡ next → Sound next (at (edited_all id es v)) → Ranked (at (edited_all id es v)) rank → IsSound (counted (edited_all id es v))
edited_sound id next es v rank h above e sound ranked = as_volume (counted (edited_all id es v)) rank (all_up id es v above h.ascending) (subst (λ (n : ℕ). Sound n (at (edited_all id es v))) (sym e) sound) ranked

-- ---- what stands under a fid

pub record Found (f : Fid) (v : Volume) (x : Vnode) : Type 0 where
  pub there : get f.vnode v.vnodes ≡ Some x
  pub found : vnode_of f v ≡ Some x
  pub unique : x.unique ≡ f.unique

found_is : (f : Fid) (x : Vnode) (o : Option Vnode) → o ≡ Some x → x.unique ≡ f.unique → if_unique f.unique o ≡ Some x
found_is f x o e u = rw (e, eq-eqb x.unique f.unique u) refl

pub finds : (f : Fid) (v : Volume) → is_some (vnode_of f v) ≡ true → (x : Vnode) × Found f v x
finds f v t = let r = found_by f (get f.vnode v.vnodes) t in (r.0, record { there = r.1.0; found = found_is f r.0 (get f.vnode v.vnodes) r.1.0 r.1.1; unique = r.1.1 })

kind_by : (k c : VnodeKind) → is_kind k c ≡ true → k ≡ c
kind_by a_file a_file e = refl
kind_by a_directory a_directory e = refl
kind_by a_link a_link e = refl
kind_by a b e = absurd cc

pub kind_found : (f : Fid) (v : Volume) (x : Vnode) (k : VnodeKind) → Found f v x → kind_is k (vnode_of f v) ≡ true → x.kind ≡ k
kind_found f v x k found t = kind_by x.kind k (subst (λ (o : Option Vnode). kind_is k o ≡ true) found.found t)

-- ---- edits that leave links and names

-- an edit that keeps the parent of what it amends
abbrev pub KeepsParent : Edit → Type 0
KeepsParent (amends n a) = a.parent ≡ None
KeepsParent (makes n x) = ⊥
KeepsParent (frees n) = ⊤

abbrev SameParent : Option Vnode → Vnode → Type 0
SameParent o y = (x : Vnode) × ((o ≡ Some x) × (y.parent ≡ x.parent))

amended_parent : (c : ℕ) (a : Amend) (o : Option Vnode) (y : Vnode) → a.parent ≡ None → option_map (amended c a) o ≡ Some y → SameParent o y
amended_parent c a None y keeps e = absurd cc
amended_parent c a (Some x) y keeps e = (x, (refl, ap (λ (z : Vnode). z.parent) (sym (some_of (amended c a x) y e)) ∙ rw keeps refl))

edit_parent : (c u : ℕ) (e : Edit) (o : Option Vnode) (y : Vnode) → KeepsParent e → one_edit c u e o ≡ Some y → SameParent o y
edit_parent c u (amends n a) o y keeps e = amended_parent c a o y keeps e
edit_parent c u (makes n x) o y keeps e = absurd keeps
edit_parent c u (frees n) o y keeps e = absurd cc

-- all edits but those of t
abbrev pub KeepsBut : ℕ → Edit → Type 0
KeepsBut t e = (edit_number e ≡ t → ⊥) → KeepsParent e

look_by : (b : Bool) (c u t n : ℕ) (e : Edit) (es : List Edit) (o : Option Vnode) (y : Vnode) → eqb (edit_number e) n ≡ b → (n ≡ t → ⊥) → KeepsBut t e → cond b (one_edit c u e o) (look c u es n o) ≡ Some y → (look c u es n o ≡ Some y → SameParent o y) → SameParent o y
look_by true c u t n e es o y b ne keeps is more = edit_parent c u e o y (keeps (λ s. ne (sym (eqb-true (edit_number e) n b) ∙ s))) is
look_by false c u t n e es o y b ne keeps is more = more is

look_parent : (c u t n : ℕ) (es : List Edit) (o : Option Vnode) (y : Vnode) → (n ≡ t → ⊥) → AllByRecursion (KeepsBut t) es → look c u es n o ≡ Some y → SameParent o y
look_parent c u t n [] o y ne h e = (y, (e, refl))
look_parent c u t n (d ∷ es) o y ne h e = look_by (eqb (edit_number d) n) c u t n d es o y refl ne h.0 e (look_parent c u t n es o y ne h.1)

-- what the volume holds after edits in ascending order
pub holds_after : (id u m : ℕ) (es : List Edit) (v : Volume) → Distinct es → MakesAs u v.next (ascending es) → get m (edited_all id (ascending es) v).vnodes ≡ look (v.counter + 1) u es m (get m v.vnodes)
holds_after id u m es v apart makes_as = looks id u m (ascending es) v (distinct_ascending es apart) makes_as ∙ ascending_looks (v.counter + 1) u m es (get m v.vnodes)

pub same_parents : (id u t : ℕ) (es : List Edit) (v : Volume) → Distinct es → MakesAs u v.next (ascending es) → AllByRecursion (KeepsBut t) es → (n : ℕ) (y : Vnode) → get n (edited_all id (ascending es) v).vnodes ≡ Some y → (n ≡ t → ⊥) → SameParent (get n v.vnodes) y
same_parents id u t es v apart makes_as keeps n y e ne = look_parent (v.counter + 1) u t n es (get n v.vnodes) y ne keeps (sym (holds_after id u n es v apart makes_as) ∙ e)

-- where all edits keep parents
each_but : (t : ℕ) (es : List Edit) → AllByRecursion KeepsParent es → AllByRecursion (KeepsBut t) es
each_but t [] h = tt
each_but t (e ∷ es) h = ((λ ne. h.0), each_but t es h.1)

above_zero : (n : ℕ) (t : Table Vnode) (y : Vnode) → AscendsFrom 1 t → get n t ≡ Some y → n ≡ 0 → ⊥
above_zero n t y up e z = let none : get n t ≡ None = get_below 1 n t (omega (arith, z)) up in let no_one : None ≡ Some y = sym none ∙ e in absurd cc

pub above_root : (n : ℕ) (t : Table Vnode) (y : Vnode) → AscendsFrom 1 t → get n t ≡ Some y → 1 ≤ n
above_root n t y up e = let ne = above_zero n t y up e in at_least n ne
  where
    at_least : (n : ℕ) → (n ≡ 0 → ⊥) → 1 ≤ n
    at_least zero ne = absurd (ne refl)
    at_least (suc k) ne = omega arith

pub all_parents : (id u : ℕ) (es : List Edit) (v : Volume) → IsSound v → AllByRecursion IsAboveRoot (ascending es) → Distinct es → MakesAs u v.next (ascending es) → AllByRecursion KeepsParent es
    → (n : ℕ) (y : Vnode) → get n (edited_all id (ascending es) v).vnodes ≡ Some y → SameParent (get n v.vnodes) y
all_parents id u es v h above apart makes_as keeps n y e =
    same_parents id u 0 es v apart makes_as (each_but 0 es keeps) n y e (above_zero n (edited_all id (ascending es) v).vnodes y (all_up id (ascending es) v above h.ascending) e)

-- edits that make nothing
abbrev pub IsPlain : Edit → Type 0
IsPlain e = IsNoMake e × IsAboveRoot e

plain_no_make : (es : List Edit) → AllByRecursion IsPlain es → AllByRecursion IsNoMake es
plain_no_make [] h = tt
plain_no_make (e ∷ es) h = (h.0.0, plain_no_make es h.1)

plain_above : (es : List Edit) → AllByRecursion IsPlain es → AllByRecursion IsAboveRoot es
plain_above [] h = tt
plain_above (e ∷ es) h = (h.0.1, plain_above es h.1)

-- A sound map that is like what plain edits leave, by a rank.
pub plain_ranked : (id : ℕ) (es : List Edit) (v : Volume) (rank : ℕ → ℕ) (g : Map) → IsSound v → AllByRecursion IsPlain es → Distinct es → Sound v.next g → ((n : ℕ) → AreLike (g n) (look (v.counter + 1) v.next es n (get n v.vnodes)))
    → Ranked (at (edited_all id (ascending es) v)) rank → IsSound (counted (edited_all id (ascending es) v))
plain_ranked id es v rank g h plain apart sound like ranked =
    let all = each_ascending IsPlain es plain in
    let nothing = plain_no_make (ascending es) all in
    edited_sound id v.next (ascending es) v rank h (plain_above (ascending es) all) (next_all id (ascending es) v nothing)
    (as_like v.next g (at (edited_all id (ascending es) v)) (λ n. subst (AreLike (g n)) (sym (holds_after id v.next n es v apart (no_makes v.next v.next (ascending es) nothing))) (like n)) sound) ranked

-- and where no parent changes
pub plain_sound : (id : ℕ) (es : List Edit) (v : Volume) (g : Map) → IsSound v → AllByRecursion IsPlain es → AllByRecursion KeepsParent es → Distinct es → Sound v.next g → ((n : ℕ) → AreLike (g n) (look (v.counter + 1) v.next es n (get n v.vnodes)))
    → IsSound (counted (edited_all id (ascending es) v))
plain_sound id es v g h plain keeps apart sound like =
    let all = each_ascending IsPlain es plain in
    plain_ranked id es v (steps v) g h plain apart sound like
    (ranked_same (at v) (at (edited_all id (ascending es) v)) (steps v) (as_ranked v h) (all_parents id v.next es v h (plain_above (ascending es) all) apart (no_makes v.next v.next (ascending es) (plain_no_make (ascending es) all)) keeps))

-- ---- likeness, number by number

pub like_if : (b : Bool) (a c r s : Option Vnode) → (b ≡ true → AreLike a c) → AreLike r s → AreLike (cond b a r) (cond b c s)
like_if true a c r s p q = p refl
like_if false a c r s p q = q

-- of two numbers that differ the order makes no difference
pub like_two : (p q : Bool) (a b c e r : Option Vnode) → (p ≡ true → q ≡ true → ⊥) → (p ≡ true → AreLike a c) → (q ≡ true → AreLike b e) → AreLike (cond p a (cond q b r)) (cond q e (cond p c r))
like_two true true a b c e r ne f g = absurd (ne refl refl)
like_two true false a b c e r ne f g = f refl
like_two false true a b c e r ne f g = g refl
like_two false false a b c e r ne f g = like_itself r

pub two_numbers : (d t n : ℕ) → (t ≡ d → ⊥) → eqb t n ≡ true → eqb d n ≡ true → ⊥
two_numbers d t n ne p q = ne (eqb-true t n p ∙ sym (eqb-true d n q))

-- an amended vnode
pub amended_like : (d n c : ℕ) (a : Amend) (x y : Vnode) (v : Volume) → get d v.vnodes ≡ Some x → eqb d n ≡ true → Like y (amended c a x) → AreLike (Some y) (option_map (amended c a) (get n v.vnodes))
amended_like d n c a x y v e b like =
    let is : get n v.vnodes ≡ Some x = ap (λ (k : ℕ). get k v.vnodes) (sym (eqb-true d n b)) ∙ e in
    subst (λ (o : Option Vnode). AreLike (Some y) (option_map (amended c a) o)) (sym is) like

-- ---- StoreStatus, StoreData, StoreACL: one vnode, of which others see nothing new

stored_seen : (b : Bool) (c : ℕ) (a : Amend) (o r : Option Vnode) → a.names ≡ None → a.links ≡ None → a.parent ≡ None → (b ≡ true → o ≡ r) → AreSeen r (cond b (option_map (amended c a) o) r)
stored_seen true c a None r ns l p e = subst (λ (k : Option Vnode). AreSeen k None) (e refl) tt
stored_seen true c a (Some x) r ns l p e =
    subst (λ (k : Option Vnode). AreSeen k (Some (amended c a x))) (e refl) (record { unique = refl; kind = refl; links = rw l refl; parent = rw p refl; parent_unique = rw p refl; names = rw ns refl })
stored_seen false c a o None ns l p e = tt
stored_seen false c a o (Some x) ns l p e = record { unique = refl; kind = refl; links = refl; parent = refl; parent_unique = refl; names = refl }

stored_own : (b : Bool) (next c n k : ℕ) (a : Amend) (x y : Vnode) (v : Volume) → eqb n k ≡ b → get n v.vnodes ≡ Some x → Own next n (amended c a x) → ((m : ℕ) (z : Vnode) → get m v.vnodes ≡ Some z → Own next m z) → cond b (option_map (amended c a) (get k v.vnodes)) (get k v.vnodes) ≡ Some y → Own next k y
stored_own true next c n k a x y v b e own h is =
    let at_k : get k v.vnodes ≡ Some x = ap (λ (m : ℕ). get m v.vnodes) (sym (eqb-true n k b)) ∙ e in
    let same : Some (amended c a x) ≡ Some y = ap (option_map (amended c a)) (sym at_k) ∙ is in
    subst (λ (m : ℕ). Own next m y) (eqb-true n k b) (subst (Own next n) (some_of (amended c a x) y same) own)
stored_own false next c n k a x y v b e own h is = h k y is

pub stores_sound : (id n : ℕ) (a : Amend) (x : Vnode) (v : Volume) → IsSound v → get n v.vnodes ≡ Some x → a.names ≡ None → a.links ≡ None → a.parent ≡ None → Own v.next n (amended (v.counter + 1) a x) → IsSound (counted (edited_all id (amends n a ∷ []) v))
stores_sound id n a x v h e ns l p own =
    let es : List Edit = amends n a ∷ [] in
    let sound = as_map v h in
    let looked : (m : ℕ) → get m (edited_all id es v).vnodes ≡ look (v.counter + 1) v.next es m (get m v.vnodes) = λ m. looks id v.next m es v (tt, tt) tt in
    edited_sound id v.next es v (steps v) h (tt, tt) (next_all id es v (tt, tt))
    (as_seen v.next (at v) (at (edited_all id es v))
    (λ m. subst (AreSeen (get m v.vnodes)) (sym (looked m)) (stored_seen (eqb n m) (v.counter + 1) a (get m v.vnodes) (get m v.vnodes) ns l p (λ b. refl)))
    (λ m y is. stored_own (eqb n m) v.next (v.counter + 1) n m a x y v refl e own sound.own (sym (looked m) ∙ is)) sound)
    (ranked_same (at v) (at (edited_all id es v)) (steps v) (as_ranked v h) (all_parents id v.next es v h (tt, tt) (tt, tt) tt (p, tt)))

status_body : (k : VnodeKind) (c : ℕ) (s : AfsStoreStatus) (x : Vnode) → HasByKind k x → HasByKind k (amended c (record no_amend { status = Some s }) x)
status_body a_file c s x h = record { names = h.names; acl = h.acl }
status_body a_link c s x h = record { names = h.names; acl = h.acl }
status_body a_directory c s x h = record { names = h.names; acl = h.acl; contents = h.contents; links = h.links }

pub status_sound : (id : ℕ) (f : Fid) (s : AfsStoreStatus) (x : Vnode) (v : Volume) → IsSound v → Found f v x → IsSound (counted (edited_all id (amends f.vnode (record no_amend { status = Some s }) ∷ []) v))
status_sound id f s x v h found =
    let own = (as_map v h).own f.vnode x found.there in
    stores_sound id f.vnode (record no_amend { status = Some s }) x v h found.there refl refl refl (record { kind = own.kind; unique = own.unique; body = status_body x.kind (v.counter + 1) s x own.body })

data_body : (k : VnodeKind) (c : ℕ) (s : AfsStoreStatus) (bytes : List ℕ) (x : Vnode) → k ≡ a_file → HasByKind k x → HasByKind k (amended c (record no_amend { contents = Some bytes; status = Some s }) x)
data_body a_file c s bytes x e h = record { names = h.names; acl = h.acl }
data_body a_link c s bytes x e h = absurd cc
data_body a_directory c s bytes x e h = absurd cc

pub data_sound : (id : ℕ) (f : Fid) (s : AfsStoreStatus) (bytes : List ℕ) (x : Vnode) (v : Volume) → IsSound v → Found f v x → x.kind ≡ a_file → IsSound (counted (edited_all id (amends f.vnode (record no_amend { contents = Some bytes; status = Some s }) ∷ []) v))
data_sound id f s bytes x v h found file =
    let own = (as_map v h).own f.vnode x found.there in
    stores_sound id f.vnode (record no_amend { contents = Some bytes; status = Some s }) x v h found.there refl refl refl (record { kind = own.kind; unique = own.unique; body = data_body x.kind (v.counter + 1) s bytes x file own.body })

acl_body : (k : VnodeKind) (c : ℕ) (o : Option AccessList) (x : Vnode) → k ≡ a_directory → IsAccessList (or_old o x.acl) → HasByKind k x → HasByKind k (amended c (record no_amend { acl = o }) x)
acl_body a_directory c o x e is h = record { names = h.names; acl = is; contents = h.contents; links = h.links }
acl_body a_file c o x e is h = absurd cc
acl_body a_link c o x e is h = absurd cc

pub acl_sound : (id : ℕ) (f : Fid) (o : Option AccessList) (x : Vnode) (v : Volume) → IsSound v → Found f v x → x.kind ≡ a_directory → IsAccessList (or_old o x.acl) → IsSound (counted (edited_all id (amends f.vnode (record no_amend { acl = o }) ∷ []) v))
acl_sound id f o x v h found dir is =
    let own = (as_map v h).own f.vnode x found.there in
    stores_sound id f.vnode (record no_amend { acl = o }) x v h found.there refl refl refl (record { kind = own.kind; unique = own.unique; body = acl_body x.kind (v.counter + 1) o x dir is own.body })
