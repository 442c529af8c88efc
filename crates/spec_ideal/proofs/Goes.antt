-- RemoveFile and RemoveDir leave a sound volume sound.
use Rattle.std.proofs.Common.{◌≡◌, ℕ, ◌+◌, ◌-◌, ◌<◌, ◌≤◌, Bool, true, false, cond, eqb, not, List, [], ◌∷◌, Option, Some, None, refl, sym, ap, subst, ◌∙◌, arith, ltb-true}
use Rattle.std.specs.Prelude.{◌&&◌, nat_lt}
use Rattle.std.proofs.lemmas.Bool.Decides.{nat_tests}
use Rattle.std.specs.Option.{option_map}
use Rattle.afs_num.specs.declared.types.Fid.{Fid}
use Rattle.afs_num.specs.declared.directories.Name.{Name}
use Rattle.spec_ideal.specs.Tables.{get}
use Rattle.spec_ideal.specs.Directories.{named, without_name}
use Rattle.spec_ideal.specs.Volumes.{VnodeKind, a_file, a_directory, a_link, Vnode, Volume, vnode_of, Amend, Edit, amends, frees, or_old, amended, edited_all, edit_number, ascending, counted}
use Rattle.spec_ideal.specs.Operations.{is_kind, names_in, no_amend, unlinks, removing}
use Rattle.spec_ideal.specs.Soundness.{names_of, names_directory, HasNames, HasByKind, IsSound}
use Rattle.spec_ideal.proofs.Basics.{both}
use Rattle.spec_ideal.proofs.Counts.{one_if}
use Rattle.spec_ideal.proofs.Maps.{Map, put, Sound, AreLike}
use Rattle.spec_ideal.proofs.Steps.{with_names, Held, goes, loses, linked_by, taken}
use Rattle.spec_ideal.proofs.Ranks.{at, steps}
use Rattle.spec_ideal.proofs.Looks.{one_edit}
use Rattle.spec_ideal.proofs.Kept.{as_map, as_ranked, Found, KeepsParent, IsPlain, plain_sound, like_two, two_numbers, amended_like}
use Rattle.spec_ideal.proofs.Comes.{not_itself}

-- ---- what becomes of a vnode that loses a name

-- it stays, with one link less, or goes
pub stays : Vnode → Bool
stays y = not (is_kind y.kind a_directory) && nat_lt 1 y.links

abbrev pub unlinked : Bool → Vnode → Option Vnode
unlinked true y = Some (linked_by (y.links - 1) y)
unlinked false y = None

abbrev pub unlink_by : Bool → ℕ → Vnode → Edit
unlink_by true n y = amends n (record no_amend { links = Some (y.links - 1) })
unlink_by false n y = frees n

pub unlinks_is : (n : ℕ) (y : Vnode) (b : Bool) → stays y ≡ b → unlinks n (Some y) ≡ unlink_by b n y ∷ []
unfolding stays
unlinks_is n y true e = rw e refl
unlinks_is n y false e = rw e refl

pub no_directory : (k : VnodeKind) → not (is_kind k a_directory) ≡ true → k ≡ a_directory → ⊥
no_directory a_file e f = absurd cc
no_directory a_directory e f = absurd cc
no_directory a_link e f = absurd cc

-- a vnode that goes has no names, and just one name
few_links : (links n : ℕ) (b : Bool) → nat_lt 1 links ≡ b → b ≡ false → (n ≡ links) × (1 ≤ n) → n ≡ 1
few_links links n true t f h = absurd cc
few_links links n false t f h = grind (arith, nat_tests, t, h.0, h.1)

one_name : (k : VnodeKind) (links n : ℕ) → (not (is_kind k a_directory) && nat_lt 1 links) ≡ false → HasNames k links n → n ≡ 1
one_name a_directory links n e h = h
one_name a_file links n e h = few_links links n (nat_lt 1 links) refl e h
one_name a_link links n e h = few_links links n (nat_lt 1 links) refl e h

no_names : (k : VnodeKind) (y : Vnode) → (k ≡ a_directory → y.names ≡ []) → HasByKind k y → y.names ≡ []
no_names a_directory y empty h = empty refl
no_names a_file y empty h = h.names
no_names a_link y empty h = h.names

-- the map without the name, and without its vnode where it was the last
pub drops : (d next links : ℕ) (name : List ℕ) (m : Name) (x y : Vnode) (g : Map) (b : Bool) → stays y ≡ b → g d ≡ Some x → x.kind ≡ a_directory → named name x.names ≡ Some m → x.links ≡ links + one_if (names_directory m) → Held d m.vnode m.unique x y g → (m.vnode ≡ d → ⊥)
    → (y.kind ≡ a_directory → y.names ≡ []) → Sound next g → Sound next (put m.vnode (unlinked b y) (taken d x name links g))
unfolding stays
drops d next links name m x y g true e at_d dir found l k ne empty h =
    let file = both (not (is_kind y.kind a_directory)) (nat_lt 1 y.links) e in
    let many : 1 < y.links = ltb-true 1 y.links file.1 in
    loses d next links (y.links - 1) name m x y g at_d dir found l k ne (no_directory y.kind file.0) (omega (arith, many)) (omega (arith, many)) h
drops d next links name m x y g false e at_d dir found l k ne empty h =
    goes d next links name m x y g at_d dir found l k ne (no_names y.kind y empty (h.own m.vnode y k.there).body) (one_name y.kind y.links (names_of m.vnode m.unique x.names) e k.count) h

-- and the vnode in the volume
pub unlinked_like : (b : Bool) (t n c u : ℕ) (y : Vnode) (v : Volume) → get t v.vnodes ≡ Some y → eqb t n ≡ true → AreLike (unlinked b y) (one_edit c u (unlink_by b t y) (get n v.vnodes))
unlinked_like true t n c u y v e p = amended_like t n c (record no_amend { links = Some (y.links - 1) }) y (linked_by (y.links - 1) y) v e p (record { seen = record { unique = refl; kind = refl; links = refl; parent = refl; parent_unique = refl; names = refl }; contents = refl; acl = refl })
unlinked_like false t n c u y v e p = tt

pub unlink_number : (b : Bool) (t : ℕ) (y : Vnode) → edit_number (unlink_by b t y) ≡ t
unlink_number true t y = refl
unlink_number false t y = refl

pub unlink_plain : (b : Bool) (t : ℕ) (y : Vnode) → IsPlain (unlink_by b t y)
unlink_plain true t y = (tt, tt)
unlink_plain false t y = (tt, tt)

pub unlink_keeps : (b : Bool) (t : ℕ) (y : Vnode) → KeepsParent (unlink_by b t y)
unlink_keeps true t y = refl
unlink_keeps false t y = tt

pub removes_sound : (id : ℕ) (d : Fid) (name : List ℕ) (links : Option ℕ) (m : Name) (x y : Vnode) (v : Volume) (b : Bool) → stays y ≡ b → IsSound v → Found d v x → x.kind ≡ a_directory → named name x.names ≡ Some m → Held d.vnode m.vnode m.unique x y (at v)
    → (y.kind ≡ a_directory → y.names ≡ []) → x.links ≡ or_old links x.links + one_if (names_directory m) → names_in (vnode_of d v) ≡ x.names → removing d name links v ≡ amends d.vnode (record no_amend { names = Some (without_name name (names_in (vnode_of d v))); links = links }) ∷ unlink_by b m.vnode y ∷ []
    → IsSound (counted (edited_all id (ascending (removing d name links v)) v))
removes_sound id d name links m x y v b e h at_d dir found k empty l its is =
    let t : ℕ = m.vnode in
    let ne = not_itself d.vnode t m.unique x y (at v) (steps v) (as_ranked v h) k in
    let a : Amend = record no_amend { names = Some (without_name name (names_in (vnode_of d v))); links = links } in
    let es : List Edit = amends d.vnode a ∷ unlink_by b t y ∷ [] in
    let g : Map = put t (unlinked b y) (taken d.vnode x name (or_old links x.links) (at v)) in
    let ne_edit : edit_number (unlink_by b t y) ≡ d.vnode → ⊥ = λ s. ne (sym (unlink_number b t y) ∙ s) in
    subst (λ (ds : List Edit). IsSound (counted (edited_all id (ascending ds) v))) (sym is)
    (plain_sound id es v g h ((tt, tt), (unlink_plain b t y, tt)) (refl, (unlink_keeps b t y, tt)) ((ne_edit, tt), (tt, tt))
    (drops d.vnode v.next (or_old links x.links) name m x y (at v) b e at_d.there dir found l k ne empty (as_map v h))
    (λ n. subst (λ (j : ℕ). AreLike (g n) (cond (eqb d.vnode n) (option_map (amended (v.counter + 1) a) (get n v.vnodes)) (cond (eqb j n) (one_edit (v.counter + 1) v.next (unlink_by b t y) (get n v.vnodes)) (get n v.vnodes)))) (sym (unlink_number b t y))
    (like_two (eqb t n) (eqb d.vnode n) (unlinked b y) (Some (with_names x (without_name name x.names) (or_old links x.links))) (one_edit (v.counter + 1) v.next (unlink_by b t y) (get n v.vnodes)) (option_map (amended (v.counter + 1) a) (get n v.vnodes)) (get n v.vnodes)
    (two_numbers d.vnode t n ne)
    (λ p. unlinked_like b t n (v.counter + 1) v.next y v k.there p)
    (λ p. amended_like d.vnode n (v.counter + 1) a x (with_names x (without_name name x.names) (or_old links x.links)) v at_d.there p (record { seen = record { unique = refl; kind = refl; links = refl; parent = refl; parent_unique = refl; names = ap (without_name name) its }; contents = refl; acl = refl })))))
