-- CreateFile, Symlink, MakeDir and Link leave a sound volume sound.
use Rattle.std.proofs.Common.{◌≡◌, ℕ, ◌+◌, ◌<◌, ◌≤◌, Bool, true, false, cond, eqb, not, List, [], ◌∷◌, length, Option, Some, None, refl, sym, ap, subst, ◌∙◌, arith, eq-eqb, eqb-true, ltb-true}
use Rattle.std.specs.Prelude.{nat_lt, nat_eq, is_some, ◌%◌, if◌then◌else◌}
use Rattle.std.specs.List.{AllByRecursion}
use Rattle.std.specs.Option.{option_map}
use Rattle.afs_num.specs.Names.{name_ok}
use Rattle.afs_num.specs.declared.types.Fid.{Fid}
use Rattle.afs_num.specs.declared.acls.AccessList.{AccessList}
use Rattle.afs_num.specs.declared.calls.AfsStoreStatus.{AfsStoreStatus}
use Rattle.afs_num.specs.declared.directories.Name.{Name}
use Rattle.spec_ideal.specs.Tables.{get}
use Rattle.spec_ideal.specs.AccessLists.{IsAccessList, no_acl}
use Rattle.spec_ideal.specs.Directories.{most_names, named, with_name, add_refused}
use Rattle.spec_ideal.specs.Volumes.{VnodeKind, a_file, a_directory, a_link, Vnode, Volume, vnode_of, Amend, Edit, amends, makes, or_old, with_status, amended, fresh, edited, edited_all, ascending, counted}
use Rattle.spec_ideal.specs.Operations.{adds_name, is_kind, names_in, links_of, no_amend, free_number, new_in, directory_name, creating, linking}
use Rattle.spec_ideal.specs.Soundness.{names_of, HasNames, IsNamedIn, IsRoot, IsSound}
use Rattle.spec_ideal.proofs.Basics.{some_of, both}
use Rattle.spec_ideal.proofs.Counts.{one_if}
use Rattle.spec_ideal.proofs.Maps.{Map, put, Own, Sound, AreLike, like_itself, as_like}
use Rattle.spec_ideal.proofs.Steps.{with_names, Held, parity, room_for, comes, gains, linked_by, added}
use Rattle.spec_ideal.proofs.Ranks.{Ranked, at, steps, leaf_rank, ranked_leaf}
use Rattle.spec_ideal.proofs.Looks.{one_edit, look, Distinct, MakesAs, two_makes, looks, same_next, each_ascending, IsAboveRoot}
use Rattle.spec_ideal.proofs.Kept.{as_map, as_ranked, edited_sound, Found, holds_after, same_parents, plain_sound, like_two, two_numbers, amended_like}

-- ---- a name that may be added

yes_of : (b : Bool) → not b ≡ true → b ≡ false
yes_of true e = absurd cc
yes_of false e = refl

none_of : (o : Option Name) → is_some o ≡ false → o ≡ None
none_of None e = refl
none_of (Some n) e = absurd cc

-- the tests of a new name pass
pub may_add : (name : List ℕ) (names : List Name) (good : Bool) → AllByRecursion (λ (t : Bool × ℕ). t.0 ≡ true) (adds_name name names good) → add_refused name names ≡ None
may_add name names good h = room_for name names (both good (name_ok name) h.0).1 (none_of (named name names) (yes_of (is_some (named name names)) h.1.0)) (ltb-true (length names) most_names h.1.1.0)

-- ---- what is made

abbrev pub made : Volume → AfsStoreStatus → Vnode → Vnode
made v status x = fresh (v.counter + 1) v.next (with_status (Some status) x)

pub file_own : (n : ℕ) (d : Fid) (mode links : ℕ) (bytes : List ℕ) (v : Volume) (status : AfsStoreStatus) → n % 2 ≡ 0 → Own (v.next + 1) n (made v status (new_in d a_file links mode bytes no_acl))
file_own n d mode links bytes v status even = record {
  kind = (λ e. absurd cc, λ odd. absurd (omega (arith, even, odd)));
  unique = omega arith;
  body = record { names = refl; acl = refl };
}

pub link_own : (n : ℕ) (d : Fid) (mode links : ℕ) (bytes : List ℕ) (v : Volume) (status : AfsStoreStatus) → n % 2 ≡ 0 → Own (v.next + 1) n (made v status (new_in d a_link links mode bytes no_acl))
link_own n d mode links bytes v status even = record {
  kind = (λ e. absurd cc, λ odd. absurd (omega (arith, even, odd)));
  unique = omega arith;
  body = record { names = refl; acl = refl };
}

pub directory_own : (n : ℕ) (d : Fid) (mode : ℕ) (acl : AccessList) (v : Volume) (status : AfsStoreStatus) → n % 2 ≡ 1 → IsAccessList acl → Own (v.next + 1) n (made v status (new_in d a_directory 2 mode [] acl))
directory_own n d mode acl v status odd is = record {
  kind = (λ e. odd, λ e. refl);
  unique = omega arith;
  body = record { names = record { ordered = refl; few = omega arith }; acl = is; contents = refl; links = refl };
}

-- ---- the volume with it

not_its_parent : (v : Volume) (t : ℕ) → IsSound v → get t v.vnodes ≡ None → (n : ℕ) (x : Vnode) → get n v.vnodes ≡ Some x → (n ≡ 1 → ⊥) → x.parent ≡ t → ⊥
not_its_parent v t h none n x e ne same =
    let named : IsNamedIn (get x.parent v.vnodes) n x = (as_map v h).named n x e ne in
    absurd (subst (λ (o : Option Vnode). IsNamedIn o n x) (ap (λ (k : ℕ). get k v.vnodes) same ∙ none) named)

made_there : (b : Bool) (t d : ℕ) (v : Volume) (x : Vnode) (status : AfsStoreStatus) (new : Vnode) (a : Amend) {o : Option Vnode} → get t v.vnodes ≡ None → eqb d t ≡ b → (t ≡ d → ⊥)
    → o ≡ cond b (option_map (amended (v.counter + 1) a) (get t v.vnodes)) (cond (eqb t t) (one_edit (v.counter + 1) v.next (makes t (with_status (Some status) new)) (get t v.vnodes)) (get t v.vnodes)) → o ≡ Some (made v status new)
made_there true t d v x status new a free b ne e = absurd (ne (sym (eqb-true d t b)))
made_there false t d v x status new a free b ne e = e ∙ rw (eq-eqb t t refl, free) refl

amended_next : (id n : ℕ) (a : Amend) (v : Volume) → (edited id (amends n a) v).volume.next ≡ v.next
amended_next id n a v = same_next id (amends n a) v tt

made_one : (id n : ℕ) (x : Vnode) (v : Volume) → get n v.vnodes ≡ None → (edited id (makes n x) v).volume.next ≡ v.next + 1
made_one id n x v e = rw e refl

still : (b : Bool) (d t : ℕ) (a : Amend) (v : Volume) → get t v.vnodes ≡ None → eqb d t ≡ b → (t ≡ d → ⊥) → cond b (option_map (amended (v.counter + 1) a) (get t v.vnodes)) (get t v.vnodes) ≡ None
still true d t a v free b ne = absurd (ne (sym (eqb-true d t b)))
still false d t a v free b ne = free

made_next : (id : ℕ) (b : Bool) (d t : ℕ) (a : Amend) (new : Vnode) (v : Volume) (x : Vnode) → get d v.vnodes ≡ Some x → get t v.vnodes ≡ None → (t ≡ d → ⊥)
    → (edited_all id (if b then makes t new ∷ amends d a ∷ [] else amends d a ∷ makes t new ∷ []) v).next ≡ v.next + 1
made_next id true d t a new v x e free ne = amended_next id d a (edited id (makes t new) v).volume ∙ made_one id t new v free
made_next id false d t a new v x e free ne =
    made_one id t new (edited id (amends d a) v).volume (looks id 0 t (amends d a ∷ []) v (tt, tt) tt ∙ still (eqb d t) d t a v free refl ne)
    ∙ ap (λ (k : ℕ). k + 1) (amended_next id d a v)

pub creates_sound : (id : ℕ) (d : Fid) (name : List ℕ) (status : AfsStoreStatus) (links : Option ℕ) (new x : Vnode) (v : Volume) → IsSound v → Found d v x → x.kind ≡ a_directory
    → add_refused name x.names ≡ None → get (free_number new.kind v) v.vnodes ≡ None → 1 ≤ free_number new.kind v → new.parent ≡ d.vnode → new.parent_unique ≡ d.unique → new.names ≡ [] → HasNames new.kind new.links 1
    → Own (v.next + 1) (free_number new.kind v) (made v status new) → or_old links x.links ≡ x.links + one_if (nat_eq (free_number new.kind v % 2) 1) → names_in (vnode_of d v) ≡ x.names
    → IsSound (counted (edited_all id (ascending (creating d name status links new v)) v))
creates_sound id d name status links new x v h found dir ok free above parent parent_unique empty single own l its =
    let t : ℕ = free_number new.kind v in
    let m : Name = directory_name name t v.next in
    let y : Vnode = made v status new in
    let ns : List Name = with_name m (names_in (vnode_of d v)) in
    let a : Amend = record no_amend { names = Some ns; links = links } in
    let es : List Edit = creating d name status links new v in
    let ne : t ≡ d.vnode → ⊥ = (λ s. let z : None ≡ Some x = sym free ∙ (ap (λ (k : ℕ). get k v.vnodes) s ∙ found.there) in absurd cc) in
    let apart : Distinct es = ((ne, tt), (tt, tt)) in
    let makes_as : MakesAs v.next v.next (ascending es) = two_makes v.next v.next d.vnode t a (with_status (Some status) new) refl in
    let up : AllByRecursion IsAboveRoot (ascending es) = each_ascending IsAboveRoot es (tt, (above, tt)) in
    let g : Map = put t (Some y) (added d.vnode x m (or_old links x.links) (at v)) in
    let sound : Sound (v.next + 1) g = comes d.vnode t v.next (or_old links x.links) m x y (at v) found.there dir free refl refl ok l refl parent (parent_unique ∙ sym found.unique) empty own single (as_map v h) in
    let like : (n : ℕ) → AreLike (g n) (look (v.counter + 1) v.next es n (get n v.vnodes)) = λ n.
    like_two (eqb t n) (eqb d.vnode n) (Some y) (Some (with_names x (with_name m x.names) (or_old links x.links))) (one_edit (v.counter + 1) v.next (makes t (with_status (Some status) new)) (get n v.vnodes)) (option_map (amended (v.counter + 1) a) (get n v.vnodes)) (get n v.vnodes)
    (two_numbers d.vnode t n ne)
    (λ b. subst (λ (o : Option Vnode). AreLike (Some y) (one_edit (v.counter + 1) v.next (makes t (with_status (Some status) new)) o)) (sym (ap (λ (k : ℕ). get k v.vnodes) (sym (eqb-true t n b)) ∙ free)) (like_itself (Some y)))
    (λ b. amended_like d.vnode n (v.counter + 1) a x (with_names x (with_name m x.names) (or_old links x.links)) v found.there b (record { seen = record { unique = refl; kind = refl; links = refl; parent = refl; parent_unique = refl; names = ap (with_name m) its }; contents = refl; acl = refl })) in
    let looked : (n : ℕ) → get n (edited_all id (ascending es) v).vnodes ≡ look (v.counter + 1) v.next es n (get n v.vnodes) = λ n. holds_after id v.next n es v apart makes_as in
    let there : get t (edited_all id (ascending es) v).vnodes ≡ Some y = made_there (eqb d.vnode t) t d.vnode v x status new a free refl ne (looked t) in
    edited_sound id (v.next + 1) (ascending es) v (leaf_rank t d.vnode (steps v)) h up (made_next id (nat_lt t d.vnode) d.vnode t a (with_status (Some status) new) v x found.there free ne)
    (as_like (v.next + 1) g (at (edited_all id (ascending es) v)) (λ n. subst (AreLike (g n)) (sym (looked n)) (like n)) sound)
    (ranked_leaf t d.vnode (at v) (at (edited_all id (ascending es) v)) (steps v) (as_ranked v h)
    (λ n z e differs. same_parents id v.next t es v apart makes_as ((λ ne. refl), ((λ ne. absurd (ne refl)), tt)) n z e differs)
    (λ z e. ap (λ (w : Vnode). w.parent) (sym (some_of y z (sym there ∙ e))) ∙ parent)
    (λ s. ne (sym s)) (not_its_parent v t h free))

-- ---- Link

root_kind : (o : Option Vnode) (x : Vnode) → IsRoot o → o ≡ Some x → x.kind ≡ a_directory
root_kind None x h e = absurd h
root_kind (Some r) x h e = ap (λ (w : Vnode). w.kind) (sym (some_of r x e)) ∙ h.1.0

file_is_no_directory : (k : VnodeKind) → k ≡ a_file → k ≡ a_directory → ⊥
file_is_no_directory a_file e f = absurd cc
file_is_no_directory a_directory e f = absurd cc
file_is_no_directory a_link e f = absurd cc

named_in : (o : Option Vnode) (n : ℕ) (x y : Vnode) → o ≡ Some x → IsNamedIn o n y → (x.unique ≡ y.parent_unique) × HasNames y.kind y.links (names_of n y.unique x.names)
named_in None n x y e h = absurd h
named_in (Some d) n x y e h = subst (λ (w : Vnode). (w.unique ≡ y.parent_unique) × HasNames y.kind y.links (names_of n y.unique w.names)) (some_of d x e) h.1

-- a file is held by its parent
pub held_file : (d f : Fid) (x y : Vnode) (v : Volume) → IsSound v → Found d v x → Found f v y → y.kind ≡ a_file → y.parent ≡ d.vnode → Held d.vnode f.vnode f.unique x y (at v)
held_file d f x y v h at_d at_f file parent =
    let s = as_map v h in
    let not_root : f.vnode ≡ 1 → ⊥ = λ e. file_is_no_directory y.kind file (root_kind (get 1 v.vnodes) y s.root (ap (λ (k : ℕ). get k v.vnodes) (sym e) ∙ at_f.there)) in
    let named = named_in (get y.parent v.vnodes) f.vnode x y (ap (λ (k : ℕ). get k v.vnodes) parent ∙ at_d.there) (s.named f.vnode y at_f.there not_root) in
    record {
      there = at_f.there;
      not_root = not_root;
      unique = at_f.unique;
      parent = parent;
      parent_unique = named.0;
      count = subst (λ (u : ℕ). HasNames y.kind y.links (names_of f.vnode u x.names)) at_f.unique named.1;
    }

-- what a directory holds isn't that directory: its rank is higher
pub not_itself : (d t u : ℕ) (x y : Vnode) (g : Map) (rank : ℕ → ℕ) → Ranked g rank → Held d t u x y g → t ≡ d → ⊥
not_itself d t u x y g rank h k same =
    let up : rank y.parent < rank t = h t y k.there k.not_root in
    let low : rank d < rank t = subst (λ (p : ℕ). rank p < rank t) k.parent up in
    let one : rank t ≡ rank d = ap rank same in
    absurd (omega (arith, low, one))

-- files have even numbers
even_file : (t next : ℕ) (y : Vnode) → y.kind ≡ a_file → Own next t y → one_if (nat_eq (t % 2) 1) ≡ 0
even_file t next y file own = parity t y.kind own.kind ∙ ap (λ (k : VnodeKind). one_if (is_kind k a_directory)) file

pub links_sound : (id : ℕ) (d f : Fid) (name : List ℕ) (x y : Vnode) (v : Volume) → IsSound v → Found d v x → x.kind ≡ a_directory → Found f v y → y.kind ≡ a_file → y.parent ≡ d.vnode → add_refused name x.names ≡ None
    → names_in (vnode_of d v) ≡ x.names → links_of (vnode_of f v) ≡ y.links → IsSound (counted (edited_all id (ascending (linking d name f v)) v))
links_sound id d f name x y v h at_d dir at_f file parent ok its many =
    let t : ℕ = f.vnode in
    let m : Name = directory_name name t f.unique in
    let s = as_map v h in
    let k = held_file d f x y v h at_d at_f file parent in
    let ne = not_itself d.vnode t f.unique x y (at v) (steps v) (as_ranked v h) k in
    let even = even_file t v.next y file (s.own t y at_f.there) in
    let a : Amend = record no_amend { names = Some (with_name m (names_in (vnode_of d v))) } in
    let b : Amend = record no_amend { links = Some (links_of (vnode_of f v) + 1) } in
    let g : Map = put t (Some (linked_by (y.links + 1) y)) (added d.vnode x m x.links (at v)) in
    plain_sound id (linking d name f v) v g h ((tt, tt), ((tt, tt), tt)) (refl, (refl, tt)) ((ne, tt), (tt, tt))
    (gains d.vnode t f.unique v.next m x y (at v) at_d.there dir refl refl ok (omega (arith, even)) k ne (file_is_no_directory y.kind file) s)
    (λ n. like_two (eqb t n) (eqb d.vnode n) (Some (linked_by (y.links + 1) y)) (Some (with_names x (with_name m x.names) x.links)) (option_map (amended (v.counter + 1) b) (get n v.vnodes)) (option_map (amended (v.counter + 1) a) (get n v.vnodes)) (get n v.vnodes)
    (two_numbers d.vnode t n ne)
    (λ p. amended_like t n (v.counter + 1) b y (linked_by (y.links + 1) y) v at_f.there p (record { seen = record { unique = refl; kind = refl; links = ap (λ (j : ℕ). j + 1) many; parent = refl; parent_unique = refl; names = refl }; contents = refl; acl = refl }))
    (λ p. amended_like d.vnode n (v.counter + 1) a x (with_names x (with_name m x.names) x.links) v at_d.there p (record { seen = record { unique = refl; kind = refl; links = refl; parent = refl; parent_unique = refl; names = ap (with_name m) its }; contents = refl; acl = refl })))
