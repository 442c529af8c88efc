-- The edits of each call: of different vnodes that are there, or new, and all of them the call's own.
use Rattle.std.proofs.Common.{◌≡◌, ℕ, ◌+◌, ◌-◌, Bool, true, false, List, [], ◌∷◌, ◌++◌, length, Option, Some, None, refl, sym, ap, subst, ◌∙◌, arith, eq-eqb, eqb-true}
use Rattle.std.specs.Prelude.{◌&&◌, nat_eq, is_some, if◌then◌else◌}
use Rattle.std.specs.List.{AllByRecursion}
use Rattle.afs_num.specs.Fids.{same_fid}
use Rattle.afs_num.specs.Names.{name_ok}
use Rattle.afs_num.specs.declared.types.Fid.{Fid}
use Rattle.afs_num.specs.declared.calls.AfsStoreStatus.{AfsStoreStatus}
use Rattle.afs_num.specs.declared.calls.FsCall.{FsCall}
use Rattle.afs_num.specs.declared.calls.FsCall.TheVariants as calls
use Rattle.afs_num.specs.declared.directories.Name.{Name}
use Rattle.spec_ideal.specs.Tables.{get}
use Rattle.spec_ideal.specs.AccessLists.{acl_at}
use Rattle.spec_ideal.specs.Volumes.{a_file, a_directory, a_link, Vnode, Volume, vnode_of, Edit, Amend, amends, with_status, ascending}
use Rattle.spec_ideal.specs.Operations as ops
use Rattle.spec_ideal.specs.Operations.{Caller, Result, changes, first_failing, tests, effect, is_kind, is_directory, names_in, links_of, acl_of, acl_read, named_vnode, number_named, name_in, vnode_in, may_link, implies, has_no_names, same_vnode, rename_tests, free_number, new_file, new_link, new_directory, creating, removing, linking, renaming, unlinks, op, IsOn}
use Rattle.spec_ideal.specs.Soundness.{IsSound}
use Rattle.spec_ideal.specs.Told.{fid_at}
use Rattle.spec_ideal.specs.ChangeLaws.{is_given, is_made, may_touch}
use Rattle.spec_ideal.proofs.Basics.{some_of, both, both_true}
use Rattle.spec_ideal.proofs.Tables.{free_is_free}
use Rattle.spec_ideal.proofs.Maps.{differ}
use Rattle.spec_ideal.proofs.Ranks.{at, steps}
use Rattle.spec_ideal.proofs.Kept.{as_ranked, Found, finds}
use Rattle.spec_ideal.proofs.Looks.{IsNoMake, MakesAs, no_makes, two_makes, each_ascending}
use Rattle.spec_ideal.proofs.Comes.{not_itself}
use Rattle.spec_ideal.proofs.Goes.{stays, unlink_by, unlink_number, unlinks_is}
use Rattle.spec_ideal.proofs.Moves.{MayStandIn, no_named}
use Rattle.spec_ideal.proofs.Scopes.{accepted, none_fails, all_pass, implied, or_left, or_right, read_is_none, statuses_none}
use Rattle.spec_ideal.proofs.Preserved.{same_edits, Pass, into, some_is, Given, gives, in_directory, removal, removal_is, file_kind, no_length, Renames, renames_by, stands_by, not_there_by, not_same_by}
use Rattle.spec_ideal.proofs.Tellings.{unique_in, IsFit, Proper, Change, as_change}

-- ---- one edit

-- may be touched where it has this fid
abbrev Owns : FsCall → Volume → (Fid → Bool) → Type 0
Owns call v Q = (g : Fid) → Q g ≡ true → may_touch call v g ≡ true

own_found : (id : ℕ) (d : Fid) (x : Vnode) (v : Volume) → d.volume ≡ id → Found d v x → same_fid d (fid_at id d.vnode (unique_in (get d.vnode v.vnodes))) ≡ true
own_found id d x v is found =
    subst (λ (o : Option Vnode). same_fid d (fid_at id d.vnode (unique_in o)) ≡ true) (sym found.there)
    (both_true (nat_eq d.volume id) _ (eq-eqb d.volume id is) (both_true (nat_eq d.vnode d.vnode) (nat_eq d.unique x.unique) (eq-eqb d.vnode d.vnode refl) (eq-eqb d.unique x.unique (sym found.unique))))

own_edit : (id : ℕ) (call : FsCall) (v : Volume) (d : Fid) (x : Vnode) (a : Amend) → d.volume ≡ id → Found d v x → Owns call v (same_fid d) → IsFit id call v (amends d.vnode a)
own_edit id call v d x a is found owns = record { finds = (x, found.there); own = owns (fid_at id d.vnode (unique_in (get d.vnode v.vnodes))) (own_found id d x v is found) }

given_found : (id : ℕ) (o : Option Name) (m : Name) (y : Vnode) (v : Volume) → o ≡ Some m → get m.vnode v.vnodes ≡ Some y → y.unique ≡ m.unique → is_given o (fid_at id m.vnode (unique_in (get m.vnode v.vnodes))) ≡ true
given_found id o m y v is there unique =
    subst (λ (p : Option Name). is_given p (fid_at id m.vnode (unique_in (get m.vnode v.vnodes))) ≡ true) (sym is)
    (subst (λ (p : Option Vnode). is_given (Some m) (fid_at id m.vnode (unique_in p)) ≡ true) (sym there)
    (both_true (nat_eq m.vnode m.vnode) (nat_eq m.unique y.unique) (eq-eqb m.vnode m.vnode refl) (eq-eqb m.unique y.unique (sym unique))))

-- of the vnode that a name gives
given_edit : (id : ℕ) (call : FsCall) (v : Volume) (d : Fid) (name : List ℕ) (x : Vnode) (m : Name) (y : Vnode) (a : Amend) → Given d name v x m y → Owns call v (is_given (name_in d name v)) → IsFit id call v (amends m.vnode a)
given_edit id call v d name x m y a g owns = record { finds = (y, g.held.there); own = owns (fid_at id m.vnode (unique_in (get m.vnode v.vnodes))) (given_found id (name_in d name v) m y v g.name_is g.held.there g.held.unique) }

unlink_edit : (b : Bool) (id : ℕ) (call : FsCall) (v : Volume) (d : Fid) (name : List ℕ) (x : Vnode) (m : Name) (y : Vnode) → Given d name v x m y → Owns call v (is_given (name_in d name v)) → IsFit id call v (unlink_by b m.vnode y)
unlink_edit true id call v d name x m y g owns = given_edit id call v d name x m y _ g owns
unlink_edit false id call v d name x m y g owns = record { finds = (y, g.held.there); own = owns (fid_at id m.vnode (unique_in (get m.vnode v.vnodes))) (given_found id (name_in d name v) m y v g.name_is g.held.there g.held.unique) }

unlink_no_make : (b : Bool) (n : ℕ) (y : Vnode) → IsNoMake (unlink_by b n y)
unlink_no_make true n y = tt
unlink_no_make false n y = tt

none_made : (v : Volume) (ds : List Edit) → AllByRecursion IsNoMake ds → MakesAs v.next v.next (ascending ds)
none_made v ds h = no_makes v.next v.next (ascending ds) (each_ascending IsNoMake ds h)

-- ---- the calls

stored : (id : ℕ) (call : FsCall) (v : Volume) (f : Fid) (x : Vnode) (a : Amend) → f.volume ≡ id → Found f v x → Owns call v (same_fid f) → Proper id call v (amends f.vnode a ∷ [])
stored id call v f x a is found owns = record { apart = (tt, tt); one = tt; fit = (own_edit id call v f x a is found owns, tt); some = omega arith; few = omega arith }

created : (id : ℕ) (call : FsCall) (v : Volume) (d : Fid) (x : Vnode) (name : List ℕ) (status : AfsStoreStatus) (links : Option ℕ) (new : Vnode) → d.volume ≡ id → Found d v x → get (free_number new.kind v) v.vnodes ≡ None
    → Owns call v (same_fid d) → Owns call v (is_made new.kind v) → Proper id call v (creating d name status links new v)
created id call v d x name status links new is found free owns made =
    let t : ℕ = free_number new.kind v in
    let ne : t ≡ d.vnode → ⊥ = (λ s. let z : None ≡ Some x = sym free ∙ (ap (λ (k : ℕ). get k v.vnodes) s ∙ found.there) in absurd cc) in
    record {
      apart = ((ne, tt), (tt, tt));
      one = two_makes v.next v.next d.vnode t _ (with_status (Some status) new) refl;
      fit = (own_edit id call v d x _ is found owns, (record { finds = free; own = made (fid_at id t v.next) (both_true (nat_eq t t) (nat_eq v.next v.next) (eq-eqb t t refl) (eq-eqb v.next v.next refl)) }, tt));
      some = omega arith;
      few = omega arith;
    }

removed : (id : ℕ) (call : FsCall) (v : Volume) (d : Fid) (name : List ℕ) (links : Option ℕ) (x : Vnode) (m : Name) (y : Vnode) → IsSound v → d.volume ≡ id → Found d v x → Given d name v x m y
    → Owns call v (same_fid d) → Owns call v (is_given (name_in d name v)) → Proper id call v (removing d name links v)
removed id call v d name links x m y h is found g owns given =
    let ne = not_itself d.vnode m.vnode m.unique x y (at v) (steps v) (as_ranked v h) g.held in
    subst (Proper id call v) (sym (removal_is d name links v x m y g)) (record {
      apart = (((λ s. ne (sym (unlink_number (stays y) m.vnode y) ∙ s)), tt), (tt, tt));
      one = none_made v (removal d name links v ∷ unlink_by (stays y) m.vnode y ∷ []) (tt, (unlink_no_make (stays y) m.vnode y, tt));
      fit = (own_edit id call v d x _ is found owns, (unlink_edit (stays y) id call v d name x m y g given, tt));
      some = omega arith;
      few = omega arith;
    })

removed_name : (id : ℕ) (call : FsCall) (v : Volume) (d : Fid) (name : List ℕ) (links : Option ℕ) → IsSound v → d.volume ≡ id → is_some (vnode_of d v) ≡ true → is_directory (vnode_of d v) ≡ true → is_some (name_in d name v) ≡ true
    → Owns call v (same_fid d) → Owns call v (is_given (name_in d name v)) → Proper id call v (removing d name links v)
removed_name id call v d name links h is there dir has owns given =
    let i = into d v there dir in
    let m = some_is (name_in d name v) has in
    let g = gives d name v i.0 m.0 h i.1.found m.1 in
    removed id call v d name links i.0 m.0 g.0 h is i.1.found g.1 owns given

-- a file isn't the directory that holds it
kinds_apart : (d f : Fid) (x y : Vnode) (v : Volume) → Found d v x → x.kind ≡ a_directory → Found f v y → y.kind ≡ a_file → f.vnode ≡ d.vnode → ⊥
kinds_apart d f x y v at_d dir at_f file same =
    let one : y ≡ x = some_of y x (sym at_f.there ∙ (ap (at v) same ∙ at_d.there)) in
    let clash : a_file ≡ a_directory = sym file ∙ (ap (λ (z : Vnode). z.kind) one ∙ dir) in
    absurd cc

linked : (id : ℕ) (caller : Caller) (d : Fid) (name : List ℕ) (f : Fid) (v : Volume) → d.volume ≡ id → Pass (tests caller (calls.Link d name f) v) → Proper id (calls.Link d name f) v (linking d name f v)
linked id caller d name f v is p =
    let call : FsCall = calls.Link d name f in
    let first = (both (nat_eq f.volume d.volume && may_link d (vnode_of f v)) (name_ok name) p.1.1.1.1.1.0).0 in
    let same = both (nat_eq f.volume d.volume) (may_link d (vnode_of f v)) first in
    let i = into d v p.0 p.1.1.0 in
    let r = finds f v (implied (nat_eq f.volume d.volume) (is_some (vnode_of f v)) same.0 p.1.0) in
    let y : Vnode = r.0 in
    let link : (is_kind y.kind a_file && (nat_eq y.parent d.vnode && nat_eq y.parent_unique d.unique)) ≡ true = subst (λ (o : Option Vnode). may_link d o ≡ true) r.1.found same.1 in
    let file : y.kind ≡ a_file = file_kind y.kind (both (is_kind y.kind a_file) (nat_eq y.parent d.vnode && nat_eq y.parent_unique d.unique) link).0 in
    record {
      apart = ((kinds_apart d f i.0 y v i.1.found i.1.directory r.1 file, tt), (tt, tt));
      one = none_made v (linking d name f v) (tt, (tt, tt));
      fit = (own_edit id call v d i.0 _ is i.1.found (λ g t. or_left (same_fid d g) (same_fid f g) t), (own_edit id call v f y _ (eqb-true f.volume d.volume same.0 ∙ is) r.1 (λ g t. or_right (same_fid d g) (same_fid f g) t), tt));
      some = omega arith;
      few = omega arith;
    }

-- ---- Rename

abbrev Renaming : ℕ → Fid → Fid → List ℕ → List ℕ → Volume → List Edit → Type 0
Renaming id d e old new v ds = Proper id (calls.Rename d old e new) v ds

owns_first : (d e : Fid) (old new : List ℕ) (v : Volume) → Owns (calls.Rename d old e new) v (same_fid d)
owns_first d e old new v g t = or_left (same_fid d g) _ t

owns_second : (d e : Fid) (old new : List ℕ) (v : Volume) → Owns (calls.Rename d old e new) v (same_fid e)
owns_second d e old new v g t = or_right (same_fid d g) _ (or_left (same_fid e g) _ t)

owns_moved : (d e : Fid) (old new : List ℕ) (v : Volume) → Owns (calls.Rename d old e new) v (is_given (name_in d old v))
owns_moved d e old new v g t = or_right (same_fid d g) _ (or_right (same_fid e g) _ (or_left (is_given (name_in d old v) g) _ t))

owns_replaced : (d e : Fid) (old new : List ℕ) (v : Volume) → Owns (calls.Rename d old e new) v (is_given (name_in e new v))
owns_replaced d e old new v g t = or_right (same_fid d g) _ (or_right (same_fid e g) _ (or_right (is_given (name_in d old v) g) (is_given (name_in e new v) g) t))

-- the replaced vnode isn't the directory from which a name moves, since that one has a name
not_emptied : (d e : Fid) (old new : List ℕ) (v : Volume) (x z t : Vnode) (m w : Name) (y : Vnode) → Renames d e old new v x z m y → Given e new v z w t → d.vnode ≡ w.vnode → ⊥
not_emptied d e old new v x z t m w y r g same =
    let empty : nat_eq (length t.names) 0 ≡ true = subst (λ (q : Option Vnode). has_no_names q ≡ true) (in_directory e new v z w t g) r.empty in
    let one : x ≡ t = some_of x t (sym r.from.found.there ∙ (ap (at v) same ∙ g.held.there)) in
    no_named old m x.names (ap (λ (j : Vnode). j.names) one ∙ no_length t.names empty) r.source.named

within_by : (id : ℕ) (d e : Fid) (old new : List ℕ) (v : Volume) (x z : Vnode) (m : Name) (y : Vnode) (o : Option Name) → IsSound v → d.volume ≡ id → Renames d e old new v x z m y → name_in e new v ≡ o
    → Renaming id d e old new v (ops.renames_within d m old new (named_vnode v o) v ++ unlinks (number_named o) (named_vnode v o))
within_by id d e old new v x z m y None h is r named = record { apart = (tt, tt); one = tt; fit = (own_edit id (calls.Rename d old e new) v d x _ is r.from.found (owns_first d e old new v), tt); some = omega arith; few = omega arith }
within_by id d e old new v x z m y (Some w) h is r named =
    let k = gives e new v z w h r.to.found named in
    let t : Vnode = k.0 in
    let num = unlink_number (stays t) w.vnode t in
    subst (λ (q : Option Vnode). Renaming id d e old new v (ops.renames_within d m old new q v ++ unlinks w.vnode q)) (sym k.1.vnode)
    (subst (λ (es : List Edit). Renaming id d e old new v (ops.renames_within d m old new (Some t) v ++ es)) (sym (unlinks_is w.vnode t (stays t) refl)) (record {
      apart = (((λ q. not_emptied d e old new v x z t m w y r k.1 (sym q ∙ num)), tt), (tt, tt));
      one = none_made v (ops.renames_within d m old new (Some t) v ++ unlink_by (stays t) w.vnode t ∷ []) (tt, (unlink_no_make (stays t) w.vnode t, tt));
      fit = (own_edit id (calls.Rename d old e new) v d x _ is r.from.found (owns_first d e old new v), (unlink_edit (stays t) id (calls.Rename d old e new) v e new z w t k.1 (owns_replaced d e old new v), tt));
      some = omega arith;
      few = omega arith;
    }))

record Apart (id : ℕ) (d e : Fid) (old new : List ℕ) (v : Volume) (m : Name) : Type 0 where
  ne : d.vnode ≡ e.vnode → ⊥
  not_new : m.vnode ≡ e.vnode → ⊥
  not_old : m.vnode ≡ d.vnode → ⊥
  source : (a : Amend) → IsFit id (calls.Rename d old e new) v (amends d.vnode a)
  target : (a : Amend) → IsFit id (calls.Rename d old e new) v (amends e.vnode a)
  moved : (a : Amend) → IsFit id (calls.Rename d old e new) v (amends m.vnode a)

all_apart : (id : ℕ) (d e : Fid) (old new : List ℕ) (v : Volume) (x z : Vnode) (m : Name) (y : Vnode) → IsSound v → d.volume ≡ id → e.volume ≡ id → nat_eq d.vnode e.vnode ≡ false → Renames d e old new v x z m y → Apart id d e old new v m
all_apart id d e old new v x z m y h is is_e away r =
    let g = r.source in
    let out : MayStandIn e.vnode m.vnode v (is_kind y.kind a_directory) = stands_by (is_kind y.kind a_directory) d e m y v r.moves in
    record {
      ne = differ d.vnode e.vnode away;
      not_new = not_there_by (is_kind y.kind a_directory) e m.vnode y z v refl out g.held.there r.to.found.there r.to.directory;
      not_old = not_itself d.vnode m.vnode m.unique x y (at v) (steps v) (as_ranked v h) g.held;
      source = λ a. own_edit id (calls.Rename d old e new) v d x a is r.from.found (owns_first d e old new v);
      target = λ a. own_edit id (calls.Rename d old e new) v e z a is_e r.to.found (owns_second d e old new v);
      moved = λ a. given_edit id (calls.Rename d old e new) v d old x m y a g (owns_moved d e old new v);
    }

across_by : (id : ℕ) (d e : Fid) (old new : List ℕ) (v : Volume) (x z : Vnode) (m : Name) (y : Vnode) (o : Option Name) (moves : Bool) → IsSound v → Apart id d e old new v m → Renames d e old new v x z m y → name_in e new v ≡ o
    → Renaming id d e old new v (ops.renames_across d e m old new moves (named_vnode v o) v ++ unlinks (number_named o) (named_vnode v o))
across_by id d e old new v x z m y None moves h k r named = record {
  apart = (((λ q. k.ne (sym q)), (k.not_old, tt)), ((k.not_new, tt), (tt, tt)));
  one = none_made v (ops.renames_across d e m old new moves None v) (tt, (tt, (tt, tt)));
  fit = (k.source _, (k.target _, (k.moved _, tt)));
  some = omega arith;
  few = omega arith;
}
across_by id d e old new v x z m y (Some w) moves h k r named =
    let g = gives e new v z w h r.to.found named in
    let t : Vnode = g.0 in
    let num = unlink_number (stays t) w.vnode t in
    let differs : same_vnode (Some m) (Some w) ≡ false = subst (λ (q : Option Name). same_vnode (Some m) q ≡ false) named r.other_vnode in
    let not_same = not_same_by m w y t v r.source.held.there r.source.held.unique g.1.held.there g.1.held.unique differs in
    let ne_w = not_itself e.vnode w.vnode w.unique z t (at v) (steps v) (as_ranked v h) g.1.held in
    let d_w = not_emptied d e old new v x z t m w y r g.1 in
    subst (λ (q : Option Vnode). Renaming id d e old new v (ops.renames_across d e m old new moves q v ++ unlinks w.vnode q)) (sym g.1.vnode)
    (subst (λ (es : List Edit). Renaming id d e old new v (ops.renames_across d e m old new moves (Some t) v ++ es)) (sym (unlinks_is w.vnode t (stays t) refl)) (record {
      apart = (((λ q. k.ne (sym q)), (k.not_old, ((λ q. d_w (sym q ∙ num)), tt))), ((k.not_new, ((λ q. ne_w (sym num ∙ q)), tt)), (((λ q. not_same (sym q ∙ num)), tt), (tt, tt))));
      one = none_made v (ops.renames_across d e m old new moves (Some t) v ++ unlink_by (stays t) w.vnode t ∷ []) (tt, (tt, (tt, (unlink_no_make (stays t) w.vnode t, tt))));
      fit = (k.source _, (k.target _, (k.moved _, (unlink_edit (stays t) id (calls.Rename d old e new) v e new z w t g.1 (owns_replaced d e old new v), tt))));
      some = omega arith;
      few = omega arith;
    }))

renamed_by : (b : Bool) (id : ℕ) (d e : Fid) (old new : List ℕ) (v : Volume) (x z : Vnode) (m : Name) (y : Vnode) → nat_eq d.vnode e.vnode ≡ b → IsSound v → d.volume ≡ id → e.volume ≡ id → Renames d e old new v x z m y
    → Renaming id d e old new v ((if b then ops.renames_within d m old new (named_vnode v (name_in e new v)) v else ops.renames_across d e m old new (is_directory (named_vnode v (Some m))) (named_vnode v (name_in e new v)) v) ++ unlinks (number_named (name_in e new v)) (named_vnode v (name_in e new v)))
renamed_by true id d e old new v x z m y b h is is_e r = within_by id d e old new v x z m y (name_in e new v) h is r refl
renamed_by false id d e old new v x z m y b h is is_e r = across_by id d e old new v x z m y (name_in e new v) (is_directory (named_vnode v (Some m))) h (all_apart id d e old new v x z m y h is is_e b r) r refl

renamed : (b : Bool) (id : ℕ) (caller : Caller) (d e : Fid) (old new : List ℕ) (v : Volume) → nat_eq e.volume d.volume ≡ b → IsSound v → d.volume ≡ id → Pass (if b then rename_tests caller d old e new v else ops.rename_out_tests caller d v)
    → Renaming id d e old new v (renaming d e old new (name_in d old v) (name_in e new v) v)
renamed true id caller d e old new v b h is p =
    let r = renames_by caller d e old new v h p in
    let ren = r.1.1.1.1 in
    subst (λ (o : Option Name). Renaming id d e old new v (renaming d e old new o (name_in e new v) v)) (sym ren.source.name_is)
    (renamed_by (nat_eq d.vnode e.vnode) id d e old new v r.0 r.1.0 r.1.1.0 r.1.1.1.0 refl h is (eqb-true e.volume d.volume b ∙ is) ren)
renamed false id caller d e old new v b h is p = absurd (let z = p.1.1.1.1.0 in cc)

-- ---- all of them

sorted : (id : ℕ) (call : FsCall) (v : Volume) (ds es : List Edit) (m n : ℕ) → changes (ascending ds) m ≡ changes es n → Proper id call v ds → Change id call v es
sorted id call v ds es m n e p = subst (Change id call v) (same_edits (ascending ds) es m n e) (as_change id call v ds p)

change_by : (id : ℕ) (caller : Caller) (call : FsCall) (v : Volume) (es : List Edit) (n : ℕ) → IsSound v → IsOn id call → Pass (tests caller call v) → effect caller call v ≡ changes es n → Change id call v es
change_by id caller (calls.StoreData f status position kept file_length bytes) v es n h on p e =
    let r = finds f v p.0 in
    sorted id _ v (amends f.vnode (record ops.no_amend { contents = Some bytes; status = Some status }) ∷ []) es f.vnode n e (stored id (calls.StoreData f status position kept file_length bytes) v f r.0 _ (some_of _ _ on) r.1 (λ g t. t))
change_by id caller (calls.StoreAcl f acl) v es n h on p e =
    let r = finds f v p.0 in
    sorted id _ v (amends f.vnode (record ops.no_amend { acl = acl_read (acl_at acl) }) ∷ []) es f.vnode n e (stored id (calls.StoreAcl f acl) v f r.0 _ (some_of _ _ on) r.1 (λ g t. t))
change_by id caller (calls.StoreStatus f status) v es n h on p e =
    let r = finds f v p.0 in
    sorted id _ v (amends f.vnode (record ops.no_amend { status = Some status }) ∷ []) es f.vnode n e (stored id (calls.StoreStatus f status) v f r.0 _ (some_of _ _ on) r.1 (λ g t. t))
change_by id caller (calls.CreateFile d name status) v es n h on p e =
    let r = finds d v p.0 in
    sorted id _ v (creating d name status None (new_file d) v) es (free_number a_file v) n e
    (created id (calls.CreateFile d name status) v d r.0 name status None (new_file d) (some_of _ _ on) r.1 (free_is_free 1 2 v.vnodes h.ascending) (λ g t. or_left (same_fid d g) (is_made a_file v g) t) (λ g t. or_right (same_fid d g) (is_made a_file v g) t))
change_by id caller (calls.Symlink d name target status) v es n h on p e =
    let r = finds d v p.0 in
    sorted id _ v (creating d name status None (new_link d target) v) es (free_number a_link v) n e
    (created id (calls.Symlink d name target status) v d r.0 name status None (new_link d target) (some_of _ _ on) r.1 (free_is_free 1 2 v.vnodes h.ascending) (λ g t. or_left (same_fid d g) (is_made a_link v g) t) (λ g t. or_right (same_fid d g) (is_made a_link v g) t))
change_by id caller (calls.MakeDir d name status) v es n h on p e =
    let r = finds d v p.0 in
    let links : Option ℕ = Some (links_of (vnode_of d v) + 1) in
    sorted id _ v (creating d name status links (new_directory d (acl_of (vnode_of d v))) v) es (free_number a_directory v) n e
    (created id (calls.MakeDir d name status) v d r.0 name status links (new_directory d (acl_of (vnode_of d v))) (some_of _ _ on) r.1 (free_is_free 1 3 v.vnodes h.ascending) (λ g t. or_left (same_fid d g) (is_made a_directory v g) t) (λ g t. or_right (same_fid d g) (is_made a_directory v g) t))
change_by id caller (calls.Link d name f) v es n h on p e = sorted id _ v (linking d name f v) es f.vnode n e (linked id caller d name f v (some_of _ _ on) p)
change_by id caller (calls.RemoveFile d name) v es n h on p e =
    sorted id _ v (removing d name None v) es d.vnode n e
    (removed_name id (calls.RemoveFile d name) v d name None h (some_of _ _ on) p.0 p.1.0 p.1.1.1.1.1.0 (λ g t. or_left (same_fid d g) (is_given (name_in d name v) g) t) (λ g t. or_right (same_fid d g) (is_given (name_in d name v) g) t))
change_by id caller (calls.RemoveDir d name) v es n h on p e =
    let links : Option ℕ = Some (links_of (vnode_of d v) - 1) in
    sorted id _ v (removing d name links v) es d.vnode n e
    (removed_name id (calls.RemoveDir d name) v d name links h (some_of _ _ on) p.0 p.1.0 p.1.1.1.1.1.0 (λ g t. or_left (same_fid d g) (is_given (name_in d name v) g) t) (λ g t. or_right (same_fid d g) (is_given (name_in d name v) g) t))
change_by id caller (calls.Rename d old e' new) v es n h on p e =
    sorted id _ v (renaming d e' old new (name_in d old v) (name_in e' new v) v) es e'.vnode n e (renamed (nat_eq e'.volume d.volume) id caller d e' old new v refl h (some_of _ _ on) p)
change_by id caller (calls.FetchData f position wanted) v es n h on p e = absurd (read_is_none ops.shows_body f (vnode_of f v) es n e)
change_by id caller (calls.FetchAcl f) v es n h on p e = absurd (read_is_none ops.shows_acl f (vnode_of f v) es n e)
change_by id caller (calls.FetchStatus f) v es n h on p e = absurd (read_is_none ops.shows_status f (vnode_of f v) es n e)
change_by id caller (calls.BulkStatus fs) v es n h on p e = absurd (statuses_none caller v fs es n e)
change_by id caller call v es n h on p e = absurd cc

-- the same before the limits are tested
pub planned_change : (id : ℕ) (caller : Caller) (call : FsCall) (v : Volume) (es : List Edit) (n : ℕ) → IsSound v → IsOn id call → ops.by_tests (first_failing (tests caller call v)) (effect caller call v) ≡ changes es n → Change id call v es
planned_change id caller call v es n h on e =
    let a = none_fails (first_failing (tests caller call v)) (effect caller call v) es n e in
    change_by id caller call v es n h on (all_pass (tests caller call v) a.0) a.1

pub operations_change : (id : ℕ) (caller : Caller) (call : FsCall) (v : Volume) (es : List Edit) (n : ℕ) → IsSound v → IsOn id call → op id caller call v ≡ changes es n → Change id call v es
operations_change id caller call v es n h on e =
    let a = accepted id caller call v es n e in
    change_by id caller call v es n h on (all_pass (tests caller call v) a.tested) a.effected
