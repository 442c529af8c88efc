-- Each accepted operation leaves a sound volume: its tests give what the case needs.
use Rattle.std.proofs.Common.{◌≡◌, ℕ, suc, ◌+◌, ◌-◌, ◌<◌, ◌≤◌, Bool, true, false, not, List, [], ◌∷◌, ◌++◌, length, Option, Some, None, refl, sym, ap, subst, ◌∙◌, arith, eq-eqb, eqb-true, ltb-true}
use Rattle.std.specs.Prelude.{◌&&◌, ◌||◌, nat_lt, nat_eq, ⊤, is_some, is_ok, ◌%◌, if◌then◌else◌, Ok, Err}
use Rattle.std.specs.Prelude as std_result
use Rattle.std.specs.List.{AllByRecursion}
use Rattle.std.specs.Str.{bytes_eq}
use Rattle.afs_num.specs.Names.{name_ok}
use Rattle.afs_num.specs.declared.types.Fid.{Fid}
use Rattle.afs_num.specs.declared.acls.AccessList.{AccessList}
use Rattle.afs_num.specs.declared.calls.FsCall.{FsCall}
use Rattle.afs_num.specs.declared.calls.FsCall.TheVariants as calls
use Rattle.afs_num.specs.declared.directories.Name.{Name}
use Rattle.spec_ideal.specs.Tables.{get, lowest_free}
use Rattle.spec_ideal.specs.AccessLists.{Refusal, IsAccessList, acl_at}
use Rattle.spec_ideal.specs.Directories.{most_names, named, without_name, add_refused}
use Rattle.spec_ideal.specs.Volumes.{VnodeKind, a_file, a_directory, a_link, Vnode, Volume, if_unique, vnode_of, Edit, amends, or_old, edited_all, edit_number, edit_put, ascending, counted}
use Rattle.spec_ideal.specs.Operations as ops
use Rattle.spec_ideal.specs.Operations.{Caller, Result, changes, first_failing, tests, effect, is_kind, kind_is, is_directory, names_in, links_of, acl_of, acl_read, named_vnode, number_named, vnode_in, name_in, implies, is_mask, has_no_names, same_vnode, is_below, may_link, may_move, is_same_name, has_room_for, kinds_agree, rename_rights, rename_tests, free_number, new_file, new_link, new_directory, creating, removing, linking, renaming, unlinks, linked, op}
use Rattle.spec_ideal.specs.Soundness.{names_directory, IsSound}
use Rattle.spec_ideal.specs.SoundnessLaws.{LeavesSound}
use Rattle.spec_ideal.proofs.Basics.{some_of, both, yes_no}
use Rattle.spec_ideal.proofs.AccessLists.{read_is_text}
use Rattle.spec_ideal.proofs.Tables.{free_is_free, free_parity, free_from}
use Rattle.spec_ideal.proofs.Counts.{one_if}
use Rattle.spec_ideal.proofs.Steps.{Held, holds, its_names, parity, room_for}
use Rattle.spec_ideal.proofs.Maps.{differ}
use Rattle.spec_ideal.proofs.Ranks.{at}
use Rattle.spec_ideal.proofs.Kept.{as_map, Found, finds, kind_found, status_sound, data_sound, acl_sound}
use Rattle.spec_ideal.proofs.Comes.{may_add, file_own, link_own, directory_own, creates_sound, links_sound}
use Rattle.spec_ideal.proofs.Goes.{no_directory, stays, unlink_by, unlinks_is, removes_sound}
use Rattle.spec_ideal.proofs.Moves.{two_links, within_sound, within_replaced, across_sound, across_replaced, MayStandIn, below_itself}
use Rattle.spec_ideal.proofs.Scopes.{accepted, all_pass, implied, read_is_none, statuses_none}

-- ---- edits of a result

pub same_edits : (ds es : List Edit) (m n : ℕ) → changes ds m ≡ changes es n → ds ≡ es
same_edits ds es m n e = cc

placed_long : (b : Bool) (e d : Edit) (ds : List Edit) → 0 < length (if b then d ∷ edit_put e ds else e ∷ d ∷ ds)
placed_long true e d ds = omega arith
placed_long false e d ds = omega arith

placed_some : (e : Edit) (ds : List Edit) → 0 < length (edit_put e ds)
placed_some e [] = omega arith
placed_some e (d ∷ ds) = placed_long (nat_lt (edit_number d) (edit_number e)) e d ds

leaves : (id : ℕ) (ds es : List Edit) (m n : ℕ) (v : Volume) → changes ds m ≡ changes es n → 0 < length ds → IsSound (counted (edited_all id ds v)) → LeavesSound id es v
leaves id ds es m n v e long h = subst (λ (xs : List Edit). LeavesSound id xs v) (same_edits ds es m n e) (record { sound = h; some_edit = long })

pub ascending_some : (es : List Edit) → 0 < length es → 0 < length (ascending es)
ascending_some [] h = h
ascending_some (e ∷ es) h = placed_some e (ascending es)

leaves_sorted : (id : ℕ) (ds es : List Edit) (m n : ℕ) (v : Volume) → changes (ascending ds) m ≡ changes es n → 0 < length ds → IsSound (counted (edited_all id (ascending ds) v)) → LeavesSound id es v
leaves_sorted id ds es m n v e long h = leaves id (ascending ds) es m n v e (ascending_some ds long) h

abbrev pub Pass : List (Bool × ℕ) → Type 0
Pass ts = AllByRecursion (λ (t : Bool × ℕ). t.0 ≡ true) ts

pub pass_more : (front back : List (Bool × ℕ)) → Pass (front ++ back) → Pass back
pass_more [] back h = h
pass_more (t ∷ front) back h = pass_more front back h.1

-- ---- stores

list_read : (r : std_result.Result AccessList Refusal) (old : AccessList) → ((a : AccessList) → r ≡ Ok a → IsAccessList a) → is_ok r ≡ true → IsAccessList (or_old (acl_read r) old)
list_read (Ok a) old h ok = h a refl
list_read (Err f) old h ok = absurd cc

-- ---- new vnodes

even_none : (n l : ℕ) → n % 2 ≡ 0 → l ≡ l + one_if (nat_eq (n % 2) 1)
even_none n l e = rw e (omega arith)

odd_one : (n l : ℕ) → n % 2 ≡ 1 → l + 1 ≡ l + one_if (nat_eq (n % 2) 1)
odd_one n l e = rw e refl

pub record Into (d : Fid) (v : Volume) (x : Vnode) : Type 0 where
  pub found : Found d v x
  pub directory : x.kind ≡ a_directory

pub into : (d : Fid) (v : Volume) → is_some (vnode_of d v) ≡ true → is_directory (vnode_of d v) ≡ true → (x : Vnode) × Into d v x
into d v p q = let r = finds d v p in (r.0, record { found = r.1; directory = kind_found d v r.0 a_directory r.1 q })

pub named_ok : (name : List ℕ) (d : Fid) (v : Volume) (x : Vnode) (good : Bool) → Found d v x → Pass (ops.adds_name name (names_in (vnode_of d v)) good) → add_refused name x.names ≡ None
named_ok name d v x good found h = subst (λ (o : Option Vnode). add_refused name (names_in o) ≡ None) found.found (may_add name (names_in (vnode_of d v)) good h)

-- ---- names that are there

pub some_is : (o : Option Name) → is_some o ≡ true → (m : Name) × (o ≡ Some m)
some_is None e = absurd cc
some_is (Some m) e = (m, refl)

-- what a name in a directory gives
pub record Given (d : Fid) (name : List ℕ) (v : Volume) (x : Vnode) (m : Name) (y : Vnode) : Type 0 where
  pub name_is : name_in d name v ≡ Some m
  pub named : named name x.names ≡ Some m
  pub held : Held d.vnode m.vnode m.unique x y (at v)
  pub vnode : named_vnode v (Some m) ≡ Some y

named_is : (m : Name) (y : Vnode) (v : Volume) → get m.vnode v.vnodes ≡ Some y → y.unique ≡ m.unique → if_unique m.unique (get m.vnode v.vnodes) ≡ Some y
named_is m y v e u = rw (e, eq-eqb y.unique m.unique u) refl

pub gives : (d : Fid) (name : List ℕ) (v : Volume) (x : Vnode) (m : Name) → IsSound v → Found d v x → name_in d name v ≡ Some m → (y : Vnode) × Given d name v x m y
gives d name v x m h found e =
    let is : named name x.names ≡ Some m = subst (λ (o : Option Vnode). named name (names_in o) ≡ Some m) found.found e in
    let r = holds d.vnode v.next name m x (at v) found.there is (as_map v h) in
    (r.0, record { name_is = e; named = is; held = r.1; vnode = named_is m r.0 v r.1.there r.1.unique })

pub in_directory : (d : Fid) (name : List ℕ) (v : Volume) (x : Vnode) (m : Name) (y : Vnode) → Given d name v x m y → vnode_in d name v ≡ Some y
in_directory d name v x m y g = ap (named_vnode v) g.name_is ∙ g.vnode

-- what is removed
abbrev pub removal : Fid → List ℕ → Option ℕ → Volume → Edit
removal d name links v = amends d.vnode (record ops.no_amend { names = Some (without_name name (names_in (vnode_of d v))); links = links })

pub removal_is : (d : Fid) (name : List ℕ) (links : Option ℕ) (v : Volume) (x : Vnode) (m : Name) (y : Vnode) → Given d name v x m y → removing d name links v ≡ removal d name links v ∷ unlink_by (stays y) m.vnode y ∷ []
removal_is d name links v x m y g =
    ap (λ (es : List Edit). removal d name links v ∷ es)
    (ap (λ (o : Option Name). unlinks (number_named o) (named_vnode v o)) g.name_is ∙ (ap (unlinks m.vnode) g.vnode ∙ unlinks_is m.vnode y (stays y) refl))

kind_one : (k : VnodeKind) → k ≡ a_directory → one_if (is_kind k a_directory) ≡ 1
kind_one k e = rw e refl

kind_none : (b : Bool) → not b ≡ true → one_if b ≡ 0
kind_none true e = absurd cc
kind_none false e = refl

pub no_length : (names : List Name) → nat_eq (length names) 0 ≡ true → names ≡ []
no_length [] e = refl
no_length (n ∷ ns) e = let z : suc (length ns) ≡ 0 = eqb-true (suc (length ns)) 0 e in absurd (omega (arith, z))

holds_parity : (d : Fid) (name : List ℕ) (v : Volume) (x : Vnode) (m : Name) (y : Vnode) → IsSound v → Given d name v x m y → one_if (names_directory m) ≡ one_if (is_kind y.kind a_directory)
holds_parity d name v x m y h g = parity m.vnode y.kind ((as_map v h).own m.vnode y g.held.there).kind

removed : (id : ℕ) (d : Fid) (name : List ℕ) (links : Option ℕ) (x : Vnode) (m : Name) (y : Vnode) (v : Volume) → IsSound v → Into d v x → Given d name v x m y → (y.kind ≡ a_directory → y.names ≡ []) → x.links ≡ or_old links x.links + one_if (is_kind y.kind a_directory)
    → IsSound (counted (edited_all id (ascending (removing d name links v)) v))
removed id d name links x m y v h i g empty l =
    removes_sound id d name links m x y v (stays y) refl h i.found i.directory g.named g.held empty (l ∙ ap (λ (k : ℕ). or_old links x.links + k) (sym (holds_parity d name v x m y h g))) (ap names_in i.found.found) (removal_is d name links v x m y g)

file_removed : (id : ℕ) (caller : Caller) (d : Fid) (name : List ℕ) (v : Volume) → IsSound v → Pass (tests caller (calls.RemoveFile d name) v) → IsSound (counted (edited_all id (ascending (removing d name None v)) v))
file_removed id caller d name v h p =
    let i = into d v p.0 p.1.0 in
    let m = some_is (name_in d name v) p.1.1.1.1.1.0 in
    let g = gives d name v i.0 m.0 h i.1.found m.1 in
    let other_kind : not (is_kind g.0.kind a_directory) ≡ true = subst (λ (o : Option Vnode). not (is_directory o) ≡ true) (in_directory d name v i.0 m.0 g.0 g.1) p.1.1.0 in
    let nothing = kind_none (is_kind g.0.kind a_directory) other_kind in
    removed id d name None i.0 m.0 g.0 v h i.1 g.1 (λ e. absurd (no_directory g.0.kind other_kind e)) (omega (arith, nothing))

directory_removed : (id : ℕ) (caller : Caller) (d : Fid) (name : List ℕ) (v : Volume) → IsSound v → Pass (tests caller (calls.RemoveDir d name) v) → IsSound (counted (edited_all id (ascending (removing d name (Some (links_of (vnode_of d v) - 1)) v)) v))
directory_removed id caller d name v h p =
    let i = into d v p.0 p.1.0 in
    let m = some_is (name_in d name v) p.1.1.1.1.1.0 in
    let g = gives d name v i.0 m.0 h i.1.found m.1 in
    let there = in_directory d name v i.0 m.0 g.0 g.1 in
    let dir : is_kind g.0.kind a_directory ≡ true = subst (λ (o : Option Vnode). is_directory o ≡ true) there (implied (is_some (name_in d name v)) (is_directory (vnode_in d name v)) p.1.1.1.1.1.0 p.1.1.0) in
    let empty : nat_eq (length g.0.names) 0 ≡ true = subst (λ (o : Option Vnode). has_no_names o ≡ true) there p.1.1.1.1.1.1.0 in
    let one : one_if (is_kind g.0.kind a_directory) ≡ 1 = rw dir refl in
    let two = two_links v.next d.vnode i.0 i.1.directory ((as_map v h).own d.vnode i.0 i.1.found.there) in
    let many : links_of (vnode_of d v) ≡ i.0.links = ap links_of i.1.found.found in
    removed id d name (Some (links_of (vnode_of d v) - 1)) i.0 m.0 g.0 v h i.1 g.1 (λ e. no_length g.0.names empty) (omega (arith, one, two, many))

-- ---- Link

pub file_kind : (k : VnodeKind) → is_kind k a_file ≡ true → k ≡ a_file
file_kind a_file e = refl
file_kind a_directory e = absurd cc
file_kind a_link e = absurd cc

linked_file : (id : ℕ) (caller : Caller) (d : Fid) (name : List ℕ) (f : Fid) (v : Volume) → IsSound v → Pass (tests caller (calls.Link d name f) v) → IsSound (counted (edited_all id (ascending (linking d name f v)) v))
linked_file id caller d name f v h p =
    let good = p.1.1.1.1.1.0 in
    let first = (both (nat_eq f.volume d.volume && may_link d (vnode_of f v)) (name_ok name) good).0 in
    let same = both (nat_eq f.volume d.volume) (may_link d (vnode_of f v)) first in
    let i = into d v p.0 p.1.1.0 in
    let r = finds f v (implied (nat_eq f.volume d.volume) (is_some (vnode_of f v)) same.0 p.1.0) in
    let y : Vnode = r.0 in
    let link : (is_kind y.kind a_file && (nat_eq y.parent d.vnode && nat_eq y.parent_unique d.unique)) ≡ true = subst (λ (o : Option Vnode). may_link d o ≡ true) r.1.found same.1 in
    let parts = both (is_kind y.kind a_file) (nat_eq y.parent d.vnode && nat_eq y.parent_unique d.unique) link in
    let up = both (nat_eq y.parent d.vnode) (nat_eq y.parent_unique d.unique) parts.1 in
    links_sound id d f name i.0 y v h i.1.found i.1.directory r.1 (file_kind y.kind parts.0) (eqb-true y.parent d.vnode up.0)
    (named_ok name d v i.0 (nat_eq f.volume d.volume && may_link d (vnode_of f v)) i.1.found p.1.1.1.1.1) (ap names_in i.1.found.found) (ap links_of r.1.found)

-- ---- Rename

-- what the tests of a rename say, but for where the name goes
pub record Renames (d e : Fid) (old new : List ℕ) (v : Volume) (x z : Vnode) (m : Name) (y : Vnode) : Type 0 where
  pub from : Into d v x
  pub to : Into e v z
  pub source : Given d old v x m y
  pub good : name_ok new ≡ true
  pub other_name : is_same_name d old e new ≡ false
  pub other_vnode : same_vnode (Some m) (name_in e new v) ≡ false
  pub moves : (if is_kind y.kind a_directory then not (is_below e.vnode m.vnode v) else (nat_eq d.vnode e.vnode || nat_lt y.links 2)) ≡ true
  pub empty : has_no_names (vnode_in e new v) ≡ true
  pub room : has_room_for d e new v ≡ true

is_false : (b : Bool) → not b ≡ true → b ≡ false
is_false true e = absurd cc
is_false false e = refl

pub renames_by : (caller : Caller) (d e : Fid) (old new : List ℕ) (v : Volume) → IsSound v → Pass (rename_tests caller d old e new v) → (x : Vnode) × ((z : Vnode) × ((m : Name) × ((y : Vnode) × Renames d e old new v x z m y)))
renames_by caller d e old new v h p =
    let dirs = both (is_directory (vnode_of d v)) (is_directory (vnode_of e v)) p.1.1.0 in
    let i = into d v p.0 dirs.0 in
    let j = into e v p.1.0 dirs.1 in
    let rest = pass_more (kinds_agree (vnode_in d old v) (vnode_in e new v)) _ p.1.1.1 in
    let m = some_is (name_in d old v) rest.1.1.1.0 in
    let g = gives d old v i.0 m.0 h i.1.found m.1 in
    let ok = both (name_ok new) (not (is_same_name d old e new) && may_move d e (name_in d old v) (name_in e new v) v (vnode_in d old v)) rest.1.1.0 in
    let two = both (not (is_same_name d old e new)) (may_move d e (name_in d old v) (name_in e new v) v (vnode_in d old v)) ok.1 in
    let move : may_move d e (Some m.0) (name_in e new v) v (Some g.0) ≡ true = subst (λ (o : Option Vnode). may_move d e (Some m.0) (name_in e new v) v o ≡ true) (in_directory d old v i.0 m.0 g.0 g.1) (subst (λ (o : Option Name). may_move d e o (name_in e new v) v (vnode_in d old v) ≡ true) m.1 two.1) in
    let parts = both (not (same_vnode (Some m.0) (name_in e new v))) (if is_kind g.0.kind a_directory then not (is_below e.vnode m.0.vnode v) else (nat_eq d.vnode e.vnode || nat_lt g.0.links 2)) move in (
      i.0,
      (
        j.0,
        (
          m.0,
          (
            g.0,
            record {
              from = i.1;
              to = j.1;
              source = g.1;
              good = ok.0;
              other_name = is_false (is_same_name d old e new) two.0;
              other_vnode = is_false (same_vnode (Some m.0) (name_in e new v)) parts.0;
              moves = parts.1;
              empty = rest.1.1.1.1.0;
              room = rest.1.1.1.1.1.0;
            },
          ),
        ),
      ),
    )

pub stands_by : (b : Bool) (d e : Fid) (m : Name) (y : Vnode) (v : Volume) → (if b then not (is_below e.vnode m.vnode v) else (nat_eq d.vnode e.vnode || nat_lt y.links 2)) ≡ true → MayStandIn e.vnode m.vnode v b
stands_by true d e m y v h = is_false (is_below e.vnode m.vnode v) h
stands_by false d e m y v h = tt

kind_is_directory : (k : VnodeKind) → is_kind k a_directory ≡ true → k ≡ a_directory
kind_is_directory a_directory e = refl
kind_is_directory a_file e = absurd cc
kind_is_directory a_link e = absurd cc

few_by : (b c : Bool) (d e : Fid) (m : Name) (y : Vnode) (v : Volume) → is_kind y.kind a_directory ≡ b → nat_eq d.vnode e.vnode ≡ c → c ≡ false → (if b then not (is_below e.vnode m.vnode v) else (c || nat_lt y.links 2)) ≡ true → (y.kind ≡ a_directory → ⊥) → y.links < 2
few_by true c d e m y v k is ne h file = absurd (file (kind_is_directory y.kind k))
few_by false true d e m y v k is ne h file = absurd cc
few_by false false d e m y v k is ne h file = ltb-true y.links 2 h

-- the vnode that moves isn't the directory to which it does
pub not_there_by : (b : Bool) (e : Fid) (t : ℕ) (y z : Vnode) (v : Volume) → is_kind y.kind a_directory ≡ b → MayStandIn e.vnode t v b → get t v.vnodes ≡ Some y → get e.vnode v.vnodes ≡ Some z → z.kind ≡ a_directory → t ≡ e.vnode → ⊥
not_there_by true e t y z v k out at_t at_e dir same = yes_no (is_below e.vnode t v) (subst (λ (n : ℕ). is_below n t v ≡ true) same (below_itself t v y at_t)) out
not_there_by false e t y z v k out at_t at_e dir same =
    let one : Some y ≡ Some z = sym at_t ∙ (ap (at v) same ∙ at_e) in
    let kind : y.kind ≡ a_directory = ap (λ (w : Vnode). w.kind) (some_of y z one) ∙ dir in
    yes_no (is_kind y.kind a_directory) (rw kind refl) k

pub not_same_by : (m w : Name) (y t : Vnode) (v : Volume) → get m.vnode v.vnodes ≡ Some y → y.unique ≡ m.unique → get w.vnode v.vnodes ≡ Some t → t.unique ≡ w.unique → same_vnode (Some m) (Some w) ≡ false → m.vnode ≡ w.vnode → ⊥
not_same_by m w y t v at_m u at_w q h same =
    let one : y ≡ t = some_of y t (sym at_m ∙ (ap (at v) same ∙ at_w)) in
    let unique : m.unique ≡ w.unique = sym u ∙ (ap (λ (k : Vnode). k.unique) one ∙ q) in
    yes_no (same_vnode (Some m) (Some w)) (rw (eq-eqb m.vnode w.vnode same, eq-eqb m.unique w.unique unique) refl) h

room_by : (b : Bool) (o : Option Name) (n : ℕ) → b ≡ false → o ≡ None → (b || (is_some o || nat_lt n most_names)) ≡ true → n < most_names
room_by true o n e f h = absurd cc
room_by false (Some w) n e f h = absurd cc
room_by false None n e f h = ltb-true n most_names h

-- what is looked up in e is looked up in z
in_target : (e : Fid) (new : List ℕ) (v : Volume) (z : Vnode) (o : Option Name) → Found e v z → name_in e new v ≡ o → named new z.names ≡ o
in_target e new v z o found is = subst (λ (k : Option Vnode). named new (names_in k) ≡ o) found.found is

-- from one directory to another
moved_across : (id : ℕ) (d e : Fid) (old new : List ℕ) (v : Volume) (x z : Vnode) (m : Name) (y : Vnode) (o : Option Name) → IsSound v → Renames d e old new v x z m y → name_in e new v ≡ o → nat_eq d.vnode e.vnode ≡ false
    → IsSound (counted (edited_all id (ascending (ops.renames_across d e m old new (is_directory (named_vnode v (Some m))) (named_vnode v o) v ++ unlinks (number_named o) (named_vnode v o))) v))
moved_across id d e old new v x z m y None h r is apart =
    let g = r.source in
    let out : MayStandIn e.vnode m.vnode v (is_kind y.kind a_directory) = stands_by (is_kind y.kind a_directory) d e m y v r.moves in
    let none = in_target e new v z None r.to.found is in
    let long : has_room_for d e new v ≡ true = r.room in
    let room = room_by (nat_eq d.vnode e.vnode) (name_in e new v) (length (names_in (vnode_of e v))) apart is long in
    let few_names : length z.names < most_names = subst (λ (k : Option Vnode). length (names_in k) < most_names) r.to.found.found room in
    subst (λ (k : Option Vnode). IsSound (counted (edited_all id (ascending (ops.renames_across d e m old new (is_directory k) None v ++ [])) v))) (sym g.vnode)
    (across_sound id d e old new m x z y v h r.from.found r.from.directory r.to.found r.to.directory (differ d.vnode e.vnode apart) g.named (room_for new z.names r.good none few_names) none g.held
    (not_there_by (is_kind y.kind a_directory) e m.vnode y z v refl out g.held.there r.to.found.there r.to.directory) out
    (few_by (is_kind y.kind a_directory) (nat_eq d.vnode e.vnode) d e m y v refl refl apart r.moves)
    (ap names_in r.from.found.found) (ap links_of r.from.found.found) (ap names_in r.to.found.found) (ap links_of r.to.found.found))
moved_across id d e old new v x z m y (Some w) h r is apart =
    let g = r.source in
    let out : MayStandIn e.vnode m.vnode v (is_kind y.kind a_directory) = stands_by (is_kind y.kind a_directory) d e m y v r.moves in
    let k = gives e new v z w h r.to.found is in
    let t : Vnode = k.0 in
    let empty : nat_eq (length t.names) 0 ≡ true = subst (λ (q : Option Vnode). has_no_names q ≡ true) (in_directory e new v z w t k.1) r.empty in
    let differs : same_vnode (Some m) (Some w) ≡ false = subst (λ (q : Option Name). same_vnode (Some m) q ≡ false) is r.other_vnode in
    subst (λ (q : Option Vnode). IsSound (counted (edited_all id (ascending (ops.renames_across d e m old new (is_directory q) (named_vnode v (Some w)) v ++ unlinks w.vnode (named_vnode v (Some w)))) v))) (sym g.vnode)
    (subst (λ (q : Option Vnode). IsSound (counted (edited_all id (ascending (ops.renames_across d e m old new (is_directory (Some y)) q v ++ unlinks w.vnode q)) v))) (sym k.1.vnode)
    (subst (λ (es : List Edit). IsSound (counted (edited_all id (ascending (ops.renames_across d e m old new (is_directory (Some y)) (Some t) v ++ es)) v))) (sym (unlinks_is w.vnode t (stays t) refl))
    (across_replaced id d e old new m w x z y t v (stays t) refl h r.from.found r.from.directory r.to.found r.to.directory (differ d.vnode e.vnode apart) g.named r.good k.1.named g.held k.1.held (λ q. no_length t.names empty)
    (not_same_by m w y t v g.held.there g.held.unique k.1.held.there k.1.held.unique differs)
    (not_there_by (is_kind y.kind a_directory) e m.vnode y z v refl out g.held.there r.to.found.there r.to.directory) out
    (few_by (is_kind y.kind a_directory) (nat_eq d.vnode e.vnode) d e m y v refl refl apart r.moves)
    (ap names_in r.from.found.found) (ap links_of r.from.found.found) (ap names_in r.to.found.found) (ap links_of r.to.found.found))))

-- within one directory
pub same_directory : (d e : Fid) (v : Volume) (x z : Vnode) → Found d v x → Found e v z → d.vnode ≡ e.vnode → z ≡ x
same_directory d e v x z a b same = some_of z x (sym b.there ∙ (ap (at v) (sym same) ∙ a.there))

moved_within : (id : ℕ) (d e : Fid) (old new : List ℕ) (v : Volume) (x z : Vnode) (m : Name) (y : Vnode) (o : Option Name) → IsSound v → Renames d e old new v x z m y → name_in e new v ≡ o → nat_eq d.vnode e.vnode ≡ true
    → IsSound (counted (edited_all id (ascending (ops.renames_within d m old new (named_vnode v o) v ++ unlinks (number_named o) (named_vnode v o))) v))
moved_within id d e old new v x z m y None h r is same =
    let g = r.source in
    let one = same_directory d e v x z r.from.found r.to.found (eqb-true d.vnode e.vnode same) in
    let none : named new x.names ≡ None = subst (λ (k : Vnode). named new k.names ≡ None) one (in_target e new v z None r.to.found is) in
    within_sound id d old new m x y v h r.from.found r.from.directory g.named r.good none g.held (ap names_in r.from.found.found) (ap links_of r.from.found.found)
moved_within id d e old new v x z m y (Some w) h r is same =
    let g = r.source in
    let number : d.vnode ≡ e.vnode = eqb-true d.vnode e.vnode same in
    let one = same_directory d e v x z r.from.found r.to.found number in
    let k = gives e new v z w h r.to.found is in
    let t : Vnode = k.0 in
    let empty : nat_eq (length t.names) 0 ≡ true = subst (λ (q : Option Vnode). has_no_names q ≡ true) (in_directory e new v z w t k.1) r.empty in
    let target : named new x.names ≡ Some w = subst (λ (q : Vnode). named new q.names ≡ Some w) one k.1.named in
    let held : Held d.vnode w.vnode w.unique x t (at v) = subst (λ (n : ℕ). Held n w.vnode w.unique x t (at v)) (sym number) (subst (λ (q : Vnode). Held e.vnode w.vnode w.unique q t (at v)) one k.1.held) in
    let differ : bytes_eq old new ≡ false = subst (λ (b : Bool). (b && bytes_eq old new) ≡ false) same r.other_name in
    subst (λ (q : Option Vnode). IsSound (counted (edited_all id (ascending (ops.renames_within d m old new q v ++ unlinks w.vnode q)) v))) (sym k.1.vnode)
    (subst (λ (es : List Edit). IsSound (counted (edited_all id (ascending (ops.renames_within d m old new (Some t) v ++ es)) v))) (sym (unlinks_is w.vnode t (stays t) refl))
    (within_replaced id d old new m w x y t v (stays t) refl h r.from.found r.from.directory g.named r.good differ target g.held held (λ q. no_length t.names empty) (ap names_in r.from.found.found) (ap links_of r.from.found.found)))

-- the edits of a rename
edits_by : (b : Bool) (id : ℕ) (d e : Fid) (old new : List ℕ) (v : Volume) (x z : Vnode) (m : Name) (y : Vnode) → nat_eq d.vnode e.vnode ≡ b → IsSound v → Renames d e old new v x z m y
    → IsSound (counted (edited_all id (ascending ((if b then ops.renames_within d m old new (named_vnode v (name_in e new v)) v else ops.renames_across d e m old new (is_directory (named_vnode v (Some m))) (named_vnode v (name_in e new v)) v) ++ unlinks (number_named (name_in e new v)) (named_vnode v (name_in e new v)))) v))
edits_by true id d e old new v x z m y b h r = moved_within id d e old new v x z m y (name_in e new v) h r refl b
edits_by false id d e old new v x z m y b h r = moved_across id d e old new v x z m y (name_in e new v) h r refl b

long_by : (b : Bool) (d e : Fid) (old new : List ℕ) (moves : Bool) (m : Name) (o : Option Name) (v : Volume) → 0 < length ((if b then ops.renames_within d m old new (named_vnode v o) v else ops.renames_across d e m old new moves (named_vnode v o) v) ++ unlinks (number_named o) (named_vnode v o))
long_by true d e old new moves m o v = omega arith
long_by false d e old new moves m o v = omega arith

renamed_all : (id : ℕ) (caller : Caller) (d e : Fid) (old new : List ℕ) (v : Volume) (es : List Edit) (n : ℕ) → IsSound v → Pass (rename_tests caller d old e new v) → changes (ascending (renaming d e old new (name_in d old v) (name_in e new v) v)) e.vnode ≡ changes es n → LeavesSound id es v
renamed_all id caller d e old new v es n h p eq =
    let r = renames_by caller d e old new v h p in
    let m : Name = r.1.1.0 in
    let ren = r.1.1.1.1 in
    let as_named : changes (ascending (renaming d e old new (Some m) (name_in e new v) v)) e.vnode ≡ changes es n = subst (λ (o : Option Name). changes (ascending (renaming d e old new o (name_in e new v) v)) e.vnode ≡ changes es n) ren.source.name_is eq in
    leaves_sorted id (renaming d e old new (Some m) (name_in e new v) v) es e.vnode n v as_named (long_by (nat_eq d.vnode e.vnode) d e old new (is_directory (named_vnode v (Some m))) m (name_in e new v) v)
    (edits_by (nat_eq d.vnode e.vnode) id d e old new v r.0 r.1.0 m r.1.1.1.0 refl h ren)

renamed_by : (b : Bool) (id : ℕ) (caller : Caller) (d e : Fid) (old new : List ℕ) (v : Volume) (es : List Edit) (n : ℕ) → IsSound v → Pass (if b then rename_tests caller d old e new v else ops.rename_out_tests caller d v)
    → changes (ascending (renaming d e old new (name_in d old v) (name_in e new v) v)) e.vnode ≡ changes es n → LeavesSound id es v
renamed_by true id caller d e old new v es n h p eq = renamed_all id caller d e old new v es n h p eq
renamed_by false id caller d e old new v es n h p eq = absurd (let z = p.1.1.1.1.0 in cc)

-- ---- all of them

kept_by : (id : ℕ) (caller : Caller) (call : FsCall) (v : Volume) (es : List Edit) (n : ℕ) → IsSound v → Pass (tests caller call v) → effect caller call v ≡ changes es n → LeavesSound id es v
kept_by id caller (calls.StoreData f status position stored file_length bytes) v es n h p e =
    let r = finds f v p.0 in
    let file = both (kind_is a_file (vnode_of f v)) _ p.1.1.1.1.0 in
    leaves id (amends f.vnode (record ops.no_amend { contents = Some bytes; status = Some status }) ∷ []) es f.vnode n v e (omega arith) (data_sound id f status bytes r.0 v h r.1 (kind_found f v r.0 a_file r.1 file.0))
kept_by id caller (calls.StoreAcl f acl) v es n h p e =
    let i = into f v p.0 p.1.0 in
    let x : Vnode = i.0 in
    leaves id (amends f.vnode (record ops.no_amend { acl = acl_read (acl_at acl) }) ∷ []) es f.vnode n v e (omega arith)
    (acl_sound id f (acl_read (acl_at acl)) x v h i.1.found i.1.directory (list_read (acl_at acl) x.acl (λ a q. (read_is_text acl a q).0) p.1.1.1.1.0))
kept_by id caller (calls.StoreStatus f status) v es n h p e =
    let r = finds f v p.0 in
    leaves id (amends f.vnode (record ops.no_amend { status = Some status }) ∷ []) es f.vnode n v e (omega arith) (status_sound id f status r.0 v h r.1)
kept_by id caller (calls.RemoveFile d name) v es n h p e = leaves_sorted id (removing d name None v) es d.vnode n v e (omega arith) (file_removed id caller d name v h p)
kept_by id caller (calls.CreateFile d name status) v es n h p e =
    let i = into d v p.0 p.1.0 in
    let x : Vnode = i.0 in
    let even : lowest_free 2 v.vnodes % 2 ≡ 0 = free_parity 2 v.vnodes in
    let above : 2 ≤ lowest_free 2 v.vnodes = free_from 2 v.vnodes in
    leaves_sorted id (creating d name status None (new_file d) v) es (free_number a_file v) n v e (omega arith)
    (creates_sound id d name status None (new_file d) x v h i.1.found i.1.directory (named_ok name d v x (is_mask status) i.1.found p.1.1.1.1) (free_is_free 1 2 v.vnodes h.ascending) (omega (arith, above)) refl refl refl (refl, omega arith)
    (file_own (lowest_free 2 v.vnodes) d 420 1 [] v status even) (even_none (lowest_free 2 v.vnodes) x.links even) (ap names_in i.1.found.found))
kept_by id caller (calls.Symlink d name target status) v es n h p e =
    let i = into d v p.0 p.1.0 in
    let x : Vnode = i.0 in
    let even : lowest_free 2 v.vnodes % 2 ≡ 0 = free_parity 2 v.vnodes in
    let above : 2 ≤ lowest_free 2 v.vnodes = free_from 2 v.vnodes in
    leaves_sorted id (creating d name status None (new_link d target) v) es (free_number a_link v) n v e (omega arith)
    (creates_sound id d name status None (new_link d target) x v h i.1.found i.1.directory (named_ok name d v x (is_mask status) i.1.found p.1.1.1.1) (free_is_free 1 2 v.vnodes h.ascending) (omega (arith, above)) refl refl refl (refl, omega arith)
    (link_own (lowest_free 2 v.vnodes) d 511 1 target v status even) (even_none (lowest_free 2 v.vnodes) x.links even) (ap names_in i.1.found.found))
kept_by id caller (calls.MakeDir d name status) v es n h p e =
    let i = into d v p.0 p.1.0 in
    let x : Vnode = i.0 in
    let acl : AccessList = acl_of (vnode_of d v) in
    let links : Option ℕ = Some (links_of (vnode_of d v) + 1) in
    let odd : lowest_free 3 v.vnodes % 2 ≡ 1 = free_parity 3 v.vnodes in
    let above : 3 ≤ lowest_free 3 v.vnodes = free_from 3 v.vnodes in
    let inherited : IsAccessList acl = subst (λ (o : Option Vnode). IsAccessList (acl_of o)) (sym i.1.found.found) (its_names v.next d.vnode x i.1.directory ((as_map v h).own d.vnode x i.1.found.there)).acl in
    let many : links_of (vnode_of d v) + 1 ≡ x.links + 1 = ap (λ (o : Option Vnode). links_of o + 1) i.1.found.found in
    leaves_sorted id (creating d name status links (new_directory d acl) v) es (free_number a_directory v) n v e (omega arith)
    (creates_sound id d name status links (new_directory d acl) x v h i.1.found i.1.directory (named_ok name d v x (is_mask status) i.1.found p.1.1.1.1) (free_is_free 1 3 v.vnodes h.ascending) (omega (arith, above)) refl refl refl refl
    (directory_own (lowest_free 3 v.vnodes) d 493 acl v status odd inherited) (many ∙ odd_one (lowest_free 3 v.vnodes) x.links odd) (ap names_in i.1.found.found))
kept_by id caller (calls.RemoveDir d name) v es n h p e = leaves_sorted id (removing d name (Some (links_of (vnode_of d v) - 1)) v) es d.vnode n v e (omega arith) (directory_removed id caller d name v h p)
kept_by id caller (calls.Link d name f) v es n h p e = leaves_sorted id (linking d name f v) es f.vnode n v e (omega arith) (linked_file id caller d name f v h p)
kept_by id caller (calls.Rename d old e' new) v es n h p e = renamed_by (nat_eq e'.volume d.volume) id caller d e' old new v es n h p e
kept_by id caller (calls.FetchData f position wanted) v es n h p e = absurd (read_is_none ops.shows_body f (vnode_of f v) es n e)
kept_by id caller (calls.FetchAcl f) v es n h p e = absurd (read_is_none ops.shows_acl f (vnode_of f v) es n e)
kept_by id caller (calls.FetchStatus f) v es n h p e = absurd (read_is_none ops.shows_status f (vnode_of f v) es n e)
kept_by id caller (calls.BulkStatus fs) v es n h p e = absurd (statuses_none caller v fs es n e)
kept_by id caller call v es n h p e = absurd cc

pub operations_leave_sound : (id : ℕ) (caller : Caller) (call : FsCall) (v : Volume) (es : List Edit) (n : ℕ) → IsSound v → op id caller call v ≡ changes es n → LeavesSound id es v
operations_leave_sound id caller call v es n h e =
    let a = accepted id caller call v es n e in
    kept_by id caller call v es n h (all_pass (tests caller call v) a.tested) a.effected
