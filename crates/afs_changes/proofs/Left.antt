-- The vnodes whose statuses a reply has are left by the change.
use Rattle.std.proofs.Common.{◌≡◌, ℕ, ◌+◌, ◌-◌, Bool, true, false, List, [], ◌∷◌, ◌++◌, Option, Some, None, refl, sym, ap, subst, ◌∙◌, eq-eqb, if◌then◌else◌}
use Rattle.std.specs.Prelude.{nat_eq, nat_lt, is_some, ◌||◌}
use Rattle.std.specs.List.{list_any, AllByRecursion}
use Rattle.std.specs.Option.{option_map}
use Rattle.afs_num.specs.declared.calls.AfsStoreStatus.{AfsStoreStatus}
use Rattle.afs_num.specs.declared.calls.FsCall.{FsCall}
use Rattle.afs_num.specs.declared.calls.FsCall.TheVariants as calls
use Rattle.afs_num.specs.declared.directories.Name.{Name}
use Rattle.afs_num.specs.declared.types.Fid.{Fid}
use Rattle.spec_ideal.specs.AccessLists.{acl_at}
use Rattle.spec_ideal.specs.Operations as ops
use Rattle.spec_ideal.specs.Operations.{Caller, changes, effect, is_directory, name_in, named_vnode, number_named, op, rename_tests, renaming, tests, unlinks, creating, removing, linking, free_number}
use Rattle.spec_ideal.specs.Soundness.{IsSound}
use Rattle.spec_ideal.specs.Tables.{Table, get}
use Rattle.spec_ideal.specs.Volumes.{a_directory, a_file, a_link, Vnode, Volume, Amend, Edit, amends, makes, frees, amended, fresh, ascending, edit_number, edit_put, vnode_of}
use Rattle.spec_ideal.proofs.Looks.{one_edit}
use Rattle.spec_ideal.proofs.Preserved.{Pass, renames_by, same_edits}
use Rattle.spec_ideal.proofs.Scopes.{accepted, all_pass, or_right}
use Rattle.spec_ideal.proofs.Tellings.{Finds, FindEach}
use Rattle.afs_changes.specs.Drafts.{numbers_shown, IsLeftIn}
use Rattle.afs_changes.specs.Drawing.{after_edit, all_left, before_edit, left_at}

abbrev leaves_one : ℕ → Edit → Bool
leaves_one m (amends n a) = nat_eq n m
leaves_one m (makes n x) = nat_eq n m
leaves_one m (frees n) = false

abbrev leaves : ℕ → List Edit → Bool
leaves m es = list_any (leaves_one m) es

-- ---- what is left under a number

here_or_later : (b : Bool) (x : Vnode) (o : Option Vnode) → (b || is_some o) ≡ true → is_some (if b then Some x else o) ≡ true
here_or_later true x o h = refl
here_or_later false x o h = h

later_too : (b : Bool) (n m : ℕ) (o p : Option Vnode) (t : Table Vnode) → is_some (get m t) ≡ true → is_some (get m (left_at n p ++ t)) ≡ true
later_too b n m o None t h = h
later_too b n m o (Some x) t h = here_or_later (nat_eq n m) x (get m t) (or_right (nat_eq n m) (is_some (get m t)) h)

first_left : (n m : ℕ) (p : Option Vnode) (x : Vnode) (t : Table Vnode) → p ≡ Some x → nat_eq n m ≡ true → is_some (get m (left_at n p ++ t)) ≡ true
first_left n m p x t is e = rw (is, e) refl

left_by : (b : Bool) (v : Volume) (e : Edit) (es : List Edit) (m : ℕ) → leaves_one m e ≡ b → Finds e (before_edit v e) → (b || leaves m es) ≡ true → (leaves m es ≡ true → is_some (get m (all_left v es)) ≡ true) → is_some (get m (all_left v (e ∷ es))) ≡ true
left_by true v (amends n a) es m is f h more = first_left n m (after_edit v (amends n a)) (amended (v.counter + 1) a f.0) (all_left v es) (ap (option_map (amended (v.counter + 1) a)) f.1) is
left_by true v (makes n x) es m is f h more = first_left n m (after_edit v (makes n x)) (fresh (v.counter + 1) v.next x) (all_left v es) (ap (one_edit (v.counter + 1) v.next (makes n x)) f) is
left_by true v (frees n) es m is f h more = absurd cc
left_by false v e es m is f h more = later_too true (edit_number e) m None (after_edit v e) (all_left v es) (more h)

left_there : (v : Volume) (es : List Edit) (m : ℕ) → FindEach v es → leaves m es ≡ true → is_some (get m (all_left v es)) ≡ true
left_there v [] m finds h = absurd cc
left_there v (e ∷ es) m finds h = left_by (leaves_one m e) v e es m refl finds.0 h (left_there v es m finds.1)

pub all_there : (v : Volume) (es : List Edit) (ms : List ℕ) → FindEach v es → AllByRecursion (λ (m : ℕ). leaves m es ≡ true) ms → AllByRecursion (IsLeftIn (all_left v es)) ms
all_there v es [] finds h = tt
all_there v es (m ∷ ms) finds h = (left_there v es m finds h.0, all_there v es ms finds h.1)

-- ---- in any order

swapped : (a b c : Bool) → (a || (b || c)) ≡ (b || (a || c))
swapped true true c = refl
swapped true false c = refl
swapped false true c = refl
swapped false false c = refl

placed_by : (b : Bool) (m : ℕ) (e d : Edit) (ds : List Edit) → leaves m (edit_put e ds) ≡ (leaves_one m e || leaves m ds) → leaves m (if b then d ∷ edit_put e ds else e ∷ d ∷ ds) ≡ (leaves_one m e || (leaves_one m d || leaves m ds))
placed_by true m e d ds h = rw h (swapped (leaves_one m d) (leaves_one m e) (leaves m ds))
placed_by false m e d ds h = refl

leaves_placed : (m : ℕ) (e : Edit) (ds : List Edit) → leaves m (edit_put e ds) ≡ (leaves_one m e || leaves m ds)
leaves_placed m e [] = refl
leaves_placed m e (d ∷ ds) = placed_by (nat_lt (edit_number d) (edit_number e)) m e d ds (leaves_placed m e ds)

leaves_ascending : (m : ℕ) (es : List Edit) → leaves m (ascending es) ≡ leaves m es
leaves_ascending m [] = refl
leaves_ascending m (e ∷ es) = leaves_placed m e (ascending es) ∙ ap (λ (b : Bool). leaves_one m e || b) (leaves_ascending m es)

front_by : (b : Bool) (m : ℕ) (es ds : List Edit) → (b || leaves m es) ≡ true → (leaves m es ≡ true → leaves m (es ++ ds) ≡ true) → (b || leaves m (es ++ ds)) ≡ true
front_by true m es ds h more = refl
front_by false m es ds h more = more h

leaves_front : (m : ℕ) (es ds : List Edit) → leaves m es ≡ true → leaves m (es ++ ds) ≡ true
leaves_front m [] ds h = absurd cc
leaves_front m (e ∷ es) ds h = front_by (leaves_one m e) m es ds h (leaves_front m es ds)

-- ---- the calls

abbrev pub AreLeft : List Edit → List ℕ → Type 0
AreLeft es ms = AllByRecursion (λ (m : ℕ). leaves m es ≡ true) ms

same_number : (ds es : List Edit) (m n : ℕ) → changes ds m ≡ changes es n → m ≡ n
same_number ds es m n e = cc

as_shown : (call : FsCall) (ds es : List Edit) (m n : ℕ) → changes ds m ≡ changes es n → AreLeft ds (numbers_shown m call) → AreLeft es (numbers_shown n call)
as_shown call ds es m n e h = subst (λ (k : ℕ). AreLeft es (numbers_shown k call)) (same_number ds es m n e) (subst (λ (xs : List Edit). AreLeft xs (numbers_shown m call)) (same_edits ds es m n e) h)

sorted_left : (ds : List Edit) (ms : List ℕ) → AreLeft ds ms → AreLeft (ascending ds) ms
sorted_left ds [] h = tt
sorted_left ds (m ∷ ms) h = (leaves_ascending m ds ∙ h.0, sorted_left ds ms h.1)

as_sorted : (call : FsCall) (ds es : List Edit) (m n : ℕ) → changes (ascending ds) m ≡ changes es n → AreLeft ds (numbers_shown m call) → AreLeft es (numbers_shown n call)
as_sorted call ds es m n e h = as_shown call (ascending ds) es m n e (sorted_left ds (numbers_shown m call) h)

same_one : (n : ℕ) → nat_eq n n ≡ true
same_one n = eq-eqb n n refl

stored_left : (f : Fid) (a : Amend) → AreLeft (amends f.vnode a ∷ []) (f.vnode ∷ [])
stored_left f a = (rw (same_one f.vnode) refl, tt)

created_left : (d : Fid) (name : List ℕ) (status : AfsStoreStatus) (links : Option ℕ) (x : Vnode) (v : Volume) → AreLeft (creating d name status links x v) (free_number x.kind v ∷ d.vnode ∷ [])
created_left d name status links x v =
    let n : ℕ = free_number x.kind v in
    (rw (same_one n) (or_right (nat_eq d.vnode n) true refl), (rw (same_one d.vnode) refl, tt))

removed_left : (d : Fid) (name : List ℕ) (links : Option ℕ) (v : Volume) → AreLeft (removing d name links v) (d.vnode ∷ [])
removed_left d name links v = (rw (same_one d.vnode) refl, tt)

linked_left : (d : Fid) (name : List ℕ) (f : Fid) (v : Volume) → AreLeft (linking d name f v) (f.vnode ∷ d.vnode ∷ [])
linked_left d name f v = (rw (same_one f.vnode) (or_right (nat_eq d.vnode f.vnode) true refl), (rw (same_one d.vnode) refl, tt))

moved_by : (b : Bool) (d e : Fid) (old new : List ℕ) (m : Name) (moves : Bool) (target : Option Vnode) (v : Volume) → nat_eq d.vnode e.vnode ≡ b
    → AreLeft (if b then ops.renames_within d m old new target v else ops.renames_across d e m old new moves target v) (d.vnode ∷ e.vnode ∷ [])
moved_by true d e old new m moves target v is = (rw (same_one d.vnode) refl, (rw is refl, tt))
moved_by false d e old new m moves target v is = (rw (same_one d.vnode) refl, (rw (same_one e.vnode) (or_right (nat_eq d.vnode e.vnode) true refl), tt))

in_front : (es ds : List Edit) (ms : List ℕ) → AreLeft es ms → AreLeft (es ++ ds) ms
in_front es ds [] h = tt
in_front es ds (m ∷ ms) h = (leaves_front m es ds h.0, in_front es ds ms h.1)

renamed_left : (b : Bool) (caller : Caller) (d e : Fid) (old new : List ℕ) (v : Volume) → IsSound v → Pass (if b then rename_tests caller d old e new v else ops.rename_out_tests caller d v) → AreLeft (renaming d e old new (name_in d old v) (name_in e new v) v) (d.vnode ∷ e.vnode ∷ [])
renamed_left true caller d e old new v h p =
    let r = renames_by caller d e old new v h p in
    let m : Name = r.1.1.0 in
    let target = name_in e new v in
    subst (λ (o : Option Name). AreLeft (renaming d e old new o target v) (d.vnode ∷ e.vnode ∷ [])) (sym r.1.1.1.1.source.name_is)
    (in_front (if nat_eq d.vnode e.vnode then ops.renames_within d m old new (named_vnode v target) v else ops.renames_across d e m old new (is_directory (named_vnode v (Some m))) (named_vnode v target) v) (unlinks (number_named target) (named_vnode v target)) (d.vnode ∷ e.vnode ∷ []) (moved_by (nat_eq d.vnode e.vnode) d e old new m (is_directory (named_vnode v (Some m))) (named_vnode v target) v refl))
renamed_left false caller d e old new v h p = absurd (let z = p.1.1.1.1.0 in cc)

shown_by : (caller : Caller) (call : FsCall) (v : Volume) (es : List Edit) (n : ℕ) → IsSound v → Pass (tests caller call v) → effect caller call v ≡ changes es n → AreLeft es (numbers_shown n call)
shown_by caller (calls.StoreData f status position stored file_length bytes) v es n h p e = as_shown (calls.StoreData f status position stored file_length bytes) _ es f.vnode n e (stored_left f (record ops.no_amend { contents = Some bytes; status = Some status }))
shown_by caller (calls.StoreAcl f acl) v es n h p e = as_shown (calls.StoreAcl f acl) _ es f.vnode n e (stored_left f (record ops.no_amend { acl = ops.acl_read (acl_at acl) }))
shown_by caller (calls.StoreStatus f status) v es n h p e = as_shown (calls.StoreStatus f status) _ es f.vnode n e (stored_left f (record ops.no_amend { status = Some status }))
shown_by caller (calls.RemoveFile d name) v es n h p e = as_sorted (calls.RemoveFile d name) (removing d name None v) es d.vnode n e (removed_left d name None v)
shown_by caller (calls.RemoveDir d name) v es n h p e = as_sorted (calls.RemoveDir d name) (removing d name (Some (ops.links_of (vnode_of d v) - 1)) v) es d.vnode n e (removed_left d name (Some (ops.links_of (vnode_of d v) - 1)) v)
shown_by caller (calls.CreateFile d name status) v es n h p e = as_sorted (calls.CreateFile d name status) (creating d name status None (ops.new_file d) v) es (free_number a_file v) n e (created_left d name status None (ops.new_file d) v)
shown_by caller (calls.Symlink d name target status) v es n h p e = as_sorted (calls.Symlink d name target status) (creating d name status None (ops.new_link d target) v) es (free_number a_link v) n e (created_left d name status None (ops.new_link d target) v)
shown_by caller (calls.MakeDir d name status) v es n h p e =
    let links : Option ℕ = Some (ops.links_of (vnode_of d v) + 1) in
    let new : Vnode = ops.new_directory d (ops.acl_of (vnode_of d v)) in
    as_sorted (calls.MakeDir d name status) (creating d name status links new v) es (free_number a_directory v) n e (created_left d name status links new v)
shown_by caller (calls.Link d name f) v es n h p e = as_sorted (calls.Link d name f) (linking d name f v) es f.vnode n e (linked_left d name f v)
shown_by caller (calls.Rename d old e' new) v es n h p e = as_sorted (calls.Rename d old e' new) (renaming d e' old new (name_in d old v) (name_in e' new v) v) es e'.vnode n e (renamed_left (nat_eq e'.volume d.volume) caller d e' old new v h p)
shown_by caller call v es n h p e = tt

pub shown_left : (id : ℕ) (caller : Caller) (call : FsCall) (v : Volume) (es : List Edit) (n : ℕ) → IsSound v → op id caller call v ≡ changes es n → AreLeft es (numbers_shown n call)
shown_left id caller call v es n h e =
    let a = accepted id caller call v es n e in
    shown_by caller call v es n h (all_pass (tests caller call v) a.tested) a.effected
