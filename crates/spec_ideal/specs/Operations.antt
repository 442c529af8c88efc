-- The ideal operation of a file server on a volume, in two halves: the tests, of which the first that fails gives the code of
-- the refusal; and the effect, which is what is read, or a list of edits. That no volume is there, that it is out of service
-- or busy, and that a record doesn't fit on the disk, are the server's to tell.
use Rattle.std.specs.Prelude.{◌≡◌, ℕ, zero, suc, ◌+◌, ◌-◌, List, [], ◌∷◌, ◌++◌, Bool, true, false, not, ◌&&◌, ◌||◌, Option, Some, None, Ok, Err, ℤ, pos, negsuc, is_ok, is_some, nat_eq, nat_lt, length, if◌then◌else◌}
use Rattle.std.specs.Prelude as std_result
use Rattle.std.specs.List.{list_all, All}
use Rattle.std.specs.Str.{bytes_eq}
use Rattle.afs_num.specs.Names.{name_ok}
use Rattle.afs_num.specs.declared.types.Fid.{Fid}
use Rattle.afs_num.specs.declared.acls.AccessList.{AccessList}
use Rattle.afs_num.specs.declared.calls.AfsStoreStatus.{AfsStoreStatus}
use Rattle.afs_num.specs.declared.calls.FsCall.{FsCall}
use Rattle.afs_num.specs.declared.calls.FsCall.TheVariants as calls
use Rattle.afs_num.specs.declared.directories.Name.{Name}
use Rattle.afs_num.specs.declared.histories.Version.{Version}
use Rattle.spec_ideal.specs.Tables.{get, lowest_free}
use Rattle.spec_ideal.specs.AccessLists.{no_acl, acl_at, rights_of}
use Rattle.spec_ideal.specs.Directories.{most_names, named, with_name, without_name}
use Rattle.spec_ideal.specs.VnodeMaps.{most_vnodes}
use Rattle.spec_ideal.specs.Volumes.{VnodeKind, a_file, a_directory, a_link, Vnode, Volume, if_unique, vnode_of, blocks_in, Amend, Edit, amends, makes, frees, has_body, has_bit, with_status, edited_all, versions_by, counted, ascending}

-- ---- limits

-- at most so many bytes of a file
abbrev pub most_file_bytes : ℕ
most_file_bytes = 65536

-- the last value of a count
abbrev pub last_count : ℕ
last_count = 4294967295

-- ---- what is found

abbrev pub is_kind : VnodeKind → VnodeKind → Bool
is_kind a_file a_file = true
is_kind a_directory a_directory = true
is_kind a_link a_link = true
is_kind a b = false

abbrev pub kind_is : VnodeKind → Option Vnode → Bool
kind_is k None = false
kind_is k (Some x) = is_kind x.kind k

abbrev pub is_directory : Option Vnode → Bool
is_directory o = kind_is a_directory o

abbrev pub names_in : Option Vnode → List Name
names_in None = []
names_in (Some x) = x.names

abbrev pub links_of : Option Vnode → ℕ
links_of None = 0
links_of (Some x) = x.links

-- the name in the directory of this fid
abbrev pub name_in : Fid → List ℕ → Volume → Option Name
name_in d name v = named name (names_in (vnode_of d v))

abbrev pub named_vnode : Volume → Option Name → Option Vnode
named_vnode v None = None
named_vnode v (Some n) = if_unique n.unique (get n.vnode v.vnodes)

abbrev pub vnode_in : Fid → List ℕ → Volume → Option Vnode
vnode_in d name v = named_vnode v (name_in d name v)

abbrev pub number_named : Option Name → ℕ
number_named None = 0
number_named (Some n) = n.vnode

-- both names are there, and of one vnode
abbrev pub same_vnode : Option Name → Option Name → Bool
same_vnode (Some n) (Some m) = nat_eq n.vnode m.vnode && nat_eq n.unique m.unique
same_vnode a b = false

-- ---- rights: read 1, write 2, insert 4, lookup 8, delete 16, administer 64

abbrev pub acl_of : Option Vnode → AccessList
acl_of None = no_acl
acl_of (Some x) = x.acl

-- a directory has an access list; a file or link has that of its parent
abbrev pub list_for : VnodeKind → Vnode → Volume → AccessList
list_for a_directory x v = x.acl
list_for k x v = acl_of (get x.parent v.vnodes)

-- whose call it is: a user, or at set-up one with all rights
pub data Caller : Type 0 where
  the_user : List ℕ → Caller
  all_rights : Caller

abbrev pub rights_by : Caller → AccessList → ℕ
rights_by all_rights acl = 127
rights_by (the_user user) acl = rights_of user acl

abbrev pub may : Caller → ℕ → Volume → Option Vnode → Bool
may caller right v None = false
may caller right v (Some x) = has_bit right (rights_by caller (list_for x.kind x v))

-- ---- the first half: tests in their order, each with its code

abbrev pub Tests : Type 0
Tests = List (Bool × ℕ)

abbrev pub first_failing : Tests → Option ℕ
first_failing [] = None
first_failing (t ∷ ts) = if t.0 then first_failing ts else Some t.1

-- 102: no such vnode
abbrev pub is_there : Option Vnode → Bool × ℕ
is_there o = (is_some o, 102)

-- 20: not a directory
abbrev pub must_be_directory : Option Vnode → Bool × ℕ
must_be_directory o = (is_directory o, 20)

-- 30: a read-only or backup volume is never changed
abbrev pub is_read_write : Volume → Bool × ℕ
is_read_write v = (nat_eq v.kind 0, 30)

-- 13: the right is wanting
abbrev pub has_right : Caller → ℕ → Volume → Option Vnode → Bool × ℕ
has_right caller right v o = (may caller right v o, 13)

-- the mask has no bit above 16
abbrev pub is_mask : AfsStoreStatus → Bool
is_mask s = nat_lt s.mask 32

abbrev pub is_number : ℤ → ℕ → Bool
is_number (pos m) n = nat_eq m n
is_number (negsuc m) n = false

abbrev pub is_acl : List ℕ → Bool
is_acl text = is_ok (acl_at text)

-- an `or` of two refusals: where the first holds the second is not asked
abbrev pub implies : Bool → Bool → Bool
implies a b = not a || b

-- a new name in a directory: one that may stand there (22), isn't there (17) and has room (27)
abbrev pub adds_name : List ℕ → List Name → Bool → Tests
adds_name name names good = (good && name_ok name, 22) ∷ (not (is_some (named name names)), 17) ∷ (nat_lt (length names) most_names, 27) ∷ []

-- CreateFile, MakeDir and Symlink
abbrev pub create_tests : Caller → Fid → List ℕ → AfsStoreStatus → Volume → Tests
create_tests caller d name status v =
    is_there (vnode_of d v) ∷ must_be_directory (vnode_of d v) ∷ is_read_write v ∷ has_right caller 4 v (vnode_of d v)
    ∷ adds_name name (names_in (vnode_of d v)) (is_mask status)

-- a vnode leads up to another: it is that one, or its parent leads up to it
abbrev pub leads_up : ℕ → ℕ → ℕ → Volume → Option Vnode → Bool
leads_up zero n top v o = false
leads_up (suc more) n top v None = false
leads_up (suc more) n top v (Some x) = nat_eq n top || leads_up more x.parent top v (get x.parent v.vnodes)

-- The vnode n is `top`, or stands below it. The way up meets no vnode twice, so it has no more steps than there are vnodes.
abbrev pub is_below : ℕ → ℕ → Volume → Bool
is_below n top v = leads_up (length v.vnodes) n top v (get n v.vnodes)

-- Rename, from the name `old` in d to the name `new` in e

-- where both names are there: a directory doesn't take the place of another kind (20), nor another kind that of a directory (21)
abbrev pub kinds_agree : Option Vnode → Option Vnode → Tests
kinds_agree None target = []
kinds_agree (Some x) None = []
kinds_agree (Some x) (Some y) =
    (implies (is_kind x.kind a_directory) (is_kind y.kind a_directory), 20) ∷ (implies (is_kind y.kind a_directory) (is_kind x.kind a_directory), 21) ∷ []

-- from d a name is taken, in e one is put and maybe replaced
abbrev pub rename_rights : Caller → Fid → Fid → List ℕ → Volume → Bool
rename_rights caller d e new v =
    may caller 16 v (vnode_of d v) && (may caller 4 v (vnode_of e v) && implies (is_some (name_in e new v)) (may caller 16 v (vnode_of e v)))

-- A directory doesn't move below itself. A file with more than one name stays in its directory. No name takes the place of
-- another of the same vnode.
abbrev pub may_move : Fid → Fid → Option Name → Option Name → Volume → Option Vnode → Bool
may_move d e source target v None = true
may_move d e source target v (Some x) =
    not (same_vnode source target)
    && (if is_kind x.kind a_directory then not (is_below e.vnode (number_named source) v) else (nat_eq d.vnode e.vnode || nat_lt x.links 2))

abbrev pub is_same_name : Fid → List ℕ → Fid → List ℕ → Bool
is_same_name d old e new = nat_eq d.vnode e.vnode && bytes_eq old new

-- a directory with names isn't replaced
abbrev pub has_no_names : Option Vnode → Bool
has_no_names o = nat_eq (length (names_in o)) 0

abbrev pub has_room_for : Fid → Fid → List ℕ → Volume → Bool
has_room_for d e new v = nat_eq d.vnode e.vnode || (is_some (name_in e new v) || nat_lt (length (names_in (vnode_of e v))) most_names)

abbrev pub rename_tests : Caller → Fid → List ℕ → Fid → List ℕ → Volume → Tests
rename_tests caller d old e new v =
    is_there (vnode_of d v) ∷ is_there (vnode_of e v) ∷ (is_directory (vnode_of d v) && is_directory (vnode_of e v), 20)
    ∷ (kinds_agree (vnode_in d old v) (vnode_in e new v)
    ++ (is_read_write v ∷ (rename_rights caller d e new v, 13)
    ∷ (name_ok new && (not (is_same_name d old e new) && may_move d e (name_in d old v) (name_in e new v) v (vnode_in d old v)), 22)
    ∷ (is_some (name_in d old v), 2) ∷ (has_no_names (vnode_in e new v), 39) ∷ (has_room_for d e new v, 27) ∷ []))

-- to another volume, which isn't looked at
abbrev pub rename_out_tests : Caller → Fid → Volume → Tests
rename_out_tests caller d v =
    is_there (vnode_of d v) ∷ must_be_directory (vnode_of d v) ∷ is_read_write v ∷ has_right caller 16 v (vnode_of d v) ∷ (false, 22) ∷ []

-- a further name is given to a file alone, and in its own directory
abbrev pub may_link : Fid → Option Vnode → Bool
may_link d None = false
may_link d (Some x) = is_kind x.kind a_file && (nat_eq x.parent d.vnode && nat_eq x.parent_unique d.unique)

abbrev pub link_tests : Caller → Fid → List ℕ → Fid → Volume → Tests
link_tests caller d name f v =
    is_there (vnode_of d v) ∷ (implies (nat_eq f.volume d.volume) (is_some (vnode_of f v)), 102) ∷ must_be_directory (vnode_of d v)
    ∷ is_read_write v ∷ has_right caller 4 v (vnode_of d v)
    ∷ adds_name name (names_in (vnode_of d v)) (nat_eq f.volume d.volume && may_link d (vnode_of f v))

-- a file's bytes are fetched and stored whole
abbrev pub is_whole_fetch : ℤ → ℤ → Bool
is_whole_fetch position wanted = is_number position 0 && is_number wanted 2147483647

abbrev pub is_whole_store : List ℕ → ℤ → ℤ → ℤ → Bool
is_whole_store contents position stored file_length =
    is_number position 0 && (is_number stored (length contents) && is_number file_length (length contents))

-- a file's bytes and a link's text want the right to read, a directory's names that of lookup
abbrev pub read_right : Option Vnode → ℕ
read_right o = if is_directory o then 8 else 1

abbrev pub tests : Caller → FsCall → Volume → Tests
tests caller (calls.FetchData f position wanted) v =
    is_there (vnode_of f v) ∷ has_right caller (read_right (vnode_of f v)) v (vnode_of f v) ∷ (is_whole_fetch position wanted, 22) ∷ []
tests caller (calls.FetchAcl f) v = is_there (vnode_of f v) ∷ must_be_directory (vnode_of f v) ∷ has_right caller 8 v (vnode_of f v) ∷ []
tests caller (calls.FetchStatus f) v = is_there (vnode_of f v) ∷ has_right caller 8 v (vnode_of f v) ∷ []
tests caller (calls.StoreData f status position stored file_length contents) v =
    is_there (vnode_of f v) ∷ (not (is_directory (vnode_of f v)), 21) ∷ is_read_write v ∷ has_right caller 2 v (vnode_of f v)
    ∷ (kind_is a_file (vnode_of f v) && (is_whole_store contents position stored file_length && is_mask status), 22)
    ∷ (not (nat_lt most_file_bytes (length contents)), 27) ∷ []
tests caller (calls.StoreAcl f acl) v =
    is_there (vnode_of f v) ∷ must_be_directory (vnode_of f v) ∷ is_read_write v ∷ has_right caller 64 v (vnode_of f v) ∷ (is_acl acl, 22) ∷ []
tests caller (calls.StoreStatus f status) v =
    is_there (vnode_of f v) ∷ is_read_write v ∷ has_right caller 2 v (vnode_of f v) ∷ (is_mask status, 22) ∷ []
tests caller (calls.RemoveFile d name) v =
    is_there (vnode_of d v) ∷ must_be_directory (vnode_of d v) ∷ (not (is_directory (vnode_in d name v)), 21) ∷ is_read_write v
    ∷ has_right caller 16 v (vnode_of d v) ∷ (is_some (name_in d name v), 2) ∷ []
tests caller (calls.CreateFile d name status) v = create_tests caller d name status v
tests caller (calls.Rename d old e new) v = if nat_eq e.volume d.volume then rename_tests caller d old e new v else rename_out_tests caller d v
tests caller (calls.Symlink d name target status) v = create_tests caller d name status v
tests caller (calls.Link d name f) v = link_tests caller d name f v
tests caller (calls.MakeDir d name status) v = create_tests caller d name status v
tests caller (calls.RemoveDir d name) v =
    is_there (vnode_of d v) ∷ must_be_directory (vnode_of d v) ∷ (implies (is_some (name_in d name v)) (is_directory (vnode_in d name v)), 20)
    ∷ is_read_write v ∷ has_right caller 16 v (vnode_of d v) ∷ (is_some (name_in d name v), 2) ∷ (has_no_names (vnode_in d name v), 39) ∷ []
tests caller (calls.GetVolumeStatus id) v = has_right caller 8 v (get 1 v.vnodes) ∷ []
tests caller call v = []

-- ---- the second half: what is read, or what is changed

-- a vnode that was found under its fid
pub record Found : Type 0 where
  pub fid : Fid
  pub vnode : Vnode

-- what a reading call shows: a vnode's body and status, its status, its access list and status, several statuses, or the
-- volume's own
pub data Shown : Type 0 where
  shows_body : Found → Shown
  shows_status : Found → Shown
  shows_acl : Found → Shown
  shows_statuses : List Found → Shown
  shows_volume : Shown

-- A call is refused with a code; something is read; it is a change, whose reply shows this vnode beside those that the call
-- names; or it is no operation on a volume.
pub data Result : Type 0 where
  refused : ℕ → Result
  reads : Shown → Result
  changes : List Edit → ℕ → Result
  no_operation : Result

abbrev pub read_by : (Found → Shown) → Fid → Option Vnode → Result
read_by show f None = refused 102
read_by show f (Some x) = reads (show (record { fid = f; vnode = x }))

-- Several statuses, or the first refusal. All fids are of this volume: where a call names several, the server asks each volume
-- for its own fids, in the list's order.
abbrev pub one_more : Fid → Option ℕ → Option Vnode → Result → Result
one_more f (Some code) o r = refused code
one_more f None None r = refused 102
one_more f None (Some x) (reads (shows_statuses xs)) = reads (shows_statuses (record { fid = f; vnode = x } ∷ xs))
one_more f None (Some x) r = r

abbrev pub shows_several : Caller → Volume → List Fid → Result
shows_several caller v [] = reads (shows_statuses [])
shows_several caller v (f ∷ fs) = one_more f (first_failing (tests caller (calls.FetchStatus f) v)) (vnode_of f v) (shows_several caller v fs)

abbrev pub no_amend : Amend
no_amend = record { contents = None; names = None; links = None; parent = None; status = None; acl = None }

-- the access list that a text is read as
abbrev pub acl_read : {E : Type 0} → std_result.Result AccessList E → Option AccessList
acl_read {E} (Ok a) = Some a
acl_read {E} (Err e) = None

-- a new vnode in this directory
abbrev pub new_in : Fid → VnodeKind → ℕ → ℕ → List ℕ → AccessList → Vnode
new_in d kind links mode contents acl = record {
  unique = 0;
  kind = kind;
  index = 0;
  data_version = 0;
  links = links;
  owner = 0;
  group = 0;
  mode = mode;
  segment_size = 0;
  client_time = 0;
  parent = d.vnode;
  parent_unique = d.unique;
  changed = 0;
  contents = contents;
  names = [];
  acl = acl;
}

-- modes 644, 755 and 777 in octal
abbrev pub new_file : Fid → Vnode
new_file d = new_in d a_file 1 420 [] no_acl

abbrev pub new_directory : Fid → AccessList → Vnode
new_directory d acl = new_in d a_directory 2 493 [] acl

abbrev pub new_link : Fid → List ℕ → Vnode
new_link d target = new_in d a_link 1 511 target no_acl

-- the lowest free number of the parity: even for files and links, odd for directories, of which 1 is the root
abbrev pub free_number : VnodeKind → Volume → ℕ
free_number a_directory v = lowest_free 3 v.vnodes
free_number k v = lowest_free 2 v.vnodes

abbrev pub directory_name : List ℕ → ℕ → ℕ → Name
directory_name name vnode unique = record { name = name; vnode = vnode; unique = unique }

-- a new vnode and its name; one more link of the directory for a directory below it
abbrev pub creating : Fid → List ℕ → AfsStoreStatus → Option ℕ → Vnode → Volume → List Edit
creating d name status links x v =
    amends d.vnode (record no_amend { names = Some (with_name (directory_name name (free_number x.kind v) v.next) (names_in (vnode_of d v))); links = links })
    ∷ makes (free_number x.kind v) (with_status (Some status) x)
    ∷ []

abbrev pub creates : Fid → List ℕ → AfsStoreStatus → Option ℕ → Vnode → Volume → Result
creates d name status links x v = changes (ascending (creating d name status links x v)) (free_number x.kind v)

-- What becomes of a vnode that loses a name: a file or link with others has one link less, and else it goes; a directory has
-- just one name, so it goes.
abbrev pub unlinks : ℕ → Option Vnode → List Edit
unlinks n None = []
unlinks n (Some x) = if not (is_kind x.kind a_directory) && nat_lt 1 x.links then amends n (record no_amend { links = Some (x.links - 1) }) ∷ [] else frees n ∷ []

abbrev pub removing : Fid → List ℕ → Option ℕ → Volume → List Edit
removing d name links v =
    amends d.vnode (record no_amend { names = Some (without_name name (names_in (vnode_of d v))); links = links })
    ∷ unlinks (number_named (name_in d name v)) (vnode_in d name v)

abbrev pub removes : Fid → List ℕ → Option ℕ → Volume → Result
removes d name links v = changes (ascending (removing d name links v)) d.vnode

-- a further name of a file
abbrev pub linking : Fid → List ℕ → Fid → Volume → List Edit
linking d name f v =
    amends d.vnode (record no_amend { names = Some (with_name (directory_name name f.vnode f.unique) (names_in (vnode_of d v))) })
    ∷ amends f.vnode (record no_amend { links = Some (links_of (vnode_of f v) + 1) })
    ∷ []

-- one link more where the first holds, one less where the second does
abbrev pub linked : Bool → Bool → ℕ → ℕ
linked true true n = n
linked true false n = n + 1
linked false true n = n - 1
linked false false n = n

-- the name `new` in place of `old`, and of the one that it replaces
abbrev pub renamed : Name → List ℕ → List Name → List Name
renamed n new names = with_name (record n { name = new }) (without_name new names)

-- within one directory: a directory that is replaced is one link less
abbrev pub renames_within : Fid → Name → List ℕ → List ℕ → Option Vnode → Volume → List Edit
renames_within d n old new target v =
    amends d.vnode (record no_amend {
      names = Some (renamed n new (without_name old (names_in (vnode_of d v))));
      links = Some (linked false (is_directory target) (links_of (vnode_of d v)));
    }) ∷ []

-- from one directory to another, which is then the parent; a directory takes its link along
abbrev pub renames_across : Fid → Fid → Name → List ℕ → List ℕ → Bool → Option Vnode → Volume → List Edit
renames_across d e n old new moves target v =
    amends d.vnode (record no_amend {
      names = Some (without_name old (names_in (vnode_of d v)));
      links = Some (linked false moves (links_of (vnode_of d v)));
    })
    ∷ amends e.vnode (record no_amend {
      names = Some (renamed n new (names_in (vnode_of e v)));
      links = Some (linked moves (is_directory target) (links_of (vnode_of e v)));
    })
    ∷ amends n.vnode (record no_amend { parent = Some (e.vnode, e.unique) })
    ∷ []

abbrev pub renaming : Fid → Fid → List ℕ → List ℕ → Option Name → Option Name → Volume → List Edit
renaming d e old new None target v = []
renaming d e old new (Some n) target v =
    (if nat_eq d.vnode e.vnode then renames_within d n old new (named_vnode v target) v
    else renames_across d e n old new (is_directory (named_vnode v (Some n))) (named_vnode v target) v)
    ++ unlinks (number_named target) (named_vnode v target)

abbrev pub effect : Caller → FsCall → Volume → Result
effect caller (calls.FetchData f position wanted) v = read_by shows_body f (vnode_of f v)
effect caller (calls.FetchAcl f) v = read_by shows_acl f (vnode_of f v)
effect caller (calls.FetchStatus f) v = read_by shows_status f (vnode_of f v)
effect caller (calls.StoreData f status position stored file_length contents) v =
    changes (amends f.vnode (record no_amend { contents = Some contents; status = Some status }) ∷ []) f.vnode
effect caller (calls.StoreAcl f acl) v = changes (amends f.vnode (record no_amend { acl = acl_read (acl_at acl) }) ∷ []) f.vnode
effect caller (calls.StoreStatus f status) v = changes (amends f.vnode (record no_amend { status = Some status }) ∷ []) f.vnode
effect caller (calls.RemoveFile d name) v = removes d name None v
effect caller (calls.CreateFile d name status) v = creates d name status None (new_file d) v
effect caller (calls.Rename d old e new) v = changes (ascending (renaming d e old new (name_in d old v) (name_in e new v) v)) e.vnode
effect caller (calls.Symlink d name target status) v = creates d name status None (new_link d target) v
effect caller (calls.Link d name f) v = changes (ascending (linking d name f v)) f.vnode
effect caller (calls.MakeDir d name status) v =
    creates d name status (Some (links_of (vnode_of d v) + 1)) (new_directory d (acl_of (vnode_of d v))) v
effect caller (calls.RemoveDir d name) v = removes d name (Some (links_of (vnode_of d v) - 1)) v
effect caller (calls.GetVolumeStatus id) v = reads shows_volume
effect caller (calls.BulkStatus fids) v = shows_several caller v fids
effect caller call v = no_operation

-- ---- limits, tested on what the effect makes

-- the count can't be raised any more
abbrev pub is_last_count : ℕ → Bool
is_last_count n = not (nat_lt n last_count)

abbrev pub links_fit : Option ℕ → Bool
links_fit None = true
links_fit (Some n) = not (nat_lt last_count n)

abbrev pub amend_fits : Amend → Option Vnode → Bool
amend_fits a None = true
amend_fits a (Some x) =
    not (is_last_count x.index) && (implies (has_body a.contents a.names) (not (is_last_count x.data_version)) && links_fit a.links)

abbrev pub free_fits : Option Vnode → Bool
free_fits None = true
free_fits (Some x) = not (is_last_count x.index) && not (is_last_count x.data_version)

abbrev pub edit_fits : Volume → Edit → Bool
edit_fits v (amends n a) = amend_fits a (get n v.vnodes)
edit_fits v (makes n x) = nat_lt (length v.vnodes) most_vnodes && not (is_last_count v.next)
edit_fits v (frees n) = free_fits (get n v.vnodes)

-- 109: more blocks than the quota; 108: more vnodes than there may be, or a count that can't be raised
abbrev pub limits : ℕ → List Edit → Volume → Tests
limits id es v =
    (not (nat_lt v.quota (blocks_in (edited_all id es v).vnodes)), 109)
    ∷ (not (is_last_count v.counter) && list_all (edit_fits v) es, 108) ∷ []

-- ---- the ideal operation

-- the volume of a call; none where no volume serves it, or where its fids may be of several
abbrev pub volume_called : FsCall → Option ℕ
volume_called (calls.FetchData f position wanted) = Some f.volume
volume_called (calls.FetchAcl f) = Some f.volume
volume_called (calls.FetchStatus f) = Some f.volume
volume_called (calls.StoreData f status position stored file_length contents) = Some f.volume
volume_called (calls.StoreAcl f acl) = Some f.volume
volume_called (calls.StoreStatus f status) = Some f.volume
volume_called (calls.RemoveFile d name) = Some d.volume
volume_called (calls.CreateFile d name status) = Some d.volume
volume_called (calls.Rename d old e new) = Some d.volume
volume_called (calls.Symlink d name target status) = Some d.volume
volume_called (calls.Link d name f) = Some d.volume
volume_called (calls.MakeDir d name status) = Some d.volume
volume_called (calls.RemoveDir d name) = Some d.volume
volume_called (calls.GetVolumeStatus id) = Some id
volume_called call = None

-- the volume that a call may change
abbrev pub volume_changed : FsCall → Option ℕ
volume_changed (calls.FetchData f position wanted) = None
volume_changed (calls.FetchAcl f) = None
volume_changed (calls.FetchStatus f) = None
volume_changed (calls.GetVolumeStatus id) = None
volume_changed call = volume_called call

abbrev pub by_tests : Option ℕ → Result → Result
by_tests (Some code) r = refused code
by_tests None r = r

abbrev pub limited : ℕ → Volume → Result → Result
limited id v (changes es n) = by_tests (first_failing (limits id es v)) (changes es n)
limited id v r = r

-- every fid of the call that the operation looks at is of this volume
abbrev pub IsOn : ℕ → FsCall → Type 0
IsOn id (calls.BulkStatus fids) = All (λ (f : Fid). f.volume ≡ id) fids
IsOn id call = volume_called call ≡ Some id

-- on the volume of this number, on which the call is
abbrev pub op : ℕ → Caller → FsCall → Volume → Result
op id caller call v = by_tests (first_failing (tests caller call v)) (limited id v (effect caller call v))

-- the volume after it, and the versions that it makes
abbrev pub changed : ℕ → Result → Volume → Volume
changed id (changes es n) v = counted (edited_all id es v)
changed id r v = v

abbrev pub made_by : ℕ → Result → Volume → List Version
made_by id (changes es n) v = versions_by id es v
made_by id r v = []

-- 0 where nothing is refused
abbrev pub code_of : Result → ℕ
code_of (refused code) = code
code_of r = 0
