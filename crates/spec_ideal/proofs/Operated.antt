-- Rows on a small volume, for each call and each code but those at limits, which stand in Limits: the law of a cell can't judge the
-- operation, since it is what the ideal cell does. Made has the rows on what is made and replied.
use Rattle.std.proofs.Common.{◌≡◌, ℕ, List, [], ◌∷◌, length, Some, refl, pos}
use Rattle.std.specs.Prelude.{codes}
use Rattle.afs_num.specs.declared.types.Fid.{Fid}
use Rattle.afs_num.specs.declared.calls.AfsStoreStatus.{AfsStoreStatus}
use Rattle.afs_num.specs.declared.calls.FsCall.{FsCall}
use Rattle.afs_num.specs.declared.calls.FsCall.TheVariants as calls
use Rattle.afs_num.specs.declared.directories.Name.{Name}
use Rattle.afs_num.specs.declared.histories.Body.{Body}
use Rattle.afs_num.specs.declared.histories.Body.TheVariants as bodies
use Rattle.afs_num.specs.declared.histories.Version.{Version}
use Rattle.afs_num.specs.Names.{name_ok}
use Rattle.spec_ideal.specs.AccessLists.{rights_of, acl_at, count_at, line_number_at, named_at, name_at, acl_entry_at}
use Rattle.std.specs.Option.{option_map}
use Rattle.spec_ideal.specs.Tables.{get, set, unset}
use Rattle.spec_ideal.specs.Directories.{bytes_below, directory_bytes, name_bytes}
use Rattle.afs_xdr.specs.Words.{word, opaque, pad}
use Rattle.spec_ideal.specs.Volumes.{VnodeKind, a_file, a_directory, a_link, Vnode, Volume, blocks_in}
use Rattle.spec_ideal.specs.Operations.{the_user, op, code_of, made_by, changed, links_of}

-- ---- the volume 5: a file `a`, a directory `d` with a file of two names and a link, an empty directory `e`

abbrev pub name : List ℕ → ℕ → ℕ → Name
name n vnode unique = record { name = n; vnode = vnode; unique = unique }

abbrev pub directory : ℕ → ℕ → ℕ → ℕ → List Name → ℕ → Vnode
directory unique links parent parent_unique names rights = record {
  unique = unique;
  kind = a_directory;
  index = 1;
  data_version = 1;
  links = links;
  owner = 0;
  group = 0;
  mode = 493;
  segment_size = 0;
  client_time = 0;
  parent = parent;
  parent_unique = parent_unique;
  changed = 1;
  contents = [];
  names = names;
  acl = record { positive = record { name = codes "system:anyuser"; rights = rights } ∷ []; negative = [] };
}

abbrev pub other : VnodeKind → ℕ → ℕ → ℕ → ℕ → List ℕ → Vnode
other kind unique links parent parent_unique contents = record {
  unique = unique;
  kind = kind;
  index = 1;
  data_version = 1;
  links = links;
  owner = 0;
  group = 0;
  mode = 420;
  segment_size = 0;
  client_time = 0;
  parent = parent;
  parent_unique = parent_unique;
  changed = 1;
  contents = contents;
  names = [];
  acl = record { positive = []; negative = [] };
}

-- by the rights that everyone has in the root and in d
abbrev pub with_rights : ℕ → ℕ → Volume
with_rights root below = record {
  family = 5;
  name = codes "v";
  kind = 0;
  flags = 0;
  quota = 10;
  next = 7;
  counter = 1;
  release = 0;
  vnodes =
      (1, directory 1 4 0 0 (name (codes "a") 2 2 ∷ name (codes "d") 3 3 ∷ name (codes "e") 5 5 ∷ []) root)
      ∷ (2, other a_file 2 1 1 1 (codes "abc"))
      ∷ (3, directory 3 2 1 1 (name (codes "f") 4 4 ∷ name (codes "g") 4 4 ∷ name (codes "l") 6 6 ∷ []) below)
      ∷ (4, other a_file 4 2 3 3 (codes "f"))
      ∷ (5, directory 5 2 1 1 [] 127)
      ∷ (6, other a_link 6 1 3 3 (codes "a"))
      ∷ [];
}

abbrev pub volume : Volume
volume = with_rights 127 127

abbrev pub fid : ℕ → ℕ → Fid
fid vnode unique = record { volume = 5; vnode = vnode; unique = unique }

abbrev pub status : ℕ → AfsStoreStatus
status mask = record { mask = mask; client_mod_time = 0; owner = 0; group = 0; unix_mode_bits = 384; seg_size = 0 }

-- the same with another head
abbrev pub read_only : Volume
read_only = record volume { kind = 1 }

abbrev pub quota_of : ℕ → Volume
quota_of blocks = record volume { quota = blocks }

abbrev at_last_counter : Volume
at_last_counter = record volume { counter = 4294967295 }

abbrev at_last_unique : Volume
at_last_unique = record volume { next = 4294967295 }

-- the file `a` with these counts
abbrev pub a_counted : ℕ → ℕ → Volume
a_counted index data_version = record volume { vnodes = set 2 (record (other a_file 2 1 1 1 (codes "abc")) { index = index; data_version = data_version }) volume.vnodes }

-- its blocks are 6: three directories, two files and a link
abbrev blocks : ℕ
blocks = blocks_in volume.vnodes

abbrev pub root : Fid
root = fid 1 1

abbrev pub a : Fid
a = fid 2 2

abbrev pub d : Fid
d = fid 3 3

abbrev pub f : Fid
f = fid 4 4

abbrev pub e : Fid
e = fid 5 5

abbrev pub l : Fid
l = fid 6 6

abbrev pub missing : Fid
missing = fid 2 9

abbrev pub elsewhere : Fid
elsewhere = record { volume = 6; vnode = 1; unique = 1 }

abbrev pub fetch : Fid → FsCall
fetch x = calls.FetchData x (pos 0) (pos 2147483647)

abbrev pub store : Fid → List ℕ → FsCall
store x contents = calls.StoreData x (status 0) (pos 0) (pos (length contents)) (pos (length contents)) contents

abbrev pub code : FsCall → Volume → ℕ
code call v = code_of (op 5 (the_user (codes "guest")) call v)

-- ---- FetchData

fetch_missing : code (fetch missing) volume ≡ 102
unfolding rights_of acl_at count_at line_number_at acl_entry_at name_at named_at bytes_below directory_bytes name_bytes opaque word pad name_ok
fetch_missing = refl

fetch_by_lookup_alone : code (fetch a) (with_rights 8 127) ≡ 13
unfolding rights_of acl_at count_at line_number_at acl_entry_at name_at named_at bytes_below directory_bytes name_bytes opaque word pad name_ok
fetch_by_lookup_alone = refl

fetch_directory_by_lookup : code (fetch root) (with_rights 8 127) ≡ 0
unfolding rights_of acl_at count_at line_number_at acl_entry_at name_at named_at bytes_below directory_bytes name_bytes opaque word pad name_ok
fetch_directory_by_lookup = refl

fetch_directory_by_read : code (fetch root) (with_rights 1 127) ≡ 13
unfolding rights_of acl_at count_at line_number_at acl_entry_at name_at named_at bytes_below directory_bytes name_bytes opaque word pad name_ok
fetch_directory_by_read = refl

fetch_by_parents_list : code (fetch f) (with_rights 127 8) ≡ 13
unfolding rights_of acl_at count_at line_number_at acl_entry_at name_at named_at bytes_below directory_bytes name_bytes opaque word pad name_ok
fetch_by_parents_list = refl

fetch_part : code (calls.FetchData a (pos 1) (pos 2)) volume ≡ 22
unfolding rights_of acl_at count_at line_number_at acl_entry_at name_at named_at bytes_below directory_bytes name_bytes opaque word pad name_ok
fetch_part = refl

fetch_part_without_right : code (calls.FetchData a (pos 1) (pos 2)) (with_rights 8 127) ≡ 13
unfolding rights_of acl_at count_at line_number_at acl_entry_at name_at named_at bytes_below directory_bytes name_bytes opaque word pad name_ok
fetch_part_without_right = refl

fetch_read_only : code (fetch a) read_only ≡ 0
unfolding rights_of acl_at count_at line_number_at acl_entry_at name_at named_at bytes_below directory_bytes name_bytes opaque word pad name_ok
fetch_read_only = refl

fetch_file : code (fetch a) volume ≡ 0
unfolding rights_of acl_at count_at line_number_at acl_entry_at name_at named_at bytes_below directory_bytes name_bytes opaque word pad name_ok
fetch_file = refl

-- ---- FetchACL, FetchStatus, GetVolumeStatus, BulkStatus

fetch_acl_missing : code (calls.FetchAcl missing) volume ≡ 102
unfolding rights_of acl_at count_at line_number_at acl_entry_at name_at named_at bytes_below directory_bytes name_bytes opaque word pad name_ok
fetch_acl_missing = refl

fetch_acl_of_file : code (calls.FetchAcl a) (with_rights 0 127) ≡ 20
unfolding rights_of acl_at count_at line_number_at acl_entry_at name_at named_at bytes_below directory_bytes name_bytes opaque word pad name_ok
fetch_acl_of_file = refl

fetch_acl_without_right : code (calls.FetchAcl root) (with_rights 1 127) ≡ 13
unfolding rights_of acl_at count_at line_number_at acl_entry_at name_at named_at bytes_below directory_bytes name_bytes opaque word pad name_ok
fetch_acl_without_right = refl

fetch_acl : code (calls.FetchAcl root) volume ≡ 0
unfolding rights_of acl_at count_at line_number_at acl_entry_at name_at named_at bytes_below directory_bytes name_bytes opaque word pad name_ok
fetch_acl = refl

fetch_status_missing : code (calls.FetchStatus missing) volume ≡ 102
unfolding rights_of acl_at count_at line_number_at acl_entry_at name_at named_at bytes_below directory_bytes name_bytes opaque word pad name_ok
fetch_status_missing = refl

fetch_status_by_read_alone : code (calls.FetchStatus a) (with_rights 1 127) ≡ 13
unfolding rights_of acl_at count_at line_number_at acl_entry_at name_at named_at bytes_below directory_bytes name_bytes opaque word pad name_ok
fetch_status_by_read_alone = refl

fetch_status : code (calls.FetchStatus a) (with_rights 8 127) ≡ 0
unfolding rights_of acl_at count_at line_number_at acl_entry_at name_at named_at bytes_below directory_bytes name_bytes opaque word pad name_ok
fetch_status = refl

volume_status_without_right : code (calls.GetVolumeStatus 5) (with_rights 1 127) ≡ 13
unfolding rights_of acl_at count_at line_number_at acl_entry_at name_at named_at bytes_below directory_bytes name_bytes opaque word pad name_ok
volume_status_without_right = refl

volume_status : code (calls.GetVolumeStatus 5) (with_rights 8 0) ≡ 0
unfolding rights_of acl_at count_at line_number_at acl_entry_at name_at named_at bytes_below directory_bytes name_bytes opaque word pad name_ok
volume_status = refl

statuses_missing : code (calls.BulkStatus (a ∷ missing ∷ f ∷ [])) (with_rights 127 1) ≡ 102
unfolding rights_of acl_at count_at line_number_at acl_entry_at name_at named_at bytes_below directory_bytes name_bytes opaque word pad name_ok
statuses_missing = refl

statuses_without_right : code (calls.BulkStatus (a ∷ f ∷ missing ∷ [])) (with_rights 127 1) ≡ 13
unfolding rights_of acl_at count_at line_number_at acl_entry_at name_at named_at bytes_below directory_bytes name_bytes opaque word pad name_ok
statuses_without_right = refl

statuses_of_none : code (calls.BulkStatus []) (with_rights 0 0) ≡ 0
unfolding rights_of acl_at count_at line_number_at acl_entry_at name_at named_at bytes_below directory_bytes name_bytes opaque word pad name_ok
statuses_of_none = refl

statuses : code (calls.BulkStatus (a ∷ a ∷ d ∷ [])) volume ≡ 0
unfolding rights_of acl_at count_at line_number_at acl_entry_at name_at named_at bytes_below directory_bytes name_bytes opaque word pad name_ok
statuses = refl

-- ---- StoreData

store_missing : code (store missing (codes "x")) volume ≡ 102
unfolding rights_of acl_at count_at line_number_at acl_entry_at name_at named_at bytes_below directory_bytes name_bytes opaque word pad name_ok
store_missing = refl

store_directory : code (store d (codes "x")) (record (with_rights 127 0) { kind = 1 }) ≡ 21
unfolding rights_of acl_at count_at line_number_at acl_entry_at name_at named_at bytes_below directory_bytes name_bytes opaque word pad name_ok
store_directory = refl

store_read_only : code (store a (codes "x")) (record (with_rights 0 0) { kind = 1 }) ≡ 30
unfolding rights_of acl_at count_at line_number_at acl_entry_at name_at named_at bytes_below directory_bytes name_bytes opaque word pad name_ok
store_read_only = refl

store_backup : code (store a (codes "x")) (record volume { kind = 2 }) ≡ 30
unfolding rights_of acl_at count_at line_number_at acl_entry_at name_at named_at bytes_below directory_bytes name_bytes opaque word pad name_ok
store_backup = refl

store_without_right : code (store l (codes "x")) (with_rights 127 125) ≡ 13
unfolding rights_of acl_at count_at line_number_at acl_entry_at name_at named_at bytes_below directory_bytes name_bytes opaque word pad name_ok
store_without_right = refl

store_link : code (store l (codes "x")) volume ≡ 22
unfolding rights_of acl_at count_at line_number_at acl_entry_at name_at named_at bytes_below directory_bytes name_bytes opaque word pad name_ok
store_link = refl

store_part : code (calls.StoreData a (status 0) (pos 1) (pos 1) (pos 1) (codes "x")) volume ≡ 22
unfolding rights_of acl_at count_at line_number_at acl_entry_at name_at named_at bytes_below directory_bytes name_bytes opaque word pad name_ok
store_part = refl

store_shorter : code (calls.StoreData a (status 0) (pos 0) (pos 1) (pos 2) (codes "x")) volume ≡ 22
unfolding rights_of acl_at count_at line_number_at acl_entry_at name_at named_at bytes_below directory_bytes name_bytes opaque word pad name_ok
store_shorter = refl

store_with_mask : code (calls.StoreData a (status 32) (pos 0) (pos 1) (pos 1) (codes "x")) volume ≡ 22
unfolding rights_of acl_at count_at line_number_at acl_entry_at name_at named_at bytes_below directory_bytes name_bytes opaque word pad name_ok
store_with_mask = refl

store_above_quota : code (store a (codes "x")) (quota_of 5) ≡ 109
unfolding rights_of acl_at count_at line_number_at acl_entry_at name_at named_at bytes_below directory_bytes name_bytes opaque word pad name_ok
store_above_quota = refl

store_at_quota : code (store a (codes "x")) (quota_of 6) ≡ 0
unfolding rights_of acl_at count_at line_number_at acl_entry_at name_at named_at bytes_below directory_bytes name_bytes opaque word pad name_ok
store_at_quota = refl

store_at_last_index : code (store a (codes "x")) (a_counted 4294967295 1) ≡ 108
unfolding rights_of acl_at count_at line_number_at acl_entry_at name_at named_at bytes_below directory_bytes name_bytes opaque word pad name_ok
store_at_last_index = refl

store_at_last_data_version : code (store a (codes "x")) (a_counted 1 4294967295) ≡ 108
unfolding rights_of acl_at count_at line_number_at acl_entry_at name_at named_at bytes_below directory_bytes name_bytes opaque word pad name_ok
store_at_last_data_version = refl

store_below_last : code (store a (codes "x")) (a_counted 4294967294 4294967294) ≡ 0
unfolding rights_of acl_at count_at line_number_at acl_entry_at name_at named_at bytes_below directory_bytes name_bytes opaque word pad name_ok
store_below_last = refl

store_at_last_counter : code (store a (codes "x")) at_last_counter ≡ 108
unfolding rights_of acl_at count_at line_number_at acl_entry_at name_at named_at bytes_below directory_bytes name_bytes opaque word pad name_ok
store_at_last_counter = refl

store_above_quota_at_last_counter : code (store a (codes "x")) (record at_last_counter { quota = 5 }) ≡ 109
unfolding rights_of acl_at count_at line_number_at acl_entry_at name_at named_at bytes_below directory_bytes name_bytes opaque word pad name_ok
store_above_quota_at_last_counter = refl

store_file : code (store a (codes "x")) (with_rights 2 0) ≡ 0
unfolding rights_of acl_at count_at line_number_at acl_entry_at name_at named_at bytes_below directory_bytes name_bytes opaque word pad name_ok
store_file = refl

-- ---- StoreACL

store_acl_missing : code (calls.StoreAcl missing (codes "1\n0\nsystem:anyuser\t9\n")) volume ≡ 102
unfolding rights_of acl_at count_at line_number_at acl_entry_at name_at named_at bytes_below directory_bytes name_bytes opaque word pad name_ok
store_acl_missing = refl

store_acl_of_file : code (calls.StoreAcl a (codes "1\n0\nsystem:anyuser\t9\n")) read_only ≡ 20
unfolding rights_of acl_at count_at line_number_at acl_entry_at name_at named_at bytes_below directory_bytes name_bytes opaque word pad name_ok
store_acl_of_file = refl

store_acl_read_only : code (calls.StoreAcl root (codes "1\n0\nsystem:anyuser\t9\n")) (record (with_rights 0 0) { kind = 1 }) ≡ 30
unfolding rights_of acl_at count_at line_number_at acl_entry_at name_at named_at bytes_below directory_bytes name_bytes opaque word pad name_ok
store_acl_read_only = refl

store_acl_without_right : code (calls.StoreAcl root (codes "?")) (with_rights 63 127) ≡ 13
unfolding rights_of acl_at count_at line_number_at acl_entry_at name_at named_at bytes_below directory_bytes name_bytes opaque word pad name_ok
store_acl_without_right = refl

store_no_acl : code (calls.StoreAcl root (codes "?")) (with_rights 64 127) ≡ 22
unfolding rights_of acl_at count_at line_number_at acl_entry_at name_at named_at bytes_below directory_bytes name_bytes opaque word pad name_ok
store_no_acl = refl

store_acl_of_21 : code (calls.StoreAcl root (codes "20\n1\n")) volume ≡ 22
unfolding rights_of acl_at count_at line_number_at acl_entry_at name_at named_at bytes_below directory_bytes name_bytes opaque word pad name_ok
store_acl_of_21 = refl

store_acl : code (calls.StoreAcl root (codes "1\n0\nsystem:anyuser\t9\n")) (with_rights 64 127) ≡ 0
unfolding rights_of acl_at count_at line_number_at acl_entry_at name_at named_at bytes_below directory_bytes name_bytes opaque word pad name_ok
store_acl = refl

store_acl_at_last_data_version : code (calls.StoreAcl root (codes "1\n0\nsystem:anyuser\t9\n")) (record volume { vnodes = set 1 (record (directory 1 4 0 0 [] 127) { data_version = 4294967295 }) volume.vnodes }) ≡ 0
unfolding rights_of acl_at count_at line_number_at acl_entry_at name_at named_at bytes_below directory_bytes name_bytes opaque word pad name_ok
store_acl_at_last_data_version = refl

-- ---- StoreStatus

store_status_missing : code (calls.StoreStatus missing (status 8)) volume ≡ 102
unfolding rights_of acl_at count_at line_number_at acl_entry_at name_at named_at bytes_below directory_bytes name_bytes opaque word pad name_ok
store_status_missing = refl

store_status_read_only : code (calls.StoreStatus a (status 8)) (record (with_rights 0 0) { kind = 1 }) ≡ 30
unfolding rights_of acl_at count_at line_number_at acl_entry_at name_at named_at bytes_below directory_bytes name_bytes opaque word pad name_ok
store_status_read_only = refl

store_status_without_right : code (calls.StoreStatus a (status 32)) (with_rights 125 127) ≡ 13
unfolding rights_of acl_at count_at line_number_at acl_entry_at name_at named_at bytes_below directory_bytes name_bytes opaque word pad name_ok
store_status_without_right = refl

store_status_with_mask : code (calls.StoreStatus a (status 32)) (with_rights 2 127) ≡ 22
unfolding rights_of acl_at count_at line_number_at acl_entry_at name_at named_at bytes_below directory_bytes name_bytes opaque word pad name_ok
store_status_with_mask = refl

store_status : code (calls.StoreStatus a (status 31)) (with_rights 2 127) ≡ 0
unfolding rights_of acl_at count_at line_number_at acl_entry_at name_at named_at bytes_below directory_bytes name_bytes opaque word pad name_ok
store_status = refl

store_status_at_last_data_version : code (calls.StoreStatus a (status 8)) (a_counted 1 4294967295) ≡ 0
unfolding rights_of acl_at count_at line_number_at acl_entry_at name_at named_at bytes_below directory_bytes name_bytes opaque word pad name_ok
store_status_at_last_data_version = refl

-- ---- CreateFile, MakeDir, Symlink

create_in_missing : code (calls.CreateFile missing (codes "x") (status 0)) volume ≡ 102
unfolding rights_of acl_at count_at line_number_at acl_entry_at name_at named_at bytes_below directory_bytes name_bytes opaque word pad name_ok
create_in_missing = refl

create_in_file : code (calls.CreateFile a (codes "x") (status 0)) (record (with_rights 0 0) { kind = 1 }) ≡ 20
unfolding rights_of acl_at count_at line_number_at acl_entry_at name_at named_at bytes_below directory_bytes name_bytes opaque word pad name_ok
create_in_file = refl

create_read_only : code (calls.CreateFile root (codes "x") (status 0)) (record (with_rights 0 0) { kind = 1 }) ≡ 30
unfolding rights_of acl_at count_at line_number_at acl_entry_at name_at named_at bytes_below directory_bytes name_bytes opaque word pad name_ok
create_read_only = refl

create_without_right : code (calls.CreateFile root (codes ".") (status 0)) (with_rights 123 127) ≡ 13
unfolding rights_of acl_at count_at line_number_at acl_entry_at name_at named_at bytes_below directory_bytes name_bytes opaque word pad name_ok
create_without_right = refl

create_bad_name : code (calls.CreateFile root (codes "..") (status 0)) (with_rights 4 127) ≡ 22
unfolding rights_of acl_at count_at line_number_at acl_entry_at name_at named_at bytes_below directory_bytes name_bytes opaque word pad name_ok
create_bad_name = refl

create_slash : code (calls.CreateFile root (codes "x/y") (status 0)) volume ≡ 22
unfolding rights_of acl_at count_at line_number_at acl_entry_at name_at named_at bytes_below directory_bytes name_bytes opaque word pad name_ok
create_slash = refl

create_with_mask : code (calls.CreateFile root (codes "a") (status 32)) volume ≡ 22
unfolding rights_of acl_at count_at line_number_at acl_entry_at name_at named_at bytes_below directory_bytes name_bytes opaque word pad name_ok
create_with_mask = refl

create_existing : code (calls.CreateFile root (codes "a") (status 0)) (quota_of 0) ≡ 17
unfolding rights_of acl_at count_at line_number_at acl_entry_at name_at named_at bytes_below directory_bytes name_bytes opaque word pad name_ok
create_existing = refl

create_at_last_unique : code (calls.CreateFile root (codes "x") (status 0)) at_last_unique ≡ 108
unfolding rights_of acl_at count_at line_number_at acl_entry_at name_at named_at bytes_below directory_bytes name_bytes opaque word pad name_ok
create_at_last_unique = refl

create_new : code (calls.CreateFile root (codes "x") (status 0)) (with_rights 4 0) ≡ 0
unfolding rights_of acl_at count_at line_number_at acl_entry_at name_at named_at bytes_below directory_bytes name_bytes opaque word pad name_ok
create_new = refl

make_dir_in_missing : code (calls.MakeDir missing (codes "x") (status 0)) volume ≡ 102
unfolding rights_of acl_at count_at line_number_at acl_entry_at name_at named_at bytes_below directory_bytes name_bytes opaque word pad name_ok
make_dir_in_missing = refl

make_dir_in_file : code (calls.MakeDir a (codes "x") (status 0)) (record (with_rights 0 0) { kind = 1 }) ≡ 20
unfolding rights_of acl_at count_at line_number_at acl_entry_at name_at named_at bytes_below directory_bytes name_bytes opaque word pad name_ok
make_dir_in_file = refl

make_dir_read_only : code (calls.MakeDir root (codes "x") (status 0)) (record (with_rights 0 0) { kind = 1 }) ≡ 30
unfolding rights_of acl_at count_at line_number_at acl_entry_at name_at named_at bytes_below directory_bytes name_bytes opaque word pad name_ok
make_dir_read_only = refl

make_dir_without_right : code (calls.MakeDir root (codes ".") (status 0)) (with_rights 123 127) ≡ 13
unfolding rights_of acl_at count_at line_number_at acl_entry_at name_at named_at bytes_below directory_bytes name_bytes opaque word pad name_ok
make_dir_without_right = refl

make_dir_bad_name : code (calls.MakeDir root (codes "..") (status 0)) (with_rights 4 127) ≡ 22
unfolding rights_of acl_at count_at line_number_at acl_entry_at name_at named_at bytes_below directory_bytes name_bytes opaque word pad name_ok
make_dir_bad_name = refl

make_dir_slash : code (calls.MakeDir root (codes "x/y") (status 0)) volume ≡ 22
unfolding rights_of acl_at count_at line_number_at acl_entry_at name_at named_at bytes_below directory_bytes name_bytes opaque word pad name_ok
make_dir_slash = refl

make_dir_with_mask : code (calls.MakeDir root (codes "a") (status 32)) volume ≡ 22
unfolding rights_of acl_at count_at line_number_at acl_entry_at name_at named_at bytes_below directory_bytes name_bytes opaque word pad name_ok
make_dir_with_mask = refl

make_dir_existing : code (calls.MakeDir root (codes "a") (status 0)) (quota_of 0) ≡ 17
unfolding rights_of acl_at count_at line_number_at acl_entry_at name_at named_at bytes_below directory_bytes name_bytes opaque word pad name_ok
make_dir_existing = refl

make_dir_at_last_unique : code (calls.MakeDir root (codes "x") (status 0)) at_last_unique ≡ 108
unfolding rights_of acl_at count_at line_number_at acl_entry_at name_at named_at bytes_below directory_bytes name_bytes opaque word pad name_ok
make_dir_at_last_unique = refl

make_dir_new : code (calls.MakeDir root (codes "x") (status 0)) (with_rights 4 0) ≡ 0
unfolding rights_of acl_at count_at line_number_at acl_entry_at name_at named_at bytes_below directory_bytes name_bytes opaque word pad name_ok
make_dir_new = refl

symlink_in_missing : code (calls.Symlink missing (codes "x") (codes "to") (status 0)) volume ≡ 102
unfolding rights_of acl_at count_at line_number_at acl_entry_at name_at named_at bytes_below directory_bytes name_bytes opaque word pad name_ok
symlink_in_missing = refl

symlink_in_file : code (calls.Symlink a (codes "x") (codes "to") (status 0)) (record (with_rights 0 0) { kind = 1 }) ≡ 20
unfolding rights_of acl_at count_at line_number_at acl_entry_at name_at named_at bytes_below directory_bytes name_bytes opaque word pad name_ok
symlink_in_file = refl

symlink_read_only : code (calls.Symlink root (codes "x") (codes "to") (status 0)) (record (with_rights 0 0) { kind = 1 }) ≡ 30
unfolding rights_of acl_at count_at line_number_at acl_entry_at name_at named_at bytes_below directory_bytes name_bytes opaque word pad name_ok
symlink_read_only = refl

symlink_without_right : code (calls.Symlink root (codes ".") (codes "to") (status 0)) (with_rights 123 127) ≡ 13
unfolding rights_of acl_at count_at line_number_at acl_entry_at name_at named_at bytes_below directory_bytes name_bytes opaque word pad name_ok
symlink_without_right = refl

symlink_bad_name : code (calls.Symlink root (codes "..") (codes "to") (status 0)) (with_rights 4 127) ≡ 22
unfolding rights_of acl_at count_at line_number_at acl_entry_at name_at named_at bytes_below directory_bytes name_bytes opaque word pad name_ok
symlink_bad_name = refl

symlink_slash : code (calls.Symlink root (codes "x/y") (codes "to") (status 0)) volume ≡ 22
unfolding rights_of acl_at count_at line_number_at acl_entry_at name_at named_at bytes_below directory_bytes name_bytes opaque word pad name_ok
symlink_slash = refl

symlink_with_mask : code (calls.Symlink root (codes "a") (codes "to") (status 32)) volume ≡ 22
unfolding rights_of acl_at count_at line_number_at acl_entry_at name_at named_at bytes_below directory_bytes name_bytes opaque word pad name_ok
symlink_with_mask = refl

symlink_existing : code (calls.Symlink root (codes "a") (codes "to") (status 0)) (quota_of 0) ≡ 17
unfolding rights_of acl_at count_at line_number_at acl_entry_at name_at named_at bytes_below directory_bytes name_bytes opaque word pad name_ok
symlink_existing = refl

symlink_at_last_unique : code (calls.Symlink root (codes "x") (codes "to") (status 0)) at_last_unique ≡ 108
unfolding rights_of acl_at count_at line_number_at acl_entry_at name_at named_at bytes_below directory_bytes name_bytes opaque word pad name_ok
symlink_at_last_unique = refl

symlink_new : code (calls.Symlink root (codes "x") (codes "to") (status 0)) (with_rights 4 0) ≡ 0
unfolding rights_of acl_at count_at line_number_at acl_entry_at name_at named_at bytes_below directory_bytes name_bytes opaque word pad name_ok
symlink_new = refl

make_dir_above_quota : code (calls.MakeDir root (codes "x") (status 0)) (quota_of 6) ≡ 109
unfolding rights_of acl_at count_at line_number_at acl_entry_at name_at named_at bytes_below directory_bytes name_bytes opaque word pad name_ok
make_dir_above_quota = refl

make_dir_at_quota : code (calls.MakeDir root (codes "x") (status 0)) (quota_of 7) ≡ 0
unfolding rights_of acl_at count_at line_number_at acl_entry_at name_at named_at bytes_below directory_bytes name_bytes opaque word pad name_ok
make_dir_at_quota = refl

create_at_quota : code (calls.CreateFile root (codes "x") (status 0)) (quota_of 6) ≡ 0
unfolding rights_of acl_at count_at line_number_at acl_entry_at name_at named_at bytes_below directory_bytes name_bytes opaque word pad name_ok
create_at_quota = refl

symlink_above_quota : code (calls.Symlink root (codes "x") (codes "to") (status 0)) (quota_of 6) ≡ 109
unfolding rights_of acl_at count_at line_number_at acl_entry_at name_at named_at bytes_below directory_bytes name_bytes opaque word pad name_ok
symlink_above_quota = refl

symlink_to_nothing_at_quota : code (calls.Symlink root (codes "x") [] (status 0)) (quota_of 6) ≡ 0
unfolding rights_of acl_at count_at line_number_at acl_entry_at name_at named_at bytes_below directory_bytes name_bytes opaque word pad name_ok
symlink_to_nothing_at_quota = refl

-- ---- RemoveFile, RemoveDir

remove_in_missing : code (calls.RemoveFile missing (codes "x")) volume ≡ 102
unfolding rights_of acl_at count_at line_number_at acl_entry_at name_at named_at bytes_below directory_bytes name_bytes opaque word pad name_ok
remove_in_missing = refl

remove_in_file : code (calls.RemoveFile a (codes "x")) read_only ≡ 20
unfolding rights_of acl_at count_at line_number_at acl_entry_at name_at named_at bytes_below directory_bytes name_bytes opaque word pad name_ok
remove_in_file = refl

remove_directory : code (calls.RemoveFile root (codes "d")) (record (with_rights 0 0) { kind = 1 }) ≡ 21
unfolding rights_of acl_at count_at line_number_at acl_entry_at name_at named_at bytes_below directory_bytes name_bytes opaque word pad name_ok
remove_directory = refl

remove_read_only : code (calls.RemoveFile root (codes "a")) (record (with_rights 0 0) { kind = 1 }) ≡ 30
unfolding rights_of acl_at count_at line_number_at acl_entry_at name_at named_at bytes_below directory_bytes name_bytes opaque word pad name_ok
remove_read_only = refl

remove_without_right : code (calls.RemoveFile root (codes "x")) (with_rights 111 127) ≡ 13
unfolding rights_of acl_at count_at line_number_at acl_entry_at name_at named_at bytes_below directory_bytes name_bytes opaque word pad name_ok
remove_without_right = refl

remove_no_name : code (calls.RemoveFile root (codes "x")) (with_rights 16 127) ≡ 2
unfolding rights_of acl_at count_at line_number_at acl_entry_at name_at named_at bytes_below directory_bytes name_bytes opaque word pad name_ok
remove_no_name = refl

remove_dot : code (calls.RemoveFile root (codes ".")) volume ≡ 2
unfolding rights_of acl_at count_at line_number_at acl_entry_at name_at named_at bytes_below directory_bytes name_bytes opaque word pad name_ok
remove_dot = refl

remove_file : code (calls.RemoveFile root (codes "a")) (with_rights 16 127) ≡ 0
unfolding rights_of acl_at count_at line_number_at acl_entry_at name_at named_at bytes_below directory_bytes name_bytes opaque word pad name_ok
remove_file = refl

remove_at_last_index : code (calls.RemoveFile root (codes "a")) (a_counted 4294967295 1) ≡ 108
unfolding rights_of acl_at count_at line_number_at acl_entry_at name_at named_at bytes_below directory_bytes name_bytes opaque word pad name_ok
remove_at_last_index = refl

remove_at_last_data_version : code (calls.RemoveFile root (codes "a")) (a_counted 1 4294967295) ≡ 108
unfolding rights_of acl_at count_at line_number_at acl_entry_at name_at named_at bytes_below directory_bytes name_bytes opaque word pad name_ok
remove_at_last_data_version = refl

remove_dir_in_missing : code (calls.RemoveDir missing (codes "x")) volume ≡ 102
unfolding rights_of acl_at count_at line_number_at acl_entry_at name_at named_at bytes_below directory_bytes name_bytes opaque word pad name_ok
remove_dir_in_missing = refl

remove_dir_in_file : code (calls.RemoveDir a (codes "x")) read_only ≡ 20
unfolding rights_of acl_at count_at line_number_at acl_entry_at name_at named_at bytes_below directory_bytes name_bytes opaque word pad name_ok
remove_dir_in_file = refl

remove_dir_of_file : code (calls.RemoveDir root (codes "a")) (record (with_rights 0 0) { kind = 1 }) ≡ 20
unfolding rights_of acl_at count_at line_number_at acl_entry_at name_at named_at bytes_below directory_bytes name_bytes opaque word pad name_ok
remove_dir_of_file = refl

remove_dir_read_only : code (calls.RemoveDir root (codes "e")) (record (with_rights 0 0) { kind = 1 }) ≡ 30
unfolding rights_of acl_at count_at line_number_at acl_entry_at name_at named_at bytes_below directory_bytes name_bytes opaque word pad name_ok
remove_dir_read_only = refl

remove_dir_without_right : code (calls.RemoveDir root (codes "d")) (with_rights 111 127) ≡ 13
unfolding rights_of acl_at count_at line_number_at acl_entry_at name_at named_at bytes_below directory_bytes name_bytes opaque word pad name_ok
remove_dir_without_right = refl

remove_dir_no_name : code (calls.RemoveDir root (codes "x")) volume ≡ 2
unfolding rights_of acl_at count_at line_number_at acl_entry_at name_at named_at bytes_below directory_bytes name_bytes opaque word pad name_ok
remove_dir_no_name = refl

remove_dir_with_names : code (calls.RemoveDir root (codes "d")) (with_rights 16 0) ≡ 39
unfolding rights_of acl_at count_at line_number_at acl_entry_at name_at named_at bytes_below directory_bytes name_bytes opaque word pad name_ok
remove_dir_with_names = refl

remove_dir : code (calls.RemoveDir root (codes "e")) (with_rights 16 0) ≡ 0
unfolding rights_of acl_at count_at line_number_at acl_entry_at name_at named_at bytes_below directory_bytes name_bytes opaque word pad name_ok
remove_dir = refl

-- ---- Rename

rename_in_missing : code (calls.Rename missing (codes "a") root (codes "x")) volume ≡ 102
unfolding rights_of acl_at count_at line_number_at acl_entry_at name_at named_at bytes_below directory_bytes name_bytes opaque word pad name_ok
rename_in_missing = refl

rename_to_missing : code (calls.Rename root (codes "a") missing (codes "x")) read_only ≡ 102
unfolding rights_of acl_at count_at line_number_at acl_entry_at name_at named_at bytes_below directory_bytes name_bytes opaque word pad name_ok
rename_to_missing = refl

rename_in_file : code (calls.Rename a (codes "a") root (codes "x")) volume ≡ 20
unfolding rights_of acl_at count_at line_number_at acl_entry_at name_at named_at bytes_below directory_bytes name_bytes opaque word pad name_ok
rename_in_file = refl

rename_to_file : code (calls.Rename root (codes "a") a (codes "x")) read_only ≡ 20
unfolding rights_of acl_at count_at line_number_at acl_entry_at name_at named_at bytes_below directory_bytes name_bytes opaque word pad name_ok
rename_to_file = refl

rename_directory_onto_file : code (calls.Rename root (codes "d") root (codes "a")) (record (with_rights 0 0) { kind = 1 }) ≡ 20
unfolding rights_of acl_at count_at line_number_at acl_entry_at name_at named_at bytes_below directory_bytes name_bytes opaque word pad name_ok
rename_directory_onto_file = refl

rename_file_onto_directory : code (calls.Rename root (codes "a") root (codes "d")) (record (with_rights 0 0) { kind = 1 }) ≡ 21
unfolding rights_of acl_at count_at line_number_at acl_entry_at name_at named_at bytes_below directory_bytes name_bytes opaque word pad name_ok
rename_file_onto_directory = refl

rename_read_only : code (calls.Rename root (codes "a") root (codes "x")) (record (with_rights 0 0) { kind = 1 }) ≡ 30
unfolding rights_of acl_at count_at line_number_at acl_entry_at name_at named_at bytes_below directory_bytes name_bytes opaque word pad name_ok
rename_read_only = refl

rename_without_delete : code (calls.Rename root (codes "a") d (codes "x")) (with_rights 111 127) ≡ 13
unfolding rights_of acl_at count_at line_number_at acl_entry_at name_at named_at bytes_below directory_bytes name_bytes opaque word pad name_ok
rename_without_delete = refl

rename_without_insert : code (calls.Rename root (codes "a") d (codes "x")) (with_rights 127 123) ≡ 13
unfolding rights_of acl_at count_at line_number_at acl_entry_at name_at named_at bytes_below directory_bytes name_bytes opaque word pad name_ok
rename_without_insert = refl

rename_onto_without_delete : code (calls.Rename root (codes "a") d (codes "f")) (with_rights 127 111) ≡ 13
unfolding rights_of acl_at count_at line_number_at acl_entry_at name_at named_at bytes_below directory_bytes name_bytes opaque word pad name_ok
rename_onto_without_delete = refl

rename_new_without_delete : code (calls.Rename root (codes "a") d (codes "x")) (with_rights 16 4) ≡ 0
unfolding rights_of acl_at count_at line_number_at acl_entry_at name_at named_at bytes_below directory_bytes name_bytes opaque word pad name_ok
rename_new_without_delete = refl

rename_to_bad_name : code (calls.Rename root (codes "x") d (codes "..")) volume ≡ 22
unfolding rights_of acl_at count_at line_number_at acl_entry_at name_at named_at bytes_below directory_bytes name_bytes opaque word pad name_ok
rename_to_bad_name = refl

rename_to_another_volume : code (calls.Rename root (codes "x") elsewhere (codes "..")) (with_rights 16 0) ≡ 22
unfolding rights_of acl_at count_at line_number_at acl_entry_at name_at named_at bytes_below directory_bytes name_bytes opaque word pad name_ok
rename_to_another_volume = refl

rename_to_another_volume_without_right : code (calls.Rename root (codes "a") elsewhere (codes "x")) (with_rights 111 127) ≡ 13
unfolding rights_of acl_at count_at line_number_at acl_entry_at name_at named_at bytes_below directory_bytes name_bytes opaque word pad name_ok
rename_to_another_volume_without_right = refl

rename_onto_itself : code (calls.Rename root (codes "a") root (codes "a")) volume ≡ 22
unfolding rights_of acl_at count_at line_number_at acl_entry_at name_at named_at bytes_below directory_bytes name_bytes opaque word pad name_ok
rename_onto_itself = refl

rename_nothing_onto_itself : code (calls.Rename root (codes "x") root (codes "x")) volume ≡ 22
unfolding rights_of acl_at count_at line_number_at acl_entry_at name_at named_at bytes_below directory_bytes name_bytes opaque word pad name_ok
rename_nothing_onto_itself = refl

rename_onto_another_name : code (calls.Rename d (codes "f") d (codes "g")) volume ≡ 22
unfolding rights_of acl_at count_at line_number_at acl_entry_at name_at named_at bytes_below directory_bytes name_bytes opaque word pad name_ok
rename_onto_another_name = refl

rename_of_two_names_away : code (calls.Rename d (codes "f") root (codes "x")) volume ≡ 22
unfolding rights_of acl_at count_at line_number_at acl_entry_at name_at named_at bytes_below directory_bytes name_bytes opaque word pad name_ok
rename_of_two_names_away = refl

rename_of_two_names_within : code (calls.Rename d (codes "f") d (codes "x")) volume ≡ 0
unfolding rights_of acl_at count_at line_number_at acl_entry_at name_at named_at bytes_below directory_bytes name_bytes opaque word pad name_ok
rename_of_two_names_within = refl

rename_below_itself : code (calls.Rename root (codes "d") d (codes "x")) volume ≡ 22
unfolding rights_of acl_at count_at line_number_at acl_entry_at name_at named_at bytes_below directory_bytes name_bytes opaque word pad name_ok
rename_below_itself = refl

rename_no_name : code (calls.Rename root (codes "x") d (codes "y")) volume ≡ 2
unfolding rights_of acl_at count_at line_number_at acl_entry_at name_at named_at bytes_below directory_bytes name_bytes opaque word pad name_ok
rename_no_name = refl

rename_onto_names : code (calls.Rename root (codes "e") root (codes "d")) volume ≡ 39
unfolding rights_of acl_at count_at line_number_at acl_entry_at name_at named_at bytes_below directory_bytes name_bytes opaque word pad name_ok
rename_onto_names = refl

rename_directory_onto_empty : code (calls.Rename root (codes "d") root (codes "e")) volume ≡ 0
unfolding rights_of acl_at count_at line_number_at acl_entry_at name_at named_at bytes_below directory_bytes name_bytes opaque word pad name_ok
rename_directory_onto_empty = refl

rename_onto_link : code (calls.Rename root (codes "a") d (codes "l")) volume ≡ 0
unfolding rights_of acl_at count_at line_number_at acl_entry_at name_at named_at bytes_below directory_bytes name_bytes opaque word pad name_ok
rename_onto_link = refl

rename_directory_into_another : code (calls.Rename root (codes "e") d (codes "x")) volume ≡ 0
unfolding rights_of acl_at count_at line_number_at acl_entry_at name_at named_at bytes_below directory_bytes name_bytes opaque word pad name_ok
rename_directory_into_another = refl

rename_at_last_index : code (calls.Rename root (codes "a") d (codes "x")) (a_counted 4294967295 1) ≡ 108
unfolding rights_of acl_at count_at line_number_at acl_entry_at name_at named_at bytes_below directory_bytes name_bytes opaque word pad name_ok
rename_at_last_index = refl

rename_within_at_last_index : code (calls.Rename root (codes "a") root (codes "x")) (a_counted 4294967295 1) ≡ 0
unfolding rights_of acl_at count_at line_number_at acl_entry_at name_at named_at bytes_below directory_bytes name_bytes opaque word pad name_ok
rename_within_at_last_index = refl

-- ---- Link

link_in_missing : code (calls.Link missing (codes "x") a) volume ≡ 102
unfolding rights_of acl_at count_at line_number_at acl_entry_at name_at named_at bytes_below directory_bytes name_bytes opaque word pad name_ok
link_in_missing = refl

link_to_missing : code (calls.Link root (codes "x") missing) read_only ≡ 102
unfolding rights_of acl_at count_at line_number_at acl_entry_at name_at named_at bytes_below directory_bytes name_bytes opaque word pad name_ok
link_to_missing = refl

link_in_file : code (calls.Link a (codes "x") a) read_only ≡ 20
unfolding rights_of acl_at count_at line_number_at acl_entry_at name_at named_at bytes_below directory_bytes name_bytes opaque word pad name_ok
link_in_file = refl

link_read_only : code (calls.Link root (codes "x") a) (record (with_rights 0 0) { kind = 1 }) ≡ 30
unfolding rights_of acl_at count_at line_number_at acl_entry_at name_at named_at bytes_below directory_bytes name_bytes opaque word pad name_ok
link_read_only = refl

link_without_right : code (calls.Link root (codes "x") d) (with_rights 123 127) ≡ 13
unfolding rights_of acl_at count_at line_number_at acl_entry_at name_at named_at bytes_below directory_bytes name_bytes opaque word pad name_ok
link_without_right = refl

link_to_directory : code (calls.Link root (codes "x") d) volume ≡ 22
unfolding rights_of acl_at count_at line_number_at acl_entry_at name_at named_at bytes_below directory_bytes name_bytes opaque word pad name_ok
link_to_directory = refl

link_to_link : code (calls.Link d (codes "x") l) volume ≡ 22
unfolding rights_of acl_at count_at line_number_at acl_entry_at name_at named_at bytes_below directory_bytes name_bytes opaque word pad name_ok
link_to_link = refl

link_across : code (calls.Link root (codes "x") f) volume ≡ 22
unfolding rights_of acl_at count_at line_number_at acl_entry_at name_at named_at bytes_below directory_bytes name_bytes opaque word pad name_ok
link_across = refl

link_to_another_volume : code (calls.Link root (codes "x") elsewhere) (with_rights 4 0) ≡ 22
unfolding rights_of acl_at count_at line_number_at acl_entry_at name_at named_at bytes_below directory_bytes name_bytes opaque word pad name_ok
link_to_another_volume = refl

link_bad_name : code (calls.Link root (codes ".") a) volume ≡ 22
unfolding rights_of acl_at count_at line_number_at acl_entry_at name_at named_at bytes_below directory_bytes name_bytes opaque word pad name_ok
link_bad_name = refl

link_existing : code (calls.Link root (codes "d") a) volume ≡ 17
unfolding rights_of acl_at count_at line_number_at acl_entry_at name_at named_at bytes_below directory_bytes name_bytes opaque word pad name_ok
link_existing = refl

link_new : code (calls.Link root (codes "x") a) (with_rights 4 0) ≡ 0
unfolding rights_of acl_at count_at line_number_at acl_entry_at name_at named_at bytes_below directory_bytes name_bytes opaque word pad name_ok
link_new = refl

-- ---- what is told

abbrev pub told : FsCall → Volume → List Version
told call v = made_by 5 (op 5 (the_user (codes "guest")) call v) v

abbrev pub version : Fid → ℕ → ℕ → Body → Version
version x index data_version body = record { fid = x; index = index; data_version = data_version; body = body }

-- a directory under the lowest odd number that is free, and the next unique number
tells_make_dir : told (calls.MakeDir root (codes "c") (status 0)) volume
    ≡ version root 2 2 (bodies.Dir (name (codes "a") 2 2 ∷ name (codes "c") 7 7 ∷ name (codes "d") 3 3 ∷ name (codes "e") 5 5 ∷ [])) ∷ version (fid 7 7) 1 1 (bodies.Dir []) ∷ []
unfolding rights_of acl_at count_at line_number_at acl_entry_at name_at named_at bytes_below directory_bytes name_bytes opaque word pad name_ok
tells_make_dir = refl

-- a file that is made over a free even number below the directory's
tells_create : told (calls.CreateFile d (codes "z") (status 8)) (record volume { vnodes = unset 2 volume.vnodes })
    ≡ version (fid 2 7) 1 1 (bodies.File []) ∷ version d 2 2 (bodies.Dir (name (codes "f") 4 4 ∷ name (codes "g") 4 4 ∷ name (codes "l") 6 6 ∷ name (codes "z") 2 7 ∷ [])) ∷ []
unfolding rights_of acl_at count_at line_number_at acl_entry_at name_at named_at bytes_below directory_bytes name_bytes opaque word pad name_ok
tells_create = refl

-- a store of what was there raises both numbers; a status raises the index alone
tells_store : told (store a (codes "abc")) volume ≡ version a 2 2 (bodies.File (codes "abc")) ∷ []
unfolding rights_of acl_at count_at line_number_at acl_entry_at name_at named_at bytes_below directory_bytes name_bytes opaque word pad name_ok
tells_store = refl

tells_status : told (calls.StoreStatus a (status 8)) volume ≡ version a 2 1 (bodies.File (codes "abc")) ∷ []
unfolding rights_of acl_at count_at line_number_at acl_entry_at name_at named_at bytes_below directory_bytes name_bytes opaque word pad name_ok
tells_status = refl

-- without its last name a file goes, with another one it stays
tells_remove : told (calls.RemoveFile root (codes "a")) volume
    ≡ version root 2 2 (bodies.Dir (name (codes "d") 3 3 ∷ name (codes "e") 5 5 ∷ [])) ∷ version a 2 2 bodies.Gone ∷ []
unfolding rights_of acl_at count_at line_number_at acl_entry_at name_at named_at bytes_below directory_bytes name_bytes opaque word pad name_ok
tells_remove = refl

tells_remove_of_two : told (calls.RemoveFile d (codes "f")) volume
    ≡ version d 2 2 (bodies.Dir (name (codes "g") 4 4 ∷ name (codes "l") 6 6 ∷ [])) ∷ version f 2 1 (bodies.File (codes "f")) ∷ []
unfolding rights_of acl_at count_at line_number_at acl_entry_at name_at named_at bytes_below directory_bytes name_bytes opaque word pad name_ok
tells_remove_of_two = refl

tells_remove_dir : told (calls.RemoveDir root (codes "e")) volume
    ≡ version root 2 2 (bodies.Dir (name (codes "a") 2 2 ∷ name (codes "d") 3 3 ∷ [])) ∷ version e 2 2 bodies.Gone ∷ []
unfolding rights_of acl_at count_at line_number_at acl_entry_at name_at named_at bytes_below directory_bytes name_bytes opaque word pad name_ok
tells_remove_dir = refl

tells_link : told (calls.Link root (codes "b") a) volume
    ≡ version root 2 2 (bodies.Dir (name (codes "a") 2 2 ∷ name (codes "b") 2 2 ∷ name (codes "d") 3 3 ∷ name (codes "e") 5 5 ∷ [])) ∷ version a 2 1 (bodies.File (codes "abc")) ∷ []
unfolding rights_of acl_at count_at line_number_at acl_entry_at name_at named_at bytes_below directory_bytes name_bytes opaque word pad name_ok
tells_link = refl

-- from one directory to another, in the place of a link: four versions, by their vnodes
tells_rename : told (calls.Rename root (codes "a") d (codes "l")) volume
    ≡ version root 2 2 (bodies.Dir (name (codes "d") 3 3 ∷ name (codes "e") 5 5 ∷ [])) ∷ version a 2 1 (bodies.File (codes "abc"))
    ∷ version d 2 2 (bodies.Dir (name (codes "f") 4 4 ∷ name (codes "g") 4 4 ∷ name (codes "l") 2 2 ∷ [])) ∷ version l 2 2 bodies.Gone ∷ []
unfolding rights_of acl_at count_at line_number_at acl_entry_at name_at named_at bytes_below directory_bytes name_bytes opaque word pad name_ok
tells_rename = refl

-- within one directory, in the place of an empty one: the vnode that is renamed doesn't change
tells_rename_within : told (calls.Rename root (codes "d") root (codes "e")) volume
    ≡ version root 2 2 (bodies.Dir (name (codes "a") 2 2 ∷ name (codes "e") 3 3 ∷ [])) ∷ version e 2 2 bodies.Gone ∷ []
unfolding rights_of acl_at count_at line_number_at acl_entry_at name_at named_at bytes_below directory_bytes name_bytes opaque word pad name_ok
tells_rename_within = refl

-- ---- links and parents

abbrev links_after : FsCall → ℕ → ℕ
links_after call n = links_of (get n (changed 5 (op 5 (the_user (codes "guest")) call volume) volume).vnodes)

links_of_make_dir : links_after (calls.MakeDir root (codes "c") (status 0)) 1 ≡ 5
unfolding rights_of acl_at count_at line_number_at acl_entry_at name_at named_at bytes_below directory_bytes name_bytes opaque word pad name_ok
links_of_make_dir = refl

links_of_create : links_after (calls.CreateFile root (codes "c") (status 0)) 1 ≡ 4
unfolding rights_of acl_at count_at line_number_at acl_entry_at name_at named_at bytes_below directory_bytes name_bytes opaque word pad name_ok
links_of_create = refl

links_of_remove_dir : links_after (calls.RemoveDir root (codes "e")) 1 ≡ 3
unfolding rights_of acl_at count_at line_number_at acl_entry_at name_at named_at bytes_below directory_bytes name_bytes opaque word pad name_ok
links_of_remove_dir = refl

-- a directory that moves takes its link along
links_of_rename : links_after (calls.Rename root (codes "e") d (codes "x")) 1 ≡ 3
unfolding rights_of acl_at count_at line_number_at acl_entry_at name_at named_at bytes_below directory_bytes name_bytes opaque word pad name_ok
links_of_rename = refl

links_of_rename_into : links_after (calls.Rename root (codes "e") d (codes "x")) 3 ≡ 3
unfolding rights_of acl_at count_at line_number_at acl_entry_at name_at named_at bytes_below directory_bytes name_bytes opaque word pad name_ok
links_of_rename_into = refl

-- one that is replaced is a link less
links_of_rename_onto : links_after (calls.Rename root (codes "d") root (codes "e")) 1 ≡ 3
unfolding rights_of acl_at count_at line_number_at acl_entry_at name_at named_at bytes_below directory_bytes name_bytes opaque word pad name_ok
links_of_rename_onto = refl

parent_of_rename : option_map (λ (x : Vnode). x.parent) (get 5 (changed 5 (op 5 (the_user (codes "guest")) (calls.Rename root (codes "e") d (codes "x")) volume) volume).vnodes) ≡ Some 3
unfolding rights_of acl_at count_at line_number_at acl_entry_at name_at named_at bytes_below directory_bytes name_bytes opaque word pad name_ok
parent_of_rename = refl

-- a new directory has its parent's access list
acl_of_make_dir : option_map (λ (x : Vnode). x.acl) (get 7 (changed 5 (op 5 (the_user (codes "guest")) (calls.MakeDir d (codes "x") (status 0)) (with_rights 127 5)) (with_rights 127 5)).vnodes) ≡ Some (record { positive = record { name = codes "system:anyuser"; rights = 5 } ∷ []; negative = [] })
unfolding rights_of acl_at count_at line_number_at acl_entry_at name_at named_at bytes_below directory_bytes name_bytes opaque word pad name_ok
acl_of_make_dir = refl

-- the mask names what is set
mode_of_create : option_map (λ (x : Vnode). x.mode) (get 8 (changed 5 (op 5 (the_user (codes "guest")) (calls.CreateFile root (codes "x") (status 8)) volume) volume).vnodes) ≡ Some 384
unfolding rights_of acl_at count_at line_number_at acl_entry_at name_at named_at bytes_below directory_bytes name_bytes opaque word pad name_ok
mode_of_create = refl
