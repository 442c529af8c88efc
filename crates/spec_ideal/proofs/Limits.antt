-- Rows at the limits: what is too big or too many (27), what is above the quota (109), and counts that can't be raised (108).
use Rattle.std.proofs.Common.{◌≡◌, ℕ, ◌+◌, ◌<◌, Bool, true, false, List, [], ◌∷◌, length, Option, Some, None, refl, sym, subst, ◌∙◌, eq-eqb, lt-ltb, arith}
use Rattle.std.specs.Prelude.{codes, ◌&&◌, nat_lt, if◌then◌else◌}
use Rattle.std.specs.List.{AllByRecursion, list_all}
use Rattle.afs_num.specs.Names.{name_ok}
use Rattle.afs_num.specs.declared.types.Fid.{Fid}
use Rattle.afs_num.specs.declared.calls.AfsStoreStatus.{AfsStoreStatus}
use Rattle.afs_num.specs.declared.calls.FsCall.{FsCall}
use Rattle.afs_num.specs.declared.calls.FsCall.TheVariants as calls
use Rattle.afs_num.specs.declared.directories.Name.{Name}
use Rattle.afs_xdr.specs.Words.{word, opaque, pad}
use Rattle.spec_ideal.specs.AccessLists.{rights_of, acl_at, count_at, line_number_at, named_at, name_at, acl_entry_at}
use Rattle.spec_ideal.specs.Directories.{named, bytes_below, directory_bytes, name_bytes}
use Rattle.spec_ideal.specs.Tables.{get, set}
use Rattle.spec_ideal.specs.Volumes.{Vnode, Volume, vnode_of, Edit, amends, makes, with_status, ascending}
use Rattle.spec_ideal.specs.Operations as ops
use Rattle.spec_ideal.specs.Operations.{Caller, the_user, all_rights, changes, first_failing, tests, edit_fits, links_of, acl_of, creating, new_file, new_directory, new_link, op}
use Rattle.spec_ideal.proofs.Basics.{both}
use Rattle.spec_ideal.proofs.Operated.{name, directory, volume, status, quota_of, root, a, d, e, store, code}
use Rattle.spec_ideal.proofs.Preserved.{same_edits}
use Rattle.spec_ideal.proofs.Scopes.{accepted, all_pass}

-- ---- 27: a file of more than 65,536 bytes, a directory of more than 1,024 names

store_too_long : (bytes : List ℕ) → length bytes ≡ 65537 → code (store a bytes) volume ≡ 27
unfolding rights_of acl_at count_at line_number_at acl_entry_at name_at named_at bytes_below directory_bytes name_bytes opaque word pad name_ok
store_too_long bytes e = rw (eq-eqb (length bytes) (length bytes) refl, lt-ltb 65536 (length bytes) (omega (arith, e))) refl

store_longest : (bytes : List ℕ) → length bytes ≡ 65536 → first_failing (tests all_rights (store a bytes) volume) ≡ None
unfolding rights_of acl_at count_at line_number_at acl_entry_at name_at named_at bytes_below directory_bytes name_bytes opaque word pad name_ok
store_longest bytes e = rw (eq-eqb (length bytes) (length bytes) refl, e) refl

-- the root has these names
abbrev named_so : List Name → Volume
named_so names = record volume { vnodes = set 1 (directory 1 4 0 0 names 127) volume.vnodes }

create_in_full : (names : List Name) → length names ≡ 1024 → named (codes "x") names ≡ None → code (calls.CreateFile root (codes "x") (status 0)) (named_so names) ≡ 27
unfolding rights_of acl_at count_at line_number_at acl_entry_at name_at named_at bytes_below directory_bytes name_bytes opaque word pad name_ok
create_in_full names e none = rw (none, e) refl

create_in_full_but_one : (names : List Name) → length names ≡ 1023 → named (codes "x") names ≡ None → first_failing (tests all_rights (calls.CreateFile root (codes "x") (status 0)) (named_so names)) ≡ None
unfolding rights_of acl_at count_at line_number_at acl_entry_at name_at named_at bytes_below directory_bytes name_bytes opaque word pad name_ok
create_in_full_but_one names e none = rw (none, e) refl

make_dir_in_full : (names : List Name) → length names ≡ 1024 → named (codes "x") names ≡ None → code (calls.MakeDir root (codes "x") (status 0)) (named_so names) ≡ 27
unfolding rights_of acl_at count_at line_number_at acl_entry_at name_at named_at bytes_below directory_bytes name_bytes opaque word pad name_ok
make_dir_in_full names e none = rw (none, e) refl

make_dir_in_full_but_one : (names : List Name) → length names ≡ 1023 → named (codes "x") names ≡ None → first_failing (tests all_rights (calls.MakeDir root (codes "x") (status 0)) (named_so names)) ≡ None
unfolding rights_of acl_at count_at line_number_at acl_entry_at name_at named_at bytes_below directory_bytes name_bytes opaque word pad name_ok
make_dir_in_full_but_one names e none = rw (none, e) refl

symlink_in_full : (names : List Name) → length names ≡ 1024 → named (codes "x") names ≡ None → code (calls.Symlink root (codes "x") (codes "to") (status 0)) (named_so names) ≡ 27
unfolding rights_of acl_at count_at line_number_at acl_entry_at name_at named_at bytes_below directory_bytes name_bytes opaque word pad name_ok
symlink_in_full names e none = rw (none, e) refl

symlink_in_full_but_one : (names : List Name) → length names ≡ 1023 → named (codes "x") names ≡ None → first_failing (tests all_rights (calls.Symlink root (codes "x") (codes "to") (status 0)) (named_so names)) ≡ None
unfolding rights_of acl_at count_at line_number_at acl_entry_at name_at named_at bytes_below directory_bytes name_bytes opaque word pad name_ok
symlink_in_full_but_one names e none = rw (none, e) refl

link_in_full : (names : List Name) → length names ≡ 1024 → named (codes "x") names ≡ None → code (calls.Link root (codes "x") a) (named_so names) ≡ 27
unfolding rights_of acl_at count_at line_number_at acl_entry_at name_at named_at bytes_below directory_bytes name_bytes opaque word pad name_ok
link_in_full names e none = rw (none, e) refl

link_in_full_but_one : (names : List Name) → length names ≡ 1023 → named (codes "x") names ≡ None → first_failing (tests all_rights (calls.Link root (codes "x") a) (named_so names)) ≡ None
unfolding rights_of acl_at count_at line_number_at acl_entry_at name_at named_at bytes_below directory_bytes name_bytes opaque word pad name_ok
link_in_full_but_one names e none = rw (none, e) refl

-- a name that is there comes first, and the quota last
existing_in_full : (names : List Name) → length names ≡ 1024 → named (codes "x") names ≡ Some (name (codes "x") 2 2) → code (calls.CreateFile root (codes "x") (status 0)) (named_so names) ≡ 17
unfolding rights_of acl_at count_at line_number_at acl_entry_at name_at named_at bytes_below directory_bytes name_bytes opaque word pad name_ok
existing_in_full names many found = rw found refl

full_above_quota : (names : List Name) → length names ≡ 1024 → named (codes "x") names ≡ None → code (calls.CreateFile root (codes "x") (status 0)) (record (named_so names) { quota = 0 }) ≡ 27
unfolding rights_of acl_at count_at line_number_at acl_entry_at name_at named_at bytes_below directory_bytes name_bytes opaque word pad name_ok
full_above_quota names e none = rw (none, e) refl

rename_into_full : (names : List Name) → length names ≡ 1024 → named (codes "x") names ≡ None → code (calls.Rename d (codes "l") root (codes "x")) (named_so names) ≡ 27
unfolding rights_of acl_at count_at line_number_at acl_entry_at name_at named_at bytes_below directory_bytes name_bytes opaque word pad name_ok
rename_into_full names e none = rw (none, e) refl

rename_onto_in_full : (names : List Name) → length names ≡ 1024 → named (codes "x") names ≡ Some (name (codes "x") 2 2) → first_failing (tests all_rights (calls.Rename d (codes "l") root (codes "x")) (named_so names)) ≡ None
unfolding rights_of acl_at count_at line_number_at acl_entry_at name_at named_at bytes_below directory_bytes name_bytes opaque word pad name_ok
rename_onto_in_full names many found = rw found refl

rename_within_full : (names : List Name) → length names ≡ 1024 → named (codes "x") names ≡ None → named (codes "y") names ≡ Some (name (codes "y") 2 2) → first_failing (tests all_rights (calls.Rename root (codes "y") root (codes "x")) (named_so names)) ≡ None
unfolding rights_of acl_at count_at line_number_at acl_entry_at name_at named_at bytes_below directory_bytes name_bytes opaque word pad name_ok
rename_within_full names many none found = rw (none, found) refl

-- ---- 108: the 4,097th vnode

one_more_is_too_many : (v : Volume) (n : ℕ) (x : Vnode) → length v.vnodes ≡ 4096 → edit_fits v (makes n x) ≡ false
one_more_is_too_many v n x e = rw e refl

the_last_one_fits : (v : Volume) (n : ℕ) (x : Vnode) → length v.vnodes ≡ 4095 → v.next < 4294967295 → edit_fits v (makes n x) ≡ true
the_last_one_fits v n x e lt = rw (e, lt-ltb v.next 4294967295 lt) refl

second_of : (b : Bool) (v : Volume) (c : Edit) (m : Edit) → edit_fits v m ≡ false → list_all (edit_fits v) (if b then m ∷ c ∷ [] else c ∷ m ∷ []) ≡ true → ⊥
second_of true v c m e h = let z = (both (edit_fits v m) (edit_fits v c && true) h).0 in absurd cc
second_of false v c m e h = let z = (both (edit_fits v m) true (both (edit_fits v c) (edit_fits v m && true) h).1).0 in absurd cc

creating_refused : (id : ℕ) (caller : Caller) (call : FsCall) (dir : Fid) (new : List ℕ) (s : AfsStoreStatus) (links : Option ℕ) (x : Vnode) (v : Volume) (es : List Edit) (n : ℕ) → ops.effect caller call v ≡ changes (ascending (creating dir new s links x v)) (ops.free_number x.kind v)
    → length v.vnodes ≡ 4096 → op id caller call v ≡ changes es n → ⊥
creating_refused id caller call dir new s links x v es n is e h =
    let r = accepted id caller call v es n h in
    let same = same_edits (ascending (creating dir new s links x v)) es (ops.free_number x.kind v) n (sym is ∙ r.effected) in
    let t = ops.free_number x.kind v in
    let fits = (both _ (list_all (edit_fits v) es) (all_pass (ops.limits id es v) r.fits).1.0).1 in
    second_of (nat_lt t dir.vnode) v (amends dir.vnode _) (makes t (with_status (Some s) x)) (one_more_is_too_many v t (with_status (Some s) x) e) (subst (λ (xs : List Edit). list_all (edit_fits v) xs ≡ true) (sym same) fits)

-- no new vnode where 4,096 are
no_file : (id : ℕ) (caller : Caller) (dir : Fid) (new : List ℕ) (s : AfsStoreStatus) (v : Volume) (es : List Edit) (n : ℕ) → length v.vnodes ≡ 4096 → op id caller (calls.CreateFile dir new s) v ≡ changes es n → ⊥
no_file id caller dir new s v es n e h = creating_refused id caller (calls.CreateFile dir new s) dir new s None (new_file dir) v es n refl e h

no_link : (id : ℕ) (caller : Caller) (dir : Fid) (new target : List ℕ) (s : AfsStoreStatus) (v : Volume) (es : List Edit) (n : ℕ) → length v.vnodes ≡ 4096 → op id caller (calls.Symlink dir new target s) v ≡ changes es n → ⊥
no_link id caller dir new target s v es n e h = creating_refused id caller (calls.Symlink dir new target s) dir new s None (new_link dir target) v es n refl e h

no_directory : (id : ℕ) (caller : Caller) (dir : Fid) (new : List ℕ) (s : AfsStoreStatus) (v : Volume) (es : List Edit) (n : ℕ) → length v.vnodes ≡ 4096 → op id caller (calls.MakeDir dir new s) v ≡ changes es n → ⊥
no_directory id caller dir new s v es n e h =
    creating_refused id caller (calls.MakeDir dir new s) dir new s (Some (links_of (vnode_of dir v) + 1)) (new_directory dir (acl_of (vnode_of dir v))) v es n refl e h

-- ---- 108: a count that is the last

-- this vnode has these counts
abbrev counted_so : ℕ → ℕ → ℕ → ℕ → Option Vnode → Volume
counted_so n index data_version links None = volume
counted_so n index data_version links (Some x) = record volume { vnodes = set n (record x { index = index; data_version = data_version; links = links }) volume.vnodes }

abbrev count_in : ℕ → ℕ → ℕ → ℕ → Volume
count_in n index data_version links = counted_so n index data_version links (get n volume.vnodes)

abbrev last : ℕ
last = 4294967295

-- calls, the volume, and the code
abbrev pub AreRows : List (FsCall × (Volume × ℕ)) → Type 0
AreRows rows = AllByRecursion (λ (r : FsCall × (Volume × ℕ)). code r.0 r.1.0 ≡ r.1.1) rows

-- the directory's index and data version
directory_counts : AreRows (
    (calls.CreateFile root (codes "x") (status 0), (count_in 1 last 1 4, 108)) ∷
    (calls.CreateFile root (codes "x") (status 0), (count_in 1 1 last 4, 108)) ∷
    (calls.MakeDir root (codes "x") (status 0), (count_in 1 last 1 4, 108)) ∷
    (calls.MakeDir root (codes "x") (status 0), (count_in 1 1 last 4, 108)) ∷
    (calls.Symlink root (codes "x") (codes "to") (status 0), (count_in 1 last 1 4, 108)) ∷
    (calls.Symlink root (codes "x") (codes "to") (status 0), (count_in 1 1 last 4, 108)) ∷
    (calls.RemoveFile root (codes "a"), (count_in 1 last 1 4, 108)) ∷
    (calls.RemoveFile root (codes "a"), (count_in 1 1 last 4, 108)) ∷
    (calls.RemoveDir root (codes "e"), (count_in 1 last 1 4, 108)) ∷
    (calls.RemoveDir root (codes "e"), (count_in 1 1 last 4, 108)) ∷
    (calls.Link root (codes "x") a, (count_in 1 last 1 4, 108)) ∷
    (calls.Link root (codes "x") a, (count_in 1 1 last 4, 108)) ∷
    (calls.Rename root (codes "a") d (codes "x"), (count_in 1 last 1 4, 108)) ∷
    (calls.Rename root (codes "a") d (codes "x"), (count_in 1 1 last 4, 108)) ∷
    (calls.Rename root (codes "a") root (codes "x"), (count_in 1 last 1 4, 108)) ∷
    (calls.Rename root (codes "a") root (codes "x"), (count_in 1 1 last 4, 108)) ∷
    (calls.CreateFile root (codes "x") (status 0), (count_in 1 4294967294 4294967294 4, 0)) ∷
    (calls.RemoveFile root (codes "a"), (count_in 1 4294967294 4294967294 4, 0)) ∷
    (calls.Link root (codes "x") a, (count_in 1 4294967294 4294967294 4, 0)) ∷
    (calls.Rename root (codes "a") d (codes "x"), (count_in 1 4294967294 4294967294 4, 0)) ∷ [])
unfolding rights_of acl_at count_at line_number_at acl_entry_at name_at named_at bytes_below directory_bytes name_bytes opaque word pad name_ok
directory_counts = (refl, (refl, (refl, (refl, (refl, (refl, (refl, (refl, (refl, (refl, (refl, (refl, (refl, (refl, (refl, (refl, (refl, (refl, (refl, (refl, tt))))))))))))))))))))

-- the directory to which a name moves
other_directory : AreRows (
    (calls.Rename root (codes "a") d (codes "x"), (count_in 3 last 1 2, 108)) ∷
    (calls.Rename root (codes "a") d (codes "x"), (count_in 3 1 last 2, 108)) ∷ [])
unfolding rights_of acl_at count_at line_number_at acl_entry_at name_at named_at bytes_below directory_bytes name_bytes opaque word pad name_ok
other_directory = (refl, (refl, tt))

-- what is stored in
stored_counts : AreRows (
    (calls.StoreAcl root (codes "1\n0\nsystem:anyuser\t9\n"), (count_in 1 last 1 4, 108)) ∷
    (calls.StoreAcl root (codes "1\n0\nsystem:anyuser\t9\n"), (count_in 1 1 last 4, 0)) ∷
    (calls.StoreStatus a (status 8), (count_in 2 last 1 1, 108)) ∷
    (calls.StoreStatus a (status 8), (count_in 2 1 last 1, 0)) ∷
    (calls.Link root (codes "x") a, (count_in 2 last 1 1, 108)) ∷
    (calls.Link root (codes "x") a, (count_in 2 1 last 1, 0)) ∷ [])
unfolding rights_of acl_at count_at line_number_at acl_entry_at name_at named_at bytes_below directory_bytes name_bytes opaque word pad name_ok
stored_counts = (refl, (refl, (refl, (refl, (refl, (refl, tt))))))

-- what goes, or loses a name
gone_counts : AreRows (
    (calls.RemoveDir root (codes "e"), (count_in 5 last 1 2, 108)) ∷
    (calls.RemoveDir root (codes "e"), (count_in 5 1 last 2, 108)) ∷
    (calls.RemoveFile d (codes "f"), (count_in 4 last 1 2, 108)) ∷
    (calls.RemoveFile d (codes "f"), (count_in 4 1 last 2, 0)) ∷
    (calls.Rename root (codes "a") d (codes "l"), (count_in 6 last 1 1, 108)) ∷
    (calls.Rename root (codes "a") d (codes "l"), (count_in 6 1 last 1, 108)) ∷ [])
unfolding rights_of acl_at count_at line_number_at acl_entry_at name_at named_at bytes_below directory_bytes name_bytes opaque word pad name_ok
gone_counts = (refl, (refl, (refl, (refl, (refl, (refl, tt))))))

-- links
link_counts : AreRows (
    (calls.MakeDir root (codes "x") (status 0), (count_in 1 1 1 last, 108)) ∷
    (calls.MakeDir root (codes "x") (status 0), (count_in 1 1 1 4294967294, 0)) ∷
    (calls.Link root (codes "x") a, (count_in 2 1 1 last, 108)) ∷
    (calls.Link root (codes "x") a, (count_in 2 1 1 4294967294, 0)) ∷
    (calls.Rename root (codes "e") d (codes "x"), (count_in 3 1 1 last, 108)) ∷
    (calls.Rename root (codes "e") d (codes "x"), (count_in 3 1 1 4294967294, 0)) ∷
    (calls.CreateFile root (codes "x") (status 0), (count_in 1 1 1 last, 0)) ∷ [])
unfolding rights_of acl_at count_at line_number_at acl_entry_at name_at named_at bytes_below directory_bytes name_bytes opaque word pad name_ok
link_counts = (refl, (refl, (refl, (refl, (refl, (refl, (refl, tt)))))))

-- the volume's counter and next unique number
volume_counts : AreRows (
    (calls.CreateFile root (codes "x") (status 0), (record volume { counter = last }, 108)) ∷
    (calls.MakeDir root (codes "x") (status 0), (record volume { counter = last }, 108)) ∷
    (calls.Symlink root (codes "x") (codes "to") (status 0), (record volume { counter = last }, 108)) ∷
    (calls.RemoveFile root (codes "a"), (record volume { counter = last }, 108)) ∷
    (calls.RemoveDir root (codes "e"), (record volume { counter = last }, 108)) ∷
    (calls.Link root (codes "x") a, (record volume { counter = last }, 108)) ∷
    (calls.Rename root (codes "a") d (codes "x"), (record volume { counter = last }, 108)) ∷
    (calls.StoreAcl root (codes "1\n0\nsystem:anyuser\t9\n"), (record volume { counter = last }, 108)) ∷
    (calls.StoreStatus a (status 8), (record volume { counter = last }, 108)) ∷
    (calls.CreateFile root (codes "x") (status 0), (record volume { counter = 4294967294 }, 0)) ∷
    (calls.StoreStatus a (status 8), (record volume { counter = 4294967294 }, 0)) ∷
    (calls.CreateFile root (codes "x") (status 0), (record volume { next = last }, 108)) ∷
    (calls.MakeDir root (codes "x") (status 0), (record volume { next = last }, 108)) ∷
    (calls.Symlink root (codes "x") (codes "to") (status 0), (record volume { next = last }, 108)) ∷
    (calls.CreateFile root (codes "x") (status 0), (record volume { next = 4294967294 }, 0)) ∷
    (calls.MakeDir root (codes "x") (status 0), (record volume { next = 4294967294 }, 0)) ∷
    (calls.Symlink root (codes "x") (codes "to") (status 0), (record volume { next = 4294967294 }, 0)) ∷
    (calls.RemoveFile root (codes "a"), (record volume { next = last }, 0)) ∷
    (calls.Link root (codes "x") a, (record volume { next = last }, 0)) ∷
    (calls.Rename root (codes "a") d (codes "x"), (record volume { next = last }, 0)) ∷
    (calls.StoreStatus a (status 8), (record volume { next = last }, 0)) ∷ [])
unfolding rights_of acl_at count_at line_number_at acl_entry_at name_at named_at bytes_below directory_bytes name_bytes opaque word pad name_ok
volume_counts = (refl, (refl, (refl, (refl, (refl, (refl, (refl, (refl, (refl, (refl, (refl, (refl, (refl, (refl, (refl, (refl, (refl, (refl, (refl, (refl, (refl, tt)))))))))))))))))))))

-- ---- 109: the blocks are 6 before; 109 comes before 108

-- what is above the quota after the change, be it smaller than before
quotas : AreRows (
    (calls.CreateFile root (codes "x") (status 0), (quota_of 5, 109)) ∷
    (calls.CreateFile root (codes "x") (status 0), (quota_of 6, 0)) ∷
    (calls.Link root (codes "x") a, (quota_of 5, 109)) ∷
    (calls.Link root (codes "x") a, (quota_of 6, 0)) ∷
    (calls.Rename root (codes "a") d (codes "x"), (quota_of 5, 109)) ∷
    (calls.Rename root (codes "a") d (codes "x"), (quota_of 6, 0)) ∷
    (calls.Rename root (codes "a") root (codes "x"), (quota_of 5, 109)) ∷
    (calls.RemoveFile root (codes "a"), (quota_of 4, 109)) ∷
    (calls.RemoveFile root (codes "a"), (quota_of 5, 0)) ∷
    (calls.RemoveDir root (codes "e"), (quota_of 4, 109)) ∷
    (calls.RemoveDir root (codes "e"), (quota_of 5, 0)) ∷
    (calls.Rename root (codes "a") d (codes "l"), (quota_of 4, 109)) ∷
    (calls.Rename root (codes "a") d (codes "l"), (quota_of 5, 0)) ∷
    (calls.StoreAcl root (codes "1\n0\nsystem:anyuser\t9\n"), (quota_of 5, 109)) ∷
    (calls.StoreAcl root (codes "1\n0\nsystem:anyuser\t9\n"), (quota_of 6, 0)) ∷
    (calls.StoreStatus a (status 8), (quota_of 5, 109)) ∷
    (calls.StoreStatus a (status 8), (quota_of 6, 0)) ∷
    (store a [], (quota_of 5, 0)) ∷
    (store a [], (quota_of 4, 109)) ∷
    (calls.Symlink root (codes "x") (codes "to") (status 0), (quota_of 7, 0)) ∷
    (calls.CreateFile root (codes "x") (status 0), (record volume { quota = 3; counter = last }, 109)) ∷
    (calls.RemoveFile root (codes "a"), (record volume { quota = 3; counter = last }, 109)) ∷
    (calls.StoreStatus a (status 8), (record volume { quota = 3; counter = last }, 109)) ∷ [])
unfolding rights_of acl_at count_at line_number_at acl_entry_at name_at named_at bytes_below directory_bytes name_bytes opaque word pad name_ok
quotas = (refl, (refl, (refl, (refl, (refl, (refl, (refl, (refl, (refl, (refl, (refl, (refl, (refl, (refl, (refl, (refl, (refl, (refl, (refl, (refl, (refl, (refl, (refl, tt)))))))))))))))))))))))
