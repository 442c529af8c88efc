-- Rows on what operations make and reply: rights by negative entries and by names, each word of a status, parents, counters, and the
-- replies.
use Rattle.std.proofs.Common.{◌≡◌, ℕ, List, [], ◌∷◌, Option, Some, None, refl, pos}
use Rattle.std.specs.Prelude.{codes}
use Rattle.std.specs.Option.{option_map}
use Rattle.afs_num.specs.Names.{name_ok}
use Rattle.afs_num.specs.declared.types.Fid.{Fid}
use Rattle.afs_num.specs.declared.acls.AclEntry.{AclEntry}
use Rattle.afs_num.specs.declared.calls.AfsFetchStatus.{AfsFetchStatus}
use Rattle.afs_num.specs.declared.calls.AfsStoreStatus.{AfsStoreStatus}
use Rattle.afs_num.specs.declared.calls.AfsVolSync.{AfsVolSync}
use Rattle.afs_num.specs.declared.calls.FsCall.{FsCall}
use Rattle.afs_num.specs.declared.calls.FsCall.TheVariants as calls
use Rattle.afs_num.specs.declared.calls.FsReply.{FsReply}
use Rattle.afs_num.specs.declared.calls.FsReply.TheVariants as replies
use Rattle.afs_num.specs.declared.histories.Body.TheVariants as bodies
use Rattle.spec_shape.specs.Rows.{no_callback, no_sync}
use Rattle.afs_xdr.specs.Words.{word, opaque, pad}
use Rattle.spec_ideal.specs.AccessLists.{rights_of, acl_text, acl_entry_text, acl_at, count_at, line_number_at, named_at, name_at, acl_entry_at}
use Rattle.spec_ideal.specs.Directories.{bytes_below, directory_bytes, name_bytes}
use Rattle.spec_ideal.specs.Tables.{get, set}
use Rattle.spec_ideal.specs.Volumes.{a_file, a_link, Vnode, Volume}
use Rattle.spec_ideal.specs.Operations.{the_user, Result, reads, changes, no_operation, op, code_of, changed}
use Rattle.spec_ideal.specs.Replies.{reading_reply, change_reply}
use Rattle.spec_ideal.proofs.Operated.{name, directory, other, volume, fid, status, root, a, d, l, store, fetch, told, version}

-- ---- rights

abbrev entry : List ℕ → ℕ → AclEntry
entry who rights = record { name = who; rights = rights }

abbrev with_list : List AclEntry → List AclEntry → Volume
with_list positive negative = record volume { vnodes = set 1 (record (directory 1 4 0 0 [] 0) { acl = record { positive = positive; negative = negative } }) volume.vnodes }

abbrev code_for : List ℕ → FsCall → Volume → ℕ
code_for user call v = code_of (op 5 (the_user user) call v)

anyuser_has_it : code_for (codes "u") (fetch a) (with_list (entry (codes "system:anyuser") 1 ∷ []) []) ≡ 0
unfolding rights_of acl_at count_at line_number_at acl_entry_at name_at named_at bytes_below directory_bytes name_bytes opaque word pad name_ok acl_text acl_entry_text
anyuser_has_it = refl

a_named_user_has_it : code_for (codes "u") (fetch a) (with_list (entry (codes "v") 8 ∷ entry (codes "u") 1 ∷ []) []) ≡ 0
unfolding rights_of acl_at count_at line_number_at acl_entry_at name_at named_at bytes_below directory_bytes name_bytes opaque word pad name_ok acl_text acl_entry_text
a_named_user_has_it = refl

another_user_has_not : code_for (codes "v") (fetch a) (with_list (entry (codes "v") 8 ∷ entry (codes "u") 1 ∷ []) []) ≡ 13
unfolding rights_of acl_at count_at line_number_at acl_entry_at name_at named_at bytes_below directory_bytes name_bytes opaque word pad name_ok acl_text acl_entry_text
another_user_has_not = refl

rights_come_together : code_for (codes "u") (calls.Rename root (codes "x") root (codes "y")) (with_list (entry (codes "system:anyuser") 16 ∷ entry (codes "u") 4 ∷ []) []) ≡ 2
unfolding rights_of acl_at count_at line_number_at acl_entry_at name_at named_at bytes_below directory_bytes name_bytes opaque word pad name_ok acl_text acl_entry_text
rights_come_together = refl

a_negative_entry_takes_it : code_for (codes "u") (fetch a) (with_list (entry (codes "system:anyuser") 127 ∷ []) (entry (codes "u") 1 ∷ [])) ≡ 13
unfolding rights_of acl_at count_at line_number_at acl_entry_at name_at named_at bytes_below directory_bytes name_bytes opaque word pad name_ok acl_text acl_entry_text
a_negative_entry_takes_it = refl

from_that_user_alone : code_for (codes "v") (fetch a) (with_list (entry (codes "system:anyuser") 127 ∷ []) (entry (codes "u") 1 ∷ [])) ≡ 0
unfolding rights_of acl_at count_at line_number_at acl_entry_at name_at named_at bytes_below directory_bytes name_bytes opaque word pad name_ok acl_text acl_entry_text
from_that_user_alone = refl

and_that_right_alone : code_for (codes "u") (calls.FetchStatus a) (with_list (entry (codes "system:anyuser") 127 ∷ []) (entry (codes "u") 1 ∷ [])) ≡ 0
unfolding rights_of acl_at count_at line_number_at acl_entry_at name_at named_at bytes_below directory_bytes name_bytes opaque word pad name_ok acl_text acl_entry_text
and_that_right_alone = refl

-- ---- a volume whose unique numbers aren't its numbers: d, unique 9, holds a directory b

abbrev other_uniques : Volume
other_uniques = record volume {
  next = 20;
  counter = 7;
  vnodes =
      (1, directory 1 4 0 0 (name (codes "a") 2 8 ∷ name (codes "d") 3 9 ∷ name (codes "e") 5 10 ∷ []) 127)
      ∷ (2, other a_file 8 1 1 1 (codes "abc"))
      ∷ (3, directory 9 3 1 1 (name (codes "b") 7 11 ∷ name (codes "f") 4 12 ∷ name (codes "g") 4 12 ∷ name (codes "l") 6 13 ∷ []) 127)
      ∷ (4, other a_file 12 2 3 9 (codes "f"))
      ∷ (5, directory 10 2 1 1 [] 127)
      ∷ (6, other a_link 13 1 3 9 (codes "a"))
      ∷ (7, directory 11 2 3 9 [] 127)
      ∷ [];
}

abbrev after : FsCall → Volume
after call = changed 5 (op 5 (the_user (codes "u")) call other_uniques) other_uniques

abbrev of : {A : Type 0} → (Vnode → A) → ℕ → FsCall → Option A
of {A} word n call = option_map word (get n (after call).vnodes)

abbrev code : FsCall → ℕ
code call = code_for (codes "u") call other_uniques

-- into a directory that is one below the one that would move
into_itself_deeper : code (calls.Rename root (codes "d") (fid 7 11) (codes "x")) ≡ 22
unfolding rights_of acl_at count_at line_number_at acl_entry_at name_at named_at bytes_below directory_bytes name_bytes opaque word pad name_ok acl_text acl_entry_text
into_itself_deeper = refl

link_by_unique_of_parent : code_for (codes "u") (calls.Link (fid 3 9) (codes "x") (fid 4 12)) (record other_uniques { vnodes = set 4 (other a_file 12 2 3 8 (codes "f")) other_uniques.vnodes }) ≡ 22
unfolding rights_of acl_at count_at line_number_at acl_entry_at name_at named_at bytes_below directory_bytes name_bytes opaque word pad name_ok acl_text acl_entry_text
link_by_unique_of_parent = refl

link_in_its_directory : code (calls.Link (fid 3 9) (codes "x") (fid 4 12)) ≡ 0
unfolding rights_of acl_at count_at line_number_at acl_entry_at name_at named_at bytes_below directory_bytes name_bytes opaque word pad name_ok acl_text acl_entry_text
link_in_its_directory = refl

a_symbolic_link_is_removed_as_a_file : told (calls.RemoveFile d (codes "l")) volume ≡ version d 2 2 (bodies.Dir (name (codes "f") 4 4 ∷ name (codes "g") 4 4 ∷ [])) ∷ version l 2 2 bodies.Gone ∷ []
unfolding rights_of acl_at count_at line_number_at acl_entry_at name_at named_at bytes_below directory_bytes name_bytes opaque word pad name_ok acl_text acl_entry_text
a_symbolic_link_is_removed_as_a_file = refl

abbrev parents_of : ℕ → FsCall → Option (ℕ × ℕ)
parents_of n call = of (λ (x : Vnode). (x.parent, x.parent_unique)) n call

parent_of_a_file : parents_of 8 (calls.CreateFile (fid 3 9) (codes "x") (status 0)) ≡ Some (3, 9)
unfolding rights_of acl_at count_at line_number_at acl_entry_at name_at named_at bytes_below directory_bytes name_bytes opaque word pad name_ok acl_text acl_entry_text
parent_of_a_file = refl

parent_of_a_directory : parents_of 9 (calls.MakeDir (fid 3 9) (codes "x") (status 0)) ≡ Some (3, 9)
unfolding rights_of acl_at count_at line_number_at acl_entry_at name_at named_at bytes_below directory_bytes name_bytes opaque word pad name_ok acl_text acl_entry_text
parent_of_a_directory = refl

parent_of_what_moved : parents_of 2 (calls.Rename root (codes "a") (fid 3 9) (codes "x")) ≡ Some (3, 9)
unfolding rights_of acl_at count_at line_number_at acl_entry_at name_at named_at bytes_below directory_bytes name_bytes opaque word pad name_ok acl_text acl_entry_text
parent_of_what_moved = refl

parent_of_what_stayed : parents_of 4 (calls.Rename (fid 3 9) (codes "f") (fid 3 9) (codes "x")) ≡ Some (3, 9)
unfolding rights_of acl_at count_at line_number_at acl_entry_at name_at named_at bytes_below directory_bytes name_bytes opaque word pad name_ok acl_text acl_entry_text
parent_of_what_stayed = refl

unique_of_a_new_file : of (λ (x : Vnode). x.unique) 8 (calls.CreateFile (fid 3 9) (codes "x") (status 0)) ≡ Some 20
unfolding rights_of acl_at count_at line_number_at acl_entry_at name_at named_at bytes_below directory_bytes name_bytes opaque word pad name_ok acl_text acl_entry_text
unique_of_a_new_file = refl

next_after_it : (after (calls.CreateFile (fid 3 9) (codes "x") (status 0))).next ≡ 21
unfolding rights_of acl_at count_at line_number_at acl_entry_at name_at named_at bytes_below directory_bytes name_bytes opaque word pad name_ok acl_text acl_entry_text
next_after_it = refl

next_after_a_store : (after (store (fid 2 8) (codes "x"))).next ≡ 20
unfolding rights_of acl_at count_at line_number_at acl_entry_at name_at named_at bytes_below directory_bytes name_bytes opaque word pad name_ok acl_text acl_entry_text
next_after_a_store = refl

counter_after_it : (after (calls.CreateFile (fid 3 9) (codes "x") (status 0))).counter ≡ 8
unfolding rights_of acl_at count_at line_number_at acl_entry_at name_at named_at bytes_below directory_bytes name_bytes opaque word pad name_ok acl_text acl_entry_text
counter_after_it = refl

changed_at_that_count : of (λ (x : Vnode). x.changed) 8 (calls.CreateFile (fid 3 9) (codes "x") (status 0)) ≡ Some 8
unfolding rights_of acl_at count_at line_number_at acl_entry_at name_at named_at bytes_below directory_bytes name_bytes opaque word pad name_ok acl_text acl_entry_text
changed_at_that_count = refl

changed_in_its_directory : of (λ (x : Vnode). x.changed) 3 (calls.CreateFile (fid 3 9) (codes "x") (status 0)) ≡ Some 8
unfolding rights_of acl_at count_at line_number_at acl_entry_at name_at named_at bytes_below directory_bytes name_bytes opaque word pad name_ok acl_text acl_entry_text
changed_in_its_directory = refl

not_changed_elsewhere : of (λ (x : Vnode). x.changed) 1 (calls.CreateFile (fid 3 9) (codes "x") (status 0)) ≡ Some 1
unfolding rights_of acl_at count_at line_number_at acl_entry_at name_at named_at bytes_below directory_bytes name_bytes opaque word pad name_ok acl_text acl_entry_text
not_changed_elsewhere = refl

mode_of_a_file : of (λ (x : Vnode). x.mode) 8 (calls.CreateFile (fid 3 9) (codes "x") (status 0)) ≡ Some 420
unfolding rights_of acl_at count_at line_number_at acl_entry_at name_at named_at bytes_below directory_bytes name_bytes opaque word pad name_ok acl_text acl_entry_text
mode_of_a_file = refl

mode_of_a_directory : of (λ (x : Vnode). x.mode) 9 (calls.MakeDir root (codes "x") (status 0)) ≡ Some 493
unfolding rights_of acl_at count_at line_number_at acl_entry_at name_at named_at bytes_below directory_bytes name_bytes opaque word pad name_ok acl_text acl_entry_text
mode_of_a_directory = refl

mode_of_a_link : of (λ (x : Vnode). x.mode) 8 (calls.Symlink root (codes "x") (codes "to") (status 0)) ≡ Some 511
unfolding rights_of acl_at count_at line_number_at acl_entry_at name_at named_at bytes_below directory_bytes name_bytes opaque word pad name_ok acl_text acl_entry_text
mode_of_a_link = refl

links_of_a_file : of (λ (x : Vnode). x.links) 8 (calls.CreateFile (fid 3 9) (codes "x") (status 0)) ≡ Some 1
unfolding rights_of acl_at count_at line_number_at acl_entry_at name_at named_at bytes_below directory_bytes name_bytes opaque word pad name_ok acl_text acl_entry_text
links_of_a_file = refl

links_of_a_directory : of (λ (x : Vnode). x.links) 9 (calls.MakeDir root (codes "x") (status 0)) ≡ Some 2
unfolding rights_of acl_at count_at line_number_at acl_entry_at name_at named_at bytes_below directory_bytes name_bytes opaque word pad name_ok acl_text acl_entry_text
links_of_a_directory = refl

contents_of_a_link : of (λ (x : Vnode). x.contents) 8 (calls.Symlink root (codes "x") (codes "to") (status 0)) ≡ Some (codes "to")
unfolding rights_of acl_at count_at line_number_at acl_entry_at name_at named_at bytes_below directory_bytes name_bytes opaque word pad name_ok acl_text acl_entry_text
contents_of_a_link = refl

links_when_one_name_goes : of (λ (x : Vnode). x.links) 4 (calls.RemoveFile (fid 3 9) (codes "f")) ≡ Some 1
unfolding rights_of acl_at count_at line_number_at acl_entry_at name_at named_at bytes_below directory_bytes name_bytes opaque word pad name_ok acl_text acl_entry_text
links_when_one_name_goes = refl

links_when_one_name_is_replaced : of (λ (x : Vnode). x.links) 4 (calls.Rename (fid 3 9) (codes "l") (fid 3 9) (codes "f")) ≡ Some 1
unfolding rights_of acl_at count_at line_number_at acl_entry_at name_at named_at bytes_below directory_bytes name_bytes opaque word pad name_ok acl_text acl_entry_text
links_when_one_name_is_replaced = refl

links_when_one_comes : of (λ (x : Vnode). x.links) 4 (calls.Link (fid 3 9) (codes "x") (fid 4 12)) ≡ Some 3
unfolding rights_of acl_at count_at line_number_at acl_entry_at name_at named_at bytes_below directory_bytes name_bytes opaque word pad name_ok acl_text acl_entry_text
links_when_one_comes = refl

list_of_a_directory_that_stores_one : of (λ (x : Vnode). x.acl) 1 (calls.StoreAcl root (codes "1\n1\nu\t9\nv\t1\n")) ≡ Some (record { positive = entry (codes "u") 9 ∷ []; negative = entry (codes "v") 1 ∷ [] })
unfolding rights_of acl_at count_at line_number_at acl_entry_at name_at named_at bytes_below directory_bytes name_bytes opaque word pad name_ok acl_text acl_entry_text
list_of_a_directory_that_stores_one = refl

-- each bit of the mask sets its own word
abbrev all_words : ℕ → AfsStoreStatus
all_words mask = record { mask = mask; client_mod_time = 31; owner = 32; group = 33; unix_mode_bits = 34; seg_size = 35 }

abbrev Words : Type 0
Words = ℕ × (ℕ × (ℕ × (ℕ × ℕ)))

abbrev words_of : ℕ → FsCall → Option Words
words_of n call = of (λ (x : Vnode). (x.client_time, (x.owner, (x.group, (x.mode, x.segment_size))))) n call

mask_1 : words_of 2 (calls.StoreStatus (fid 2 8) (all_words 1)) ≡ Some (31, (0, (0, (420, 0))))
unfolding rights_of acl_at count_at line_number_at acl_entry_at name_at named_at bytes_below directory_bytes name_bytes opaque word pad name_ok acl_text acl_entry_text
mask_1 = refl

mask_2 : words_of 2 (calls.StoreStatus (fid 2 8) (all_words 2)) ≡ Some (0, (32, (0, (420, 0))))
unfolding rights_of acl_at count_at line_number_at acl_entry_at name_at named_at bytes_below directory_bytes name_bytes opaque word pad name_ok acl_text acl_entry_text
mask_2 = refl

mask_4 : words_of 2 (calls.StoreStatus (fid 2 8) (all_words 4)) ≡ Some (0, (0, (33, (420, 0))))
unfolding rights_of acl_at count_at line_number_at acl_entry_at name_at named_at bytes_below directory_bytes name_bytes opaque word pad name_ok acl_text acl_entry_text
mask_4 = refl

mask_8 : words_of 2 (calls.StoreStatus (fid 2 8) (all_words 8)) ≡ Some (0, (0, (0, (34, 0))))
unfolding rights_of acl_at count_at line_number_at acl_entry_at name_at named_at bytes_below directory_bytes name_bytes opaque word pad name_ok acl_text acl_entry_text
mask_8 = refl

mask_16 : words_of 2 (calls.StoreStatus (fid 2 8) (all_words 16)) ≡ Some (0, (0, (0, (420, 35))))
unfolding rights_of acl_at count_at line_number_at acl_entry_at name_at named_at bytes_below directory_bytes name_bytes opaque word pad name_ok acl_text acl_entry_text
mask_16 = refl

mask_of_a_store : words_of 2 (calls.StoreData (fid 2 8) (all_words 31) (pos 0) (pos 0) (pos 0) []) ≡ Some (31, (32, (33, (34, 35))))
unfolding rights_of acl_at count_at line_number_at acl_entry_at name_at named_at bytes_below directory_bytes name_bytes opaque word pad name_ok acl_text acl_entry_text
mask_of_a_store = refl

mask_of_a_new_file : words_of 8 (calls.CreateFile root (codes "x") (all_words 31)) ≡ Some (31, (32, (33, (34, 35))))
unfolding rights_of acl_at count_at line_number_at acl_entry_at name_at named_at bytes_below directory_bytes name_bytes opaque word pad name_ok acl_text acl_entry_text
mask_of_a_new_file = refl

mask_of_a_new_link : words_of 8 (calls.Symlink root (codes "x") [] (all_words 6)) ≡ Some (0, (32, (33, (511, 0))))
unfolding rights_of acl_at count_at line_number_at acl_entry_at name_at named_at bytes_below directory_bytes name_bytes opaque word pad name_ok acl_text acl_entry_text
mask_of_a_new_link = refl

mask_of_a_new_directory : words_of 9 (calls.MakeDir root (codes "x") (all_words 9)) ≡ Some (31, (0, (0, (34, 0))))
unfolding rights_of acl_at count_at line_number_at acl_entry_at name_at named_at bytes_below directory_bytes name_bytes opaque word pad name_ok acl_text acl_entry_text
mask_of_a_new_directory = refl

-- ---- replies

-- a call that is no operation on a volume
row_no_operation : op 5 (the_user (codes "u")) calls.GetTime volume ≡ no_operation
row_no_operation = refl

-- what is replied to a reading call, where the vnode was changed last at 50
abbrev read_of : Result → Volume → Option FsReply
read_of (reads shown) v = Some (reading_reply 5 (the_user (codes "u")) (λ (f : Fid). 50) v shown)
read_of r v = None

abbrev reply : FsCall → Volume → Option FsReply
reply call v = read_of (op 5 (the_user (codes "u")) call v) v

-- index, data version, parent and access come from the vnode
abbrev status_of_a : AfsFetchStatus
status_of_a = record {
  interface_version = 1;
  file_type = 1;
  link_count = 1;
  length = 3;
  data_version = 6;
  author = 0;
  owner = 7;
  caller_access = 127;
  anonymous_access = 9;
  unix_mode_bits = 420;
  parent_vnode = 1;
  parent_unique = 1;
  seg_size = 10;
  client_mod_time = 11;
  server_mod_time = 50;
  group = 8;
  sync_counter = 5;
  spare1 = 0;
  spare2 = 0;
  spare3 = 0;
  spare4 = 0;
}

abbrev replied : Volume
replied = record volume {
  kind = 1;
  release = 4;
  vnodes =
      (1, record (directory 1 2 0 0 (name (codes "a") 2 2 ∷ []) 0) { acl = record { positive = entry (codes "u") 127 ∷ entry (codes "system:anyuser") 9 ∷ []; negative = [] } })
      ∷ (2, record (other a_file 2 1 1 1 (codes "abc")) { index = 5; data_version = 6; owner = 7; group = 8; segment_size = 10; client_time = 11 }) ∷ [];
}

abbrev status_of_root : AfsFetchStatus
status_of_root = record status_of_a {
  file_type = 2;
  link_count = 2;
  length = 20;
  data_version = 1;
  owner = 0;
  unix_mode_bits = 493;
  parent_vnode = 0;
  parent_unique = 0;
  seg_size = 0;
  client_mod_time = 0;
  group = 0;
  sync_counter = 1;
}

abbrev release_4 : AfsVolSync
release_4 = record no_sync { release = 4 }

reply_to_fetch_data : reply (fetch a) replied ≡ Some (replies.FetchData (codes "abc") status_of_a no_callback release_4)
unfolding rights_of acl_at count_at line_number_at acl_entry_at name_at named_at bytes_below directory_bytes name_bytes opaque word pad name_ok acl_text acl_entry_text
reply_to_fetch_data = refl

reply_to_fetch_status : reply (calls.FetchStatus a) replied ≡ Some (replies.FetchStatus status_of_a no_callback release_4)
unfolding rights_of acl_at count_at line_number_at acl_entry_at name_at named_at bytes_below directory_bytes name_bytes opaque word pad name_ok acl_text acl_entry_text
reply_to_fetch_status = refl

reply_of_a_directory : reply (calls.FetchStatus root) replied ≡ Some (replies.FetchStatus status_of_root no_callback release_4)
unfolding rights_of acl_at count_at line_number_at acl_entry_at name_at named_at bytes_below directory_bytes name_bytes opaque word pad name_ok acl_text acl_entry_text
reply_of_a_directory = refl

bytes_of_a_directory : reply (fetch root) replied ≡ Some (replies.FetchData (0 ∷ 0 ∷ 0 ∷ 1 ∷ 0 ∷ 0 ∷ 0 ∷ 1 ∷ 97 ∷ 0 ∷ 0 ∷ 0 ∷ 0 ∷ 0 ∷ 0 ∷ 2 ∷ 0 ∷ 0 ∷ 0 ∷ 2 ∷ []) status_of_root no_callback release_4)
unfolding rights_of acl_at count_at line_number_at acl_entry_at name_at named_at bytes_below directory_bytes name_bytes opaque word pad name_ok acl_text acl_entry_text
bytes_of_a_directory = refl

release_of_a_read_write_volume : reply (calls.FetchStatus a) (record replied { kind = 0 }) ≡ Some (replies.FetchStatus status_of_a no_callback no_sync)
unfolding rights_of acl_at count_at line_number_at acl_entry_at name_at named_at bytes_below directory_bytes name_bytes opaque word pad name_ok acl_text acl_entry_text
release_of_a_read_write_volume = refl

reply_to_bulk_status : reply (calls.BulkStatus (a ∷ root ∷ [])) replied ≡ Some (replies.BulkStatus (status_of_a ∷ status_of_root ∷ []) (no_callback ∷ no_callback ∷ []) release_4)
unfolding rights_of acl_at count_at line_number_at acl_entry_at name_at named_at bytes_below directory_bytes name_bytes opaque word pad name_ok acl_text acl_entry_text
reply_to_bulk_status = refl

reply_to_bulk_status_of_none : reply (calls.BulkStatus []) replied ≡ Some (replies.BulkStatus [] [] no_sync)
unfolding rights_of acl_at count_at line_number_at acl_entry_at name_at named_at bytes_below directory_bytes name_bytes opaque word pad name_ok acl_text acl_entry_text
reply_to_bulk_status_of_none = refl

reply_to_fetch_acl : reply (calls.FetchAcl root) replied ≡ Some (replies.FetchAcl (acl_text (record { positive = entry (codes "u") 127 ∷ entry (codes "system:anyuser") 9 ∷ []; negative = [] })) status_of_root release_4)
unfolding rights_of acl_at count_at line_number_at acl_entry_at name_at named_at bytes_below directory_bytes name_bytes opaque word pad name_ok acl_text acl_entry_text
reply_to_fetch_acl = refl

reply_to_volume_status : reply (calls.GetVolumeStatus 5) replied ≡ Some (replies.GetVolumeStatus 5 1 10 2 (codes "v"))
unfolding rights_of acl_at count_at line_number_at acl_entry_at name_at named_at bytes_below directory_bytes name_bytes opaque word pad name_ok acl_text acl_entry_text
reply_to_volume_status = refl

-- what is replied to a change: fids, numbers of links and indexes of the vnodes that it shows, in its order
abbrev Shown : Type 0
Shown = List (ℕ × (ℕ × ℕ))

abbrev seen : AfsFetchStatus → ℕ × (ℕ × ℕ)
seen s = (s.file_type, (s.link_count, s.sync_counter))

abbrev shown_by : Option FsReply → Shown
shown_by (Some (replies.StoreData s sync)) = seen s ∷ []
shown_by (Some (replies.StoreAcl s sync)) = seen s ∷ []
shown_by (Some (replies.StoreStatus s sync)) = seen s ∷ []
shown_by (Some (replies.RemoveFile s sync)) = seen s ∷ []
shown_by (Some (replies.CreateFile x s t callback sync)) = (x.vnode, (x.unique, x.volume)) ∷ seen s ∷ seen t ∷ []
shown_by (Some (replies.Rename s t sync)) = seen s ∷ seen t ∷ []
shown_by (Some (replies.Symlink x s t sync)) = (x.vnode, (x.unique, x.volume)) ∷ seen s ∷ seen t ∷ []
shown_by (Some (replies.Link s t sync)) = seen s ∷ seen t ∷ []
shown_by (Some (replies.MakeDir x s t callback sync)) = (x.vnode, (x.unique, x.volume)) ∷ seen s ∷ seen t ∷ []
shown_by (Some (replies.RemoveDir s sync)) = seen s ∷ []
shown_by r = []

abbrev change_shown : Result → FsCall → Shown
change_shown (changes es n) call = shown_by (change_reply 5 (the_user (codes "u")) (λ (x : Fid). 50) (after call) n call)
change_shown r call = []

abbrev shown : FsCall → Shown
shown call = change_shown (op 5 (the_user (codes "u")) call other_uniques) call

reply_to_store : shown (store (fid 2 8) (codes "x")) ≡ (1, (1, 2)) ∷ []
unfolding rights_of acl_at count_at line_number_at acl_entry_at name_at named_at bytes_below directory_bytes name_bytes opaque word pad name_ok
reply_to_store = refl

reply_to_store_acl : shown (calls.StoreAcl (fid 3 9) (codes "0\n0\n")) ≡ (2, (3, 2)) ∷ []
unfolding rights_of acl_at count_at line_number_at acl_entry_at name_at named_at bytes_below directory_bytes name_bytes opaque word pad name_ok
reply_to_store_acl = refl

reply_to_store_status : shown (calls.StoreStatus (fid 6 13) (status 8)) ≡ (3, (1, 2)) ∷ []
unfolding rights_of acl_at count_at line_number_at acl_entry_at name_at named_at bytes_below directory_bytes name_bytes opaque word pad name_ok
reply_to_store_status = refl

reply_to_create : shown (calls.CreateFile (fid 3 9) (codes "x") (status 0)) ≡ (8, (20, 5)) ∷ (1, (1, 1)) ∷ (2, (3, 2)) ∷ []
unfolding rights_of acl_at count_at line_number_at acl_entry_at name_at named_at bytes_below directory_bytes name_bytes opaque word pad name_ok
reply_to_create = refl

reply_to_make_dir : shown (calls.MakeDir (fid 3 9) (codes "x") (status 0)) ≡ (9, (20, 5)) ∷ (2, (2, 1)) ∷ (2, (4, 2)) ∷ []
unfolding rights_of acl_at count_at line_number_at acl_entry_at name_at named_at bytes_below directory_bytes name_bytes opaque word pad name_ok
reply_to_make_dir = refl

reply_to_symlink : shown (calls.Symlink (fid 3 9) (codes "x") [] (status 0)) ≡ (8, (20, 5)) ∷ (3, (1, 1)) ∷ (2, (3, 2)) ∷ []
unfolding rights_of acl_at count_at line_number_at acl_entry_at name_at named_at bytes_below directory_bytes name_bytes opaque word pad name_ok
reply_to_symlink = refl

reply_to_link : shown (calls.Link (fid 3 9) (codes "x") (fid 4 12)) ≡ (1, (3, 2)) ∷ (2, (3, 2)) ∷ []
unfolding rights_of acl_at count_at line_number_at acl_entry_at name_at named_at bytes_below directory_bytes name_bytes opaque word pad name_ok
reply_to_link = refl

reply_to_remove : shown (calls.RemoveFile (fid 3 9) (codes "f")) ≡ (2, (3, 2)) ∷ []
unfolding rights_of acl_at count_at line_number_at acl_entry_at name_at named_at bytes_below directory_bytes name_bytes opaque word pad name_ok
reply_to_remove = refl

reply_to_remove_dir : shown (calls.RemoveDir (fid 3 9) (codes "b")) ≡ (2, (2, 2)) ∷ []
unfolding rights_of acl_at count_at line_number_at acl_entry_at name_at named_at bytes_below directory_bytes name_bytes opaque word pad name_ok
reply_to_remove_dir = refl

reply_to_rename : shown (calls.Rename (fid 3 9) (codes "b") root (codes "x")) ≡ (2, (2, 2)) ∷ (2, (5, 2)) ∷ []
unfolding rights_of acl_at count_at line_number_at acl_entry_at name_at named_at bytes_below directory_bytes name_bytes opaque word pad name_ok
reply_to_rename = refl
