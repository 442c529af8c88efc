-- Worked dumps, restores and clones, computed.
use Rattle.std.proofs.Common.{◌≡◌, ℕ, zero, suc, List, [], ◌∷◌, ◌++◌, length, map, Option, Some, None, Result, Ok, Err, refl, ap, ◌∙◌, lit<, lit≤, take}
use Rattle.std.specs.Prelude.{codes, false, true}
use Rattle.std.specs.Fmt.{decimal}
use Rattle.std.proofs.lemmas.Fmt.{decimal_digit, decimal_step}
use Rattle.afs_num.specs.Names.{name_ok}
use Rattle.afs_xdr.specs.Words.{word, words, opaque, pad, word_at, opaque_at, counted_at}
use Rattle.spec_ideal.specs.AccessLists as acls
use Rattle.spec_ideal.specs.Directories as directories
use Rattle.spec_ideal.specs.VnodeImage.{kind_fits}
use Rattle.spec_ideal.specs.Images.{Image, value_of}
use Rattle.spec_ideal.specs.SetUp.{new_root, new_volume}
use Rattle.spec_ideal.specs.Volumes.{a_file, Vnode}
use Rattle.spec_records.specs.Durable.{Stored}
use Rattle.spec_records.specs.Sound.{is_sound}
use Rattle.spec_dumps.specs.Fields.{FieldTaken, took, cut_at, bad_at, ◌>>=◌}
use Rattle.spec_dumps.specs.Clones.{next_release, cloned, recloned}
use Rattle.spec_dumps.specs.Dumps.{Dump, dump_of, images_since}
use Rattle.spec_dumps.specs.Streams.{dump_header_field, volume_header_field, live_field, image_field, next_at, dump_field, dump_bytes, dump_at}
use Rattle.spec_dumps.specs.Restores.{restored, fed, restored_from}
use Rattle.spec_dumps.specs.Feeding.{Stage, at_headers, at_end, stepped}

-- ---- a new volume

abbrev home : ℕ
home = 536870912

abbrev new : Stored
new = record { volume = new_volume home (codes "proj") 0 0 1000; times = (1, 0) ∷ []; is_new = false }

one_is : decimal 1 ≡ codes "1"
one_is = decimal_digit 1 (lit< tt)

zero_is : decimal 0 ≡ codes "0"
zero_is = decimal_digit 0 (lit< tt)

all_rights_is : decimal 127 ≡ codes "127"
all_rights_is = decimal_step 127 (lit≤ tt) (lit< tt) ∙ ap (λ (t : List ℕ). t ++ (55 ∷ [])) (decimal_step 12 (lit≤ tt) (lit< tt) ∙ ap (λ (t : List ℕ). t ++ (50 ∷ [])) one_is)

list_text : acls.acl_text new_root.acl ≡ codes "1\n0\nsystem:anyuser\t127\n"
unfolding acls.acl_text acls.acl_entry_text
list_text = rw (one_is, zero_is, all_rights_is) refl

-- the headers; the list, of the root alone; the root's image; the end
abbrev new_headers : List ℕ
new_headers = 1 ∷ 3013677858 ∷ 1 ∷ 536870912 ∷ 4 ∷ 1886547818 ∷ 0 ∷ 2 ∷ 536870912 ∷ 536870912 ∷ 0 ∷ 1000 ∷ 2 ∷ 1 ∷ 0 ∷ []

abbrev root_words : List ℕ
root_words = 1 ∷ 1 ∷ 2 ∷ 1 ∷ 1 ∷ 2 ∷ 0 ∷ 0 ∷ 493 ∷ 0 ∷ 0 ∷ 0 ∷ 0 ∷ 0 ∷ 1 ∷ 23 ∷ 822751242 ∷ 1937339252 ∷ 1701657185 ∷ 1853453683 ∷ 1701972273 ∷ 842467840 ∷ 4 ∷ 0 ∷ []

abbrev new_words : List ℕ
new_words = new_headers ++ (1 ∷ 1 ∷ 1 ∷ 3 ∷ root_words ++ 4 ∷ 975260526 ∷ [])

new_dump : dump_bytes (dump_of home 0 new) ≡ words new_words
unfolding dump_field dump_header_field volume_header_field live_field image_field word opaque pad directories.directory_bytes directories.name_bytes
new_dump = rw list_text refl

new_is_180 : length (dump_bytes (dump_of home 0 new)) ≡ 180
unfolding word
new_is_180 = ap length new_dump ∙ refl

-- restored, it is the volume again
new_again : restored_from home new (words new_words) ≡ Ok new
unfolding restored_from dump_at dump_field dump_header_field volume_header_field live_field image_field next_at word opaque pad word_at opaque_at counted_at kind_fits value_of is_sound directories.directory_of directories.whole_at directories.count_at directories.names_at directories.name_at directories.spelled_at directories.bytes_below acls.acl_at acls.count_at acls.line_number_at acls.acl_entry_at acls.name_at acls.named_at name_ok
new_again = refl

-- Cut by one byte it isn't refused, since the last byte may come; where the stream ends so, it is refused at the last word.
new_cut : fed (take 179 (words new_words)) ≡ None
unfolding fed dump_at dump_field dump_header_field volume_header_field live_field image_field next_at word opaque pad word_at opaque_at counted_at kind_fits value_of is_sound directories.directory_of directories.whole_at directories.count_at directories.names_at directories.name_at directories.spelled_at directories.bytes_below acls.acl_at acls.count_at acls.line_number_at acls.acl_entry_at acls.name_at acls.named_at name_ok
new_cut = refl

new_ends_cut : restored_from home new (take 179 (words new_words)) ≡ Err 176
unfolding restored_from dump_at dump_field dump_header_field volume_header_field live_field image_field next_at word opaque pad word_at opaque_at counted_at kind_fits value_of is_sound directories.directory_of directories.whole_at directories.count_at directories.names_at directories.name_at directories.spelled_at directories.bytes_below acls.acl_at acls.count_at acls.line_number_at acls.acl_entry_at acls.name_at acls.named_at name_ok
new_ends_cut = refl

-- ---- streams that are wrong for one reason each

-- one word is another one: its place, from 0, and what it is
abbrev with_word : ℕ → ℕ → List ℕ → List ℕ
with_word n x [] = []
with_word zero x (w ∷ ws) = x ∷ ws
with_word (suc n) x (w ∷ ws) = w ∷ with_word n x ws

abbrev ends_with : ℕ × ℕ → Result Stored ℕ
ends_with p = restored_from home new (words (with_word p.0 p.1 new_words))

-- In the headers: the tag, the magic, the version; a name of 33 bytes, and of as many as a word says; the tag of the second one. In the
-- list: a count of 4,097, and of as many as a word says.
wrong_headers : map ends_with ((0, 2) ∷ (1, 0) ∷ (2, 2) ∷ (4, 33) ∷ (4, 4294967295) ∷ (7, 3) ∷ (15, 4097) ∷ (15, 4294967295) ∷ []) ≡ Err 0 ∷ Err 4 ∷ Err 8 ∷ Err 16 ∷ Err 16 ∷ Err 28 ∷ Err 60 ∷ Err 60 ∷ []
unfolding restored_from dump_at dump_field dump_header_field volume_header_field live_field image_field next_at word opaque pad word_at opaque_at counted_at kind_fits value_of is_sound directories.directory_of directories.whole_at directories.count_at directories.names_at directories.name_at directories.spelled_at directories.bytes_below acls.acl_at acls.count_at acls.line_number_at acls.acl_entry_at acls.name_at acls.named_at name_ok
wrong_headers = refl

-- In the image: its tag; a vnode that isn't listed; another unique number; the type of a file under an odd number; an access list that is
-- too long, has another byte than 0 in its pad, or can't be read; contents that are too long, or are no names.
wrong_image : map ends_with ((18, 5) ∷ (19, 3) ∷ (20, 2) ∷ (21, 1) ∷ (34, 1025) ∷ (34, 4294967295) ∷ (40, 842467841) ∷ (35, 0) ∷ (41, 2097153) ∷ (41, 4294967295) ∷ (42, 1) ∷ []) ≡ Err 72 ∷ Err 76 ∷ Err 80 ∷ Err 84 ∷ Err 136 ∷ Err 136 ∷ Err 136 ∷ Err 136 ∷ Err 164 ∷ Err 164 ∷ Err 164 ∷ []
unfolding restored_from dump_at dump_field dump_header_field volume_header_field live_field image_field next_at word opaque pad word_at opaque_at counted_at kind_fits value_of is_sound directories.directory_of directories.whole_at directories.count_at directories.names_at directories.name_at directories.spelled_at directories.bytes_below acls.acl_at acls.count_at acls.line_number_at acls.acl_entry_at acls.name_at acls.named_at name_ok
wrong_image = refl

-- At the end: its tag, its magic.
wrong_end : map ends_with ((43, 5) ∷ (44, 0) ∷ []) ≡ Err 172 ∷ Err 176 ∷ []
unfolding restored_from dump_at dump_field dump_header_field volume_header_field live_field image_field next_at word opaque pad word_at opaque_at counted_at kind_fits value_of is_sound directories.directory_of directories.whole_at directories.count_at directories.names_at directories.name_at directories.spelled_at directories.bytes_below acls.acl_at acls.count_at acls.line_number_at acls.acl_entry_at acls.name_at acls.named_at name_ok
wrong_end = refl

-- Each field is good, but the volume isn't sound: its next unique number isn't above the root's, or the root has another link count.
-- This is refused at the tag of the end.
unsound : map ends_with ((12, 1) ∷ (24, 3) ∷ []) ≡ Err 172 ∷ Err 172 ∷ []
unfolding restored_from dump_at dump_field dump_header_field volume_header_field live_field image_field next_at word opaque pad word_at opaque_at counted_at kind_fits value_of is_sound directories.directory_of directories.whole_at directories.count_at directories.names_at directories.name_at directories.spelled_at directories.bytes_below acls.acl_at acls.count_at acls.line_number_at acls.acl_entry_at acls.name_at acls.named_at name_ok
unsound = refl

-- a byte after the end
too_long : restored_from home new (words new_words ++ 0 ∷ []) ≡ Err 180
unfolding restored_from dump_at dump_field dump_header_field volume_header_field live_field image_field next_at word opaque pad word_at opaque_at counted_at kind_fits value_of is_sound directories.directory_of directories.whole_at directories.count_at directories.names_at directories.name_at directories.spelled_at directories.bytes_below acls.acl_at acls.count_at acls.line_number_at acls.acl_entry_at acls.name_at acls.named_at name_ok
too_long = refl

-- no vnode 1
no_root : restored_from home new (words (new_headers ++ 0 ∷ 4 ∷ 975260526 ∷ [])) ≡ Err 64
unfolding restored_from dump_at dump_field dump_header_field volume_header_field live_field image_field next_at word opaque pad word_at opaque_at counted_at kind_fits value_of is_sound directories.directory_of directories.whole_at directories.count_at directories.names_at directories.name_at directories.spelled_at directories.bytes_below acls.acl_at acls.count_at acls.line_number_at acls.acl_entry_at acls.name_at acls.named_at name_ok
no_root = refl

-- a vnode 2 that the dump lists without an image, and the volume hasn't
nowhere : restored_from home new (words (new_headers ++ (2 ∷ 1 ∷ 1 ∷ 2 ∷ 2 ∷ 3 ∷ root_words ++ 4 ∷ 975260526 ∷ []))) ≡ Err 180
unfolding restored_from dump_at dump_field dump_header_field volume_header_field live_field image_field next_at word opaque pad word_at opaque_at counted_at kind_fits value_of is_sound directories.directory_of directories.whole_at directories.count_at directories.names_at directories.name_at directories.spelled_at directories.bytes_below acls.acl_at acls.count_at acls.line_number_at acls.acl_entry_at acls.name_at acls.named_at name_ok
nowhere = refl

-- a list that doesn't ascend
listed_twice : restored_from home new (words (new_headers ++ (2 ∷ 1 ∷ 1 ∷ 1 ∷ 1 ∷ 3 ∷ root_words ++ 4 ∷ 975260526 ∷ []))) ≡ Err 72
unfolding restored_from dump_at dump_field dump_header_field volume_header_field live_field image_field next_at word opaque pad word_at opaque_at counted_at kind_fits value_of is_sound directories.directory_of directories.whole_at directories.count_at directories.names_at directories.name_at directories.spelled_at directories.bytes_below acls.acl_at acls.count_at acls.line_number_at acls.acl_entry_at acls.name_at acls.named_at name_ok
listed_twice = refl

-- the same image twice
told_twice : restored_from home new (words (new_headers ++ (1 ∷ 1 ∷ 1 ∷ 3 ∷ root_words ++ (3 ∷ root_words ++ 4 ∷ 975260526 ∷ [])))) ≡ Err 176
unfolding restored_from dump_at dump_field dump_header_field volume_header_field live_field image_field next_at word opaque pad word_at opaque_at counted_at kind_fits value_of is_sound directories.directory_of directories.whole_at directories.count_at directories.names_at directories.name_at directories.spelled_at directories.bytes_below acls.acl_at acls.count_at acls.line_number_at acls.acl_entry_at acls.name_at acls.named_at name_ok
told_twice = refl

-- ---- a stream that comes in pieces: it is refused as soon as the bad field is whole, or the count of an opaque is above its limit

abbrev fed_of : ℕ × (ℕ × ℕ) → Option ℕ
fed_of p = fed (take p.0 (words (with_word p.1.0 p.1.1 new_words)))

refused_soon : map fed_of ((83, (20, 2)) ∷ (84, (20, 2)) ∷ (19, (4, 33)) ∷ (20, (4, 33)) ∷ (163, (40, 842467841)) ∷ (164, (40, 842467841)) ∷ []) ≡ None ∷ Some 80 ∷ None ∷ Some 16 ∷ None ∷ Some 136 ∷ []
unfolding fed dump_at dump_field dump_header_field volume_header_field live_field image_field next_at word opaque pad word_at opaque_at counted_at kind_fits value_of is_sound directories.directory_of directories.whole_at directories.count_at directories.names_at directories.name_at directories.spelled_at directories.bytes_below acls.acl_at acls.count_at acls.line_number_at acls.acl_entry_at acls.name_at acls.named_at name_ok
refused_soon = refl

-- ---- a reader of its fields

abbrev stepped_times : ℕ → Stage → List ℕ → FieldTaken Stage
stepped_times zero stage bytes = took stage bytes
stepped_times (suc n) stage bytes = stepped stage bytes >>= λ x. stepped_times n x.0 x.1

abbrev root_image : Image
root_image = record {
  vnode = 1;
  unique = 1;
  kind = 2;
  index = 1;
  data_version = 1;
  link_count = 2;
  owner = 0;
  group = 0;
  mode = 493;
  segment_size = 0;
  client_time = 0;
  server_time = 0;
  parent_vnode = 0;
  parent_unique = 0;
  change_counter = 1;
  acl = codes "1\n0\nsystem:anyuser\t127\n";
  contents = words (0 ∷ []);
}

abbrev new_read : Dump
new_read = record {
  headers = record {
    dump = record { id = home; name = codes "proj"; from = 0 };
    volume = record { id = home; family = home; kind = 0; quota = 1000; next = 2; counter = 1; release = 0 };
  };
  live = (1, 1) ∷ [];
  images = root_image ∷ [];
}

-- the headers, the count, one pair and no more, the image's words, its access list, its contents, no image more, the magic
new_steps : stepped_times 9 at_headers (words new_words) ≡ took (at_end new_read) []
unfolding dump_header_field volume_header_field live_field image_field next_at word opaque pad word_at opaque_at counted_at kind_fits value_of is_sound directories.directory_of directories.whole_at directories.count_at directories.names_at directories.name_at directories.spelled_at directories.bytes_below acls.acl_at acls.count_at acls.line_number_at acls.acl_entry_at acls.name_at acls.named_at name_ok
new_steps = refl

-- in the middle of the contents' count the reader has taken six steps
new_steps_cut : stepped_times 7 at_headers (take 166 (words new_words)) ≡ cut_at (0 ∷ 0 ∷ [])
unfolding dump_header_field volume_header_field live_field image_field next_at word opaque pad word_at opaque_at counted_at kind_fits value_of is_sound directories.directory_of directories.whole_at directories.count_at directories.names_at directories.name_at directories.spelled_at directories.bytes_below acls.acl_at acls.count_at acls.line_number_at acls.acl_entry_at acls.name_at acls.named_at name_ok
new_steps_cut = refl

-- ---- an increment

-- a root that names one file, which was changed when the counter rose to 3
abbrev root : Vnode
root = record new_root { index = 2; data_version = 2; changed = 2; names = (record { name = codes "a"; vnode = 2; unique = 2 }) ∷ [] }

abbrev file : Vnode
file = record new_root { unique = 2; kind = a_file; index = 2; data_version = 2; links = 1; mode = 420; parent = 1; parent_unique = 1; changed = 3; contents = codes "abc"; acl = record { positive = []; negative = [] } }

abbrev grown : Stored
grown = record {
  volume = record new.volume { next = 3; counter = 3; vnodes = (1, root) ∷ (2, file) ∷ [] };
  times = (1, 5) ∷ (2, 7) ∷ [];
  is_new = false;
}

-- what was changed since the counter stood at 2 is the file; since 3 nothing was
since_2 : map (λ (i : Image). i.vnode) (images_since 2 grown) ≡ 2 ∷ []
since_2 = refl

since_3 : images_since 3 grown ≡ []
since_3 = refl

-- a copy as of counter 2, under this family, kind and name; a file that was removed since is there
abbrev copy : ℕ → ℕ → Stored
copy family kind = record {
  volume = record new.volume {
    family = family;
    name = codes "copy";
    kind = kind;
    flags = 2;
    counter = 2;
    next = 3;
    vnodes = (1, root) ∷ (2, record file { changed = 2; contents = [] }) ∷ (4, record file { unique = 4 }) ∷ [];
  };
  times = (1, 5) ∷ (2, 6) ∷ (4, 6) ∷ [];
  is_new = true;
}

abbrev grown_as : ℕ → ℕ → Stored
grown_as family kind = record grown { volume = record grown.volume { family = family; name = codes "copy"; kind = kind; flags = 2 }; is_new = true }

abbrev other : ℕ
other = 536870920

-- Over a copy of its own family, the increment gives the volume, under the copy's name, kind and flags.
same_family : restored home (copy home 0) (dump_of home 2 grown) ≡ Some (grown_as home 0)
unfolding value_of is_sound
same_family = refl

-- So it does in a read-only volume of another family.
read_only : restored other (copy other 1) (dump_of home 2 grown) ≡ Some (grown_as other 1)
unfolding value_of is_sound
read_only = refl

-- In a read-write volume of another family each index is 1, also that of the root, which comes from the copy.
other_family : restored other (copy other 0) (dump_of home 2 grown) ≡ Some (record (grown_as other 0) { volume = record (grown_as other 0).volume { vnodes = (1, record root { index = 1 }) ∷ (2, record file { index = 1 }) ∷ [] } })
unfolding value_of is_sound
other_family = refl

-- Over a volume that hasn't the root with its names, no sound volume comes of it; and since 3 the file has no image.
not_held : restored home new (dump_of home 2 grown) ≡ None
unfolding value_of is_sound
not_held = refl

not_dumped : restored home new (dump_of home 3 grown) ≡ None
unfolding value_of is_sound
not_dumped = refl

-- ---- clones

first_release : next_release new ≡ 1
first_release = refl

second_release : next_release (record new { volume = record new.volume { release = next_release new } }) ≡ 2
second_release = refl

abbrev backup : Stored
backup = cloned (codes "proj.backup") 2 (next_release new) new

a_backup : (backup.volume.vnodes ≡ new.volume.vnodes) × (backup.volume.release ≡ 1)
a_backup = (refl, refl)

-- of the volume after it grew; name and kind stay
backup_again : recloned backup 2 grown ≡ record grown { volume = record grown.volume { name = codes "proj.backup"; kind = 2; release = 2 } }
backup_again = refl
