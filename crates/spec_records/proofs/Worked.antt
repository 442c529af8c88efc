-- Worked records: the first, a change and a start of a server with one file, as words of their bytes.
use Rattle.std.proofs.Common.{◌≡◌, ℕ, List, [], ◌∷◌, Some, ◌++◌, refl, length, ap, ◌∙◌, lit<, lit≤}
use Rattle.std.specs.Prelude.{codes, true, false}
use Rattle.std.specs.Fmt.{decimal}
use Rattle.std.proofs.lemmas.Fmt.{decimal_digit, decimal_step}
use Rattle.afs_num.specs.declared.types.Node.TheVariants.{Client}
use Rattle.afs_num.specs.declared.vnodes.Vnode.{Vnode}
use Rattle.spec_history.specs.declared.acts.Written.TheVariants.{Hex}
use Rattle.spec_history.specs.declared.scripts.SetupLine.TheVariants as setup
use Rattle.spec_history.specs.declared.scripts.VolumeLine.{VolumeLine}
use Rattle.afs_xdr.specs.Words.{word, words, opaque, pad}
use Rattle.spec_ideal.specs.AccessLists as acls
use Rattle.spec_ideal.specs.Directories as directories
use Rattle.spec_ideal.specs.VnodeImage.{image}
use Rattle.spec_ideal.specs.SetUp.{new_root, led, laid_at}
use Rattle.afs_num.specs.Names.{name_ok}
use Rattle.afs_num.specs.declared.records.StoredVolume.{StoredVolume}
use Rattle.afs_num.specs.declared.records.RecordBody.TheVariants as bodies
use Rattle.afs_num.specs.declared.records.StoreRecord.{StoreRecord}
use Rattle.spec_records.specs.Records.{head_form, volume_form, record_bytes}
use Rattle.spec_records.specs.Durable.{Durable, has_room}
use Rattle.spec_records.specs.Changes.{no_head, boot_record, can_boot, first_record}

-- ---- a volume with one file

abbrev pub home : ℕ
home = 536870912

abbrev line : VolumeLine
line = record { id = home; name = codes "proj"; server = 1; quota = 1000; lines = setup.File (codes "a" ∷ []) (Hex (codes "abc")) ∷ [] }

abbrev root : Vnode
root = record {
  vnode = 1;
  unique = 1;
  kind = 2;
  index = 1;
  data_version = 1;
  link_count = 2;
  owner = 0;
  group = 0;
  mode = 493;
  segment_size = 0;
  client_time = 0;
  server_time = 0;
  parent_vnode = 0;
  parent_unique = 0;
  change_counter = 1;
  acl = codes "1\n0\nsystem:anyuser\t127\n";
  contents = words (1 ∷ 1 ∷ 1627389952 ∷ 2 ∷ 2 ∷ []);
}

abbrev file : Vnode
file = record {
  vnode = 2;
  unique = 2;
  kind = 1;
  index = 1;
  data_version = 1;
  link_count = 1;
  owner = 0;
  group = 0;
  mode = 420;
  segment_size = 0;
  client_time = 0;
  server_time = 0;
  parent_vnode = 1;
  parent_unique = 1;
  change_counter = 1;
  acl = [];
  contents = codes "abc";
}

abbrev volume : StoredVolume
volume = record {
  head = record { id = home; family = home; name = codes "proj"; kind = 0; flags = 0; quota = 1000; unique = 3; counter = 1; release = 0 };
  vnodes = root ∷ file ∷ [];
}

abbrev first : StoreRecord
first = record { head = no_head; body = bodies.First (volume ∷ []) }

abbrev pub first_words : List ℕ
first_words =
    1 ∷ 0 ∷ 0 ∷ 0 ∷ 0 ∷ 0 ∷ 0 ∷ 1 ∷ 4 ∷ 1886547818 ∷ 0 ∷ 2 ∷ 536870912 ∷ 536870912 ∷ 0 ∷ 1000 ∷ 3 ∷ 1 ∷ 0 ∷ 2 ∷ 1 ∷ 1 ∷ 2 ∷ 2 ∷ 3 ∷ 1 ∷ 1 ∷ 2 ∷ 1 ∷ 1
    ∷ 2 ∷ 0 ∷ 0 ∷ 493 ∷ 0 ∷ 0 ∷ 0 ∷ 0 ∷ 0 ∷ 1 ∷ 23 ∷ 822751242 ∷ 1937339252 ∷ 1701657185 ∷ 1853453683 ∷ 1701972273 ∷ 842467840 ∷ 20 ∷ 1 ∷ 1 ∷
    1627389952 ∷ 2 ∷ 2 ∷ 3 ∷ 2 ∷ 2 ∷ 1 ∷ 1 ∷ 1 ∷ 1 ∷ 0 ∷ 0 ∷ 420 ∷ 0 ∷ 0 ∷ 0 ∷ 1 ∷ 1 ∷ 1 ∷ 0 ∷ 3 ∷ 1633837824 ∷ []

-- the reply to a store of three bytes
abbrev pub reply : List ℕ
reply = words (
    2 ∷ 1 ∷ 101 ∷ 1 ∷ 1 ∷ 1 ∷ 0 ∷ 133 ∷ 0 ∷ 1 ∷ 1 ∷ 1 ∷ 3 ∷ 2 ∷ 0 ∷ 0 ∷ 127 ∷ 127 ∷ 420 ∷ 1 ∷ 1 ∷ 0 ∷ 0 ∷ 0 ∷ 0 ∷ 2 ∷ 0 ∷ 0 ∷ 0 ∷ 0 ∷ 0 ∷ 0 ∷ 0 ∷ 0 ∷
    0 ∷ 0 ∷ [])

abbrev change : StoreRecord
change = record {
  head = record no_head { caller = Some (Client 1); epoch = 1; number = 1; reply = reply };
  body = bodies.Change home 2 3 (record file { index = 2; data_version = 2; change_counter = 2; contents = codes "def" } ∷ []) [];
}

abbrev pub change_words : List ℕ
change_words =
    2 ∷ 0 ∷ 0 ∷ 101 ∷ 1 ∷ 1 ∷ 144 ∷ 2 ∷ 1 ∷ 101 ∷ 1 ∷ 1 ∷ 1 ∷ 0 ∷ 133 ∷ 0 ∷ 1 ∷ 1 ∷ 1 ∷ 3 ∷ 2 ∷ 0 ∷ 0 ∷ 127 ∷ 127 ∷ 420 ∷ 1 ∷ 1 ∷ 0 ∷ 0 ∷ 0 ∷ 0 ∷ 2 ∷
    0 ∷ 0 ∷ 0 ∷ 0 ∷ 0 ∷ 0 ∷ 0 ∷ 0 ∷ 0 ∷ 0 ∷ 536870912 ∷ 2 ∷ 3 ∷ 1 ∷ 2 ∷ 2 ∷ 1 ∷ 2 ∷ 2 ∷ 1 ∷ 0 ∷ 0 ∷ 420 ∷ 0 ∷ 0 ∷ 0 ∷ 1 ∷ 1 ∷ 2 ∷ 0 ∷ 3 ∷ 1684366848
    ∷ 0 ∷ []

abbrev pub start_words : List ℕ
start_words =
    3 ∷ 0 ∷ 0 ∷ 0 ∷ 0 ∷ 0 ∷ 0 ∷ 2 ∷ []

-- ---- their bytes

first_bytes : record_bytes first ≡ words first_words
unfolding record_bytes head_form volume_form word opaque pad image
first_bytes = refl

change_bytes : record_bytes change ≡ words change_words
unfolding record_bytes head_form word opaque pad image
change_bytes = refl

start_bytes : record_bytes (boot_record 2) ≡ words start_words
unfolding record_bytes head_form word opaque pad
start_bytes = refl

first_is_288 : length (record_bytes first) ≡ 288
unfolding word
first_is_288 = ap length first_bytes ∙ refl

change_is_264 : length (record_bytes change) ≡ 264
unfolding word
change_is_264 = ap length change_bytes ∙ refl

start_is_32 : length (record_bytes (boot_record 2)) ≡ 32
unfolding word
start_is_32 = ap length start_bytes ∙ refl

-- ---- set-up makes the first

one_is : decimal 1 ≡ codes "1"
one_is = decimal_digit 1 (lit< tt)

zero_is : decimal 0 ≡ codes "0"
zero_is = decimal_digit 0 (lit< tt)

all_rights_is : decimal 127 ≡ codes "127"
all_rights_is = decimal_step 127 (lit≤ tt) (lit< tt) ∙ ap (λ (t : List ℕ). t ++ (55 ∷ [])) (decimal_step 12 (lit≤ tt) (lit< tt) ∙ ap (λ (t : List ℕ). t ++ (50 ∷ [])) one_is)

list_text : acls.acl_text new_root.acl ≡ codes "1\n0\nsystem:anyuser\t127\n"
unfolding acls.acl_text acls.acl_entry_text
list_text = rw (one_is, zero_is, all_rights_is) refl

set_up_makes_it : first_record (line ∷ []) ≡ Some first
unfolding led laid_at directories.directory_bytes directories.name_bytes word opaque pad directories.bytes_below name_ok
set_up_makes_it = rw list_text refl

-- ---- whether a change fits: the journal with the first record has 298 bytes, the place of the change 273

abbrev disk_of : ℕ → Durable
disk_of capacity = record { boot = 1; volumes = []; stamps = []; forwardings = []; kept = []; journal = 298; capacity = capacity }

no_room : has_room (disk_of 570) change ≡ false
no_room = rw change_is_264 refl

just_room : has_room (disk_of 571) change ≡ true
just_room = rw change_is_264 refl

no_start : can_boot (disk_of 338) ≡ false
no_start = rw start_is_32 refl

a_start : can_boot (disk_of 339) ≡ true
a_start = rw start_is_32 refl
