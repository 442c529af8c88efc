-- How a volume in memory is seen as a volume of the definitions: the contents of a directory as its names, an access list by its
-- text. The times of the server stay in the images of the vnodes.
use Rattle.std.specs.Prelude.{◌≡◌, ◌≤◌, ℕ, List, [], Bool, true, not, Option, Some, None, Result, Ok, Err, map, length, nat_eq, nat_lt, is_ok, if◌then◌else◌}
use Rattle.afs_num.specs.declared.acls.AccessList.{AccessList}
use Rattle.afs_num.specs.declared.directories.Name.{Name}
use Rattle.afs_num.specs.declared.vnodes.Vnode as image
use Rattle.afs_num.specs.declared.volumes.VolumeHead.{VolumeHead}
use Rattle.spec_ideal.specs.AccessLists.{acl_at, no_acl}
use Rattle.spec_ideal.specs.Directories.{directory_of, directory_bytes}
use Rattle.spec_ideal.specs.Tables.{Table, get}
use Rattle.spec_ideal.specs.Volumes.{VnodeKind, a_file, a_directory, a_link, type_of, Vnode, Volume}
use Rattle.spec_records.specs.Records.{most_name}
use Rattle.spec_shape.specs.Tables.{IsVolumeKind}

-- ---- vnodes

abbrev pub kind_seen : ℕ → VnodeKind
kind_seen k = if nat_eq k 2 then a_directory else (if nat_eq k 3 then a_link else a_file)

-- what is read, or nothing
abbrev pub names_read : {E : Type 0} → Result (List Name) E → List Name
names_read {E} (Ok names) = names
names_read {E} (Err e) = []

abbrev pub list_read : {E : Type 0} → Result AccessList E → AccessList
list_read {E} (Ok a) = a
list_read {E} (Err e) = no_acl

-- the names that bytes spell
unfoldable pub names_spelled : List ℕ → List Name
names_spelled bytes = names_read (directory_of bytes)

-- the list of a text
unfoldable pub list_spelled : List ℕ → AccessList
list_spelled text = list_read (acl_at text)

abbrev pub contents_seen : VnodeKind → List ℕ → List ℕ
contents_seen a_directory bytes = []
contents_seen kind bytes = bytes

abbrev pub names_seen : VnodeKind → List ℕ → List Name
names_seen a_directory bytes = names_spelled bytes
names_seen kind bytes = []

abbrev pub list_seen : VnodeKind → List ℕ → AccessList
list_seen a_directory text = list_spelled text
list_seen kind text = no_acl

unfoldable pub seen : image.Vnode → Vnode
seen x = record {
  unique = x.unique;
  kind = kind_seen x.kind;
  index = x.index;
  data_version = x.data_version;
  links = x.link_count;
  owner = x.owner;
  group = x.group;
  mode = x.mode;
  segment_size = x.segment_size;
  client_time = x.client_time;
  parent = x.parent_vnode;
  parent_unique = x.parent_unique;
  changed = x.change_counter;
  contents = contents_seen (kind_seen x.kind) x.contents;
  names = names_seen (kind_seen x.kind) x.contents;
  acl = list_seen (kind_seen x.kind) x.acl;
}

unfoldable pub all_seen : Table image.Vnode → Table Vnode
all_seen t = map (λ (p : ℕ × image.Vnode). (p.0, seen p.1)) t

-- ---- volumes

abbrev pub volume_seen : VolumeHead → Table image.Vnode → Volume
volume_seen head t = record {
  family = head.family;
  name = head.name;
  kind = head.kind;
  flags = head.flags;
  quota = head.quota;
  next = head.unique;
  counter = head.counter;
  release = head.release;
  vnodes = all_seen t;
}

-- ---- what the head of every volume keeps

-- a record, a dump and the reply to GetVolumeStatus can tell it
pub record FitsHead (head : VolumeHead) : Type 0 where
  pub kind : IsVolumeKind head.kind
  pub name : length head.name ≤ most_name

-- ---- what every vnode of a volume keeps

-- a directory alone has the text of an access list
abbrev pub text_by : VnodeKind → List ℕ → List ℕ
text_by a_directory text = text
text_by kind text = []

-- its kind is one; the contents of a directory spell its names, and its access list has a text; what is no directory has none
abbrev pub IsReadable : image.Vnode → Type 0
IsReadable x =
    (type_of (kind_seen x.kind) ≡ x.kind)
    × ((kind_seen x.kind ≡ a_directory → directory_bytes (names_spelled x.contents) ≡ x.contents) × ((kind_seen x.kind ≡ a_directory → is_ok (acl_at x.acl) ≡ true) × (text_by (kind_seen x.kind) x.acl ≡ x.acl)))

abbrev pub AreReadable : Table image.Vnode → Type 0
AreReadable t = (n : ℕ) (x : image.Vnode) → get n t ≡ Some x → IsReadable x

-- ---- what an edit gives

-- the bytes are those of the names as which they are read
abbrev pub respelled : Option (List ℕ) → Option (List ℕ)
respelled None = None
respelled (Some bytes) = Some (directory_bytes (names_spelled bytes))

abbrev pub SpellsNames : Option (List ℕ) → Type 0
SpellsNames o = respelled o ≡ o

-- the text is that of an access list
abbrev pub is_list : Option (List ℕ) → Bool
is_list None = true
is_list (Some text) = is_ok (acl_at text)

abbrev pub SpellsList : Option (List ℕ) → Type 0
SpellsList o = is_list o ≡ true

-- at most so many bytes
abbrev pub is_within : ℕ → Option (List ℕ) → Bool
is_within most None = true
is_within most (Some bytes) = not (nat_lt most (length bytes))
