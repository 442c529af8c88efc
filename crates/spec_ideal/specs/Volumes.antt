-- A volume as a value, and its changes: a list of edits, of which one function makes the new volume and the versions that
-- are told. A value has no time of the server's: when a vnode was changed last stands beside it, since an interrupted step is
-- told by a restart, at a clock that the restart's entry doesn't have.
use Rattle.std.specs.Prelude.{ℕ, ◌+◌, ◌/◌, List, [], ◌∷◌, ◌++◌, Bool, true, false, length, Option, Some, None, nat_eq, nat_lt, bit_and, not, if◌then◌else◌}
use Rattle.std.specs.Option.{option_map}
use Rattle.afs_num.specs.declared.types.Fid.{Fid}
use Rattle.afs_num.specs.declared.acls.AccessList.{AccessList}
use Rattle.afs_num.specs.declared.calls.AfsStoreStatus.{AfsStoreStatus}
use Rattle.afs_num.specs.declared.directories.Name.{Name}
use Rattle.afs_num.specs.declared.histories.Body.{Body}
use Rattle.afs_num.specs.declared.histories.Body.TheVariants as bodies
use Rattle.afs_num.specs.declared.histories.Version.{Version}
use Rattle.spec_ideal.specs.Tables.{Table, get, set, unset}
use Rattle.spec_ideal.specs.Directories.{directory_bytes}
use Rattle.spec_ideal.specs.VnodeImage.{file_type, directory_type, link_type}

-- ---- values

pub data VnodeKind : Type 0 where
  a_file : VnodeKind
  a_directory : VnodeKind
  a_link : VnodeKind

-- its number in images and statuses
abbrev pub type_of : VnodeKind → ℕ
type_of a_file = file_type
type_of a_directory = directory_type
type_of a_link = link_type

-- A file has its bytes for contents, a link its text; a directory has names and an access list. The parent is the
-- directory that holds the vnode, 0 and 0 in a root. `links` is the number of a file's or link's names, and of a directory 2
-- and how many directories it holds. `client_time` is what a client set. `changed` is the volume's counter at the last change.
pub record Vnode : Type 0 where
  pub unique : ℕ
  pub kind : VnodeKind
  pub index : ℕ
  pub data_version : ℕ
  pub links : ℕ
  pub owner : ℕ
  pub group : ℕ
  pub mode : ℕ
  pub segment_size : ℕ
  pub client_time : ℕ
  pub parent : ℕ
  pub parent_unique : ℕ
  pub changed : ℕ
  pub contents : List ℕ
  pub names : List Name
  pub acl : AccessList

-- Without its number, by which it is found. The kind is 0 for a read-write volume, 1 for a read-only one, 2 for a backup; `next`
-- is the unique number that the next new vnode gets, `counter` the number of the volume's changes, from 1; `release` counts
-- the clones.
pub record Volume : Type 0 where
  pub family : ℕ
  pub name : List ℕ
  pub kind : ℕ
  pub flags : ℕ
  pub quota : ℕ
  pub next : ℕ
  pub counter : ℕ
  pub release : ℕ
  pub vnodes : Table Vnode

-- ---- what is found

abbrev pub if_unique : ℕ → Option Vnode → Option Vnode
if_unique u None = None
if_unique u (Some x) = if nat_eq x.unique u then Some x else None

abbrev pub vnode_of : Fid → Volume → Option Vnode
vnode_of f v = if_unique f.unique (get f.vnode v.vnodes)

abbrev pub fid_of : ℕ → ℕ → Vnode → Fid
fid_of id n x = record { volume = id; vnode = n; unique = x.unique }

abbrev pub body_by : VnodeKind → Vnode → Body
body_by a_file x = bodies.File x.contents
body_by a_directory x = bodies.Dir x.names
body_by a_link x = bodies.Link x.contents

abbrev pub body_of : Vnode → Body
body_of x = body_by x.kind x

abbrev pub version_at : ℕ → ℕ → Vnode → Version
version_at id n x = record { fid = fid_of id n x; index = x.index; data_version = x.data_version; body = body_of x }

-- ---- blocks

abbrev pub bytes_by : VnodeKind → Vnode → List ℕ
bytes_by a_directory x = directory_bytes x.names
bytes_by k x = x.contents

-- how many bytes a vnode has: a directory as many as its spelling
abbrev pub size_of : Vnode → ℕ
size_of x = length (bytes_by x.kind x)

abbrev pub blocks_of : Vnode → ℕ
blocks_of x = (size_of x + 1023) / 1024

abbrev pub blocks_in : Table Vnode → ℕ
blocks_in [] = 0
blocks_in (p ∷ ps) = blocks_of p.1 + blocks_in ps

-- ---- edits

-- What an edit gives a vnode; None leaves it as it is. Every edit raises the index; contents and names raise the data
-- version as well, also where they are what was there.
pub record Amend : Type 0 where
  pub contents : Option (List ℕ)
  pub names : Option (List Name)
  pub links : Option ℕ
  pub parent : Option (ℕ × ℕ)
  pub status : Option AfsStoreStatus
  pub acl : Option AccessList

pub data Edit : Type 0 where
  amends : ℕ → Amend → Edit
  makes : ℕ → Vnode → Edit
  frees : ℕ → Edit

abbrev pub or_old : {A : Type 0} → Option A → A → A
or_old {A} None x = x
or_old {A} (Some y) x = y

abbrev pub has_body : {A B : Type 0} → Option A → Option B → Bool
has_body {A} {B} None None = false
has_body {A} {B} (Some x) b = true
has_body {A} {B} None (Some y) = true

abbrev pub up_if : Bool → ℕ → ℕ
up_if true n = n + 1
up_if false n = n

-- this bit is in the word
abbrev pub has_bit : ℕ → ℕ → Bool
has_bit bit word = not (nat_eq (bit_and word bit) 0)

-- a word of the status, where the mask has its bit
abbrev pub set_by : Option AfsStoreStatus → ℕ → (AfsStoreStatus → ℕ) → ℕ → ℕ
set_by None bit word old = old
set_by (Some s) bit word old = if has_bit bit s.mask then word s else old

-- the mask names the words that are set: the client's time by 1, the owner by 2, the group by 4, the mode by 8, the segment
-- size by 16
abbrev pub with_status : Option AfsStoreStatus → Vnode → Vnode
with_status s x = record x {
  client_time = set_by s 1 (λ t. t.client_mod_time) x.client_time;
  owner = set_by s 2 (λ t. t.owner) x.owner;
  group = set_by s 4 (λ t. t.group) x.group;
  mode = set_by s 8 (λ t. t.unix_mode_bits) x.mode;
  segment_size = set_by s 16 (λ t. t.seg_size) x.segment_size;
}

-- the vnode after an edit, by the volume's counter after the change
abbrev pub amended : ℕ → Amend → Vnode → Vnode
amended counter a x = record (with_status a.status x) {
  index = x.index + 1;
  data_version = up_if (has_body a.contents a.names) x.data_version;
  contents = or_old a.contents x.contents;
  names = or_old a.names x.names;
  links = or_old a.links x.links;
  parent = or_old (option_map (λ (p : ℕ × ℕ). p.0) a.parent) x.parent;
  parent_unique = or_old (option_map (λ (p : ℕ × ℕ). p.1) a.parent) x.parent_unique;
  acl = or_old a.acl x.acl;
  changed = counter;
}

-- a new vnode has the volume's next unique number, and index and data version 1
abbrev pub fresh : ℕ → ℕ → Vnode → Vnode
fresh counter unique x = record x { unique = unique; index = 1; data_version = 1; changed = counter }

-- the last version of a vnode that goes
abbrev pub gone_at : ℕ → ℕ → Vnode → Version
gone_at id n x = record { fid = fid_of id n x; index = x.index + 1; data_version = x.data_version + 1; body = bodies.Gone }

-- An edit makes a volume and tells a version. One of a vnode that isn't there does nothing and tells nothing, and so does a
-- new vnode where one is.
pub record Edited : Type 0 where
  pub volume : Volume
  pub versions : List Version

abbrev pub nothing_done : Volume → Edited
nothing_done v = record { volume = v; versions = [] }

abbrev pub amends_at : ℕ → ℕ → Amend → Volume → Option Vnode → Edited
amends_at id n a v None = nothing_done v
amends_at id n a v (Some x) = record {
  volume = record v { vnodes = set n (amended (v.counter + 1) a x) v.vnodes };
  versions = version_at id n (amended (v.counter + 1) a x) ∷ [];
}

abbrev pub makes_at : ℕ → ℕ → Vnode → Volume → Option Vnode → Edited
makes_at id n x v None = record {
  volume = record v { vnodes = set n (fresh (v.counter + 1) v.next x) v.vnodes; next = v.next + 1 };
  versions = version_at id n (fresh (v.counter + 1) v.next x) ∷ [];
}
makes_at id n x v (Some y) = nothing_done v

abbrev pub frees_at : ℕ → ℕ → Volume → Option Vnode → Edited
frees_at id n v None = nothing_done v
frees_at id n v (Some x) = record { volume = record v { vnodes = unset n v.vnodes }; versions = gone_at id n x ∷ [] }

-- an edit in the volume of this number
abbrev pub edited : ℕ → Edit → Volume → Edited
edited id (amends n a) v = amends_at id n a v (get n v.vnodes)
edited id (makes n x) v = makes_at id n x v (get n v.vnodes)
edited id (frees n) v = frees_at id n v (get n v.vnodes)

-- all of them, one after the other
abbrev pub edited_all : ℕ → List Edit → Volume → Volume
edited_all id [] v = v
edited_all id (e ∷ es) v = edited_all id es (edited id e v).volume

abbrev pub versions_by : ℕ → List Edit → Volume → List Version
versions_by id [] v = []
versions_by id (e ∷ es) v = (edited id e v).versions ++ versions_by id es (edited id e v).volume

-- a change raises the volume's counter once
abbrev pub counted : Volume → Volume
counted v = record v { counter = v.counter + 1 }

-- ---- their order

abbrev pub edit_number : Edit → ℕ
edit_number (amends n a) = n
edit_number (makes n x) = n
edit_number (frees n) = n

abbrev pub edit_put : Edit → List Edit → List Edit
edit_put e [] = e ∷ []
edit_put e (d ∷ ds) = if nat_lt (edit_number d) (edit_number e) then d ∷ edit_put e ds else e ∷ d ∷ ds

-- by ascending vnode
abbrev pub ascending : List Edit → List Edit
ascending [] = []
ascending (e ∷ es) = edit_put e (ascending es)
