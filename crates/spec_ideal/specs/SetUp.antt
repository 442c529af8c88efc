-- Set-up: a new volume, and the lines that fill it before anything is changed. What a line lays it lays as the operations do by
-- a caller with all rights; but indexes, data versions and counters stay at 1.
use Rattle.std.specs.Prelude.{ℕ, List, [], ◌∷◌, Option, Some, None, Result, Ok, Err, pos, length, map, nat_lt, if◌then◌else◌}
use Rattle.std.specs.Option.{option_map, ok_or}
use Rattle.afs_num.specs.declared.types.Fid.{Fid}
use Rattle.afs_num.specs.declared.calls.AfsStoreStatus.{AfsStoreStatus}
use Rattle.afs_num.specs.declared.calls.FsCall.{FsCall}
use Rattle.afs_num.specs.declared.calls.FsCall.TheVariants as calls
use Rattle.afs_num.specs.declared.directories.Name.{Name}
use Rattle.afs_num.specs.declared.histories.Version.{Version}
use Rattle.spec_history.specs.declared.scripts.SetupLine.{SetupLine}
use Rattle.spec_history.specs.declared.scripts.SetupLine.TheVariants as lines
use Rattle.spec_history.specs.declared.scripts.VolumeLine.{VolumeLine}
use Rattle.spec_history.specs.Written.{bytes_in}
use Rattle.spec_shape.specs.Reading.{◌>>=◌}
use Rattle.spec_ideal.specs.Tables.{Table, get, set}
use Rattle.spec_ideal.specs.AccessLists.{anyuser}
use Rattle.spec_ideal.specs.Directories.{named}
use Rattle.spec_ideal.specs.VnodeImage.{most_acl, most_contents}
use Rattle.spec_ideal.specs.Volumes.{a_file, a_directory, Vnode, Volume, fid_of, version_at, Edit, edit_number}
use Rattle.spec_ideal.specs.Operations as operations
use Rattle.spec_ideal.specs.Operations.{is_kind, named_vnode, free_number, all_rights, Found, op, changed}

-- ---- a new volume

-- the root of a new volume: an empty directory, in which everyone has all rights
abbrev pub new_root : Vnode
new_root = record {
  unique = 1;
  kind = a_directory;
  index = 1;
  data_version = 1;
  links = 2;
  owner = 0;
  group = 0;
  mode = 493;
  segment_size = 0;
  client_time = 0;
  parent = 0;
  parent_unique = 0;
  changed = 1;
  contents = [];
  names = [];
  acl = record { positive = (record { name = anyuser; rights = 127 }) ∷ []; negative = [] };
}

-- family, name, kind, flags and quota
abbrev pub new_volume : ℕ → List ℕ → ℕ → ℕ → ℕ → Volume
new_volume family name kind flags quota = record {
  family = family;
  name = name;
  kind = kind;
  flags = flags;
  quota = quota;
  next = 2;
  counter = 1;
  release = 0;
  vnodes = (1, new_root) ∷ [];
}

-- ---- paths: names from the root on

abbrev pub found_at : ℕ → ℕ → Option Vnode → Option Found
found_at id n o = option_map (λ (x : Vnode). record { fid = fid_of id n x; vnode = x }) o

abbrev pub found_named : ℕ → Volume → Option Name → Option Found
found_named id v None = None
found_named id v (Some n) = found_at id n.vnode (named_vnode v (Some n))

abbrev pub from_found : (Found → Result Found ℕ) → Option Found → Result Found ℕ
from_found goes None = Err 2
from_found goes (Some f) = goes f

-- where names lead from a vnode: 20 where one is looked for in another kind than a directory, 2 where it isn't there
abbrev pub led_to : ℕ → Volume → List (List ℕ) → Found → Result Found ℕ
led_to id v [] at = Ok at
led_to id v (name ∷ names) at =
    if is_kind at.vnode.kind a_directory then from_found (led_to id v names) (found_named id v (named name at.vnode.names)) else Err 20

unfoldable pub led : ℕ → Volume → List (List ℕ) → Result Found ℕ
led id v path = do
  root ← ok_or (found_at id 1 (get 1 v.vnodes)) 102
  led_to id v path root

-- the names before the last, and the last
abbrev pub parted : List (List ℕ) → Option (List (List ℕ) × List ℕ)
parted [] = None
parted (name ∷ []) = Some ([], name)
parted (name ∷ next ∷ names) = option_map (λ (p : List (List ℕ) × List ℕ). (name ∷ p.0, p.1)) (parted (next ∷ names))

-- ---- what is laid

abbrev pub nothing_set : AfsStoreStatus
nothing_set = record { mask = 0; client_mod_time = 0; owner = 0; group = 0; unix_mode_bits = 0; seg_size = 0 }

abbrev pub at_first : Vnode → Vnode
at_first x = record x { index = 1; data_version = 1; changed = 1 }

abbrev pub one_at_first : ℕ → Option Vnode → Table Vnode → Table Vnode
one_at_first n None t = t
one_at_first n (Some x) t = set n (at_first x) t

-- the vnodes that were changed are as at first
abbrev pub all_at_first : List Edit → Table Vnode → Table Vnode
all_at_first [] t = t
all_at_first (e ∷ es) t = all_at_first es (one_at_first (edit_number e) (get (edit_number e) t) t)

-- a line makes changes alone
abbrev pub laid_by : ℕ → operations.Result → Volume → Result Volume ℕ
laid_by id (operations.refused code) v = Err code
laid_by id (operations.changes es n) v =
    Ok (record (changed id (operations.changes es n) v) { counter = 1; vnodes = all_at_first es (changed id (operations.changes es n) v).vnodes })
laid_by id r v = Err 22

-- the volume after a call of the caller with all rights, or the code of the refusal
abbrev pub called : ℕ → FsCall → Volume → Result Volume ℕ
called id call v = laid_by id (op id all_rights call v) v

-- what a path's last name is to give: a directory, a file with its bytes, a link with its text
pub data Laid : Type 0 where
  a_dir : Laid
  a_file_of : List ℕ → Laid
  a_link_to : List ℕ → Laid

-- a new file is the volume's next vnode; its bytes are stored in it
abbrev pub new_fid : ℕ → Volume → Fid
new_fid id v = record { volume = id; vnode = free_number a_file v; unique = v.next }

abbrev pub stores_all : Fid → List ℕ → FsCall
stores_all f bytes = calls.StoreData f nothing_set (pos 0) (pos (length bytes)) (pos (length bytes)) bytes

abbrev pub laid_in : ℕ → Volume → Fid → List ℕ → Laid → Result Volume ℕ
laid_in id v d name a_dir = called id (calls.MakeDir d name nothing_set) v
laid_in id v d name (a_link_to target) = called id (calls.Symlink d name target nothing_set) v
laid_in id v d name (a_file_of bytes) = do
  made ← called id (calls.CreateFile d name nothing_set) v
  called id (stores_all (new_fid id v) bytes) made

-- what a path's last name is to give, in the directory to which the others lead; 22 where the path has no name
unfoldable pub laid_at : ℕ → List (List ℕ) → Laid → Volume → Result Volume ℕ
laid_at id path x v = do
  parts ← ok_or (parted path) 22
  at ← led id v parts.0
  laid_in id v at.fid parts.1 x

-- the access list of the directory to which a path leads
unfoldable pub acl_laid : ℕ → List (List ℕ) → List ℕ → Volume → Result Volume ℕ
acl_laid id path text v = do
  at ← led id v path
  called id (calls.StoreAcl at.fid text) v

-- a text that no vnode's image can hold is too large; lines of scripts, as calls, are shorter
abbrev pub unless_over : ℕ → ℕ → Result Volume ℕ → Result Volume ℕ
unless_over most count r = if nat_lt most count then Err 27 else r

-- a line of set-up, in the volume of this number
abbrev pub laid : ℕ → SetupLine → Volume → Result Volume ℕ
laid id (lines.Directory path) v = laid_at id path a_dir v
laid id (lines.File path contents) v = laid_at id path (a_file_of (bytes_in contents)) v
laid id (lines.Link path target) v = unless_over most_contents (length (bytes_in target)) (laid_at id path (a_link_to (bytes_in target)) v)
laid id (lines.AccessList path text) v = unless_over most_acl (length (bytes_in text)) (acl_laid id path (bytes_in text) v)

-- the lines, one after the other, up to the first that is refused
abbrev pub laid_all : ℕ → List SetupLine → Volume → Result Volume ℕ
laid_all id [] v = Ok v
laid_all id (line ∷ rest) v = laid id line v >>= laid_all id rest

-- the same where each line is accepted; one that is refused, of which a script has none, leaves the volume as it was
abbrev pub laid_or : Volume → Result Volume ℕ → Volume
laid_or v (Ok w) = w
laid_or v (Err code) = v

abbrev pub filled_by : ℕ → List SetupLine → Volume → Volume
filled_by id [] v = v
filled_by id (line ∷ rest) v = filled_by id rest (laid_or v (laid id line v))

-- the volume of a script's line, a new one before it is filled: read-write, in service, and its own family
abbrev pub empty_volume : VolumeLine → Volume
empty_volume l = new_volume l.id l.name 0 0 l.quota

abbrev pub first_volume : VolumeLine → Volume
first_volume l = filled_by l.id l.lines (empty_volume l)

-- ---- what set-up tells: one version of each vnode

abbrev pub first_versions : ℕ → Table Vnode → List Version
first_versions id t = map (λ (p : ℕ × Vnode). version_at id p.0 p.1) t
