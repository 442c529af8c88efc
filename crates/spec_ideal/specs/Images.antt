-- Vnodes as values and as images: a directory's names and access list are spelled in its image, and read from it.
use Rattle.std.specs.Prelude.{◌≤◌, ◌<◌, ◌^◌, ℕ, List, [], ◌∷◌, Option, Some, None, Result, Ok, length, nat_eq, if◌then◌else◌}
use Rattle.std.specs.List.{All}
use Rattle.afs_num.specs.declared.acls.AccessList.{AccessList}
use Rattle.afs_num.specs.declared.directories.Name.{Name}
use Rattle.afs_num.specs.declared.vnodes.Vnode as images
use Rattle.spec_ideal.specs.Tables.{Table}
use Rattle.spec_ideal.specs.AccessLists.{no_acl, acl_text, acl_at}
use Rattle.spec_ideal.specs.Directories.{FitNames, directory_of}
use Rattle.spec_ideal.specs.VnodeImage.{file_type, directory_type, link_type, most_acl, most_contents}
use Rattle.spec_ideal.specs.Volumes.{VnodeKind, a_file, a_directory, a_link, type_of, Vnode, bytes_by}

abbrev pub Image : Type 0
Image = images.Vnode

-- ---- the image of a value. Its server's time stands beside the value

-- a directory has the text of its access list, another kind none
abbrev pub acl_by : VnodeKind → Vnode → List ℕ
acl_by a_directory x = acl_text x.acl
acl_by kind x = []

abbrev pub image_of : ℕ → ℕ → Vnode → Image
image_of n time x = record {
  vnode = n;
  unique = x.unique;
  kind = type_of x.kind;
  index = x.index;
  data_version = x.data_version;
  link_count = x.links;
  owner = x.owner;
  group = x.group;
  mode = x.mode;
  segment_size = x.segment_size;
  client_time = x.client_time;
  server_time = time;
  parent_vnode = x.parent;
  parent_unique = x.parent_unique;
  change_counter = x.changed;
  acl = acl_by x.kind x;
  contents = bytes_by x.kind x;
}

-- ---- the value of an image; an image may have none

-- with these contents, names and access list
abbrev pub value_with : VnodeKind → List ℕ → List Name → AccessList → Image → Vnode
value_with kind contents names acl i = record {
  unique = i.unique;
  kind = kind;
  index = i.index;
  data_version = i.data_version;
  links = i.link_count;
  owner = i.owner;
  group = i.group;
  mode = i.mode;
  segment_size = i.segment_size;
  client_time = i.client_time;
  parent = i.parent_vnode;
  parent_unique = i.parent_unique;
  changed = i.change_counter;
  contents = contents;
  names = names;
  acl = acl;
}

abbrev pub directory_value : {E F : Type 0} → Image → Result (List Name) E → Result AccessList F → Option Vnode
directory_value {E} {F} i (Ok names) (Ok acl) = Some (value_with a_directory [] names acl i)
directory_value {E} {F} i names acl = None

-- what is no directory has no access list
abbrev pub contents_value : VnodeKind → Image → Option Vnode
contents_value kind i = if nat_eq (length i.acl) 0 then Some (value_with kind i.contents [] no_acl i) else None

abbrev pub value_by : VnodeKind → Image → Option Vnode
value_by a_directory i = directory_value i (directory_of i.contents) (acl_at i.acl)
value_by kind i = contents_value kind i

abbrev pub kind_of : ℕ → Option VnodeKind
kind_of n =
    if nat_eq n file_type then Some a_file
    else (if nat_eq n directory_type then Some a_directory else (if nat_eq n link_type then Some a_link else None))

abbrev pub value_of_kind : Option VnodeKind → Image → Option Vnode
value_of_kind None i = None
value_of_kind (Some kind) i = value_by kind i

unfoldable pub value_of : Image → Option Vnode
value_of i = value_of_kind (kind_of i.kind) i

-- the values of images by their numbers, where all have one
abbrev pub with_value : ℕ → Option Vnode → Option (Table Vnode) → Option (Table Vnode)
with_value n (Some x) (Some t) = Some ((n, x) ∷ t)
with_value n o t = None

abbrev pub values_of : Table Image → Option (Table Vnode)
values_of [] = Some []
values_of (p ∷ ps) = with_value p.0 (value_of p.1) (values_of ps)

-- ---- limits of an image: words, and lengths

abbrev pub IsWord : ℕ → Type 0
IsWord n = n < 2 ^ 32

pub record HasImage (x : Vnode) : Type 0 where
  pub words : All IsWord (x.unique ∷ x.index ∷ x.data_version ∷ x.links ∷ x.owner ∷ x.group ∷ x.mode ∷ x.segment_size ∷ x.client_time ∷ x.parent ∷ x.parent_unique ∷ x.changed ∷ [])
  pub names : FitNames x.names
  pub acl : length (acl_by x.kind x) ≤ most_acl
  pub contents : length (bytes_by x.kind x) ≤ most_contents
