-- The image of a vnode after an edit, but for the words of a status.
use Rattle.std.specs.Prelude.{ℕ, ◌+◌, List}
use Rattle.std.specs.Option.{option_map}
use Rattle.afs_num.specs.declared.vnodes.Vnode as image
use Rattle.spec_ideal.specs.Volumes.{VnodeKind, a_directory, has_body, or_old, up_if}
use Rattle.afs_volume.specs.Seen.{kind_seen}
use Rattle.afs_changes.specs.declared.edits.Amend.{Amend}

-- the spelling of a directory's names, another vnode's contents
abbrev pub body_left : VnodeKind → Amend → List ℕ → List ℕ
body_left a_directory a bytes = or_old a.names bytes
body_left kind a bytes = or_old a.contents bytes

-- the text of a directory's access list
abbrev pub list_left : VnodeKind → Amend → List ℕ → List ℕ
list_left a_directory a text = or_old a.acl text
list_left kind a text = text

abbrev pub image_amended : ℕ → ℕ → Amend → image.Vnode → image.Vnode
image_amended counter now a x = record x {
  index = x.index + 1;
  data_version = up_if (has_body a.contents a.names) x.data_version;
  link_count = or_old a.links x.link_count;
  server_time = now;
  parent_vnode = or_old (option_map (λ (p : ℕ × ℕ). p.0) a.parent) x.parent_vnode;
  parent_unique = or_old (option_map (λ (p : ℕ × ℕ). p.1) a.parent) x.parent_unique;
  change_counter = counter;
  acl = list_left (kind_seen x.kind) a x.acl;
  contents = body_left (kind_seen x.kind) a x.contents;
}

-- a new vnode of this number and unique number
abbrev pub image_made : ℕ → ℕ → ℕ → ℕ → image.Vnode → image.Vnode
image_made number unique counter now x =
    record x { vnode = number; unique = unique; index = 1; data_version = 1; server_time = now; change_counter = counter }
