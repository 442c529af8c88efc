-- What the changing calls on a volume are to do: edits, and the plans of them.
use Rattle.std.specs.Prelude.{◌≡◌, ℕ, pos, List, [], ◌∷◌, Option, Some, None, Result, Ok, Err, map, Bool, true, false, not, ◌&&◌, is_some}
use Rattle.std.specs.Option.{option_map}
use Rattle.afs_num.specs.Names.{name_ok}
use Rattle.afs_num.specs.declared.acls.AccessList.{AccessList}
use Rattle.spec_ideal.specs.AccessLists.{acl_at}
use Rattle.spec_ideal.specs.Operations as op
use Rattle.spec_ideal.specs.Operations.{Caller, acl_read, refused, changes}
use Rattle.spec_ideal.specs.Volumes as ideal
use Rattle.afs_volume.specs.Seen.{seen, names_spelled}
use Rattle.afs_num.specs.declared.calls.FsCall.{FsCall}
use Rattle.afs_num.specs.declared.calls.FsCall.TheVariants as calls
use Rattle.afs_num.specs.declared.types.Fid.{Fid}
use Rattle.afs_num.specs.declared.vnodes.Vnode as image
use Rattle.afs_volume.specs.declared.volume.Volume.{Volume}
use Rattle.afs_changes.specs.declared.edits.Amend.{Amend}
use Rattle.afs_changes.specs.declared.edits.Edit.{Edit}
use Rattle.afs_changes.specs.declared.edits.Edit.TheVariants.{Amends, Makes, Frees}
use Rattle.afs_changes.specs.declared.edits.Plan.{Plan}
use Rattle.afs_reads.specs.declared.faults.OpFault.{OpFault}
use Rattle.afs_reads.specs.declared.faults.OpFault.TheVariants as faults
use Rattle.afs_reads.specs.Replying.{refusal_of}

-- an access list by its text
abbrev pub list_given : Option (List ℕ) → Option AccessList
list_given None = None
list_given (Some text) = acl_read (acl_at text)

abbrev pub amend_seen : Amend → ideal.Amend
amend_seen a = record {
  contents = a.contents;
  names = option_map names_spelled a.names;
  links = a.links;
  parent = a.parent;
  status = a.status;
  acl = list_given a.acl;
}

abbrev pub edit_seen : Edit → ideal.Edit
edit_seen (Amends n a) = ideal.amends n (amend_seen a)
edit_seen (Makes n x) = ideal.makes n (seen x.vnode)
edit_seen (Frees n) = ideal.frees n

abbrev pub edits_seen : List Edit → List ideal.Edit
edits_seen es = map edit_seen es

-- these edits are to be made, or the operation is refused
abbrev pub Plans : op.Result → Result Plan OpFault → Type 0
Plans r (Ok plan) = r ≡ changes (edits_seen plan.edits) plan.shown
Plans r (Err (faults.Code code)) = option_map pos (refusal_of r) ≡ Some code.0
Plans r (Err faults.OutOfMemory) = Unit {0}

-- what an operation is to do, before its limits
abbrev pub planned : Caller → FsCall → ideal.Volume → op.Result
planned caller call v = op.by_tests (op.first_failing (op.tests caller call v)) (op.effect caller call v)

-- the parts of a vnode that its status doesn't have stay
pub record KeepsBody (old new : image.Vnode) : Type 0 where
  pub vnode : new.vnode ≡ old.vnode
  pub unique : new.unique ≡ old.unique
  pub kind : new.kind ≡ old.kind
  pub contents : new.contents ≡ old.contents
  pub acl : new.acl ≡ old.acl
  pub time : new.server_time ≡ old.server_time

-- these edits put in their place among others, the last one first
abbrev pub placed_among : List ideal.Edit → List ideal.Edit → List ideal.Edit
placed_among [] ps = ps
placed_among (e ∷ es) ps = ideal.edit_put e (placed_among es ps)

-- the call changes a volume
abbrev pub is_changing : FsCall → Bool
is_changing (calls.StoreData f status position stored file_length contents) = true
is_changing (calls.StoreAcl f acl) = true
is_changing (calls.StoreStatus f status) = true
is_changing (calls.RemoveFile d name) = true
is_changing (calls.CreateFile d name status) = true
is_changing (calls.Rename d old e new) = true
is_changing (calls.Symlink d name target status) = true
is_changing (calls.Link d name f) = true
is_changing (calls.MakeDir d name status) = true
is_changing (calls.RemoveDir d name) = true
is_changing call = false

-- ---- Rename

-- where both are there, what takes the place of another is no directory, or that is one too
abbrev pub takes_place : Option ideal.Vnode → Option ideal.Vnode → Bool
takes_place (Some x) (Some y) = op.implies (op.is_kind x.kind ideal.a_directory) (op.is_kind y.kind ideal.a_directory)
takes_place x y = true

-- the tests behind those of kinds
abbrev pub move_tests : Caller → Fid → List ℕ → Fid → List ℕ → ideal.Volume → op.Tests
move_tests caller d old e new v =
    (op.rename_rights caller d e new v, 13)
    ∷ (name_ok new && (not (op.is_same_name d old e new) && op.may_move d e (op.name_in d old v) (op.name_in e new v) v (op.vnode_in d old v)), 22)
    ∷ (is_some (op.name_in d old v), 2) ∷ (op.has_no_names (op.vnode_in e new v), 39) ∷ (op.has_room_for d e new v, 27) ∷ []
