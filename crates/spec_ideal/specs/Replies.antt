-- What a file server replies to an operation on a volume: statuses as they are after it, and the volume's release.
use Rattle.std.specs.Prelude.{ℕ, List, [], ◌∷◌, map, Option, Some, None, nat_eq, if◌then◌else◌}
use Rattle.afs_num.specs.Fids.{same_fid}
use Rattle.afs_num.specs.declared.types.Fid.{Fid}
use Rattle.afs_num.specs.declared.histories.Version.{Version}
use Rattle.afs_num.specs.declared.calls.AfsFetchStatus.{AfsFetchStatus}
use Rattle.afs_num.specs.declared.calls.AfsVolSync.{AfsVolSync}
use Rattle.afs_num.specs.declared.calls.FsCall.{FsCall}
use Rattle.afs_num.specs.declared.calls.FsCall.TheVariants as calls
use Rattle.afs_num.specs.declared.calls.FsReply.{FsReply}
use Rattle.afs_num.specs.declared.calls.FsReply.TheVariants as replies
use Rattle.spec_shape.specs.Rows.{no_callback, no_sync}
use Rattle.spec_ideal.specs.Tables.{get}
use Rattle.spec_ideal.specs.AccessLists.{acl_text, anyuser, rights_of}
use Rattle.spec_ideal.specs.Volumes.{type_of, Vnode, Volume, fid_of, bytes_by, size_of, blocks_in}
use Rattle.spec_ideal.specs.Operations.{Caller, rights_by, list_for, Found, Shown, shows_body, shows_status, shows_acl, shows_statuses, shows_volume, new_file}

-- ---- statuses

-- the status of a vnode for a caller. Its server's time stands beside the volume; the index is the sync counter
abbrev pub status_of : Caller → Volume → ℕ → Vnode → AfsFetchStatus
status_of caller v time x = record {
  interface_version = 1;
  file_type = type_of x.kind;
  link_count = x.links;
  length = size_of x;
  data_version = x.data_version;
  author = 0;
  owner = x.owner;
  caller_access = rights_by caller (list_for x.kind x v);
  anonymous_access = rights_of anyuser (list_for x.kind x v);
  unix_mode_bits = x.mode;
  parent_vnode = x.parent;
  parent_unique = x.parent_unique;
  seg_size = x.segment_size;
  client_mod_time = x.client_time;
  server_mod_time = time;
  group = x.group;
  sync_counter = x.index;
  spare1 = 0;
  spare2 = 0;
  spare3 = 0;
  spare4 = 0;
}

-- the release is that of a read-only or backup volume; a read-write volume has none
abbrev pub sync_of : Volume → AfsVolSync
sync_of v = record { release = if nat_eq v.kind 0 then 0 else v.release; spare1 = 0; spare2 = 0; spare3 = 0; spare4 = 0; spare5 = 0 }

-- ---- replies to reading calls. The server fills in its promises to call back

abbrev pub found_status : Caller → Volume → (Fid → ℕ) → Found → AfsFetchStatus
found_status caller v times f = status_of caller v (times f.fid) f.vnode

-- several statuses have the release of the first one's volume, and none of them none
abbrev pub reading_reply : ℕ → Caller → (Fid → ℕ) → Volume → Shown → FsReply
reading_reply id caller times v (shows_body f) = replies.FetchData (bytes_by f.vnode.kind f.vnode) (found_status caller v times f) no_callback (sync_of v)
reading_reply id caller times v (shows_status f) = replies.FetchStatus (found_status caller v times f) no_callback (sync_of v)
reading_reply id caller times v (shows_acl f) = replies.FetchAcl (acl_text f.vnode.acl) (found_status caller v times f) (sync_of v)
reading_reply id caller times v (shows_statuses []) = replies.BulkStatus [] [] no_sync
reading_reply id caller times v (shows_statuses fs) =
    replies.BulkStatus (map (found_status caller v times) fs) (map (λ (f : Found). no_callback) fs) (sync_of v)
reading_reply id caller times v shows_volume = replies.GetVolumeStatus id v.kind v.quota (blocks_in v.vnodes) v.name

-- ---- replies to changes, by the volume after it and the times after it

-- what stands for a vnode that isn't there; no operation shows one
abbrev pub no_vnode : Vnode
no_vnode = new_file (record { volume = 0; vnode = 0; unique = 0 })

abbrev pub vnode_or_none : Option Vnode → Vnode
vnode_or_none None = no_vnode
vnode_or_none (Some x) = x

abbrev pub vnode_at : Volume → ℕ → Vnode
vnode_at v n = vnode_or_none (get n v.vnodes)

abbrev pub vnode_status : ℕ → Caller → (Fid → ℕ) → Volume → ℕ → AfsFetchStatus
vnode_status id caller times v n = status_of caller v (times (fid_of id n (vnode_at v n))) (vnode_at v n)

-- n is the vnode that is shown beside those that the call names: the new one, where there is one
abbrev pub change_reply : ℕ → Caller → (Fid → ℕ) → Volume → ℕ → FsCall → Option FsReply
change_reply id caller times v n (calls.StoreData f status position stored file_length contents) =
    Some (replies.StoreData (vnode_status id caller times v f.vnode) (sync_of v))
change_reply id caller times v n (calls.StoreAcl f acl) = Some (replies.StoreAcl (vnode_status id caller times v f.vnode) (sync_of v))
change_reply id caller times v n (calls.StoreStatus f status) = Some (replies.StoreStatus (vnode_status id caller times v f.vnode) (sync_of v))
change_reply id caller times v n (calls.RemoveFile d name) = Some (replies.RemoveFile (vnode_status id caller times v d.vnode) (sync_of v))
change_reply id caller times v n (calls.CreateFile d name status) =
    Some (replies.CreateFile (fid_of id n (vnode_at v n)) (vnode_status id caller times v n) (vnode_status id caller times v d.vnode) no_callback (sync_of v))
change_reply id caller times v n (calls.Rename d old e new) =
    Some (replies.Rename (vnode_status id caller times v d.vnode) (vnode_status id caller times v e.vnode) (sync_of v))
change_reply id caller times v n (calls.Symlink d name target status) =
    Some (replies.Symlink (fid_of id n (vnode_at v n)) (vnode_status id caller times v n) (vnode_status id caller times v d.vnode) (sync_of v))
change_reply id caller times v n (calls.Link d name f) =
    Some (replies.Link (vnode_status id caller times v f.vnode) (vnode_status id caller times v d.vnode) (sync_of v))
change_reply id caller times v n (calls.MakeDir d name status) =
    Some (replies.MakeDir (fid_of id n (vnode_at v n)) (vnode_status id caller times v n) (vnode_status id caller times v d.vnode) no_callback (sync_of v))
change_reply id caller times v n (calls.RemoveDir d name) = Some (replies.RemoveDir (vnode_status id caller times v d.vnode) (sync_of v))
change_reply id caller times v n call = None

-- ---- times: each of these versions was made at this time

abbrev pub stamped : ℕ → List Version → (Fid → ℕ) → Fid → ℕ
stamped clock [] times f = times f
stamped clock (v ∷ vs) times f = if same_fid v.fid f then clock else stamped clock vs times f
