-- The calls of the File Server/Cache Manager Interface and their replies, row by row: the opcode, and the fields of
-- their kinds in the order of the AFS-3 Programmer's Reference.
use Rattle.std.specs.Prelude.{ℕ, ℤ, pos, List, [], ◌∷◌, Option, Result}
use Rattle.afs_num.specs.declared.types.Head.{Head}
use Rattle.afs_num.specs.declared.types.Code.{Code}
use Rattle.afs_num.specs.declared.calls.FsCall.{FsCall}
use Rattle.afs_num.specs.declared.calls.FsCall.TheVariants as calls
use Rattle.afs_num.specs.declared.calls.FsReply.{FsReply}
use Rattle.afs_num.specs.declared.calls.FsReply.TheVariants as replies
use Rattle.spec_shape.specs.declared.faults.ShapeFault.{ShapeFault}
use Rattle.spec_shape.specs.declared.kinds.Kind.{Kind}
use Rattle.spec_shape.specs.declared.kinds.Field.{Field}
use Rattle.spec_shape.specs.Reading.{GivesShape}
pub use Rattle.spec_shape.specs.Rows.{HasRow}
use Rattle.spec_shape.specs.Rows.{word, signed, volume_kind, fid, store_status, status, callback, sync, opaque, fids, callbacks, statuses, ◌&◌, end, numbered, MessageRow, MessageTable, table_rows, message_of, no_fid, no_store_status, no_status, no_callback, no_sync}
use Rattle.spec_model.specs.Heads.{contents_limit}

-- ---- limits

-- at most so many bytes of a file's name, of an access list, of what a symbolic link holds
abbrev pub name_limit : ℕ
name_limit = 256

abbrev pub acl_limit : ℕ
acl_limit = 1024

abbrev pub target_limit : ℕ
target_limit = 1024

-- at most so many fids, statuses or callbacks in a list
abbrev pub list_limit : ℕ
list_limit = 50

-- ---- opcodes of their own name

abbrev pub fetch_data : ℕ
fetch_data = 130

abbrev pub store_data : ℕ
store_data = 133

-- ---- calls

abbrev pub call_row : FsCall → MessageRow FsCall
call_row (calls.FetchData file position length) = numbered fetch_data calls.FetchData (fid file & signed position & signed length & end)
call_row (calls.FetchAcl file) = numbered 131 calls.FetchAcl (fid file & end)
call_row (calls.FetchStatus file) = numbered 132 calls.FetchStatus (fid file & end)
call_row (calls.StoreData file new position length file_length contents) = numbered store_data calls.StoreData (fid file & store_status new & signed position & signed length & signed file_length & opaque contents_limit contents & end)
call_row (calls.StoreAcl file acl) = numbered 134 calls.StoreAcl (fid file & opaque acl_limit acl & end)
call_row (calls.StoreStatus file new) = numbered 135 calls.StoreStatus (fid file & store_status new & end)
call_row (calls.RemoveFile directory name) = numbered 136 calls.RemoveFile (fid directory & opaque name_limit name & end)
call_row (calls.CreateFile directory name new) = numbered 137 calls.CreateFile (fid directory & opaque name_limit name & store_status new & end)
call_row (calls.Rename old_directory old_name new_directory new_name) = numbered 138 calls.Rename (fid old_directory & opaque name_limit old_name & fid new_directory & opaque name_limit new_name & end)
call_row (calls.Symlink directory name target new) = numbered 139 calls.Symlink (fid directory & opaque name_limit name & opaque target_limit target & store_status new & end)
call_row (calls.Link directory name existing) = numbered 140 calls.Link (fid directory & opaque name_limit name & fid existing & end)
call_row (calls.MakeDir directory name new) = numbered 141 calls.MakeDir (fid directory & opaque name_limit name & store_status new & end)
call_row (calls.RemoveDir directory name) = numbered 142 calls.RemoveDir (fid directory & opaque name_limit name & end)
call_row (calls.GiveUpCallBacks files promises) = numbered 147 calls.GiveUpCallBacks (fids list_limit files & callbacks list_limit promises & end)
call_row (calls.GetVolumeStatus volume) = numbered 149 calls.GetVolumeStatus (word volume & end)
call_row calls.GetTime = numbered 153 calls.GetTime end
call_row (calls.BulkStatus files) = numbered 155 calls.BulkStatus (fids list_limit files & end)
call_row (calls.CallBack files promises) = numbered 204 calls.CallBack (fids list_limit files & callbacks list_limit promises & end)
call_row calls.InitCallBackState = numbered 205 calls.InitCallBackState end
call_row calls.Probe = numbered 206 calls.Probe end

abbrev pub fs_calls : MessageTable FsCall
fs_calls = record {
  row = call_row;
  each =
      calls.FetchData no_fid (pos 0) (pos 0)
      ∷ calls.FetchAcl no_fid
      ∷ calls.FetchStatus no_fid
      ∷ calls.StoreData no_fid no_store_status (pos 0) (pos 0) (pos 0) []
      ∷ calls.StoreAcl no_fid []
      ∷ calls.StoreStatus no_fid no_store_status
      ∷ calls.RemoveFile no_fid []
      ∷ calls.CreateFile no_fid [] no_store_status
      ∷ calls.Rename no_fid [] no_fid []
      ∷ calls.Symlink no_fid [] [] no_store_status
      ∷ calls.Link no_fid [] no_fid
      ∷ calls.MakeDir no_fid [] no_store_status
      ∷ calls.RemoveDir no_fid []
      ∷ calls.GiveUpCallBacks [] []
      ∷ calls.GetVolumeStatus 0
      ∷ calls.GetTime
      ∷ calls.BulkStatus []
      ∷ calls.CallBack [] []
      ∷ calls.InitCallBackState
      ∷ calls.Probe
      ∷ [];
}

abbrev pub call_rows : List (ℕ × List Kind)
call_rows = table_rows fs_calls

abbrev pub call_number : FsCall → ℕ
call_number call = (call_row call).opcode

abbrev pub call_fields : FsCall → List Field
call_fields call = (call_row call).fields

-- ---- replies, behind a code of 0

abbrev pub reply_row : FsReply → MessageRow FsReply
reply_row (replies.FetchData contents file promise volume) = numbered fetch_data replies.FetchData (opaque contents_limit contents & status file & callback promise & sync volume & end)
reply_row (replies.FetchAcl acl file volume) = numbered 131 replies.FetchAcl (opaque acl_limit acl & status file & sync volume & end)
reply_row (replies.FetchStatus file promise volume) = numbered 132 replies.FetchStatus (status file & callback promise & sync volume & end)
reply_row (replies.StoreData file volume) = numbered store_data replies.StoreData (status file & sync volume & end)
reply_row (replies.StoreAcl file volume) = numbered 134 replies.StoreAcl (status file & sync volume & end)
reply_row (replies.StoreStatus file volume) = numbered 135 replies.StoreStatus (status file & sync volume & end)
reply_row (replies.RemoveFile directory volume) = numbered 136 replies.RemoveFile (status directory & sync volume & end)
reply_row (replies.CreateFile created file directory promise volume) = numbered 137 replies.CreateFile (fid created & status file & status directory & callback promise & sync volume & end)
reply_row (replies.Rename old_directory new_directory volume) = numbered 138 replies.Rename (status old_directory & status new_directory & sync volume & end)
reply_row (replies.Symlink created file directory volume) = numbered 139 replies.Symlink (fid created & status file & status directory & sync volume & end)
reply_row (replies.Link file directory volume) = numbered 140 replies.Link (status file & status directory & sync volume & end)
reply_row (replies.MakeDir created file directory promise volume) = numbered 141 replies.MakeDir (fid created & status file & status directory & callback promise & sync volume & end)
reply_row (replies.RemoveDir directory volume) = numbered 142 replies.RemoveDir (status directory & sync volume & end)
reply_row replies.GiveUpCallBacks = numbered 147 replies.GiveUpCallBacks end
reply_row (replies.GetVolumeStatus volume kind quota blocks_used name) = numbered 149 replies.GetVolumeStatus (word volume & volume_kind kind & word quota & word blocks_used & opaque name_limit name & end)
reply_row (replies.GetTime clock microseconds) = numbered 153 replies.GetTime (word clock & word microseconds & end)
reply_row (replies.BulkStatus files promises volume) = numbered 155 replies.BulkStatus (statuses list_limit files & callbacks list_limit promises & sync volume & end)
reply_row replies.CallBack = numbered 204 replies.CallBack end
reply_row replies.InitCallBackState = numbered 205 replies.InitCallBackState end
reply_row replies.Probe = numbered 206 replies.Probe end

abbrev pub fs_replies : MessageTable FsReply
fs_replies = record {
  row = reply_row;
  each =
      replies.FetchData [] no_status no_callback no_sync
      ∷ replies.FetchAcl [] no_status no_sync
      ∷ replies.FetchStatus no_status no_callback no_sync
      ∷ replies.StoreData no_status no_sync
      ∷ replies.StoreAcl no_status no_sync
      ∷ replies.StoreStatus no_status no_sync
      ∷ replies.RemoveFile no_status no_sync
      ∷ replies.CreateFile no_fid no_status no_status no_callback no_sync
      ∷ replies.Rename no_status no_status no_sync
      ∷ replies.Symlink no_fid no_status no_status no_sync
      ∷ replies.Link no_status no_status no_sync
      ∷ replies.MakeDir no_fid no_status no_status no_callback no_sync
      ∷ replies.RemoveDir no_status no_sync
      ∷ replies.GiveUpCallBacks
      ∷ replies.GetVolumeStatus 0 0 0 0 []
      ∷ replies.GetTime 0 0
      ∷ replies.BulkStatus [] [] no_sync
      ∷ replies.CallBack
      ∷ replies.InitCallBackState
      ∷ replies.Probe
      ∷ [];
}

abbrev pub reply_rows : List (ℕ × List Kind)
reply_rows = table_rows fs_replies

abbrev pub reply_number : FsReply → ℕ
reply_number reply = (reply_row reply).opcode

abbrev pub reply_fields : FsReply → List Field
reply_fields reply = (reply_row reply).fields
