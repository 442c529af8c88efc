-- The rows of the two tables make their messages: field by field.
use Rattle.std.proofs.Common.{◌≡◌, Some, refl}
use Rattle.afs_num.specs.declared.calls.FsCall.{FsCall}
use Rattle.afs_num.specs.declared.calls.FsCall.TheVariants as calls
use Rattle.afs_num.specs.declared.calls.FsReply.{FsReply}
use Rattle.afs_num.specs.declared.calls.FsReply.TheVariants as replies
use Rattle.spec_shape.specs.Rows.{message_of, IsSoundTable}
use Rattle.spec_shape.specs.Taking.{taken_behind}
use Rattle.spec_shape.proofs.MadeLaws.{word, signed, volume_kind, fid, store_status, status, callback, sync, opaque, fids, callbacks, statuses, at_end, slot, RowMakes, all_make}
use Rattle.spec_model.specs.FsRows.{fs_calls, call_number, call_fields, fs_replies, reply_number, reply_fields}

pub call_makes : (call : FsCall) → RowMakes fs_calls call
call_makes (calls.FetchData file position length) = slot _ _ fid (λ file. slot _ _ signed (λ position. slot _ _ signed (λ length. at_end (calls.FetchData file position length) refl refl)))
call_makes (calls.FetchAcl file) = slot _ _ fid (λ file. at_end (calls.FetchAcl file) refl refl)
call_makes (calls.FetchStatus file) = slot _ _ fid (λ file. at_end (calls.FetchStatus file) refl refl)
call_makes (calls.StoreData file new position length file_length contents) = slot _ _ fid (λ file. slot _ _ store_status (λ new. slot _ _ signed (λ position. slot _ _ signed (λ length. slot _ _ signed (λ file_length. slot _ _ opaque (λ contents. at_end (calls.StoreData file new position length file_length contents) refl refl))))))
call_makes (calls.StoreAcl file acl) = slot _ _ fid (λ file. slot _ _ opaque (λ acl. at_end (calls.StoreAcl file acl) refl refl))
call_makes (calls.StoreStatus file new) = slot _ _ fid (λ file. slot _ _ store_status (λ new. at_end (calls.StoreStatus file new) refl refl))
call_makes (calls.RemoveFile directory name) = slot _ _ fid (λ directory. slot _ _ opaque (λ name. at_end (calls.RemoveFile directory name) refl refl))
call_makes (calls.CreateFile directory name new) = slot _ _ fid (λ directory. slot _ _ opaque (λ name. slot _ _ store_status (λ new. at_end (calls.CreateFile directory name new) refl refl)))
call_makes (calls.Rename old_directory old_name new_directory new_name) = slot _ _ fid (λ old_directory. slot _ _ opaque (λ old_name. slot _ _ fid (λ new_directory. slot _ _ opaque (λ new_name. at_end (calls.Rename old_directory old_name new_directory new_name) refl refl))))
call_makes (calls.Symlink directory name target new) = slot _ _ fid (λ directory. slot _ _ opaque (λ name. slot _ _ opaque (λ target. slot _ _ store_status (λ new. at_end (calls.Symlink directory name target new) refl refl))))
call_makes (calls.Link directory name existing) = slot _ _ fid (λ directory. slot _ _ opaque (λ name. slot _ _ fid (λ existing. at_end (calls.Link directory name existing) refl refl)))
call_makes (calls.MakeDir directory name new) = slot _ _ fid (λ directory. slot _ _ opaque (λ name. slot _ _ store_status (λ new. at_end (calls.MakeDir directory name new) refl refl)))
call_makes (calls.RemoveDir directory name) = slot _ _ fid (λ directory. slot _ _ opaque (λ name. at_end (calls.RemoveDir directory name) refl refl))
call_makes (calls.GiveUpCallBacks files promises) = slot _ _ fids (λ files. slot _ _ callbacks (λ promises. at_end (calls.GiveUpCallBacks files promises) refl refl))
call_makes (calls.GetVolumeStatus volume) = slot _ _ word (λ volume. at_end (calls.GetVolumeStatus volume) refl refl)
call_makes calls.GetTime = at_end calls.GetTime refl refl
call_makes (calls.BulkStatus files) = slot _ _ fids (λ files. at_end (calls.BulkStatus files) refl refl)
call_makes (calls.CallBack files promises) = slot _ _ fids (λ files. slot _ _ callbacks (λ promises. at_end (calls.CallBack files promises) refl refl))
call_makes calls.InitCallBackState = at_end calls.InitCallBackState refl refl
call_makes calls.Probe = at_end calls.Probe refl refl

call_again : (call : FsCall) → message_of fs_calls (call_number call) (call_fields call) ≡ Some call
unfolding taken_behind
call_again (calls.FetchData file position length) = refl
call_again (calls.FetchAcl file) = refl
call_again (calls.FetchStatus file) = refl
call_again (calls.StoreData file new position length file_length contents) = refl
call_again (calls.StoreAcl file acl) = refl
call_again (calls.StoreStatus file new) = refl
call_again (calls.RemoveFile directory name) = refl
call_again (calls.CreateFile directory name new) = refl
call_again (calls.Rename old_directory old_name new_directory new_name) = refl
call_again (calls.Symlink directory name target new) = refl
call_again (calls.Link directory name existing) = refl
call_again (calls.MakeDir directory name new) = refl
call_again (calls.RemoveDir directory name) = refl
call_again (calls.GiveUpCallBacks files promises) = refl
call_again (calls.GetVolumeStatus volume) = refl
call_again calls.GetTime = refl
call_again (calls.BulkStatus files) = refl
call_again (calls.CallBack files promises) = refl
call_again calls.InitCallBackState = refl
call_again calls.Probe = refl

pub calls_sound : IsSoundTable fs_calls
calls_sound = record { makes = all_make fs_calls call_makes; again = call_again }

pub reply_makes : (reply : FsReply) → RowMakes fs_replies reply
reply_makes (replies.FetchData contents file promise volume) = slot _ _ opaque (λ contents. slot _ _ status (λ file. slot _ _ callback (λ promise. slot _ _ sync (λ volume. at_end (replies.FetchData contents file promise volume) refl refl))))
reply_makes (replies.FetchAcl acl file volume) = slot _ _ opaque (λ acl. slot _ _ status (λ file. slot _ _ sync (λ volume. at_end (replies.FetchAcl acl file volume) refl refl)))
reply_makes (replies.FetchStatus file promise volume) = slot _ _ status (λ file. slot _ _ callback (λ promise. slot _ _ sync (λ volume. at_end (replies.FetchStatus file promise volume) refl refl)))
reply_makes (replies.StoreData file volume) = slot _ _ status (λ file. slot _ _ sync (λ volume. at_end (replies.StoreData file volume) refl refl))
reply_makes (replies.StoreAcl file volume) = slot _ _ status (λ file. slot _ _ sync (λ volume. at_end (replies.StoreAcl file volume) refl refl))
reply_makes (replies.StoreStatus file volume) = slot _ _ status (λ file. slot _ _ sync (λ volume. at_end (replies.StoreStatus file volume) refl refl))
reply_makes (replies.RemoveFile directory volume) = slot _ _ status (λ directory. slot _ _ sync (λ volume. at_end (replies.RemoveFile directory volume) refl refl))
reply_makes (replies.CreateFile created file directory promise volume) = slot _ _ fid (λ created. slot _ _ status (λ file. slot _ _ status (λ directory. slot _ _ callback (λ promise. slot _ _ sync (λ volume. at_end (replies.CreateFile created file directory promise volume) refl refl)))))
reply_makes (replies.Rename old_directory new_directory volume) = slot _ _ status (λ old_directory. slot _ _ status (λ new_directory. slot _ _ sync (λ volume. at_end (replies.Rename old_directory new_directory volume) refl refl)))
reply_makes (replies.Symlink created file directory volume) = slot _ _ fid (λ created. slot _ _ status (λ file. slot _ _ status (λ directory. slot _ _ sync (λ volume. at_end (replies.Symlink created file directory volume) refl refl))))
reply_makes (replies.Link file directory volume) = slot _ _ status (λ file. slot _ _ status (λ directory. slot _ _ sync (λ volume. at_end (replies.Link file directory volume) refl refl)))
reply_makes (replies.MakeDir created file directory promise volume) = slot _ _ fid (λ created. slot _ _ status (λ file. slot _ _ status (λ directory. slot _ _ callback (λ promise. slot _ _ sync (λ volume. at_end (replies.MakeDir created file directory promise volume) refl refl)))))
reply_makes (replies.RemoveDir directory volume) = slot _ _ status (λ directory. slot _ _ sync (λ volume. at_end (replies.RemoveDir directory volume) refl refl))
reply_makes replies.GiveUpCallBacks = at_end replies.GiveUpCallBacks refl refl
reply_makes (replies.GetVolumeStatus volume kind quota blocks_used name) = slot _ _ word (λ volume. slot _ _ volume_kind (λ kind. slot _ _ word (λ quota. slot _ _ word (λ blocks_used. slot _ _ opaque (λ name. at_end (replies.GetVolumeStatus volume kind quota blocks_used name) refl refl)))))
reply_makes (replies.GetTime clock microseconds) = slot _ _ word (λ clock. slot _ _ word (λ microseconds. at_end (replies.GetTime clock microseconds) refl refl))
reply_makes (replies.BulkStatus files promises volume) = slot _ _ statuses (λ files. slot _ _ callbacks (λ promises. slot _ _ sync (λ volume. at_end (replies.BulkStatus files promises volume) refl refl)))
reply_makes replies.CallBack = at_end replies.CallBack refl refl
reply_makes replies.InitCallBackState = at_end replies.InitCallBackState refl refl
reply_makes replies.Probe = at_end replies.Probe refl refl

reply_again : (reply : FsReply) → message_of fs_replies (reply_number reply) (reply_fields reply) ≡ Some reply
unfolding taken_behind
reply_again (replies.FetchData contents file promise volume) = refl
reply_again (replies.FetchAcl acl file volume) = refl
reply_again (replies.FetchStatus file promise volume) = refl
reply_again (replies.StoreData file volume) = refl
reply_again (replies.StoreAcl file volume) = refl
reply_again (replies.StoreStatus file volume) = refl
reply_again (replies.RemoveFile directory volume) = refl
reply_again (replies.CreateFile created file directory promise volume) = refl
reply_again (replies.Rename old_directory new_directory volume) = refl
reply_again (replies.Symlink created file directory volume) = refl
reply_again (replies.Link file directory volume) = refl
reply_again (replies.MakeDir created file directory promise volume) = refl
reply_again (replies.RemoveDir directory volume) = refl
reply_again replies.GiveUpCallBacks = refl
reply_again (replies.GetVolumeStatus volume kind quota blocks_used name) = refl
reply_again (replies.GetTime clock microseconds) = refl
reply_again (replies.BulkStatus files promises volume) = refl
reply_again replies.CallBack = refl
reply_again replies.InitCallBackState = refl
reply_again replies.Probe = refl

pub replies_sound : IsSoundTable fs_replies
replies_sound = record { makes = all_make fs_replies reply_makes; again = reply_again }
