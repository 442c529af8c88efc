-- The rows of the two tables make their messages: field by field.
use Rattle.std.proofs.Common.{◌≡◌, Some, refl}
use Rattle.afs_num.specs.declared.location_calls.LocCall.{LocCall}
use Rattle.afs_num.specs.declared.location_calls.LocCall.TheVariants as calls
use Rattle.afs_num.specs.declared.location_calls.LocReply.{LocReply}
use Rattle.afs_num.specs.declared.location_calls.LocReply.TheVariants as replies
use Rattle.spec_shape.specs.Rows.{message_of, IsSoundTable}
use Rattle.spec_shape.specs.Taking.{taken_behind}
use Rattle.spec_shape.proofs.MadeLaws.{entry, opaque, word, at_end, slot, RowMakes, all_make}
use Rattle.spec_model.specs.LocRows.{loc_calls, loc_replies}

pub call_makes : (call : LocCall) → RowMakes loc_calls call
call_makes (calls.CreateEntry new) = slot _ _ entry (λ new. at_end (calls.CreateEntry new) refl refl)
call_makes (calls.DeleteEntry volume) = slot _ _ word (λ volume. at_end (calls.DeleteEntry volume) refl refl)
call_makes (calls.GetEntryById volume) = slot _ _ word (λ volume. at_end (calls.GetEntryById volume) refl refl)
call_makes (calls.GetEntryByName name) = slot _ _ opaque (λ name. at_end (calls.GetEntryByName name) refl refl)
call_makes calls.GetNewVolumeId = at_end calls.GetNewVolumeId refl refl
call_makes (calls.ReplaceEntry volume new) = slot _ _ word (λ volume. slot _ _ entry (λ new. at_end (calls.ReplaceEntry volume new) refl refl))
call_makes (calls.SetLock volume operation force) = slot _ _ word (λ volume. slot _ _ word (λ operation. slot _ _ word (λ force. at_end (calls.SetLock volume operation force) refl refl)))
call_makes (calls.ReleaseLock volume) = slot _ _ word (λ volume. at_end (calls.ReleaseLock volume) refl refl)
call_makes (calls.ListEntry index) = slot _ _ word (λ index. at_end (calls.ListEntry index) refl refl)

call_again : (call : LocCall) → message_of loc_calls (loc_calls.row call).opcode (loc_calls.row call).fields ≡ Some call
unfolding taken_behind
call_again (calls.CreateEntry new) = refl
call_again (calls.DeleteEntry volume) = refl
call_again (calls.GetEntryById volume) = refl
call_again (calls.GetEntryByName name) = refl
call_again calls.GetNewVolumeId = refl
call_again (calls.ReplaceEntry volume new) = refl
call_again (calls.SetLock volume operation force) = refl
call_again (calls.ReleaseLock volume) = refl
call_again (calls.ListEntry index) = refl

pub calls_sound : IsSoundTable loc_calls
calls_sound = record { makes = all_make loc_calls call_makes; again = call_again }

pub reply_makes : (reply : LocReply) → RowMakes loc_replies reply
reply_makes (replies.CreateEntry stamp) = slot _ _ word (λ stamp. at_end (replies.CreateEntry stamp) refl refl)
reply_makes replies.DeleteEntry = at_end replies.DeleteEntry refl refl
reply_makes (replies.GetEntryById found) = slot _ _ entry (λ found. at_end (replies.GetEntryById found) refl refl)
reply_makes (replies.GetEntryByName found) = slot _ _ entry (λ found. at_end (replies.GetEntryByName found) refl refl)
reply_makes (replies.GetNewVolumeId volume) = slot _ _ word (λ volume. at_end (replies.GetNewVolumeId volume) refl refl)
reply_makes replies.ReplaceEntry = at_end replies.ReplaceEntry refl refl
reply_makes (replies.SetLock stamp locked) = slot _ _ word (λ stamp. slot _ _ entry (λ locked. at_end (replies.SetLock stamp locked) refl refl))
reply_makes replies.ReleaseLock = at_end replies.ReleaseLock refl refl
reply_makes (replies.ListEntry next_index found) = slot _ _ word (λ next_index. slot _ _ entry (λ found. at_end (replies.ListEntry next_index found) refl refl))

reply_again : (reply : LocReply) → message_of loc_replies (loc_replies.row reply).opcode (loc_replies.row reply).fields ≡ Some reply
unfolding taken_behind
reply_again (replies.CreateEntry stamp) = refl
reply_again replies.DeleteEntry = refl
reply_again (replies.GetEntryById found) = refl
reply_again (replies.GetEntryByName found) = refl
reply_again (replies.GetNewVolumeId volume) = refl
reply_again replies.ReplaceEntry = refl
reply_again (replies.SetLock stamp locked) = refl
reply_again replies.ReleaseLock = refl
reply_again (replies.ListEntry next_index found) = refl

pub replies_sound : IsSoundTable loc_replies
replies_sound = record { makes = all_make loc_replies reply_makes; again = reply_again }
