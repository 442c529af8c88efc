-- The rows of the two tables make their messages: field by field.
use Rattle.std.proofs.Common.{◌≡◌, Some, refl}
use Rattle.afs_num.specs.declared.volume_calls.VolCall.{VolCall}
use Rattle.afs_num.specs.declared.volume_calls.VolCall.TheVariants as calls
use Rattle.afs_num.specs.declared.volume_calls.VolReply.{VolReply}
use Rattle.afs_num.specs.declared.volume_calls.VolReply.TheVariants as replies
use Rattle.spec_shape.specs.Rows.{message_of, IsSoundTable}
use Rattle.spec_shape.specs.Taking.{taken_behind}
use Rattle.spec_shape.proofs.MadeLaws.{opaque, server, volume_kind, volumes, word, at_end, slot, RowMakes, all_make}
use Rattle.spec_model.specs.VolRows.{vol_calls, vol_replies}

pub call_makes : (call : VolCall) → RowMakes vol_calls call
call_makes (calls.CreateVolume family volume name kind flags quota) = slot _ _ word (λ family. slot _ _ word (λ volume. slot _ _ opaque (λ name. slot _ _ volume_kind (λ kind. slot _ _ word (λ flags. slot _ _ word (λ quota. at_end (calls.CreateVolume family volume name kind flags quota) refl refl))))))
call_makes (calls.DeleteVolume family transaction) = slot _ _ word (λ family. slot _ _ word (λ transaction. at_end (calls.DeleteVolume family transaction) refl refl))
call_makes (calls.Restore family transaction offset last piece) = slot _ _ word (λ family. slot _ _ word (λ transaction. slot _ _ word (λ offset. slot _ _ word (λ last. slot _ _ opaque (λ piece. at_end (calls.Restore family transaction offset last piece) refl refl)))))
call_makes (calls.Forward family transaction from its_server its_transaction) = slot _ _ word (λ family. slot _ _ word (λ transaction. slot _ _ word (λ from. slot _ _ server (λ its_server. slot _ _ word (λ its_transaction. at_end (calls.Forward family transaction from its_server its_transaction) refl refl)))))
call_makes (calls.EndTrans family transaction) = slot _ _ word (λ family. slot _ _ word (λ transaction. at_end (calls.EndTrans family transaction) refl refl))
call_makes (calls.Clone family transaction volume name kind) = slot _ _ word (λ family. slot _ _ word (λ transaction. slot _ _ word (λ volume. slot _ _ opaque (λ name. slot _ _ volume_kind (λ kind. at_end (calls.Clone family transaction volume name kind) refl refl)))))
call_makes (calls.SetFlags family transaction flags) = slot _ _ word (λ family. slot _ _ word (λ transaction. slot _ _ word (λ flags. at_end (calls.SetFlags family transaction flags) refl refl)))
call_makes (calls.GetFlags family transaction) = slot _ _ word (λ family. slot _ _ word (λ transaction. at_end (calls.GetFlags family transaction) refl refl))
call_makes (calls.TransCreate family volume flags) = slot _ _ word (λ family. slot _ _ word (λ volume. slot _ _ word (λ flags. at_end (calls.TransCreate family volume flags) refl refl)))
call_makes (calls.Dump family transaction from offset) = slot _ _ word (λ family. slot _ _ word (λ transaction. slot _ _ word (λ from. slot _ _ word (λ offset. at_end (calls.Dump family transaction from offset) refl refl))))
call_makes (calls.SetForwarding family transaction new_server) = slot _ _ word (λ family. slot _ _ word (λ transaction. slot _ _ server (λ new_server. at_end (calls.SetForwarding family transaction new_server) refl refl)))
call_makes (calls.GetStatus family transaction) = slot _ _ word (λ family. slot _ _ word (λ transaction. at_end (calls.GetStatus family transaction) refl refl))
call_makes (calls.ListVols family) = slot _ _ word (λ family. at_end (calls.ListVols family) refl refl)
call_makes (calls.ReClone family transaction volume) = slot _ _ word (λ family. slot _ _ word (λ transaction. slot _ _ word (λ volume. at_end (calls.ReClone family transaction volume) refl refl)))

call_again : (call : VolCall) → message_of vol_calls (vol_calls.row call).opcode (vol_calls.row call).fields ≡ Some call
unfolding taken_behind
call_again (calls.CreateVolume family volume name kind flags quota) = refl
call_again (calls.DeleteVolume family transaction) = refl
call_again (calls.Restore family transaction offset last piece) = refl
call_again (calls.Forward family transaction from its_server its_transaction) = refl
call_again (calls.EndTrans family transaction) = refl
call_again (calls.Clone family transaction volume name kind) = refl
call_again (calls.SetFlags family transaction flags) = refl
call_again (calls.GetFlags family transaction) = refl
call_again (calls.TransCreate family volume flags) = refl
call_again (calls.Dump family transaction from offset) = refl
call_again (calls.SetForwarding family transaction new_server) = refl
call_again (calls.GetStatus family transaction) = refl
call_again (calls.ListVols family) = refl
call_again (calls.ReClone family transaction volume) = refl

pub calls_sound : IsSoundTable vol_calls
calls_sound = record { makes = all_make vol_calls call_makes; again = call_again }

pub reply_makes : (reply : VolReply) → RowMakes vol_replies reply
reply_makes (replies.CreateVolume transaction) = slot _ _ word (λ transaction. at_end (replies.CreateVolume transaction) refl refl)
reply_makes replies.DeleteVolume = at_end replies.DeleteVolume refl refl
reply_makes replies.Restore = at_end replies.Restore refl refl
reply_makes replies.Forward = at_end replies.Forward refl refl
reply_makes replies.EndTrans = at_end replies.EndTrans refl refl
reply_makes (replies.Clone counter release) = slot _ _ word (λ counter. slot _ _ word (λ release. at_end (replies.Clone counter release) refl refl))
reply_makes replies.SetFlags = at_end replies.SetFlags refl refl
reply_makes (replies.GetFlags flags) = slot _ _ word (λ flags. at_end (replies.GetFlags flags) refl refl)
reply_makes (replies.TransCreate transaction) = slot _ _ word (λ transaction. at_end (replies.TransCreate transaction) refl refl)
reply_makes (replies.Dump last piece) = slot _ _ word (λ last. slot _ _ opaque (λ piece. at_end (replies.Dump last piece) refl refl))
reply_makes replies.SetForwarding = at_end replies.SetForwarding refl refl
reply_makes (replies.GetStatus volume kind flags quota used counter release) = slot _ _ word (λ volume. slot _ _ volume_kind (λ kind. slot _ _ word (λ flags. slot _ _ word (λ quota. slot _ _ word (λ used. slot _ _ word (λ counter. slot _ _ word (λ release. at_end (replies.GetStatus volume kind flags quota used counter release) refl refl)))))))
reply_makes (replies.ListVols listed) = slot _ _ volumes (λ listed. at_end (replies.ListVols listed) refl refl)
reply_makes (replies.ReClone counter release) = slot _ _ word (λ counter. slot _ _ word (λ release. at_end (replies.ReClone counter release) refl refl))

reply_again : (reply : VolReply) → message_of vol_replies (vol_replies.row reply).opcode (vol_replies.row reply).fields ≡ Some reply
unfolding taken_behind
reply_again (replies.CreateVolume transaction) = refl
reply_again replies.DeleteVolume = refl
reply_again replies.Restore = refl
reply_again replies.Forward = refl
reply_again replies.EndTrans = refl
reply_again (replies.Clone counter release) = refl
reply_again replies.SetFlags = refl
reply_again (replies.GetFlags flags) = refl
reply_again (replies.TransCreate transaction) = refl
reply_again (replies.Dump last piece) = refl
reply_again replies.SetForwarding = refl
reply_again (replies.GetStatus volume kind flags quota used counter release) = refl
reply_again (replies.ListVols listed) = refl
reply_again (replies.ReClone counter release) = refl

pub replies_sound : IsSoundTable vol_replies
replies_sound = record { makes = all_make vol_replies reply_makes; again = reply_again }
