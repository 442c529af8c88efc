-- What a server answers has a spelling.
use Rattle.std.proofs.Common.{◌≡◌, ℕ, map, length, false, refl, sym, subst}
use Rattle.std.specs.Prelude.{ℤ}
use Rattle.std.proofs.lemmas.List.{length-map}
use Rattle.afs_num.specs.declared.calls.AfsCallBack.{AfsCallBack}
use Rattle.afs_num.specs.declared.calls.FsReply.{FsReply}
use Rattle.afs_num.specs.declared.calls.FsReply.TheVariants as replies
use Rattle.afs_num.specs.declared.messages.Carried.TheVariants as carried
use Rattle.afs_num.specs.declared.messages.Reply.TheVariants as tell
use Rattle.afs_num.specs.declared.types.Head.{Head}
use Rattle.spec_shape.specs.Rows.{IsWithin}
use Rattle.spec_shape.specs.Tables.{IsCount}
use Rattle.spec_model.specs.CellRows.{cell_replies, reply_number}
use Rattle.spec_model.specs.Heads.{is_zero, IsSoundHead}
use Rattle.spec_model.specs.Messages.{HasSpelling}
use Rattle.spec_rows.specs.ServerRow.{boot_told, promised_in, promise_until, refusal, replied}

pub told_spelled : (boot : ℕ) (head : Head) → IsSoundHead head → HasSpelling (boot_told boot head)
told_spelled boot head h = ((h.1, h.0), refl)

pub refused_spelled : (boot : ℕ) (head : Head) (code : ℤ) → IsSoundHead head → is_zero code ≡ false → HasSpelling (refusal boot head code)
refused_spelled boot head code h e = ((h.1, h.0), (refl, e))

pub replied_spelled : (boot : ℕ) (head : Head) (reply : FsReply) → IsSoundHead head → head.opcode ≡ reply_number (tell.File reply) → IsWithin cell_replies (tell.File reply) →
    HasSpelling (replied boot head (carried.Reply (tell.File reply)))
replied_spelled boot head reply h e w = ((h.1, h.0), (refl, e, w))

pub promised_number : (expiry : ℕ) (reply : FsReply) → reply_number (tell.File (promised_in expiry reply)) ≡ reply_number (tell.File reply)
promised_number expiry (replies.FetchData contents status callback sync) = refl
promised_number expiry (replies.FetchStatus status callback sync) = refl
promised_number expiry (replies.BulkStatus statuses callbacks sync) = refl
promised_number expiry (replies.CreateFile fid status directory callback sync) = refl
promised_number expiry (replies.MakeDir fid status directory callback sync) = refl
promised_number expiry reply = refl

pub promised_within : (expiry : ℕ) (reply : FsReply) → IsWithin cell_replies (tell.File reply) → IsWithin cell_replies (tell.File (promised_in expiry reply))
promised_within expiry (replies.FetchData contents status callback sync) w = w
promised_within expiry (replies.FetchStatus status callback sync) w = w
promised_within expiry (replies.BulkStatus statuses callbacks sync) w =
    (w.0, (subst (IsCount 50) (sym (length-map callbacks (λ (c : AfsCallBack). promise_until expiry))) w.1.0, w.1.1))
promised_within expiry (replies.CreateFile fid status directory callback sync) w = w
promised_within expiry (replies.MakeDir fid status directory callback sync) w = w
promised_within expiry reply w = w
