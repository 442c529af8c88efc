use Rattle.std.proofs.Common.{◌≡◌, ap, sym, subst, ◌∙◌}
use Rattle.afs_num.specs.declared.calls.FsReply.{FsReply}
use Rattle.afs_num.specs.declared.messages.Carried.TheVariants as carried
use Rattle.afs_num.specs.declared.messages.Reply.TheVariants as tell
use Rattle.spec_model.specs.Messages.{HasSpelling}
use Rattle.spec_rows.specs.ServerRow.{promised_in, replied}
use Rattle.afs_callbacks.proofs.Spelled.{promised_number, promised_within, replied_spelled}
use Rattle.afs_callbacks.proofs.answering.reply_told.Goals as goal

pub from_message-requires : goal.from_message-requires
from_message-requires c =
    let reply = promised_in c.args.expiry c.args.told in
    let told : c.reply-message.result ≡ replied c.args.boot c.args.head.now (carried.Reply (tell.File reply)) =
    c.reply-message.ensures ∙ ap (λ (x : FsReply). replied c.args.boot c.args.head.now (carried.Reply (tell.File x))) c.in_ok-told.ensures in
    subst HasSpelling (sym told)
    (replied_spelled c.args.boot c.args.head.now reply c.requires.sound (c.requires.number ∙ sym (promised_number c.args.expiry c.args.told)) (promised_within c.args.expiry c.args.told c.requires.within))

pub returns : goal.returns
returns c = c.in_ok-spelled.ensures ∙ (c.reply-message.ensures ∙ ap (λ (x : FsReply). replied c.args.boot c.args.head.now (carried.Reply (tell.File x))) c.in_ok-told.ensures)
