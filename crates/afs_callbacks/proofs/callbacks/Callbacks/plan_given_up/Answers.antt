use Rattle.std.proofs.Common.{[], sym, subst, ◌∙◌}
use Rattle.afs_num.specs.declared.calls.FsReply.TheVariants as replies
use Rattle.afs_num.specs.declared.messages.Message.{Message}
use Rattle.spec_model.specs.Messages.{HasSpelling}
use Rattle.afs_callbacks.specs.Answering.{IsRepliedNow}
use Rattle.afs_callbacks.proofs.Spelled.{replied_spelled}
use Rattle.afs_callbacks.proofs.callbacks.Callbacks.plan_given_up.Goals as goal

pub from_message-requires : goal.from_message-requires
from_message-requires c = subst HasSpelling (sym c.reply-message.ensures) (replied_spelled c.args.stand.boot c.args.head.now replies.GiveUpCallBacks c.requires.head c.requires.opcode tt)

pub returns : goal.returns
returns c =
    subst (λ (m : Message). IsRepliedNow c.args.stand c.args.self.now c.args.now m [] c.in_ok-replied.replied.ended c.in_ok-replied.replied.kept) (c.in_ok-told.ensures ∙ c.reply-message.ensures) c.in_ok-replied.ensures
