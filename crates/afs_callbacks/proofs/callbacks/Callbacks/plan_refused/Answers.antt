use Rattle.std.proofs.Common.{◌≡◌, [], ap, sym, subst, to_z-of_z, ◌∙◌}
use Rattle.afs_num.specs.declared.messages.Message.{Message}
use Rattle.spec_model.specs.Messages.{HasSpelling}
use Rattle.spec_rows.specs.ServerRow.{refusal}
use Rattle.afs_callbacks.specs.Answering.{IsRepliedNow}
use Rattle.afs_callbacks.proofs.Spelled.{refused_spelled}
use Rattle.afs_callbacks.proofs.callbacks.Callbacks.plan_refused.Goals as goal

pub from_message-requires : goal.from_message-requires
from_message-requires c =
    let told : c.refusal-message.result ≡ refusal c.args.stand.boot c.args.head.now c.args.code = c.refusal-message.ensures ∙ ap (refusal c.args.stand.boot c.args.head.now) (to_z-of_z c.ranges.code) in
    subst HasSpelling (sym told) (refused_spelled c.args.stand.boot c.args.head.now c.args.code c.requires.head c.requires.code)

pub returns : goal.returns
returns c =
    let told : c.in_ok-reply.reply ≡ refusal c.args.stand.boot c.args.head.now c.args.code = c.in_ok-reply.ensures ∙ (c.refusal-message.ensures ∙ ap (refusal c.args.stand.boot c.args.head.now) (to_z-of_z c.ranges.code)) in
    subst (λ (m : Message). IsRepliedNow c.args.stand c.args.self.now c.args.now m [] c.in_ok-replied.replied.ended c.in_ok-replied.replied.kept) told c.in_ok-replied.ensures
