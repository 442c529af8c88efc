use Rattle.std.proofs.Common.{[], subst}
use Rattle.afs_num.specs.declared.messages.Message.{Message}
use Rattle.afs_callbacks.specs.Answering.{IsRepliedNow}
use Rattle.afs_callbacks.proofs.Planned.{retold}
use Rattle.afs_callbacks.proofs.callbacks.Callbacks.plan_shown.Goals as goal

pub returns : goal.returns
returns c =
    let is = subst (λ (m : Message). IsRepliedNow c.args.stand c.args.self.now c.args.now m [] c.in_ok-replied.replied.ended c.in_ok-replied.replied.kept) c.in_ok-reply.ensures c.in_ok-replied.ensures in
    record { answer = λ l owes. retold c.args.stand _ [] _ _ _ c.in_ok-lines.ensures (is.answer l owes); kept = is.kept }
