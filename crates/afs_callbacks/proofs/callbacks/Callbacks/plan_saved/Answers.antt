use Rattle.std.proofs.Common.{[], sym, subst}
use Rattle.afs_num.specs.declared.messages.Message.{Message}
use Rattle.afs_message.specs.Spelled.{Spells}
use Rattle.afs_callbacks.specs.Answering.{IsRepliedAfter}
use Rattle.afs_callbacks.proofs.callbacks.Callbacks.plan_saved.Goals as goal

pub returns : goal.returns
returns c =
    let s = c.args.stand in
    let m = c.args.self.now in
    let replied : IsRepliedAfter s m c.args.now c.in_ok-reply.reply c.args.breaks.now [] c.in_ok-ended.ended c.in_ok-kept.kept =
    record { answer = c.in_ok-ended.ensures; kept = subst (Spells c.in_ok-reply.reply) (sym c.in_ok-kept.ensures) c.bytes.ensures } in
    subst (λ (x : Message). IsRepliedAfter s m c.args.now x c.args.breaks.now [] c.in_ok-ended.ended c.in_ok-kept.kept) c.in_ok-reply.ensures replied
