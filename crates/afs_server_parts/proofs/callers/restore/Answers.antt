use Rattle.std.proofs.Common.{◌≡◌, List, None, Option, Some, ℕ, ap, sym, ◌∙◌}
use Rattle.afs_num.specs.declared.messages.Message.{Message}
use Rattle.spec_model.specs.Calls.{call_seated}
use Rattle.spec_model.specs.Messages.{received}
use Rattle.afs_message.specs.Spelled.{message_in, reply_in}
use Rattle.afs_message.proofs.Read.{no_message}
use Rattle.afs_server_parts.proofs.callers.restore.Goals as goal

pub returns-in_ok-reply-clause-seats : goal.returns-in_ok-reply-clause-seats
returns-in_ok-reply-clause-seats c =
    let key = c.args.key in
    c.answer.ensures.seats
    ∙ ap (λ (o : Option Message). call_seated (record { caller = key.node; epoch = key.epoch; number = key.number; reply = o }) c.args.callers.now.seats)
    (sym c.of_spelling.ensures.read ∙ ap (λ (bytes : List ℕ). reply_in (Some bytes)) c.in_ok-reply.ensures)

pub returns-else-branch-clause-seats : goal.returns-else-branch-clause-seats
returns-else-branch-clause-seats c =
    let key = c.args.key in
    let none : message_in (received c.args.reply.now) ≡ None = no_message (received c.args.reply.now) (sym c.in_ok-is_message.ensures.value ∙ c.if-branch.false) in
    c.start.ensures.seats ∙ ap (λ (o : Option Message). call_seated (record { caller = key.node; epoch = key.epoch; number = key.number; reply = o }) c.args.callers.now.seats) (sym none)
