use Rattle.std.proofs.Common.{◌≡◌, Option, Some, ap, sym, ◌∙◌}
use Rattle.afs_num.specs.declared.messages.Message.{Message}
use Rattle.afs_num.specs.declared.types.Key.{Key}
use Rattle.spec_model.specs.Calls.{call_seated}
use Rattle.afs_call.proofs.Runs.{room_for}
use Rattle.afs_message.specs.Spelled.{message_in, reply_in}
use Rattle.afs_server.proofs.answering.keep_reply.Goals as goal

pub answer-requires-clause-room : goal.answer-requires-clause-room
answer-requires-clause-room c = room_for _ _ c.requires.room

pub returns-clause-seats : goal.returns-clause-seats
returns-clause-seats c m is =
    let head = c.args.head.now in
    let told : reply_in (Some c.args.reply) ≡ Some m = ap message_in is.read in
    c.answer.ensures.seats
    ∙ (ap (λ (k : Key). call_seated (record { caller = k.node; epoch = k.epoch; number = k.number; reply = Some c.of_spelling.result }) c.args.callers.now.seats) c.key.ensures
    ∙ ap (λ (o : Option Message). call_seated (record { caller = head.from; epoch = head.epoch; number = head.number; reply = o }) c.args.callers.now.seats) (sym c.of_spelling.ensures.read ∙ told))
