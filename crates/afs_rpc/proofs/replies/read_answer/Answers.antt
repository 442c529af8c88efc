use Rattle.std.proofs.Common.{rules}
use Rattle.afs_rpc.proofs.Taken.{answered, unanswered}
use Rattle.afs_rpc.proofs.replies.read_answer.Goals as goal

pub returns-in_err-reply : goal.returns-in_err-reply
returns-in_err-reply g c =
    unanswered g.M.Messages.table c.args.opcode _ c.args.done c.args.r.now.left c.in_err-reply.field-0.0 c.from_residual-in_err-reply.result (search rules) c.if-done.true c.in_ok-_shape.ensures.kinds c.in_err-reply.ensures

pub returns-in_ok-reply : goal.returns-in_ok-reply
returns-in_ok-reply g c = answered g.M.Messages.table c.args.opcode _ c.args.done c.args.r.now.left c.in_ok-reply.reply c.if-done.true c.in_ok-_shape.ensures.kinds c.in_ok-reply.ensures
