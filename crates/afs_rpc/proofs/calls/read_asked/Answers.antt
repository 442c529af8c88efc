use Rattle.std.proofs.Common.{rules}
use Rattle.afs_rpc.proofs.Taken.{asked, refused}
use Rattle.afs_rpc.proofs.calls.read_asked.Goals as goal

pub returns-in_err-call : goal.returns-in_err-call
returns-in_err-call g c =
    refused g.M.Messages.table c.args.opcode _ c.args.r.now.left _ c.in_ok-user.user c.in_err-call.field-0.0 c.from_residual-in_err-call.result (search rules) c.in_ok-_shape.ensures.kinds c.in_ok-user.ensures c.in_err-call.ensures

pub returns : goal.returns
returns g c = asked g.M.Messages.table c.args.opcode _ c.args.r.now.left _ c.in_ok-user.user c.in_ok-call.call c.in_ok-_shape.ensures.kinds c.in_ok-user.ensures c.in_ok-call.ensures
