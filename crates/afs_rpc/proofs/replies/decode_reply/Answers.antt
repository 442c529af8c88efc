use Rattle.std.proofs.Common.{arith}
use Rattle.spec_model.proofs.RpcLaws.{read_reply_is_spelled, spelled_reply_is_read}
use Rattle.afs_rpc.proofs.replies.decode_reply.Goals as goal

pub returns-clause-spelled : goal.returns-clause-spelled
returns-clause-spelled g c = read_reply_is_spelled g.M.Messages.table g.met.M.Messages.is_sound c.args.bytes.now c.read_reply.result (λ i. omega (arith, c.type_inv.bytes i)) c.read_reply.ensures

pub returns-clause-only : goal.returns-clause-only
returns-clause-only g c = λ head code reply spelled. spelled_reply_is_read g.M.Messages.table g.met.M.Messages.is_sound c.args.bytes.now c.read_reply.result head code reply c.read_reply.ensures spelled
