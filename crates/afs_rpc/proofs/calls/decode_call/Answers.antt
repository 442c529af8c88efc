use Rattle.std.proofs.Common.{arith}
use Rattle.spec_model.proofs.RpcLaws.{read_call_is_spelled, spelled_call_is_read}
use Rattle.afs_rpc.proofs.calls.decode_call.Goals as goal

pub returns-clause-spelled : goal.returns-clause-spelled
returns-clause-spelled g c = read_call_is_spelled g.M.Messages.table g.met.M.Messages.is_sound c.args.bytes.now c.read_call.result (λ i. omega (arith, c.type_inv.bytes i)) c.read_call.ensures

pub returns-clause-only : goal.returns-clause-only
returns-clause-only g c = λ head user call spelled. spelled_call_is_read g.M.Messages.table g.met.M.Messages.is_sound c.args.bytes.now c.read_call.result head user call c.read_call.ensures spelled
