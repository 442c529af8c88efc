use Rattle.spec_model.proofs.RpcLaws.{call_spells}
use Rattle.afs_rpc.proofs.calls.encode_call.Goals as goal

pub returns-clause-spells : goal.returns-clause-spells
returns-clause-spells g c = λ head. call_spells g.M.Messages.table c.args.head.now c.args.user.now c.args.call.now c.in_ok-bytes.bytes c.requires.user c.requires.row c.in_ok-bytes.ensures.fits.0 c.in_ok-bytes.ensures.fits.1 c.in_ok-bytes.ensures.spelled head
