use Rattle.std.specs.Option.{option_copied}
use Rattle.spec_model.proofs.RpcLaws.{reply_spells}
use Rattle.afs_rpc.proofs.replies.encode_reply.Goals as goal

pub returns-clause-spells : goal.returns-clause-spells
returns-clause-spells g c = λ head is. reply_spells g.M.Messages.table c.args.head.now c.args.code.0 (option_copied c.args.reply) c.in_ok-bytes.bytes c.requires c.in_ok-bytes.ensures.fits.0 c.in_ok-bytes.ensures.fits.1 c.in_ok-bytes.ensures.fits.2 c.in_ok-bytes.ensures.spelled head is
