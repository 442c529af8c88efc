use Rattle.spec_model.proofs.RpcLaws.{message_spellable}
use Rattle.afs_rpc.proofs.calls.spell_call.Goals as goal

pub write-requires : goal.write-requires
write-requires g c = message_spellable g.M.Messages.table c.args.call.now c.requires.row
