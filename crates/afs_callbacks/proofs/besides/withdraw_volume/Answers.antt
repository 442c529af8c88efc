use Rattle.afs_callbacks.proofs.Withdrawing.{expired_draws}
use Rattle.afs_callbacks.proofs.besides.withdraw_volume.Goals as goal

pub withdraw_volume-requires : goal.withdraw_volume-requires
withdraw_volume-requires c = expired_draws c.args.now c.args.promises.now c.expire.new.self c.expire.ensures c.requires
