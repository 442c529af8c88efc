use Rattle.std.proofs.Common.{◌∙◌}
use Rattle.afs_admins.proofs.Waits.{busy}
use Rattle.afs_admins.proofs.admins.AdminSeat.is_busy.Goals as goal

pub returns : goal.returns
returns c = c.is_some.ensures ∙ busy c.args.self.now.mover.node c.args.self.now.mover.state c.waits_on.result c.waits_on.ensures
