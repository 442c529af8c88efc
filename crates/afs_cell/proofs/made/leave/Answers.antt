use Rattle.afs_cell.proofs.SummedUp.{left_behind}
use Rattle.afs_cell.proofs.made.leave.Goals as goal

pub returns-clause-left : goal.returns-clause-left
returns-clause-left g c =
    left_behind g.B.D.Disk.seen g.B.D.Disk.may_leave g.B.D.Disk.faults g.B.D.Disk.limit c.args.world c.end-disks.result _ _ _ c.end-disks.ensures.disks c.end-disks.ensures.standing c.give_up.ensures.back c.give_up.ensures.faults c.give_up.ensures.never_falls
