use Rattle.afs_cell.proofs.Falling.{fallen_put}
use Rattle.afs_cell.proofs.giving.fall.Goals as goal

pub returns : goal.returns
returns g c = fallen_put g.D.Disk.seen g.D.Disk.left_by g.D.Disk.may_leave g.D.Disk.faults g.D.Disk.limit c.args.server c.args.servers.now c.lift.new.self c.put.new.self.items c.in-Some.seat c.fall-seat.result.0 c.fall-seat.result.1 c.in-Some.ensures.some c.put.ensures c.fall-seat.ensures
