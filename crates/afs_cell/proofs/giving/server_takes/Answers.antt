use Rattle.std.proofs.Common.{[]}
use Rattle.afs_num.specs.declared.types.Node.TheVariants.{Server}
use Rattle.afs_cell.specs.SeatSteps.{HasStep, IsVoidServer}
use Rattle.afs_cell.proofs.Lifted.{server_put}
use Rattle.afs_cell.proofs.SeatPicked.{pick_put}
use Rattle.afs_cell.proofs.giving.server_takes.Goals as goal

pub take-seat-requires-clause-can : goal.take-seat-requires-clause-can
take-seat-requires-clause-can g c = (c.requires.can c.args.server c.in-Some.seat c.in-Some.ensures.some.found).can

pub take-seat-requires-clause-node : goal.take-seat-requires-clause-node
take-seat-requires-clause-node g c = (c.requires.can c.args.server c.in-Some.seat c.in-Some.ensures.some.found).node

pub take-seat-requires-clause-limit : goal.take-seat-requires-clause-limit
take-seat-requires-clause-limit g c = (c.requires.can c.args.server c.in-Some.seat c.in-Some.ensures.some.found).few

pub returns-clause-happened : goal.returns-clause-happened
returns-clause-happened g c =
    server_put g.D.Disk.seen g.D.Disk.may_leave g.D.Disk.faults g.D.Disk.limit c.args.server [] (IsVoidServer c.args.given) (HasStep (Server c.args.server) c.args.now c.args.clients c.args.given) c.args.servers.now c.lift.new.self c.put.new.self.items c.in-Some.seat c.take-seat.result.0 c.take-seat.result.1
    c.in-Some.ensures.some c.put.ensures c.take-seat.ensures.happens c.take-seat.ensures.goes c.take-seat.ensures.keeps

pub returns-clause-picked : goal.returns-clause-picked
returns-clause-picked g c =
    pick_put g.D.Disk.seen g.D.Disk.left_by c.args.server c.args.given c.take-seat.result.1 c.args.servers.now c.lift.new.self c.put.new.self.items c.in-Some.seat c.take-seat.result.0 c.in-Some.ensures.some c.put.ensures c.take-seat.ensures.picked
