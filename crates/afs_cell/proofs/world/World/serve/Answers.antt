use Rattle.std.proofs.Common.{None}
use Rattle.afs_num.specs.declared.types.Node.TheVariants.{Server}
use Rattle.afs_cell.proofs.Clocks.{clock_served}
use Rattle.afs_cell.proofs.Picked.{picked}
use Rattle.afs_cell.proofs.Since.{can_since, keeps_served, served_since}
use Rattle.afs_cell.proofs.world.World.serve.Goals as goal

pub server_takes-happened-requires-clause-can : goal.server_takes-happened-requires-clause-can
server_takes-happened-requires-clause-can g c = can_since g.D.Disk.limit _ c.args.self.now c.self.view_is c.requires.safe c.requires.going c.requires.few

pub returns-clause-stepped : goal.returns-clause-stepped
returns-clause-stepped g c =
    served_since g.D.Disk.seen g.D.Disk.may_leave g.D.Disk.faults g.D.Disk.limit _ c.args.self.now c.self.view_is c.requires.going c.requires.few c.settle.new.self c.settle.result
    c.args.server c.args.given c.server_takes-happened.new.servers.items c.server_takes-happened.result c.server_takes-happened.ensures.happened c.settle.ensures

pub returns-clause-picked : goal.returns-clause-picked
returns-clause-picked g c = λ pick crash.
    picked g.D.Disk.seen g.D.Disk.left_by g.D.Disk.may_leave g.D.Disk.faults g.D.Disk.limit c.args.server pick c.args.given _ c.args.self.now c.settle.new.self c.server_takes-happened.new.servers.items c.server_takes-happened.result c.settle.result c.self.view_is crash
    c.server_takes-happened.ensures.happened c.server_takes-happened.ensures.picked c.settle.ensures

pub returns-clause-keeps : goal.returns-clause-keeps
returns-clause-keeps g c =
    keeps_served _ c.args.self.now c.settle.new.self c.server_takes-happened.new.servers.items (Server c.args.server) None c.server_takes-happened.result c.settle.result c.self.view_is c.settle.ensures

pub returns-clause-clock : goal.returns-clause-clock
returns-clause-clock g c =
    clock_served _ c.args.self.now c.settle.new.self c.server_takes-happened.new.servers.items (Server c.args.server) None c.server_takes-happened.result c.settle.result c.self.view_is c.settle.ensures
