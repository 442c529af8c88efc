use Rattle.std.proofs.Common.{None}
use Rattle.afs_num.specs.declared.types.Node.TheVariants.{Client}
use Rattle.afs_cell.proofs.Clocks.{clock_heard}
use Rattle.afs_cell.proofs.Since.{asked_since, inside_since, keeps_heard, ready_since}
use Rattle.afs_cell.proofs.world.World.ask.Goals as goal

pub client_takes-happened-requires-clause-ready : goal.client_takes-happened-requires-clause-ready
client_takes-happened-requires-clause-ready g c = ready_since g.D.Disk.limit _ c.args.self.now c.self.view_is c.requires.safe c.requires.going c.requires.few

pub returns-clause-stepped : goal.returns-clause-stepped
returns-clause-stepped g c =
    asked_since g.D.Disk.seen g.D.Disk.may_leave g.D.Disk.faults g.D.Disk.limit _ c.args.self.now c.self.view_is c.requires.going c.requires.few c.settle.new.self c.settle.result
    c.args.client c.args.given c.client_takes-happened.new.clients.items c.client_takes-happened.result
    (inside_since g.D.Disk.limit _ c.args.self.now c.self.view_is c.requires.safe c.args.client c.requires.inside) c.client_takes-happened.ensures c.settle.ensures

pub returns-clause-keeps : goal.returns-clause-keeps
returns-clause-keeps g c =
    keeps_heard _ c.args.self.now c.settle.new.self c.client_takes-happened.new.clients.items (Client c.args.client) None c.client_takes-happened.result c.settle.result c.self.view_is c.settle.ensures

pub returns-clause-clock : goal.returns-clause-clock
returns-clause-clock g c =
    clock_heard _ c.args.self.now c.settle.new.self c.client_takes-happened.new.clients.items (Client c.args.client) None c.client_takes-happened.result c.settle.result c.self.view_is c.settle.ensures
