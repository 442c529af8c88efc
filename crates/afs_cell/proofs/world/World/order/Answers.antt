use Rattle.std.proofs.Common.{None}
use Rattle.afs_num.specs.declared.types.Node.TheVariants.{Admin}
use Rattle.afs_cell.proofs.Clocks.{clock_ordered}
use Rattle.afs_cell.proofs.Since.{admins_ready_since, inside_admins_since, keeps_ordered, ordered_since}
use Rattle.afs_cell.proofs.world.World.order.Goals as goal

pub admin_takes-happened-requires-clause-ready : goal.admin_takes-happened-requires-clause-ready
admin_takes-happened-requires-clause-ready g c = admins_ready_since g.D.Disk.limit _ c.args.self.now c.self.view_is c.requires.safe c.requires.going c.requires.few

pub returns-clause-stepped : goal.returns-clause-stepped
returns-clause-stepped g c =
    ordered_since g.D.Disk.seen g.D.Disk.may_leave g.D.Disk.faults g.D.Disk.limit _ c.args.self.now c.self.view_is c.requires.going c.requires.few c.settle.new.self c.settle.result
    c.args.admin c.args.given c.admin_takes-happened.new.admins.items c.admin_takes-happened.result
    (inside_admins_since g.D.Disk.limit _ c.args.self.now c.self.view_is c.requires.safe c.args.admin c.requires.inside) c.admin_takes-happened.ensures c.settle.ensures

pub returns-clause-keeps : goal.returns-clause-keeps
returns-clause-keeps g c =
    keeps_ordered _ c.args.self.now c.settle.new.self c.admin_takes-happened.new.admins.items (Admin c.args.admin) None c.admin_takes-happened.result c.settle.result c.self.view_is c.settle.ensures

pub returns-clause-clock : goal.returns-clause-clock
returns-clause-clock g c =
    clock_ordered _ c.args.self.now c.settle.new.self c.admin_takes-happened.new.admins.items (Admin c.args.admin) None c.admin_takes-happened.result c.settle.result c.self.view_is c.settle.ensures
