use Rattle.std.proofs.Common.{None}
use Rattle.afs_num.specs.declared.types.Node.TheVariants.{Loc}
use Rattle.afs_cell.proofs.Clocks.{clock_managed}
use Rattle.afs_cell.proofs.DatabasePicked.{loc_picked}
use Rattle.afs_cell.proofs.Since.{can_manage_since, keeps_managed, managed_since}
use Rattle.afs_cell.proofs.world.World.serve_database.Goals as goal

pub database_takes-happened-requires-clause-can : goal.database_takes-happened-requires-clause-can
database_takes-happened-requires-clause-can g c = can_manage_since g.D.Disk.limit _ c.args.self.now c.self.view_is c.requires.safe c.requires.going c.requires.few

pub returns-clause-stepped : goal.returns-clause-stepped
returns-clause-stepped g c =
    managed_since g.D.Disk.seen g.D.Disk.may_leave g.D.Disk.faults g.D.Disk.limit _ c.args.self.now c.self.view_is c.requires.going c.requires.few c.settle.new.self c.settle.result
    c.args.given c.database_takes-happened.new.seat c.database_takes-happened.result c.database_takes-happened.ensures.happened c.settle.ensures

pub returns-clause-picked : goal.returns-clause-picked
returns-clause-picked g c = λ pick crash.
    loc_picked g.D.Disk.seen g.D.Disk.left_by g.D.Disk.may_leave g.D.Disk.faults g.D.Disk.limit pick c.args.given _ c.args.self.now c.settle.new.self c.database_takes-happened.new.seat c.database_takes-happened.result c.settle.result c.self.view_is crash
    c.database_takes-happened.ensures.happened c.database_takes-happened.ensures.picked c.settle.ensures

pub returns-clause-keeps : goal.returns-clause-keeps
returns-clause-keeps g c = keeps_managed _ c.args.self.now c.settle.new.self c.database_takes-happened.new.seat Loc None c.database_takes-happened.result c.settle.result c.self.view_is c.settle.ensures

pub returns-clause-clock : goal.returns-clause-clock
returns-clause-clock g c = clock_managed _ c.args.self.now c.settle.new.self c.database_takes-happened.new.seat Loc None c.database_takes-happened.result c.settle.result c.self.view_is c.settle.ensures
