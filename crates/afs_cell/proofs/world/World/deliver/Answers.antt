use Rattle.std.proofs.Common.{Some}
use Rattle.afs_num.specs.declared.types.Node.TheVariants.{Admin, Client, Loc, Server}
use Rattle.spec_history.specs.declared.lines.Line.TheVariants as lines
use Rattle.afs_cell.proofs.Clocks.{clock_heard, clock_managed, clock_ordered, clock_served, nothing_clock}
use Rattle.afs_cell.proofs.Since.{admin_heard_since, admins_ready_since, can_manage_since, can_since, keeps_heard, keeps_managed, keeps_ordered, keeps_served, keeps_skipped, message_heard_since, message_managed_since, message_served_since, nobody_since, ready_since}
use Rattle.afs_cell.proofs.world.World.deliver.Goals as goal

pub returns-in_default-clause-stepped : goal.returns-in_default-clause-stepped
returns-in_default-clause-stepped g c =
    nobody_since g.D.Disk.seen g.D.Disk.may_leave g.D.Disk.faults g.D.Disk.limit _ c.args.self.now c.self.view_is c.requires.going c.requires.few c.skip.new.self c.skip.result c.args.place c.requires.kept c.in_default.ensures c.skip.ensures

pub server_hears-happened-requires-clause-can : goal.server_hears-happened-requires-clause-can
server_hears-happened-requires-clause-can g c = can_since g.D.Disk.limit _ c.args.self.now c.self.view_is c.requires.safe c.requires.going c.requires.few

pub client_hears-happened-requires : goal.client_hears-happened-requires
client_hears-happened-requires g c = record { ready = ready_since g.D.Disk.limit _ c.args.self.now c.self.view_is c.requires.safe c.requires.going c.requires.few }

pub returns-in-Server-clause-stepped : goal.returns-in-Server-clause-stepped
returns-in-Server-clause-stepped g c =
    message_served_since g.D.Disk.seen g.D.Disk.may_leave g.D.Disk.faults g.D.Disk.limit _ c.args.self.now c.self.view_is c.requires.going c.requires.few c.settle.new.self c.settle.result
    c.args.place c.in-Some.parcel.now c.in-Server.server c.as_slice-bytes.result.now c.server_hears-happened.new.servers.items c.server_hears-happened.result c.requires.kept c.in-Some.ensures c.in-Server.is c.as_slice-bytes.ensures
    (c.server_hears-happened.ensures c.args.place) c.settle.ensures

pub returns-in-Client-clause-stepped : goal.returns-in-Client-clause-stepped
returns-in-Client-clause-stepped g c =
    message_heard_since g.D.Disk.seen g.D.Disk.may_leave g.D.Disk.faults g.D.Disk.limit _ c.args.self.now c.self.view_is c.requires.going c.requires.few c.settle-in-Client.new.self c.settle-in-Client.result
    c.args.place c.in-Some.parcel.now c.in-Client.client c.as_slice-bytes.result.now c.client_hears-happened.new.clients.items c.client_hears-happened.result c.requires.kept c.in-Some.ensures c.in-Client.is c.as_slice-bytes.ensures
    (c.client_hears-happened.ensures c.args.place) c.settle-in-Client.ensures

pub database_hears-happened-requires : goal.database_hears-happened-requires
database_hears-happened-requires g c = record { can = can_manage_since g.D.Disk.limit _ c.args.self.now c.self.view_is c.requires.safe c.requires.going c.requires.few }

pub returns-in-Loc-clause-stepped : goal.returns-in-Loc-clause-stepped
returns-in-Loc-clause-stepped g c =
    message_managed_since g.D.Disk.seen g.D.Disk.may_leave g.D.Disk.faults g.D.Disk.limit _ c.args.self.now c.self.view_is c.requires.going c.requires.few c.settle-in-Loc.new.self c.settle-in-Loc.result
    c.args.place c.in-Some.parcel.now c.as_slice-bytes.result.now c.database_hears-happened.new.seat c.database_hears-happened.result c.requires.kept c.in-Some.ensures c.in-Loc.is c.as_slice-bytes.ensures
    (λ clock. c.database_hears-happened.ensures clock c.args.place) c.settle-in-Loc.ensures

pub admin_hears-happened-requires : goal.admin_hears-happened-requires
admin_hears-happened-requires g c = record { ready = admins_ready_since g.D.Disk.limit _ c.args.self.now c.self.view_is c.requires.safe c.requires.going c.requires.few }

pub returns-in-Admin-clause-stepped : goal.returns-in-Admin-clause-stepped
returns-in-Admin-clause-stepped g c =
    admin_heard_since g.D.Disk.seen g.D.Disk.may_leave g.D.Disk.faults g.D.Disk.limit _ c.args.self.now c.self.view_is c.requires.going c.requires.few c.settle-in-Admin.new.self c.settle-in-Admin.result
    c.args.place c.in-Some.parcel.now c.in-Admin.admin c.as_slice-bytes.result.now c.admin_hears-happened.new.admins.items c.admin_hears-happened.result c.requires.kept c.in-Some.ensures c.in-Admin.is c.as_slice-bytes.ensures
    (c.admin_hears-happened.ensures c.args.place) c.settle-in-Admin.ensures

pub returns-in_default-clause-keeps : goal.returns-in_default-clause-keeps
returns-in_default-clause-keeps g c = keeps_skipped c.args.self.now c.skip.new.self c.skip.result c.skip.ensures

pub returns-in-Server-clause-keeps : goal.returns-in-Server-clause-keeps
returns-in-Server-clause-keeps g c =
    keeps_served _ c.args.self.now c.settle.new.self c.server_hears-happened.new.servers.items (Server c.in-Server.server) (Some (lines.Given c.args.place)) c.server_hears-happened.result c.settle.result c.self.view_is c.settle.ensures

pub returns-in-Client-clause-keeps : goal.returns-in-Client-clause-keeps
returns-in-Client-clause-keeps g c =
    keeps_heard _ c.args.self.now c.settle-in-Client.new.self c.client_hears-happened.new.clients.items (Client c.in-Client.client) (Some (lines.Given c.args.place)) c.client_hears-happened.result c.settle-in-Client.result c.self.view_is c.settle-in-Client.ensures

pub returns-in-Loc-clause-keeps : goal.returns-in-Loc-clause-keeps
returns-in-Loc-clause-keeps g c =
    keeps_managed _ c.args.self.now c.settle-in-Loc.new.self c.database_hears-happened.new.seat Loc (Some (lines.Given c.args.place)) c.database_hears-happened.result c.settle-in-Loc.result c.self.view_is c.settle-in-Loc.ensures

pub returns-in-Admin-clause-keeps : goal.returns-in-Admin-clause-keeps
returns-in-Admin-clause-keeps g c =
    keeps_ordered _ c.args.self.now c.settle-in-Admin.new.self c.admin_hears-happened.new.admins.items (Admin c.in-Admin.admin) (Some (lines.Given c.args.place)) c.admin_hears-happened.result c.settle-in-Admin.result c.self.view_is c.settle-in-Admin.ensures

pub returns-in_default-clause-clock : goal.returns-in_default-clause-clock
returns-in_default-clause-clock g c = nothing_clock c.args.self.now c.skip.new.self c.skip.result c.skip.ensures

pub returns-in-Server-clause-clock : goal.returns-in-Server-clause-clock
returns-in-Server-clause-clock g c =
    clock_served _ c.args.self.now c.settle.new.self c.server_hears-happened.new.servers.items (Server c.in-Server.server) (Some (lines.Given c.args.place)) c.server_hears-happened.result c.settle.result c.self.view_is c.settle.ensures

pub returns-in-Client-clause-clock : goal.returns-in-Client-clause-clock
returns-in-Client-clause-clock g c =
    clock_heard _ c.args.self.now c.settle-in-Client.new.self c.client_hears-happened.new.clients.items (Client c.in-Client.client) (Some (lines.Given c.args.place)) c.client_hears-happened.result c.settle-in-Client.result c.self.view_is c.settle-in-Client.ensures

pub returns-in-Loc-clause-clock : goal.returns-in-Loc-clause-clock
returns-in-Loc-clause-clock g c =
    clock_managed _ c.args.self.now c.settle-in-Loc.new.self c.database_hears-happened.new.seat Loc (Some (lines.Given c.args.place)) c.database_hears-happened.result c.settle-in-Loc.result c.self.view_is c.settle-in-Loc.ensures

pub returns-in-Admin-clause-clock : goal.returns-in-Admin-clause-clock
returns-in-Admin-clause-clock g c =
    clock_ordered _ c.args.self.now c.settle-in-Admin.new.self c.admin_hears-happened.new.admins.items (Admin c.in-Admin.admin) (Some (lines.Given c.args.place)) c.admin_hears-happened.result c.settle-in-Admin.result c.self.view_is c.settle-in-Admin.ensures
