use Rattle.std.proofs.Common.{ap, subst, sym, ℕ, List}
use Rattle.afs_cell.specs.FirstSeats.{AreFirstHosts}
use Rattle.afs_cell.specs.Worlds.{none_gone}
use Rattle.afs_serverhost.specs.Seated.{ServerSeat}
use Rattle.afs_cell.proofs.FirstHosts.{all_left_alone, none_fell_alone, none_rose_alone}
use Rattle.afs_cell.proofs.FirstWorlds.{first_made, tell_so, world_made}
use Rattle.afs_cell.proofs.setup.set_up.Goals as goal

pub returns-in_default-clause-cause : goal.returns-in_default-clause-cause
returns-in_default-clause-cause g c = (none_fell_alone g.D.Disk.faults c.args.disks, none_rose_alone g.D.Disk.faults c.args.disks)

pub returns-in_default-clause-left : goal.returns-in_default-clause-left
returns-in_default-clause-left g c = all_left_alone g.D.Disk.seen g.D.Disk.may_leave g.D.Disk.faults g.D.Disk.limit c.args.script.now c.args.disks c.requires.disks c.requires.all

pub returns-in_default-admins_at_first-clause-cause : goal.returns-in_default-admins_at_first-clause-cause
returns-in_default-admins_at_first-clause-cause g c = (none_fell_alone g.D.Disk.faults c.args.disks, none_rose_alone g.D.Disk.faults c.args.disks)

pub returns-in_default-admins_at_first-clause-left : goal.returns-in_default-admins_at_first-clause-left
returns-in_default-admins_at_first-clause-left g c = all_left_alone g.D.Disk.seen g.D.Disk.may_leave g.D.Disk.faults g.D.Disk.limit c.args.script.now c.args.disks c.requires.disks c.requires.all

pub returns-in_default-with_room-clause-cause : goal.returns-in_default-with_room-clause-cause
returns-in_default-with_room-clause-cause g c = (none_fell_alone g.D.Disk.faults c.args.disks, none_rose_alone g.D.Disk.faults c.args.disks)

pub returns-in_default-with_room-clause-left : goal.returns-in_default-with_room-clause-left
returns-in_default-with_room-clause-left g c = all_left_alone g.D.Disk.seen g.D.Disk.may_leave g.D.Disk.faults g.D.Disk.limit c.args.script.now c.args.disks c.requires.disks c.requires.all

pub returns-clause-world : goal.returns-clause-world
returns-clause-world g c =
    world_made g.D.Disk.seen g.D.Disk.may_leave g.D.Disk.faults g.D.Disk.limit c.args.script.now c.requires.script c.in_ok-database.database c.in_ok-database.rooms.seats.items c.in-Ok.clients.items c.in-Ok-admins_at_first.admins.items c.in-Ok.ensures.first c.in-Ok.ensures.count c.in-Ok-admins_at_first.ensures.first c.in-Ok-admins_at_first.ensures.count c.of.result.items c.of-2.result.items c.of-3.result.items c.new.result.messages c.new-2.result.items (record { entries = 0; sent = 0; messages = c.new.result.gone }) c.of.ensures c.of-2.ensures c.of-3.ensures c.new.ensures.messages c.new-2.ensures.items
    (ap (λ (n : ℕ). record none_gone { messages = n }) c.new.ensures.gone) c.args.disks c.requires.disks c.requires.all c.in_ok-database.ensures.hosts

pub returns-clause-first : goal.returns-clause-first
returns-clause-first g c =
    first_made g.D.Disk.seen g.D.Disk.may_leave g.D.Disk.faults g.D.Disk.limit c.args.script.now c.requires.script c.in_ok-database.database c.in_ok-database.rooms.seats.items c.in-Ok.clients.items c.in-Ok-admins_at_first.admins.items c.in-Ok.ensures.first c.in-Ok.ensures.count c.in-Ok-admins_at_first.ensures.first c.in-Ok-admins_at_first.ensures.count c.of.result.items c.of-2.result.items c.of-3.result.items c.new.result.messages c.new-2.result.items (record { entries = 0; sent = 0; messages = c.new.result.gone }) c.of.ensures c.of-2.ensures c.of-3.ensures c.new.ensures.messages c.new-2.ensures.items
    (ap (λ (n : ℕ). record none_gone { messages = n }) c.new.ensures.gone) c.args.disks c.requires.disks c.requires.all c.in_ok-database.ensures.hosts

pub returns-clause-tells : goal.returns-clause-tells
returns-clause-tells g c =
    tell_so g.D.Disk.seen g.D.Disk.may_leave g.D.Disk.faults g.D.Disk.limit c.args.script.now c.args.disks c.in_ok-database.database c.of.result.items c.of-2.result.items c.of-3.result.items
    (subst (λ (ss : List (ServerSeat g.row.D.Denot)). AreFirstHosts g.D.Disk.seen g.D.Disk.may_leave g.D.Disk.faults g.D.Disk.limit c.args.script.now c.args.disks c.in_ok-database.database ss) (sym c.of.ensures) c.in_ok-database.ensures.hosts)
