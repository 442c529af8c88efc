use Rattle.std.proofs.Common.{ap, arith, subst, sym, ◌∙◌, ◌≡◌, ◌∷◌, [], List, length}
use Rattle.std.proofs.lemmas.List.{length-append}
use Rattle.afs_disk.specs.declared.disks.Lent.{Lent}
use Rattle.afs_final.specs.Reading.{AreFound}
use Rattle.afs_host.specs.LocSeated.{loc_seat_disk, DatabaseSeat}
use Rattle.afs_serverhost.specs.Seated.{ServerSeat}
use Rattle.afs_cell.specs.FirstSeats.{AreKeptSeats, IsLocKeptSeat}
use Rattle.afs_cell.specs.Lends.{lent_from}
use Rattle.afs_cell.specs.Readable.{AreReadable}
use Rattle.afs_cell.specs.Since.{whole}
use Rattle.afs_cell.proofs.GivenBack.{standing}
use Rattle.afs_cell.proofs.DisksRead.{readable}
use Rattle.afs_cell.proofs.SeatsGiven.{all_given}
use Rattle.afs_cell.proofs.world.World.read_at_end.Goals as goal

pub left_of-requires-clause-ready : goal.left_of-requires-clause-ready
left_of-requires-clause-ready g c =
    subst (λ (ss : List (ServerSeat g.row.D.Denot)). AreReadable g.D.Disk.limit 1 ss) (sym c.into_rooms-database.ensures.seats)
    (readable g.D.Disk.limit c.args.self.script (whole c.requires.world.before c.args.self) c.requires.world.world.safe c.requires.going)

pub left_of-requires-clause-few : goal.left_of-requires-clause-few
left_of-requires-clause-few g c =
    let count = ap (λ (ss : List (ServerSeat g.row.D.Denot)). length ss) c.into_rooms-database.ensures.seats in
    let safe = c.requires.world.world.safe in
    omega (arith, count, safe.server_count, safe.cell_script.servers.1)

pub give-requires : goal.give-requires
give-requires g c =
    let none = ap (λ (ls : List (Lent g.row.D.Denot)). length ls) c.into_rooms-database.ensures.none in
    record { room = omega (arith, none, c.into_rooms-database.ensures.room) }

pub give_back-requires-clause-room : goal.give_back-requires-clause-room
give_back-requires-clause-room g c =
    let back = ap (λ (ss : List (ServerSeat g.row.D.Denot)). length ss) c.in-Err.ensures.back in
    let count = ap (λ (ss : List (ServerSeat g.row.D.Denot)). length ss) c.into_rooms-database.ensures.seats in
    let none = ap (λ (ls : List (Lent g.row.D.Denot)). length ls) c.into_rooms-database.ensures.none in
    let one : Lent g.row.D.Denot = record { node = 0; disk = c.database_disk-disk.result } in
    let put = ap (λ (ls : List (Lent g.row.D.Denot)). length ls) c.give.ensures.items in
    let longer = length-append c.into_rooms-database.result.1.back.items (one ∷ []) in
    omega (arith, back, count, none, put, longer, c.requires.world.world.safe.server_count, c.into_rooms-database.ensures.room, c.give.ensures.room)

pub give_back-requires-clause-few : goal.give_back-requires-clause-few
give_back-requires-clause-few g c =
    let back = ap (λ (ss : List (ServerSeat g.row.D.Denot)). length ss) c.in-Err.ensures.back in
    let count = ap (λ (ss : List (ServerSeat g.row.D.Denot)). length ss) c.into_rooms-database.ensures.seats in
    let safe = c.requires.world.world.safe in
    omega (arith, back, count, safe.server_count, safe.cell_script.servers.1)

pub returns-in-Ok-clause-database : goal.returns-in-Ok-clause-database
returns-in-Ok-clause-database g c = c.database_disk-disk.ensures.value ∙ ap (λ (s : DatabaseSeat g.row.D.Denot). loc_seat_disk s) c.into_rooms-database.ensures.database

pub returns-in-Ok-clause-found : goal.returns-in-Ok-clause-found
returns-in-Ok-clause-found g c =
    subst (λ (ss : List (ServerSeat g.row.D.Denot)). AreFound g.D.Disk.seen g.D.Disk.faults g.D.Disk.limit (lent_from 1 ss) c.in-Ok.left.items) c.into_rooms-database.ensures.seats c.in-Ok.ensures.found

pub returns-in-Ok-clause-standing : goal.returns-in-Ok-clause-standing
returns-in-Ok-clause-standing g c =
    let loc_kept = subst (λ (s : DatabaseSeat g.row.D.Denot). IsLocKeptSeat g.D.Disk.seen g.D.Disk.may_leave g.D.Disk.limit s) c.into_rooms-database.ensures.database c.database_disk-disk.ensures.kept in
    let kept = subst (λ (ss : List (ServerSeat g.row.D.Denot)). AreKeptSeats g.D.Disk.seen g.D.Disk.may_leave g.D.Disk.limit ss) c.into_rooms-database.ensures.seats c.in-Ok.ensures.kept in
    λ going before is safe end cell. standing g.D.Disk.seen g.D.Disk.may_leave g.D.Disk.limit c.args.self.script (whole before c.args.self) safe going loc_kept kept end cell

pub returns-in-Err-clause-back : goal.returns-in-Err-clause-back
returns-in-Err-clause-back g c =
    let seats : c.in-Err.seats.items ≡ c.args.self.servers = c.in-Err.ensures.back ∙ c.into_rooms-database.ensures.seats in
    c.from_vec.ensures
    ∙ all_given c.args.self c.into_rooms-database.result.1.back.items c.give.new.back.items c.give_back.new.back.items c.into_rooms-database.result.0 c.in-Err.seats.items c.database_disk-disk.result c.into_rooms-database.ensures.none c.give.ensures.items c.database_disk-disk.ensures.value c.into_rooms-database.ensures.database c.give_back.ensures.items seats

pub returns-in-Err-clause-standing : goal.returns-in-Err-clause-standing
returns-in-Err-clause-standing g c =
    let seats : c.in-Err.seats.items ≡ c.args.self.servers = c.in-Err.ensures.back ∙ c.into_rooms-database.ensures.seats in
    let loc_kept = subst (λ (s : DatabaseSeat g.row.D.Denot). IsLocKeptSeat g.D.Disk.seen g.D.Disk.may_leave g.D.Disk.limit s) c.into_rooms-database.ensures.database c.database_disk-disk.ensures.kept in
    let kept = subst (λ (ss : List (ServerSeat g.row.D.Denot)). AreKeptSeats g.D.Disk.seen g.D.Disk.may_leave g.D.Disk.limit ss) seats c.give_back.ensures.kept in
    λ going before is safe end cell. standing g.D.Disk.seen g.D.Disk.may_leave g.D.Disk.limit c.args.self.script (whole before c.args.self) safe going loc_kept kept end cell
