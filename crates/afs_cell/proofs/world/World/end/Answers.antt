use Rattle.afs_lending.specs.Lending.{AreLent}
use Rattle.std.proofs.Common.{ap, arith, subst, sym, ◌∙◌, ◌≡◌, ◌∷◌, [], List, length}
use Rattle.std.proofs.lemmas.List.{length-append}
use Rattle.afs_disk.specs.declared.disks.Lent.{Lent}
use Rattle.afs_host.specs.LocSeated.{DatabaseSeat}
use Rattle.afs_serverhost.specs.Seated.{ServerSeat}
use Rattle.afs_cell.specs.FirstSeats.{AreKeptSeats, IsLocKeptSeat}
use Rattle.afs_cell.specs.Lends.{disks_of}
use Rattle.afs_cell.specs.Since.{whole}
use Rattle.afs_cell.specs.Steps.{AreStanding}
use Rattle.afs_cell.proofs.GivenBack.{lent_all, standing}
use Rattle.afs_cell.proofs.SeatsGiven.{all_given}
use Rattle.afs_cell.proofs.world.World.end.Goals as goal

pub give-requires : goal.give-requires
give-requires g c =
    let none = ap (λ (ls : List (Lent g.row.D.Denot)). length ls) c.into_rooms-database.ensures.none in
    record { room = omega (arith, none, c.into_rooms-database.ensures.room) }

pub give_back-requires-clause-room : goal.give_back-requires-clause-room
give_back-requires-clause-room g c =
    let count = ap (λ (ss : List (ServerSeat g.row.D.Denot)). length ss) c.into_rooms-database.ensures.seats in
    let none = ap (λ (ls : List (Lent g.row.D.Denot)). length ls) c.into_rooms-database.ensures.none in
    let one : Lent g.row.D.Denot = record { node = 0; disk = c.database_disk.result } in
    let put = ap (λ (ls : List (Lent g.row.D.Denot)). length ls) c.give.ensures.items in
    let longer = length-append c.into_rooms-database.result.1.back.items (one ∷ []) in
    omega (arith, count, none, put, longer, c.requires.world.world.safe.server_count, c.into_rooms-database.ensures.room, c.give.ensures.room)

pub give_back-requires-clause-few : goal.give_back-requires-clause-few
give_back-requires-clause-few g c =
    let count = ap (λ (ss : List (ServerSeat g.row.D.Denot)). length ss) c.into_rooms-database.ensures.seats in
    let safe = c.requires.world.world.safe in
    omega (arith, count, safe.server_count, safe.cell_script.servers.1)

pub returns-clause-disks : goal.returns-clause-disks
returns-clause-disks g c =
    c.from_vec.ensures
    ∙ all_given c.args.self c.into_rooms-database.result.1.back.items c.give.new.back.items c.give_back.new.back.items c.into_rooms-database.result.0 c.into_rooms-database.result.1.seats.items c.database_disk.result c.into_rooms-database.ensures.none c.give.ensures.items c.database_disk.ensures.value c.into_rooms-database.ensures.database c.give_back.ensures.items c.into_rooms-database.ensures.seats

pub returns-clause-lent : goal.returns-clause-lent
returns-clause-lent g c =
    let all : c.from_vec.result ≡ disks_of c.args.self =
    c.from_vec.ensures
    ∙ all_given c.args.self c.into_rooms-database.result.1.back.items c.give.new.back.items c.give_back.new.back.items c.into_rooms-database.result.0 c.into_rooms-database.result.1.seats.items c.database_disk.result c.into_rooms-database.ensures.none c.give.ensures.items c.database_disk.ensures.value c.into_rooms-database.ensures.database c.give_back.ensures.items c.into_rooms-database.ensures.seats in
    subst (λ (ls : List (Lent g.row.D.Denot)). AreLent g.D.Disk.limit c.args.self.script.capacity 0 ls) (sym all)
    (lent_all g.D.Disk.seen g.D.Disk.may_leave g.D.Disk.limit c.args.self.script.capacity c.args.self c.requires.world.world.safe.disks)

pub returns-clause-standing : goal.returns-clause-standing
returns-clause-standing g c =
    let all : c.from_vec.result ≡ disks_of c.args.self =
    c.from_vec.ensures
    ∙ all_given c.args.self c.into_rooms-database.result.1.back.items c.give.new.back.items c.give_back.new.back.items c.into_rooms-database.result.0 c.into_rooms-database.result.1.seats.items c.database_disk.result c.into_rooms-database.ensures.none c.give.ensures.items c.database_disk.ensures.value c.into_rooms-database.ensures.database c.give_back.ensures.items c.into_rooms-database.ensures.seats in
    let loc_kept = subst (λ (s : DatabaseSeat g.row.D.Denot). IsLocKeptSeat g.D.Disk.seen g.D.Disk.may_leave g.D.Disk.limit s) c.into_rooms-database.ensures.database c.database_disk.ensures.kept in
    let kept = subst (λ (ss : List (ServerSeat g.row.D.Denot)). AreKeptSeats g.D.Disk.seen g.D.Disk.may_leave g.D.Disk.limit ss) c.into_rooms-database.ensures.seats c.give_back.ensures.kept in
    λ going before is safe end cell. subst (λ (ls : List (Lent g.row.D.Denot)). AreStanding g.D.Disk.seen g.D.Disk.limit end ls) (sym all)
    (standing g.D.Disk.seen g.D.Disk.may_leave g.D.Disk.limit c.args.self.script (whole before c.args.self) safe going loc_kept kept end cell)
