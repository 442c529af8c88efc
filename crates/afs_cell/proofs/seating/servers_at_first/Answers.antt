use Rattle.std.proofs.Common.{refl, ap, arith, subst, sym, ◌∙◌, ◌≡◌, [], ◌∷◌, List, Option, length}
use Rattle.std.specs.Vec.Iter.{into_iter_items, into_iter_steps}
use Rattle.std.proofs.lemmas.List.{length-append}
use Rattle.afs_disk.specs.declared.disks.Lent.{Lent}
use Rattle.afs_cell.specs.FirstSeats.{AreFirstSeats}
use Rattle.afs_cell.specs.Lends.{lent_from}
use Rattle.afs_serverhost.specs.Seated.{ServerSeat}
use Rattle.afs_cell.proofs.FirstSeated.{comes_next, given_back, handed_all, length_lent, one_seat_more}
use Rattle.afs_cell.proofs.SeatsGiven.{none_left}
use Rattle.afs_cell.proofs.seating.servers_at_first.Goals as goal

pub server_at_first-requires-clause-server : goal.server_at_first-requires-clause-server
server_at_first-requires-clause-server g c =
    let next =
    comes_next g.D.Disk.seen g.D.Disk.may_leave g.D.Disk.faults g.D.Disk.limit c.args.script.now c.args.script.now.capacity c.args.disks.items c.loop-lent.seats.items (into_iter_items c.loop-lent.disks) c.in-Some.lent (into_iter_items c.next.new.self) c.in-Some.ensures.items c.requires.disks c.loop-lent.invariant.first in
    let node = next.node in
    let count = next.count in
    let all = c.requires.all in
    (omega (arith, node), omega (arith, node, count, all))

pub server_at_first-requires-clause-capacity : goal.server_at_first-requires-clause-capacity
server_at_first-requires-clause-capacity g c =
    let next =
    comes_next g.D.Disk.seen g.D.Disk.may_leave g.D.Disk.faults g.D.Disk.limit c.args.script.now c.args.script.now.capacity c.args.disks.items c.loop-lent.seats.items (into_iter_items c.loop-lent.disks) c.in-Some.lent (into_iter_items c.next.new.self) c.in-Some.ensures.items c.requires.disks c.loop-lent.invariant.first in
    next.room

pub sit-requires : goal.sit-requires
sit-requires g c =
    let next =
    comes_next g.D.Disk.seen g.D.Disk.may_leave g.D.Disk.faults g.D.Disk.limit c.args.script.now c.args.script.now.capacity c.args.disks.items c.loop-lent.seats.items (into_iter_items c.loop-lent.disks) c.in-Some.lent (into_iter_items c.next.new.self) c.in-Some.ensures.items c.requires.disks c.loop-lent.invariant.first in
    let count = next.count in
    let all = c.requires.all in
    let room = c.loop-lent.invariant.seats_room in
    record { room = omega (arith, count, all, room) }

pub loop-lent-preserved : goal.loop-lent-preserved
loop-lent-preserved g c =
    let next =
    comes_next g.D.Disk.seen g.D.Disk.may_leave g.D.Disk.faults g.D.Disk.limit c.args.script.now c.args.script.now.capacity c.args.disks.items c.loop-lent.seats.items (into_iter_items c.loop-lent.disks) c.in-Some.lent (into_iter_items c.next.new.self) c.in-Some.ensures.items c.requires.disks c.loop-lent.invariant.first in
    let was = c.loop-lent.invariant.seats_room in
    let room = c.sit.ensures.room in
    record {
      first =
          subst (λ (ss : List (ServerSeat g.row.D.Denot)). AreFirstSeats g.D.Disk.seen g.D.Disk.may_leave g.D.Disk.faults g.D.Disk.limit c.args.script.now 1 c.args.disks.items ss (into_iter_items c.next.new.self)) (sym c.sit.ensures.items)
          (one_seat_more g.D.Disk.seen g.D.Disk.may_leave g.D.Disk.faults g.D.Disk.limit c.args.script.now 1 c.in-Some.lent.node c.args.disks.items c.loop-lent.seats.items c.in-Some.lent (into_iter_items c.next.new.self) c.in-Ok.running next.first next.node c.in-Ok.ensures.ok);
      seats_room = omega (arith, was, room);
      none_back = c.loop-lent.invariant.none_back;
      back_room = c.loop-lent.invariant.back_room;
    }

pub give_back-requires-clause-room : goal.give_back-requires-clause-room
give_back-requires-clause-room g c =
    let next =
    comes_next g.D.Disk.seen g.D.Disk.may_leave g.D.Disk.faults g.D.Disk.limit c.args.script.now c.args.script.now.capacity c.args.disks.items c.loop-lent.seats.items (into_iter_items c.loop-lent.disks) c.in-Some.lent (into_iter_items c.next.new.self) c.in-Some.ensures.items c.requires.disks c.loop-lent.invariant.first in
    let count = next.count in
    let all = c.requires.all in
    let room = c.loop-lent.invariant.back_room in
    let none = ap (λ (ls : List (Lent g.row.D.Denot)). length ls) c.loop-lent.invariant.none_back in
    omega (arith, count, all, room, none)

pub give_back-requires-clause-few : goal.give_back-requires-clause-few
give_back-requires-clause-few g c =
    let next =
    comes_next g.D.Disk.seen g.D.Disk.may_leave g.D.Disk.faults g.D.Disk.limit c.args.script.now c.args.script.now.capacity c.args.disks.items c.loop-lent.seats.items (into_iter_items c.loop-lent.disks) c.in-Some.lent (into_iter_items c.next.new.self) c.in-Some.ensures.items c.requires.disks c.loop-lent.invariant.first in
    let count = next.count in
    let all = c.requires.all in
    let few = c.requires.script.servers.1 in
    omega (arith, count, all, few)

pub give-requires : goal.give-requires
give-requires g c =
    let next =
    comes_next g.D.Disk.seen g.D.Disk.may_leave g.D.Disk.faults g.D.Disk.limit c.args.script.now c.args.script.now.capacity c.args.disks.items c.loop-lent.seats.items (into_iter_items c.loop-lent.disks) c.in-Some.lent (into_iter_items c.next.new.self) c.in-Some.ensures.items c.requires.disks c.loop-lent.invariant.first in
    let count = next.count in
    let all = c.requires.all in
    let room = c.loop-lent.invariant.back_room in
    let none = ap (λ (ls : List (Lent g.row.D.Denot)). length ls) c.loop-lent.invariant.none_back in
    let given = ap (λ (ls : List (Lent g.row.D.Denot)). length ls) c.give_back.ensures.items in
    let both = length-append c.loop-lent.back.items (lent_from 1 c.loop-lent.seats.items) in
    let lent = length_lent 1 c.loop-lent.seats.items in
    let more = c.give_back.ensures.room in
    record { room = omega (arith, count, all, room, none, given, both, lent, more) }

pub give_rest-requires : goal.give_rest-requires
give_rest-requires g c =
    let next =
    comes_next g.D.Disk.seen g.D.Disk.may_leave g.D.Disk.faults g.D.Disk.limit c.args.script.now c.args.script.now.capacity c.args.disks.items c.loop-lent.seats.items (into_iter_items c.loop-lent.disks) c.in-Some.lent (into_iter_items c.next.new.self) c.in-Some.ensures.items c.requires.disks c.loop-lent.invariant.first in
    let count = next.count in
    let all = c.requires.all in
    let room = c.loop-lent.invariant.back_room in
    let none = ap (λ (ls : List (Lent g.row.D.Denot)). length ls) c.loop-lent.invariant.none_back in
    let given = ap (λ (ls : List (Lent g.row.D.Denot)). length ls) c.give_back.ensures.items in
    let both = length-append c.loop-lent.back.items (lent_from 1 c.loop-lent.seats.items) in
    let lent = length_lent 1 c.loop-lent.seats.items in
    let more = c.give_back.ensures.room in
    let one : Lent g.row.D.Denot = record { node = c.in-Some.lent.node; disk = c.in-Err.disk } in
    let put = ap (λ (ls : List (Lent g.row.D.Denot)). length ls) c.give.ensures.items in
    let longer = length-append c.give_back.new.back.items (one ∷ []) in
    let still = c.give.ensures.room in
    record { room = omega (arith, count, all, room, none, given, both, lent, more, put, longer, still) }

pub returns-in-Err-clause-back : goal.returns-in-Err-clause-back
returns-in-Err-clause-back g c =
    let next =
    comes_next g.D.Disk.seen g.D.Disk.may_leave g.D.Disk.faults g.D.Disk.limit c.args.script.now c.args.script.now.capacity c.args.disks.items c.loop-lent.seats.items (into_iter_items c.loop-lent.disks) c.in-Some.lent (into_iter_items c.next.new.self) c.in-Some.ensures.items c.requires.disks c.loop-lent.invariant.first in
    let one : Lent g.row.D.Denot = record { node = c.in-Some.lent.node; disk = c.in-Err.disk } in
    let all =
    handed_all c.loop-lent.back.items c.give_back.new.back.items c.give.new.back.items c.give_rest.new.back.items c.give_rest.new.back.items (lent_from 1 c.loop-lent.seats.items) (into_iter_items c.next.new.self) one c.loop-lent.invariant.none_back c.give_back.ensures.items c.give.ensures.items
    c.give_rest.ensures.items refl in
    let back =
    given_back g.D.Disk.seen g.D.Disk.may_leave g.D.Disk.faults g.D.Disk.limit c.args.script.now c.args.script.now.capacity c.args.disks.items c.loop-lent.seats.items c.in-Some.lent (into_iter_items c.next.new.self) c.give_rest.new.back.items c.in-Err.fault c.in-Err.disk c.requires.disks next c.in-Err.ensures.err all in
    (back.lent.0, back.lent.1 ∙ c.requires.all)

pub returns-in-Err-clause-cause : goal.returns-in-Err-clause-cause
returns-in-Err-clause-cause g c =
    let next =
    comes_next g.D.Disk.seen g.D.Disk.may_leave g.D.Disk.faults g.D.Disk.limit c.args.script.now c.args.script.now.capacity c.args.disks.items c.loop-lent.seats.items (into_iter_items c.loop-lent.disks) c.in-Some.lent (into_iter_items c.next.new.self) c.in-Some.ensures.items c.requires.disks c.loop-lent.invariant.first in
    let one : Lent g.row.D.Denot = record { node = c.in-Some.lent.node; disk = c.in-Err.disk } in
    let all =
    handed_all c.loop-lent.back.items c.give_back.new.back.items c.give.new.back.items c.give_rest.new.back.items c.give_rest.new.back.items (lent_from 1 c.loop-lent.seats.items) (into_iter_items c.next.new.self) one c.loop-lent.invariant.none_back c.give_back.ensures.items c.give.ensures.items
    c.give_rest.ensures.items refl in
    let back =
    given_back g.D.Disk.seen g.D.Disk.may_leave g.D.Disk.faults g.D.Disk.limit c.args.script.now c.args.script.now.capacity c.args.disks.items c.loop-lent.seats.items c.in-Some.lent (into_iter_items c.next.new.self) c.give_rest.new.back.items c.in-Err.fault c.in-Err.disk c.requires.disks next c.in-Err.ensures.err all in
    back.refused

pub returns-in-Err-clause-left : goal.returns-in-Err-clause-left
returns-in-Err-clause-left g c =
    let next =
    comes_next g.D.Disk.seen g.D.Disk.may_leave g.D.Disk.faults g.D.Disk.limit c.args.script.now c.args.script.now.capacity c.args.disks.items c.loop-lent.seats.items (into_iter_items c.loop-lent.disks) c.in-Some.lent (into_iter_items c.next.new.self) c.in-Some.ensures.items c.requires.disks c.loop-lent.invariant.first in
    let one : Lent g.row.D.Denot = record { node = c.in-Some.lent.node; disk = c.in-Err.disk } in
    let all =
    handed_all c.loop-lent.back.items c.give_back.new.back.items c.give.new.back.items c.give_rest.new.back.items c.give_rest.new.back.items (lent_from 1 c.loop-lent.seats.items) (into_iter_items c.next.new.self) one c.loop-lent.invariant.none_back c.give_back.ensures.items c.give.ensures.items
    c.give_rest.ensures.items refl in
    let back =
    given_back g.D.Disk.seen g.D.Disk.may_leave g.D.Disk.faults g.D.Disk.limit c.args.script.now c.args.script.now.capacity c.args.disks.items c.loop-lent.seats.items c.in-Some.lent (into_iter_items c.next.new.self) c.give_rest.new.back.items c.in-Err.fault c.in-Err.disk c.requires.disks next c.in-Err.ensures.err all in
    back.left

pub returns-clause-seats : goal.returns-clause-seats
returns-clause-seats g c =
    let ended = subst (λ (o : Option (Lent g.row.D.Denot)). into_iter_steps c.loop-lent.disks o c.next.new.self) c.in_default.is c.next.ensures.cases in
    let none : into_iter_items c.loop-lent.disks ≡ [] = none_left (into_iter_items c.loop-lent.disks) c.loop-lent.disks.rest.len c.loop-lent.disks.rest.ok.0 ended.0 in
    subst (λ (rest : List (Lent g.row.D.Denot)). AreFirstSeats g.D.Disk.seen g.D.Disk.may_leave g.D.Disk.faults g.D.Disk.limit c.args.script.now 1 c.args.disks.items c.loop-lent.seats.items rest) none c.loop-lent.invariant.first

pub returns-in-Err-clause-room_back : goal.returns-in-Err-clause-room_back
returns-in-Err-clause-room_back g c =
    let room = c.loop-lent.invariant.back_room in
    let more = c.give_back.ensures.room in
    let still = c.give.ensures.room in
    let rest = c.give_rest.ensures.room in
    omega (arith, room, more, still, rest)
