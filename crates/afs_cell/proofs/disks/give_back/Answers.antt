use Rattle.std.proofs.Common.{ap, arith, subst, sym, ◌∙◌, ◌≡◌, ◌++◌, ◌+◌, [], ◌∷◌, List, Option, length}
use Rattle.std.specs.Vec.Iter.{into_iter_items, into_iter_steps}
use Rattle.std.proofs.lemmas.List.{append-nil, length-append}
use Rattle.afs_disk.specs.declared.disks.Lent.{Lent}
use Rattle.afs_cell.specs.FirstSeats.{AreKeptSeats}
use Rattle.afs_cell.specs.Lends.{lent_from}
use Rattle.afs_serverhost.specs.Seated.{ServerSeat}
use Rattle.afs_cell.proofs.SeatsGiven.{gives_on, none_left}
use Rattle.afs_cell.proofs.disks.give_back.Goals as goal

pub loop-seat-preserved : goal.loop-seat-preserved
loop-seat-preserved g c =
    let i = c.loop-seat.invariant in
    let next : into_iter_items c.loop-seat.seats ≡ c.in-Some.seat ∷ into_iter_items c.next.new.self = c.in-Some.ensures.items in
    let one : Lent g.row.D.Denot = record { node = c.loop-seat.node + 1; disk = c.disk_in.result } in
    let given : c.give.new.back.items ≡ c.loop-seat.back.items ++ one ∷ [] = c.give.ensures.items in
    let longer = ap (λ (ls : List (Lent g.row.D.Denot)). length ls) given in
    let more = length-append c.loop-seat.back.items (one ∷ []) in
    let fewer = ap (λ (ss : List (ServerSeat g.row.D.Denot)). length ss) next in
    let free = i.free in
    let count = i.count in
    let was = i.room in
    let room = c.give.ensures.room in
    record {
      items =
          gives_on c.loop-seat.node c.loop-seat.back.items c.give.new.back.items (c.args.back.now.items ++ lent_from 1 c.args.seats.items) c.in-Some.seat (into_iter_items c.loop-seat.seats) (into_iter_items c.next.new.self) c.disk_in.result next given c.disk_in.ensures.value
          i.items;
      free = omega (arith, longer, more, fewer, free, room);
      room = omega (arith, was, room);
      count = omega (arith, fewer, count);
      kept = λ k. i.kept (subst (λ (ss : List (ServerSeat g.row.D.Denot)). AreKeptSeats g.D.Disk.seen g.D.Disk.may_leave g.D.Disk.limit ss) (sym next) (c.disk_in.ensures.kept, k));
    }

pub returns-clause-items : goal.returns-clause-items
returns-clause-items g c =
    let ended = subst (λ (o : Option (ServerSeat g.row.D.Denot)). into_iter_steps c.loop-seat.seats o c.next.new.self) c.in_default.is c.next.ensures.cases in
    let none : into_iter_items c.loop-seat.seats ≡ [] = none_left (into_iter_items c.loop-seat.seats) c.loop-seat.seats.rest.len c.loop-seat.seats.rest.ok.0 ended.0 in
    sym (append-nil c.loop-seat.back.items) ∙ (ap (λ (ss : List (ServerSeat g.row.D.Denot)). c.loop-seat.back.items ++ lent_from (c.loop-seat.node + 1) ss) (sym none) ∙ c.loop-seat.invariant.items)

pub returns-clause-kept : goal.returns-clause-kept
returns-clause-kept g c =
    let ended = subst (λ (o : Option (ServerSeat g.row.D.Denot)). into_iter_steps c.loop-seat.seats o c.next.new.self) c.in_default.is c.next.ensures.cases in
    let none : into_iter_items c.loop-seat.seats ≡ [] = none_left (into_iter_items c.loop-seat.seats) c.loop-seat.seats.rest.len c.loop-seat.seats.rest.ok.0 ended.0 in
    c.loop-seat.invariant.kept (subst (λ (ss : List (ServerSeat g.row.D.Denot)). AreKeptSeats g.D.Disk.seen g.D.Disk.may_leave g.D.Disk.limit ss) (sym none) tt)
