use Rattle.std.proofs.Common.{◌≡◌, ◌++◌, ◌+◌, [], ◌∷◌, ap, sym, subst, List, Option, length, length-append, arith}
use Rattle.std.specs.Vec.Iter.{into_iter_items, into_iter_steps}
use Rattle.afs_volstore.specs.Stores.{Store}
use Rattle.afs_final.specs.declared.reading.Left.{Left}
use Rattle.afs_cell.specs.FirstSeats.{AreKeptSeats}
use Rattle.afs_serverhost.specs.Seated.{ServerSeat}
use Rattle.afs_cell.proofs.SeatsGiven.{none_left}
use Rattle.afs_cell.specs.Readable.{AreReadable}
use Rattle.afs_cell.proofs.SeatsRead.{all_found, next_readable, none_found, one_found}
use Rattle.afs_cell.proofs.reading.left_of.Goals as goal

pub loop-seat-init : goal.loop-seat-init
loop-seat-init g c =
    let given : into_iter_items c.into_iter-seats.result ≡ c.args.seats.items = c.into_iter-seats.ensures.rest in
    let none : c.in-Ok.left.items ≡ [] = c.in-Ok.ensures.items in
    let as_many = ap (λ (ss : List (ServerSeat g.row.D.Denot)). length ss) given in
    let no_more = ap (λ (fs : List (Left (Store g.row.D.Denot) g.row.D.Denot)). length fs) none in
    let capacity = c.in-Ok.ensures.capacity in
    let len = c.len.ensures in
    record {
      all = none_found g.D.Disk.seen g.D.Disk.faults g.D.Disk.limit c.args.seats.items (into_iter_items c.into_iter-seats.result) c.in-Ok.left.items given none;
      ready = subst (λ (ss : List (ServerSeat g.row.D.Denot)). AreReadable g.D.Disk.limit 1 ss) (sym given) c.requires.ready;
      kept = λ k. subst (λ (ss : List (ServerSeat g.row.D.Denot)). AreKeptSeats g.D.Disk.seen g.D.Disk.may_leave g.D.Disk.limit ss) given k;
      room = omega (arith, as_many, no_more, capacity, len);
      count = omega (arith, as_many);
    }

pub left_at-requires : goal.left_at-requires
left_at-requires g c =
    let next : into_iter_items c.loop-seat.seats ≡ c.in-Some.seat ∷ into_iter_items c.next.new.self = c.in-Some.ensures.items in
    (next_readable g.D.Disk.limit (c.loop-seat.node + 1) (into_iter_items c.next.new.self) (into_iter_items c.loop-seat.seats) c.in-Some.seat next c.loop-seat.invariant.ready).0

pub loop-seat-preserved : goal.loop-seat-preserved
loop-seat-preserved g c =
    let i = c.loop-seat.invariant in
    let next : into_iter_items c.loop-seat.seats ≡ c.in-Some.seat ∷ into_iter_items c.next.new.self = c.in-Some.ensures.items in
    let put : c.put_last.new.all.items ≡ c.loop-seat.left.items ++ c.left_at.result ∷ [] = c.put_last.ensures.items in
    let fewer = ap (λ (ss : List (ServerSeat g.row.D.Denot)). length ss) next in
    let longer = ap (λ (fs : List (Left (Store g.row.D.Denot) g.row.D.Denot)). length fs) put in
    let more = length-append c.loop-seat.left.items (c.left_at.result ∷ []) in
    let free = i.room in
    let count = i.count in
    let room = c.put_last.ensures.room in
    record {
      all = one_found g.D.Disk.seen g.D.Disk.faults g.D.Disk.limit c.args.seats.items c.loop-seat.node (into_iter_items c.next.new.self) (into_iter_items c.loop-seat.seats) c.loop-seat.left.items c.put_last.new.all.items c.in-Some.seat c.left_at.result next put c.left_at.ensures.read i.all;
      ready = (next_readable g.D.Disk.limit (c.loop-seat.node + 1) (into_iter_items c.next.new.self) (into_iter_items c.loop-seat.seats) c.in-Some.seat next i.ready).1;
      kept = λ k. i.kept (subst (λ (ss : List (ServerSeat g.row.D.Denot)). AreKeptSeats g.D.Disk.seen g.D.Disk.may_leave g.D.Disk.limit ss) (sym next) (c.left_at.ensures.kept, k));
      room = omega (arith, longer, more, fewer, free, room);
      count = omega (arith, fewer, count);
    }

pub returns-clause-found : goal.returns-clause-found
returns-clause-found g c =
    let ended = subst (λ (o : Option (ServerSeat g.row.D.Denot)). into_iter_steps c.loop-seat.seats o c.next.new.self) c.in_default-next.is c.next.ensures.cases in
    let none : into_iter_items c.loop-seat.seats ≡ [] = none_left (into_iter_items c.loop-seat.seats) c.loop-seat.seats.rest.len c.loop-seat.seats.rest.ok.0 ended.0 in
    all_found g.D.Disk.seen g.D.Disk.faults g.D.Disk.limit c.args.seats.items c.loop-seat.node (into_iter_items c.loop-seat.seats) c.loop-seat.left.items none c.loop-seat.invariant.all

pub returns-clause-kept : goal.returns-clause-kept
returns-clause-kept g c =
    let ended = subst (λ (o : Option (ServerSeat g.row.D.Denot)). into_iter_steps c.loop-seat.seats o c.next.new.self) c.in_default-next.is c.next.ensures.cases in
    let none : into_iter_items c.loop-seat.seats ≡ [] = none_left (into_iter_items c.loop-seat.seats) c.loop-seat.seats.rest.len c.loop-seat.seats.rest.ok.0 ended.0 in
    c.loop-seat.invariant.kept (subst (λ (ss : List (ServerSeat g.row.D.Denot)). AreKeptSeats g.D.Disk.seen g.D.Disk.may_leave g.D.Disk.limit ss) (sym none) tt)
