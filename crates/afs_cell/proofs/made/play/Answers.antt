-- Each event is counted, and let go.
use Rattle.afs_cell.proofs.CountedOn.{counted_all, counted_first, counted_some, counts_from, counts_on, few_now, smaller, way_since}
use Rattle.afs_cell.proofs.made.play.Goals as goal

pub loop-world-init : goal.loop-world-init
loop-world-init g c = counts_from g.D.Disk.seen g.D.Disk.may_leave g.D.Disk.faults g.D.Disk.limit c.args.world c.schedule-schedule.result _ c.requires.world c.requires.first c.schedule-schedule.ensures c.new.ensures

pub play_next-requires-clause-way : goal.play_next-requires-clause-way
play_next-requires-clause-way g c = way_since g.D.Disk.seen g.D.Disk.may_leave g.D.Disk.faults g.D.Disk.limit _ _ _ _ _ c.loop-world.invariant

pub let_go-requires : goal.let_go-requires
let_go-requires g c =
    let e = c.in-Event.ensures in
    record {
      few = few_now g.D.Disk.seen g.D.Disk.may_leave g.D.Disk.faults g.D.Disk.limit _ _ _ _ _ c.loop-world.invariant c.play_next.new.self c.play_next.new.schedule e.keeps e.tells e.goes;
    }

pub loop-world-preserved : goal.loop-world-preserved
loop-world-preserved g c =
    let e = c.in-Event.ensures in
    counts_on g.D.Disk.seen g.D.Disk.may_leave g.D.Disk.faults g.D.Disk.limit _ _ _ _ _ c.loop-world.invariant c.play_next.new.self c.play_next.new.schedule e.keeps e.tells e.goes _ c.history.ensures c.counted_on-counts.result c.counted_on-counts.ensures e.settled c.let_go.new.self
    c.settled.result c.settled.ensures c.let_go.ensures

pub loop-world-smaller : goal.loop-world-smaller
loop-world-smaller g c =
    let e = c.in-Event.ensures in
    smaller g.D.Disk.seen g.D.Disk.may_leave g.D.Disk.faults g.D.Disk.limit _ _ _ _ _ c.loop-world.invariant c.play_next.new.self c.play_next.new.schedule e.keeps e.tells e.goes c.let_go.new.self c.settled.result c.let_go.ensures

pub returns-in-All : goal.returns-in-All
returns-in-All g c =
    let e = c.in-All.ensures in
    counted_all g.D.Disk.seen g.D.Disk.may_leave g.D.Disk.faults g.D.Disk.limit _ _ _ _ _ c.loop-world.invariant c.play_next.new.self c.play_next.new.schedule e.keeps e.tells e.goes

pub returns-in-Limit : goal.returns-in-Limit
returns-in-Limit g c =
    let e = c.in-Limit.ensures in
    counted_first g.D.Disk.seen g.D.Disk.may_leave g.D.Disk.faults g.D.Disk.limit _ _ _ _ _ c.loop-world.invariant c.play_next.new.self c.play_next.new.schedule e.keeps e.tells e.goes

pub returns-in-OutOfMemory : goal.returns-in-OutOfMemory
returns-in-OutOfMemory g c =
    let e = c.in-OutOfMemory.ensures in
    counted_some g.D.Disk.seen g.D.Disk.may_leave g.D.Disk.faults g.D.Disk.limit _ _ _ _ _ c.loop-world.invariant c.play_next.new.self c.play_next.new.schedule e.keeps e.tells e.goes
