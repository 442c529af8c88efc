-- Each event is written, and let go.
use Rattle.afs_cell.proofs.WrittenOn.{all_now, begins_on, few_now, plays_on, smaller, told_all, told_first, told_some, way_since}
use Rattle.afs_cell.proofs.writing.play.Goals as goal

pub loop-sink-init : goal.loop-sink-init
loop-sink-init g c = begins_on g.D.Disk.seen g.D.Disk.may_leave g.D.Disk.faults g.D.Disk.limit c.args.wire c.args.world c.schedule-schedule.result _ _ c.requires.world c.requires.first c.schedule-schedule.ensures

pub play_next-requires-clause-way : goal.play_next-requires-clause-way
play_next-requires-clause-way g c = way_since g.D.Disk.seen g.D.Disk.may_leave g.D.Disk.faults g.D.Disk.limit c.args.wire _ _ _ _ _ _ _ _ _ c.loop-sink.invariant

pub put_next-written-requires-clause-few : goal.put_next-written-requires-clause-few
put_next-written-requires-clause-few g c =
    let e = c.in-Event.ensures in
    few_now g.D.Disk.seen g.D.Disk.may_leave g.D.Disk.faults g.D.Disk.limit c.args.wire _ _ _ _ _ _ _ _ _ c.loop-sink.invariant c.play_next.new.self c.play_next.new.schedule e.keeps e.tells e.goes

pub put_next-written-requires-clause-all : goal.put_next-written-requires-clause-all
put_next-written-requires-clause-all g c =
    let e = c.in-Event.ensures in
    all_now g.D.Disk.seen g.D.Disk.may_leave g.D.Disk.faults g.D.Disk.limit c.args.wire _ _ _ _ _ _ _ _ _ c.loop-sink.invariant c.play_next.new.self c.play_next.new.schedule e.keeps e.tells e.goes

pub let_go-requires : goal.let_go-requires
let_go-requires g c =
    let e = c.in-Event.ensures in
    record {
      few = few_now g.D.Disk.seen g.D.Disk.may_leave g.D.Disk.faults g.D.Disk.limit c.args.wire _ _ _ _ _ _ _ _ _ c.loop-sink.invariant c.play_next.new.self c.play_next.new.schedule e.keeps e.tells e.goes;
    }

pub loop-sink-preserved : goal.loop-sink-preserved
loop-sink-preserved g c =
    let e = c.in-Event.ensures in
    plays_on g.D.Disk.seen g.D.Disk.may_leave g.D.Disk.faults g.D.Disk.limit c.args.wire _ _ _ _ _ _ _ _ _ c.loop-sink.invariant c.play_next.new.self c.play_next.new.schedule e.keeps e.tells e.goes _ _ c.put_next-written.result c.put_next-written.ensures e.settled c.let_go.new.self
    c.settled.result c.settled.ensures c.let_go.ensures

pub loop-sink-smaller : goal.loop-sink-smaller
loop-sink-smaller g c =
    let e = c.in-Event.ensures in
    smaller g.D.Disk.seen g.D.Disk.may_leave g.D.Disk.faults g.D.Disk.limit c.args.wire _ _ _ _ _ _ _ _ _ c.loop-sink.invariant c.play_next.new.self c.play_next.new.schedule e.keeps e.tells e.goes c.let_go.new.self c.settled.result c.let_go.ensures

pub returns-in-All : goal.returns-in-All
returns-in-All g c =
    let e = c.in-All.ensures in
    told_all g.D.Disk.seen g.D.Disk.may_leave g.D.Disk.faults g.D.Disk.limit c.args.wire _ _ _ _ _ _ _ _ _ c.loop-sink.invariant c.play_next.new.self c.play_next.new.schedule e.keeps e.tells e.goes

pub returns-in-Limit : goal.returns-in-Limit
returns-in-Limit g c =
    let e = c.in-Limit.ensures in
    told_first g.D.Disk.seen g.D.Disk.may_leave g.D.Disk.faults g.D.Disk.limit c.args.wire _ _ _ _ _ _ _ _ _ c.loop-sink.invariant c.play_next.new.self c.play_next.new.schedule e.keeps e.tells e.goes

pub returns-in-OutOfMemory : goal.returns-in-OutOfMemory
returns-in-OutOfMemory g c =
    let e = c.in-OutOfMemory.ensures in
    told_some g.D.Disk.seen g.D.Disk.may_leave g.D.Disk.faults g.D.Disk.limit c.args.wire _ _ _ _ _ _ _ _ _ c.loop-sink.invariant c.play_next.new.self c.play_next.new.schedule e.keeps e.tells e.goes
