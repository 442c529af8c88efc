use Rattle.std.proofs.Common.{refl}
use Rattle.afs_cell.proofs.Ended.{of_nodes, refused_of}
use Rattle.afs_cell.proofs.PlayedOn.{all_ends, first_ends, full_first, going_all, going_first, since_of, some_ends, written_of}
use Rattle.afs_cell.proofs.replaying.replay_over.Goals as goal

pub returns-in-Err-clause-ends : goal.returns-in-Err-clause-ends
returns-in-Err-clause-ends g c =
    refused_of g.B.D.Disk.seen g.B.D.Disk.may_leave g.B.D.Disk.faults c.args.script.now c.args.wire _ c.args.disks c.in-Err.fault c.in-Err.disks _ _ _ c.requires.unused c.in-Err.ensures.cause c.in-Err.ensures.left
    (of_nodes g.B.D.Disk.limit c.args.script.now.capacity 0 c.in-Err.disks c.in-Err.ensures.back.0, c.in-Err.ensures.back.1) refl c.give_up.ensures.back c.give_up.ensures.faults
    c.give_up.ensures.never_falls c.give_up.ensures.status c.status_of_setup.ensures

pub end-requires-clause-world : goal.end-requires-clause-world
end-requires-clause-world g c = since_of g.B.D.Disk.seen g.B.D.Disk.may_leave g.B.D.Disk.faults g.B.D.Disk.limit _ c.args.wire _ _ _ _ _ c.play-world.result c.play-world.ensures

pub end-requires-clause-going : goal.end-requires-clause-going
end-requires-clause-going g c = going_all g.B.D.Disk.seen g.B.D.Disk.may_leave g.B.D.Disk.faults g.B.D.Disk.limit _ c.args.wire _ _ _ _ _ c.play-world.result c.play-world.ensures c.in-All.is

pub returns-in-All-clause-ends : goal.returns-in-All-clause-ends
returns-in-All-clause-ends g c =
    all_ends g.B.D.Disk.seen g.B.D.Disk.may_leave g.B.D.Disk.faults g.B.D.Disk.limit _ c.args.wire _ _ _ _ _ c.play-world.result c.play-world.ensures c.args.script.now c.in-Ok.ensures.world.safe.script _ _ c.in-Ok.ensures.tells.0 _ _ c.in-All.is
    (c.end.ensures.ends c.args.wire _ _ c.play-world.ensures.gone (written_of g.B.D.Disk.seen g.B.D.Disk.may_leave g.B.D.Disk.faults g.B.D.Disk.limit _ c.args.wire _ _ _ _ _ c.play-world.result c.play-world.ensures))

pub cut-requires-clause-world : goal.cut-requires-clause-world
cut-requires-clause-world g c = since_of g.B.D.Disk.seen g.B.D.Disk.may_leave g.B.D.Disk.faults g.B.D.Disk.limit _ c.args.wire _ _ _ _ _ c.play-world.result c.play-world.ensures

pub cut-requires-clause-going : goal.cut-requires-clause-going
cut-requires-clause-going g c = going_first g.B.D.Disk.seen g.B.D.Disk.may_leave g.B.D.Disk.faults g.B.D.Disk.limit _ c.args.wire _ _ _ _ _ c.play-world.result c.play-world.ensures c.in-Limit.is

pub cut-requires-clause-full : goal.cut-requires-clause-full
cut-requires-clause-full g c = full_first g.B.D.Disk.seen g.B.D.Disk.may_leave g.B.D.Disk.faults g.B.D.Disk.limit _ c.args.wire _ _ _ _ _ c.play-world.result c.play-world.ensures c.in-Limit.is

pub returns-in-Limit-clause-ends : goal.returns-in-Limit-clause-ends
returns-in-Limit-clause-ends g c =
    first_ends g.B.D.Disk.seen g.B.D.Disk.may_leave g.B.D.Disk.faults g.B.D.Disk.limit _ c.args.wire _ _ _ _ _ c.play-world.result c.play-world.ensures c.args.script.now c.in-Ok.ensures.world.safe.script _ _ c.in-Ok.ensures.tells.0 _ _ c.in-Limit.is
    (c.cut.ensures.ends c.args.wire _ _ c.play-world.ensures.gone (written_of g.B.D.Disk.seen g.B.D.Disk.may_leave g.B.D.Disk.faults g.B.D.Disk.limit _ c.args.wire _ _ _ _ _ c.play-world.result c.play-world.ensures))

pub give_in-requires : goal.give_in-requires
give_in-requires g c = record {
  world = since_of g.B.D.Disk.seen g.B.D.Disk.may_leave g.B.D.Disk.faults g.B.D.Disk.limit _ c.args.wire _ _ _ _ _ c.play-world.result c.play-world.ensures;
}

pub returns-in-OutOfMemory-clause-ends : goal.returns-in-OutOfMemory-clause-ends
returns-in-OutOfMemory-clause-ends g c =
    some_ends g.B.D.Disk.seen g.B.D.Disk.may_leave g.B.D.Disk.faults g.B.D.Disk.limit _ c.args.wire _ _ _ _ _ c.play-world.result c.play-world.ensures c.args.script.now c.in-Ok.ensures.world.safe.script _ _ c.in-Ok.ensures.tells.0 _ _ c.in-OutOfMemory.is
    (c.give_in.ensures.ends c.args.wire _ _ c.play-world.ensures.gone (written_of g.B.D.Disk.seen g.B.D.Disk.may_leave g.B.D.Disk.faults g.B.D.Disk.limit _ c.args.wire _ _ _ _ _ c.play-world.result c.play-world.ensures))
