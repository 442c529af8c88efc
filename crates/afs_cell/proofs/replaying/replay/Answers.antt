use Rattle.std.proofs.Common.{length, refl, arith}
use Rattle.afs_cell.proofs.Ended.{leaves_lent, lent_before, none_failed, not_lent, one_failed, replayed, rose_before}
use Rattle.afs_cell.proofs.replaying.replay.Goals as goal

pub lend_all-requires : goal.lend_all-requires
lend_all-requires g c = omega (arith, c.requires.script.servers.1)

pub returns-in-Ok : goal.returns-in-Ok
returns-in-Ok g c =
    replayed g.B.D.Disk.seen g.B.D.Disk.may_leave g.B.D.Disk.faults c.args.script.now c.args.wire c.args.place.now _ _ _ _ _ _ _ _ _ _ _ _ _ _ _ _ _ _ c.replay_over.result c.in-Ok.ensures.tells c.in-Ok.ensures.lends c.replay_over.ensures.lends c.in-Ok.ensures.given c.in-Ok.ensures.faults
    c.in-Ok.ensures.quiet c.replay_over.ensures.ends

pub returns-in-Err : goal.returns-in-Err
returns-in-Err g c =
    not_lent c.args.script.now c.args.wire c.args.place.now _ _ _ c.in-Err.fault (length c.in-Err.disks) _ _ _ (c.in-Err.ensures.few (omega arith)) (lent_before _ _ _ _ _ _ c.in-Err.ensures.back_lends c.give_up.ensures.lends) refl
    (λ e. rose_before _ _ _ (c.in-Err.ensures.cause e) c.in-Err.ensures.never_falls c.give_up.ensures.never_falls)
    (λ e. leaves_lent g.B.D.Disk.seen g.B.D.Disk.faults g.B.D.Disk.limit c.args.script.now _ _ _ _ _ _ _ _ _ _ _ 1 c.in-Err.disks c.in-Err.ensures.back_lent c.in-Err.ensures.back c.in-Err.ensures.given (one_failed _ _ (c.in-Err.ensures.cause e) c.in-Err.ensures.never_falls) c.give_up.ensures.never_falls c.give_up.ensures.back)
    (λ e. leaves_lent g.B.D.Disk.seen g.B.D.Disk.faults g.B.D.Disk.limit c.args.script.now _ _ _ _ _ _ _ _ _ _ _ 0 c.in-Err.disks c.in-Err.ensures.back_lent c.in-Err.ensures.back c.in-Err.ensures.given (none_failed _ _ (c.in-Err.ensures.memory e)) c.give_up.ensures.never_falls c.give_up.ensures.back)
    c.give_up.ensures.status c.status_of_lend.ensures
