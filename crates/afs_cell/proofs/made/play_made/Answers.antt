use Rattle.std.proofs.Common.{length, refl, arith, inl, inr, ◌∙◌}
use Rattle.afs_cell.proofs.Ended.{leaves_lent, lending_fails, lent_before, none_failed, of_nodes, one_failed, rose_before}
use Rattle.afs_cell.proofs.SummedUp.{behind_lent, ends_by, ends_refused, finishes_lent, goes_lent, world_since}
use Rattle.afs_cell.proofs.made.play_made.Goals as goal

pub lend_all-requires : goal.lend_all-requires
lend_all-requires g c = omega (arith, c.requires.script.servers.1)

pub returns-in-Err : goal.returns-in-Err
returns-in-Err g c =
    inl (lending_fails c.args.script.now _ _ c.in-Err.fault (length c.in-Err.disks) _ _ _ (c.in-Err.ensures.few (omega arith)) (lent_before _ _ _ _ _ _ c.in-Err.ensures.back_lends c.give_up.ensures.lends) refl
    (λ e. rose_before _ _ _ (c.in-Err.ensures.cause e) c.in-Err.ensures.never_falls c.give_up.ensures.never_falls)
    (λ e. leaves_lent g.B.D.Disk.seen g.B.D.Disk.faults g.B.D.Disk.limit c.args.script.now _ _ _ _ _ _ _ _ _ _ _ 1 c.in-Err.disks c.in-Err.ensures.back_lent c.in-Err.ensures.back c.in-Err.ensures.given (one_failed _ _ (c.in-Err.ensures.cause e) c.in-Err.ensures.never_falls) c.give_up.ensures.never_falls c.give_up.ensures.back)
    (λ e. leaves_lent g.B.D.Disk.seen g.B.D.Disk.faults g.B.D.Disk.limit c.args.script.now _ _ _ _ _ _ _ _ _ _ _ 0 c.in-Err.disks c.in-Err.ensures.back_lent c.in-Err.ensures.back c.in-Err.ensures.given (none_failed _ _ (c.in-Err.ensures.memory e)) c.give_up.ensures.never_falls c.give_up.ensures.back)
    c.give_up.ensures.status c.status_of_lend.ensures)

pub returns-in-Err-set_up : goal.returns-in-Err-set_up
returns-in-Err-set_up g c =
    inr (
      c.give_up-in-Err-set_up.ensures.lends ∙ c.in-Ok.ensures.lends,
      ends_refused g.B.D.Disk.seen g.B.D.Disk.may_leave g.B.D.Disk.faults c.args.number c.args.script.now _ c.in-Ok.disks c.in-Err-set_up.fault c.in-Err-set_up.disks _ _ _ c.in-Ok.ensures.unused c.in-Err-set_up.ensures.cause c.in-Err-set_up.ensures.left
          (of_nodes g.B.D.Disk.limit c.args.script.now.capacity 0 c.in-Err-set_up.disks c.in-Err-set_up.ensures.back.0, c.in-Err-set_up.ensures.back.1) refl
          (goes_lent g.B.D.Disk.seen g.B.D.Disk.faults c.in-Err-set_up.disks _ _ _ _ _ _ _ _ _ _ _ _ _ c.in-Ok.ensures.given c.in-Ok.ensures.quiet c.in-Ok.ensures.faults c.give_up-in-Err-set_up.ensures.back c.give_up-in-Err-set_up.ensures.faults c.give_up-in-Err-set_up.ensures.never_falls)
          c.give_up-in-Err-set_up.ensures.status c.status_of_setup.ensures,
    )

pub finish-requires : goal.finish-requires
finish-requires g c = record {
  world = world_since g.B.D.Disk.seen g.B.D.Disk.may_leave g.B.D.Disk.faults g.B.D.Disk.limit _ _ c.play-played.result c.play-played.ensures;
}

pub returns : goal.returns
returns g c =
    inr (
      c.finish.ensures.lends ∙ c.in-Ok.ensures.lends,
      ends_by g.B.D.Disk.seen g.B.D.Disk.may_leave g.B.D.Disk.faults g.B.D.Disk.limit c.args.number c.args.script.now _ _ _ c.play-played.result _ _ c.in-Ok-set_up.ensures.world.safe.script c.play-played.ensures
          (λ t. c.in-Ok-set_up.ensures.tells.0 (c.in-Ok.ensures.tells t)) c.finish.ensures.left.standing (behind_lent g.B.D.Disk.seen g.B.D.Disk.may_leave g.B.D.Disk.faults g.B.D.Disk.limit c.play-played.result.world _ _ _ _ _ _ _ _ _ _ _ _ _ c.in-Ok.ensures.given c.in-Ok.ensures.quiet c.in-Ok.ensures.faults c.finish.ensures.left) c.finish.result
          (finishes_lent g.B.D.Disk.seen c.play-played.result _ _ _ _ _ _ _ _ _ _ _ _ _ c.in-Ok.ensures.given c.in-Ok.ensures.quiet c.args.number _ c.finish.result c.finish.ensures.how),
    )
