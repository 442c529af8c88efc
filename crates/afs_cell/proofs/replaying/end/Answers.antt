use Rattle.std.proofs.Common.{arith, refl, ◌∙◌}
use Rattle.afs_cell.specs.Since.{whole}
use Rattle.afs_cell.specs.Lends.{disks_of}
use Rattle.afs_cell.proofs.Returned.{end_of, few_left, unread_of}
use Rattle.afs_cell.proofs.replaying.end.Goals as goal

pub tell_left-status-requires : goal.tell_left-status-requires
tell_left-status-requires g c = record {
  few = rw (c.as_slice.ensures.value) (few_left g.B.D.Disk.seen g.B.D.Disk.may_leave g.B.D.Disk.faults g.B.D.Disk.limit c.args.world.script (whole c.requires.world.before c.args.world) c.in-Ok.read.1.items c.requires.world.world c.in-Ok.ensures.found);
}

pub give_back-taken-requires : goal.give_back-taken-requires
give_back-taken-requires g c =
    let few = few_left g.B.D.Disk.seen g.B.D.Disk.may_leave g.B.D.Disk.faults g.B.D.Disk.limit c.args.world.script (whole c.requires.world.before c.args.world) c.in-Ok.read.1.items c.requires.world.world c.in-Ok.ensures.found in
    few

pub returns-in-Err-clause-ends : goal.returns-in-Err-clause-ends
returns-in-Err-clause-ends g c = λ wire start count gone told.
    unread_of g.B.D.Disk.seen g.B.D.Disk.may_leave g.B.D.Disk.faults g.B.D.Disk.limit wire start count gone c.args.world _ _ c.args.written (disks_of c.args.world) _ told
    (rw (← c.in-Err.ensures.back) c.give_up.ensures.back) (rw (← c.in-Err.ensures.back) c.give_up.ensures.faults) c.give_up.ensures.never_falls
    (record { are = refl; standing = c.in-Err.ensures.standing }) (c.tell_none-status.ensures.written _ start count told.text) _ (c.give_up.ensures.status ∙ c.tell_none-status.ensures.status)

pub returns-clause-ends : goal.returns-clause-ends
returns-clause-ends g c = λ wire start count gone told.
    end_of g.B.D.Disk.seen g.B.D.Disk.may_leave g.B.D.Disk.faults g.B.D.Disk.limit wire start count gone c.args.world _ _ c.args.written (disks_of c.args.world) _ told c.in-Ok.read.0 c.in-Ok.read.1.items c.tell_left-status.result _ c.give_back-taken.result
    c.requires.going (record { are = refl; standing = c.in-Ok.ensures.standing }) c.in-Ok.ensures.database c.in-Ok.ensures.found (rw (c.as_slice.ensures.value) at (c.tell_left-status.ensures.told _ start count told.text)) c.give_back-taken.ensures.all c.give_back-taken.ensures.quiet c.give_back-taken.ensures.cause
    c.give_back-taken.ensures.back c.give_back-taken.ensures.faults c.give_back-taken.ensures.never_falls c.returned.ensures
