use Rattle.afs_cell.proofs.Returned.{stopped_of}
use Rattle.afs_lending.proofs.Written.{passed_by}
use Rattle.afs_cell.proofs.replaying.give_in.Goals as goal

pub returns-clause-ends : goal.returns-clause-ends
returns-clause-ends g c = λ wire start count gone told.
    stopped_of g.B.D.Disk.seen g.B.D.Disk.may_leave g.B.D.Disk.faults g.B.D.Disk.limit wire start count gone c.args.world _ _ c.args.written c.end-disks.result _ told
    c.give_up.ensures.back c.give_up.ensures.faults c.give_up.ensures.never_falls (record { are = c.end-disks.ensures.disks; standing = c.end-disks.ensures.standing })
    (passed_by _ start _ _ count _ c.put_no_more-passed.result c.put_no_more-passed.ensures.all (c.put_no_more-passed.ensures.puts _ start count told.text)) _ c.give_up.ensures.status
