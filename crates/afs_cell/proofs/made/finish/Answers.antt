use Rattle.std.proofs.Common.{refl}
use Rattle.afs_cell.proofs.SummedUp.{finishes_cut, finishes_stopped, finishes_summed, finishes_uncounted}
use Rattle.afs_cell.proofs.made.finish.Goals as goal

pub returns-in-Some-clause-how : goal.returns-in-Some-clause-how
returns-in-Some-clause-how g c = finishes_summed g.B.D.Disk.seen c.args.number _ c.args.played _ c.sum_up.result c.in-Some.counts c.summary_of.result c.in-All.is c.in-Some.is c.summary_of.ensures c.sum_up.ensures.sums

pub returns-in-None-clause-how : goal.returns-in-None-clause-how
returns-in-None-clause-how g c = finishes_uncounted g.B.D.Disk.seen c.args.number _ c.args.played _ c.leave.result c.in-All.is c.in-None.is refl c.leave.ensures.status

pub returns-in-Limit-clause-how : goal.returns-in-Limit-clause-how
returns-in-Limit-clause-how g c = finishes_cut g.B.D.Disk.seen c.args.number _ c.args.played _ c.leave-in-Limit.result c.in-Limit.is refl c.leave-in-Limit.ensures.status

pub returns-in-OutOfMemory-clause-how : goal.returns-in-OutOfMemory-clause-how
returns-in-OutOfMemory-clause-how g c = finishes_stopped g.B.D.Disk.seen c.args.number _ c.args.played _ c.leave-in-OutOfMemory.result c.in-OutOfMemory.is refl c.leave-in-OutOfMemory.ensures.status
