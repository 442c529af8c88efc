use Rattle.std.proofs.Common.{refl}
use Rattle.afs_cell.proofs.Seats.{started_down, started_up}
use Rattle.afs_cell.proofs.servers.begin_again.Goals as goal

pub returns-in-Up-clause-happens : goal.returns-in-Up-clause-happens
returns-in-Up-clause-happens g c =
    started_up g.D.Disk.seen g.D.Disk.may_leave g.D.Disk.faults g.D.Disk.limit c.args.node c.args.now c.args.clients c.args.resting c.in-Up.running c.in-Up.outs c.in-Up.ensures.started

pub returns-in-Down-clause-happens : goal.returns-in-Down-clause-happens
returns-in-Down-clause-happens g c =
    started_down g.D.Disk.seen g.D.Disk.may_leave g.D.Disk.faults g.D.Disk.limit c.args.node c.args.now c.args.clients c.args.resting c.in-Down.resting c.in-Down.lines (record { parcels = c.new.result; lines = c.in-Down.lines }) refl c.new.ensures c.in-Down.ensures.started
