use Rattle.std.proofs.Common.{refl}
use Rattle.afs_cell.proofs.DatabaseSeats.{loc_started_down, loc_started_up}
use Rattle.afs_cell.proofs.database.begin_again.Goals as goal

pub returns-in-Up-clause-happens : goal.returns-in-Up-clause-happens
returns-in-Up-clause-happens g c = λ clock count. loc_started_up g.D.Disk clock count c.args.resting c.in-Up.running c.in-Up.outs c.in-Up.ensures.started

pub returns-in-Down-clause-happens : goal.returns-in-Down-clause-happens
returns-in-Down-clause-happens g c = λ clock count.
    loc_started_down g.D.Disk clock count c.args.resting c.in-Down.resting c.in-Down.lines (record { parcels = c.new.result; lines = c.in-Down.lines }) refl c.new.ensures c.in-Down.ensures.started
