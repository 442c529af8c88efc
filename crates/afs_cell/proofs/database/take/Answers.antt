use Rattle.std.proofs.Common.{sym, subst, []}
use Rattle.afs_host.specs.LocSeated.{DatabaseSeat}
use Rattle.afs_host.specs.declared.seats.Seat.TheVariants.{Down}
use Rattle.afs_clients.specs.declared.happening.DatabaseInput.{DatabaseInput}
use Rattle.afs_cell.specs.DatabaseHearing.{LocLeavesPick}
use Rattle.afs_cell.specs.DatabaseSteps.{HasLocStep, IsVoidAtLoc, LocHappens}
use Rattle.afs_cell.proofs.DatabaseSeats.{no_crash}
use Rattle.afs_cell.proofs.database.take.Goals as goal

pub returns-in-Up-clause-happens : goal.returns-in-Up-clause-happens
returns-in-Up-clause-happens g c = λ clock count.
    subst (λ (seat : DatabaseSeat g.row.D.Denot). LocHappens g.D.Disk.seen g.D.Disk.may_leave g.D.Disk.faults g.D.Disk.limit [] (IsVoidAtLoc c.args.given.0) (HasLocStep clock count c.args.given.0) seat c.take_up.result.0 c.take_up.result.1)
    (sym c.in-Up.is) (c.take_up.ensures.happens clock count)

pub returns-in-Up-clause-picked : goal.returns-in-Up-clause-picked
returns-in-Up-clause-picked g c =
    subst (λ (seat : DatabaseSeat g.row.D.Denot). LocLeavesPick g.D.Disk.seen g.D.Disk.left_by c.take_up.result.1 c.args.given.0 seat c.take_up.result.0) (sym c.in-Up.is) c.take_up.ensures.picked

pub returns-in-Restart-clause-picked : goal.returns-in-Restart-clause-picked
returns-in-Restart-clause-picked g c = no_crash g.D.Disk.seen g.D.Disk.left_by c.begin_again.result.1 c.args.given.0 c.args.seat c.begin_again.result.0 (λ pick e. absurd (cc (c.in-Restart.is, e)))

pub returns-in-Restart-clause-happens : goal.returns-in-Restart-clause-happens
returns-in-Restart-clause-happens g c = λ clock count.
    subst (λ (seat : DatabaseSeat g.row.D.Denot). LocHappens g.D.Disk.seen g.D.Disk.may_leave g.D.Disk.faults g.D.Disk.limit [] (IsVoidAtLoc c.args.given.0) (HasLocStep clock count c.args.given.0) seat c.begin_again.result.0 c.begin_again.result.1)
    (sym c.in-Down.is)
    (subst (λ (given : DatabaseInput). LocHappens g.D.Disk.seen g.D.Disk.may_leave g.D.Disk.faults g.D.Disk.limit [] (IsVoidAtLoc given) (HasLocStep clock count given) (Down c.in-Down.resting) c.begin_again.result.0 c.begin_again.result.1)
    (sym c.in-Restart.is) (c.begin_again.ensures.happens clock count))
