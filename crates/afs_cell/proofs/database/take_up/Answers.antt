use Rattle.std.proofs.Common.{sym, subst, []}
use Rattle.afs_host.specs.declared.seats.Seat.TheVariants.{Up}
use Rattle.afs_clients.specs.declared.happening.DatabaseInput.{DatabaseInput}
use Rattle.afs_cell.specs.DatabaseHearing.{LocLeavesPick}
use Rattle.afs_cell.specs.DatabaseSteps.{HasLocStep, IsVoidAtLoc, LocHappens}
use Rattle.afs_cell.proofs.DatabaseSeats.{no_crash}
use Rattle.afs_cell.proofs.database.take_up.Goals as goal

pub returns-in-Crash-clause-happens : goal.returns-in-Crash-clause-happens
returns-in-Crash-clause-happens g c = λ clock count.
    subst (λ (given : DatabaseInput). LocHappens g.D.Disk.seen g.D.Disk.may_leave g.D.Disk.faults g.D.Disk.limit [] (IsVoidAtLoc given) (HasLocStep clock count given) (Up c.args.running) c.crash.result.0 c.crash.result.1)
    (sym c.in-Crash.is) c.crash.ensures.happens

pub returns-in-Stop-clause-happens : goal.returns-in-Stop-clause-happens
returns-in-Stop-clause-happens g c = λ clock count.
    subst (λ (given : DatabaseInput). LocHappens g.D.Disk.seen g.D.Disk.may_leave g.D.Disk.faults g.D.Disk.limit [] (IsVoidAtLoc given) (HasLocStep clock count given) (Up c.args.running) c.set_to_stop.result.0 c.set_to_stop.result.1)
    (sym c.in-Stop.is) c.set_to_stop.ensures.happens

pub returns-in-Fail-clause-happens : goal.returns-in-Fail-clause-happens
returns-in-Fail-clause-happens g c = λ clock count.
    subst (λ (given : DatabaseInput). LocHappens g.D.Disk.seen g.D.Disk.may_leave g.D.Disk.faults g.D.Disk.limit [] (IsVoidAtLoc given) (HasLocStep clock count given) (Up c.args.running) c.set_to_fail.result.0 c.set_to_fail.result.1)
    (sym c.in-Fail.is) c.set_to_fail.ensures.happens

pub returns-in-Crash-clause-picked : goal.returns-in-Crash-clause-picked
returns-in-Crash-clause-picked g c =
    subst (λ (given : DatabaseInput). LocLeavesPick g.D.Disk.seen g.D.Disk.left_by c.crash.result.1 given (Up c.args.running) c.crash.result.0) (sym c.in-Crash.is) c.crash.ensures.picked

pub returns-in-Stop-clause-picked : goal.returns-in-Stop-clause-picked
returns-in-Stop-clause-picked g c = no_crash g.D.Disk.seen g.D.Disk.left_by c.set_to_stop.result.1 c.args.given (Up c.args.running) c.set_to_stop.result.0 (λ pick e. absurd (cc (c.in-Stop.is, e)))

pub returns-in-Fail-clause-picked : goal.returns-in-Fail-clause-picked
returns-in-Fail-clause-picked g c = no_crash g.D.Disk.seen g.D.Disk.left_by c.set_to_fail.result.1 c.args.given (Up c.args.running) c.set_to_fail.result.0 (λ pick e. absurd (cc (c.in-Fail.is, e)))
