use Rattle.std.proofs.Common.{sym, subst, []}
use Rattle.afs_host.specs.declared.seats.Seat.TheVariants.{Up}
use Rattle.afs_cell.specs.SeatSteps.{HasStep, IsVoidServer, SeatHappens}
use Rattle.afs_clients.specs.declared.happening.ServerInput.{ServerInput}
use Rattle.afs_cell.specs.SeatPicks.{LeavesPick}
use Rattle.afs_cell.proofs.SeatPicked.{not_a_crash}
use Rattle.afs_cell.proofs.servers.take_up.Goals as goal

pub returns-in-TimeOut-clause-happens : goal.returns-in-TimeOut-clause-happens
returns-in-TimeOut-clause-happens g c = λ count.
    subst (λ (given : ServerInput). SeatHappens g.D.Disk.seen g.D.Disk.may_leave g.D.Disk.faults g.D.Disk.limit c.args.node [] (IsVoidServer given) (HasStep c.args.node c.args.now count given) (Up c.args.running) c.time_out.result.0 c.time_out.result.1)
    (sym c.in-TimeOut.is) (c.time_out.ensures.happens c.args.node count c.requires.own)

pub returns-in-TimeOut-clause-picked : goal.returns-in-TimeOut-clause-picked
returns-in-TimeOut-clause-picked g c = not_a_crash g.D.Disk.seen g.D.Disk.left_by c.time_out.result.1 c.args.given (Up c.args.running) c.time_out.result.0 (λ pick e. absurd (cc (c.in-TimeOut.is, e)))

pub returns-in-Wake-clause-picked : goal.returns-in-Wake-clause-picked
returns-in-Wake-clause-picked g c = not_a_crash g.D.Disk.seen g.D.Disk.left_by c.wake.result.1 c.args.given (Up c.args.running) c.wake.result.0 (λ pick e. absurd (cc (c.in-Wake.is, e)))

pub returns-in-Stop-clause-picked : goal.returns-in-Stop-clause-picked
returns-in-Stop-clause-picked g c = not_a_crash g.D.Disk.seen g.D.Disk.left_by c.set_to_stop.result.1 c.args.given (Up c.args.running) c.set_to_stop.result.0 (λ pick e. absurd (cc (c.in-Stop.is, e)))

pub returns-in-Fail-clause-picked : goal.returns-in-Fail-clause-picked
returns-in-Fail-clause-picked g c = not_a_crash g.D.Disk.seen g.D.Disk.left_by c.set_to_fail.result.1 c.args.given (Up c.args.running) c.set_to_fail.result.0 (λ pick e. absurd (cc (c.in-Fail.is, e)))

pub returns-in-Crash-clause-picked : goal.returns-in-Crash-clause-picked
returns-in-Crash-clause-picked g c =
    subst (λ (given : ServerInput). LeavesPick g.D.Disk.seen g.D.Disk.left_by c.crash.result.1 given (Up c.args.running) c.crash.result.0) (sym c.in-Crash.is) c.crash.ensures.picked

pub returns-in-Wake-clause-happens : goal.returns-in-Wake-clause-happens
returns-in-Wake-clause-happens g c = λ count.
    subst (λ (given : ServerInput). SeatHappens g.D.Disk.seen g.D.Disk.may_leave g.D.Disk.faults g.D.Disk.limit c.args.node [] (IsVoidServer given) (HasStep c.args.node c.args.now count given) (Up c.args.running) c.wake.result.0 c.wake.result.1)
    (sym c.in-Wake.is) (c.wake.ensures.happens c.args.node c.requires.own)

pub returns-in-Crash-clause-happens : goal.returns-in-Crash-clause-happens
returns-in-Crash-clause-happens g c = λ count.
    subst (λ (given : ServerInput). SeatHappens g.D.Disk.seen g.D.Disk.may_leave g.D.Disk.faults g.D.Disk.limit c.args.node [] (IsVoidServer given) (HasStep c.args.node c.args.now count given) (Up c.args.running) c.crash.result.0 c.crash.result.1)
    (sym c.in-Crash.is) c.crash.ensures.happens

pub returns-in-Stop-clause-happens : goal.returns-in-Stop-clause-happens
returns-in-Stop-clause-happens g c = λ count.
    subst (λ (given : ServerInput). SeatHappens g.D.Disk.seen g.D.Disk.may_leave g.D.Disk.faults g.D.Disk.limit c.args.node [] (IsVoidServer given) (HasStep c.args.node c.args.now count given) (Up c.args.running) c.set_to_stop.result.0 c.set_to_stop.result.1)
    (sym c.in-Stop.is) c.set_to_stop.ensures.happens

pub returns-in-Fail-clause-happens : goal.returns-in-Fail-clause-happens
returns-in-Fail-clause-happens g c = λ count.
    subst (λ (given : ServerInput). SeatHappens g.D.Disk.seen g.D.Disk.may_leave g.D.Disk.faults g.D.Disk.limit c.args.node [] (IsVoidServer given) (HasStep c.args.node c.args.now count given) (Up c.args.running) c.set_to_fail.result.0 c.set_to_fail.result.1)
    (sym c.in-Fail.is) c.set_to_fail.ensures.happens

pub returns-in-TimeOut-clause-goes : goal.returns-in-TimeOut-clause-goes
returns-in-TimeOut-clause-goes g c = c.time_out.ensures.goes c.args.node c.requires.own

pub returns-in-Wake-clause-goes : goal.returns-in-Wake-clause-goes
returns-in-Wake-clause-goes g c = c.wake.ensures.goes c.args.node c.requires.own
