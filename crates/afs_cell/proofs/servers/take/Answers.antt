use Rattle.std.proofs.Common.{sym, subst, []}
use Rattle.afs_host.specs.declared.seats.Seat.TheVariants.{Down}
use Rattle.afs_cell.specs.SeatSteps.{HasStep, IsVoidServer, SeatHappens}
use Rattle.afs_serverhost.specs.Seated.{ServerSeat}
use Rattle.afs_clients.specs.declared.happening.ServerInput.{ServerInput}
use Rattle.afs_cell.specs.SeatPicks.{LeavesPick}
use Rattle.afs_cell.proofs.SeatPicked.{not_a_crash}
use Rattle.afs_cell.proofs.servers.take.Goals as goal

pub returns-in-Up-clause-happens : goal.returns-in-Up-clause-happens
returns-in-Up-clause-happens g c =
    subst (λ (seat : ServerSeat g.row.D.Denot). SeatHappens g.D.Disk.seen g.D.Disk.may_leave g.D.Disk.faults g.D.Disk.limit c.args.node [] (IsVoidServer c.args.given) (HasStep c.args.node c.args.now c.args.clients c.args.given) seat c.take_up.result.0 c.take_up.result.1)
    (sym c.in-Up.is) (c.take_up.ensures.happens c.args.clients)

pub returns-in-Up-clause-picked : goal.returns-in-Up-clause-picked
returns-in-Up-clause-picked g c =
    subst (λ (seat : ServerSeat g.row.D.Denot). LeavesPick g.D.Disk.seen g.D.Disk.left_by c.take_up.result.1 c.args.given seat c.take_up.result.0) (sym c.in-Up.is) c.take_up.ensures.picked

pub returns-in-Restart-clause-picked : goal.returns-in-Restart-clause-picked
returns-in-Restart-clause-picked g c = not_a_crash g.D.Disk.seen g.D.Disk.left_by c.begin_again.result.1 c.args.given c.args.seat c.begin_again.result.0 (λ pick e. absurd (cc (c.in-Restart.is, e)))

pub returns-in-Restart-clause-happens : goal.returns-in-Restart-clause-happens
returns-in-Restart-clause-happens g c =
    subst (λ (seat : ServerSeat g.row.D.Denot). SeatHappens g.D.Disk.seen g.D.Disk.may_leave g.D.Disk.faults g.D.Disk.limit c.args.node [] (IsVoidServer c.args.given) (HasStep c.args.node c.args.now c.args.clients c.args.given) seat c.begin_again.result.0 c.begin_again.result.1)
    (sym c.in-Down.is)
    (subst (λ (given : ServerInput). SeatHappens g.D.Disk.seen g.D.Disk.may_leave g.D.Disk.faults g.D.Disk.limit c.args.node [] (IsVoidServer given) (HasStep c.args.node c.args.now c.args.clients given) (Down c.in-Down.resting) c.begin_again.result.0 c.begin_again.result.1)
    (sym c.in-Restart.is) c.begin_again.ensures.happens)
