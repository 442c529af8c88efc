use Rattle.std.proofs.Common.{arith, []}
use Rattle.afs_clients.specs.declared.happening.ServerInput.TheVariants as input
use Rattle.afs_serverhost.specs.Seats.{with_behind}
use Rattle.afs_host.specs.declared.seats.Seat.TheVariants.{Up}
use Rattle.afs_cell.specs.SeatSteps.{HasStep, IsVoidServer, SeatGoes, SeatHappens}
use Rattle.afs_cell.proofs.Seats.{gave_out, goes_still, goes_up, keeps_still, woke}
use Rattle.afs_cell.proofs.servers.wake.Goals as goal

pub returns-in-Ok-clause-happens : goal.returns-in-Ok-clause-happens
returns-in-Ok-clause-happens g c = λ me own.
    let outs = with_behind (c.in-Ok.outs, c.in-Ok.behind) in
    gave_out (λ what. SeatHappens g.D.Disk.seen g.D.Disk.may_leave g.D.Disk.faults g.D.Disk.limit me [] (IsVoidServer input.Wake) (HasStep me c.args.now 0 input.Wake) (Up c.args.running) (Up c.wake.new.running) what) outs c.given_out.result c.given_out.ensures
    (woke g.D.Disk.seen g.D.Disk.may_leave g.D.Disk.faults g.D.Disk.limit me c.args.now c.args.running c.wake.new.running outs own c.in-Ok.ensures.step) tt

pub returns-in-Ok-clause-goes : goal.returns-in-Ok-clause-goes
returns-in-Ok-clause-goes g c = λ me own.
    gave_out (λ what. SeatGoes me (Up c.args.running) (Up c.wake.new.running) what) (with_behind (c.in-Ok.outs, c.in-Ok.behind)) c.given_out.result c.given_out.ensures
    (λ entries ready. goes_up me 0 0 entries c.args.running c.wake.new.running (omega arith) (omega arith) c.in-Ok.ensures.goes_on ready) tt

pub returns-in-Err-clause-happens : goal.returns-in-Err-clause-happens
returns-in-Err-clause-happens g c = λ me own. c.in-Err.ensures.err

pub returns-in-Err-clause-goes : goal.returns-in-Err-clause-goes
returns-in-Err-clause-goes g c = λ me own entries ready. goes_still me entries c.args.running c.wake.new.running c.in-Err.ensures.err c.in-Err.ensures.goes_on ready

pub returns-in-Err-clause-keeps : goal.returns-in-Err-clause-keeps
returns-in-Err-clause-keeps g c = keeps_still g.D.Disk.seen g.D.Disk.faults g.D.Disk.limit c.args.running c.wake.new.running c.in-Err.ensures.rest

pub returns-in-Ok-clause-keeps : goal.returns-in-Ok-clause-keeps
returns-in-Ok-clause-keeps g c = keeps_still g.D.Disk.seen g.D.Disk.faults g.D.Disk.limit c.args.running c.wake.new.running c.in-Ok.ensures.rest
