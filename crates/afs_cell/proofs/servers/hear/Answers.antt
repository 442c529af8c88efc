use Rattle.std.specs.Prelude.{◌≡◌, ◌≤◌, ◌↔◌, Err, IsSome}
use Rattle.spec_model.specs.Messages.{received}
use Rattle.afs_server_parts.specs.declared.faults.NodeFault.{NodeFault}
use Rattle.afs_serverhost.specs.Seats.{disk_of, with_behind}
use Rattle.afs_serverhost.specs.Serving.{disk_served, Becomes, IsServed}
use Rattle.afs_cell.proofs.Falling.{fell_happens, fell_keeps}
use Rattle.spec_history.specs.declared.lines.Line.TheVariants as lines
use Rattle.afs_serverhost.specs.Seated.{ServerSeat}
use Rattle.afs_host.specs.declared.seats.Seat.TheVariants.{Up}
use Rattle.afs_cell.specs.SeatSteps.{HasHeard, IsFallen, SeatGoes, SeatHappens}
use Rattle.afs_cell.proofs.Seats.{gave_out, goes_up, heard_up}
use Rattle.std.proofs.Common.{arith, subst, sym, [], ◌∷◌}
use Rattle.afs_cell.proofs.servers.hear.Goals as goal

pub returns-in-Ok-clause-happens : goal.returns-in-Ok-clause-happens
returns-in-Ok-clause-happens g c = λ me place own.
    let outs = with_behind (c.in-Ok.outs, c.in-Ok.behind) in
    gave_out
    (λ what. SeatHappens g.D.Disk.seen g.D.Disk.may_leave g.D.Disk.faults g.D.Disk.limit me (lines.Given place ∷ []) IsFallen (HasHeard me c.args.now place c.args.bytes.now) c.args.seat.now (Up c.serve.new.running) what) outs c.given_out.result c.given_out.ensures
    (heard_up g.D.Disk.seen g.D.Disk.may_leave g.D.Disk.faults g.D.Disk.limit me c.args.now place c.args.bytes.now c.args.seat.now c.in-Up.running c.serve.new.running outs c.in-Up.is own c.in-Ok.ensures.served) tt

pub returns-in-Ok-clause-goes : goal.returns-in-Ok-clause-goes
returns-in-Ok-clause-goes g c = λ me own.
    subst (λ (seat : ServerSeat g.row.D.Denot). SeatGoes me seat (Up c.serve.new.running) c.given_out.result) (sym c.in-Up.is)
    (gave_out (λ what. SeatGoes me (Up c.in-Up.running) (Up c.serve.new.running) what) (with_behind (c.in-Ok.outs, c.in-Ok.behind)) c.given_out.result c.given_out.ensures
    (λ entries ready. goes_up me 4 50 entries c.in-Up.running c.serve.new.running (omega arith) (omega arith) c.in-Ok.ensures.goes_on ready) tt)

pub returns-in-Err-Down-clause-happens : goal.returns-in-Err-Down-clause-happens
returns-in-Err-Down-clause-happens g c = λ me place own.
    fell_happens g.D.Disk.seen g.D.Disk.left_by g.D.Disk.may_leave g.D.Disk.faults g.D.Disk.limit me c.args.now place c.args.bytes.now c.args.seat.now c.in-Up.running c.serve.new.running c.in-Up.is own
    (subst (λ (e : NodeFault). Becomes g.D.Disk (λ s. IsServed g.D.Disk c.in-Up.running c.args.now (received c.args.bytes.now) s) c.serve.new.running (Err e)) c.in-Err-Down.field-0-is c.in-Err-Down.ensures.served)

pub returns-in-Err-Down-clause-keeps : goal.returns-in-Err-Down-clause-keeps
returns-in-Err-Down-clause-keeps g c =
    fell_keeps g.D.Disk.seen g.D.Disk.left_by g.D.Disk.may_leave g.D.Disk.faults g.D.Disk.limit c.args.seat.now c.in-Up.running c.serve.new.running c.in-Up.is
    (subst (λ (e : NodeFault). Becomes g.D.Disk (λ s. IsSome (g.D.Disk.seen (disk_served s)) ↔ IsSome (g.D.Disk.seen (disk_of c.in-Up.running))) c.serve.new.running (Err e)) c.in-Err-Down.field-0-is c.in-Err-Down.ensures.told)
    (subst (λ (e : NodeFault). Becomes g.D.Disk (λ s. g.D.Disk.limit (disk_served s) ≡ g.D.Disk.limit (disk_of c.in-Up.running)) c.serve.new.running (Err e)) c.in-Err-Down.field-0-is c.in-Err-Down.ensures.limit)
    (subst (λ (e : NodeFault). Becomes g.D.Disk (λ s. g.D.Disk.faults (disk_of c.in-Up.running) ≤ g.D.Disk.faults (disk_served s)) c.serve.new.running (Err e)) c.in-Err-Down.field-0-is c.in-Err-Down.ensures.faults)
