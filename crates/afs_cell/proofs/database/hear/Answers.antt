use Rattle.std.specs.Prelude.{◌≡◌, ◌≤◌, ◌↔◌, Err, IsSome}
use Rattle.std.proofs.Common.{subst}
use Rattle.spec_model.specs.Messages.{received}
use Rattle.afs_server_parts.specs.declared.faults.NodeFault.{NodeFault}
use Rattle.afs_host.specs.LocSeats.{loc_disk_of}
use Rattle.afs_host.specs.LocServing.{loc_disk_served, IsLocServed, LocBecomes}
use Rattle.afs_cell.proofs.DatabaseSeats.{loc_fell_happens, loc_fell_keeps, loc_heard_up}
use Rattle.afs_cell.proofs.database.hear.Goals as goal

pub returns-in-Ok-clause-happens : goal.returns-in-Ok-clause-happens
returns-in-Ok-clause-happens g c = λ clock place.
    loc_heard_up g.D.Disk clock place c.args.bytes.now c.args.seat.now c.in-Up.running c.serve.new.self c.in-Ok.outs c.in-Up.is c.in-Ok.ensures.served

pub returns-in-Err-Down-clause-happens : goal.returns-in-Err-Down-clause-happens
returns-in-Err-Down-clause-happens g c = λ clock place.
    loc_fell_happens g.D.Disk clock place c.args.bytes.now c.args.seat.now c.in-Up.running c.serve.new.self c.in-Up.is
    (subst (λ (e : NodeFault). LocBecomes g.D.Disk (λ s. IsLocServed g.D.Disk c.in-Up.running (received c.args.bytes.now) s) c.serve.new.self (Err e)) c.in-Err-Down.field-0-is c.in-Err-Down.ensures.served)

pub returns-in-Err-Down-clause-keeps : goal.returns-in-Err-Down-clause-keeps
returns-in-Err-Down-clause-keeps g c =
    loc_fell_keeps g.D.Disk c.args.seat.now c.in-Up.running c.serve.new.self c.in-Up.is
    (subst (λ (e : NodeFault). LocBecomes g.D.Disk (λ s. IsSome (g.D.Disk.seen (loc_disk_served s)) ↔ IsSome (g.D.Disk.seen (loc_disk_of c.in-Up.running))) c.serve.new.self (Err e)) c.in-Err-Down.field-0-is c.in-Err-Down.ensures.told)
    (subst (λ (e : NodeFault). LocBecomes g.D.Disk (λ s. g.D.Disk.limit (loc_disk_served s) ≡ g.D.Disk.limit (loc_disk_of c.in-Up.running)) c.serve.new.self (Err e)) c.in-Err-Down.field-0-is c.in-Err-Down.ensures.limit)
    (subst (λ (e : NodeFault). LocBecomes g.D.Disk (λ s. g.D.Disk.faults (loc_disk_of c.in-Up.running) ≤ g.D.Disk.faults (loc_disk_served s)) c.serve.new.self (Err e)) c.in-Err-Down.field-0-is c.in-Err-Down.ensures.faults)
