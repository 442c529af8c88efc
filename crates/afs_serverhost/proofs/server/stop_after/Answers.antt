use Rattle.std.specs.Prelude.{ℕ, Some}
use Rattle.std.proofs.Common.{ap, arith, sym, subst}
use Rattle.std.proofs.Math.Nat.{min-eq_left}
use Rattle.afs_disk.specs.Fuses.{armed}
use Rattle.afs_serverhost.specs.Seats.{CanRun, ServerRunning}
use Rattle.afs_serverhost.proofs.Handled.{set_goes}
use Rattle.afs_serverhost.proofs.server.stop_after.Goals as goal

pub returns-clause-can_run : goal.returns-clause-can_run
returns-clause-can_run g c =
    let old = c.args.running.now in
    let can = c.requires.can_run in
    subst (λ (x : ServerRunning g.row.D.Denot). CanRun x) (sym c.set_stop.ensures)
    (set_goes old (armed c.args.calls old.store.disk) (record old.armed { stop = Some (c.args.calls, c.args.pick) }) can (record { stop = ap (λ (n : ℕ). Some n) (min-eq_left (omega (arith, c.requires.counted, c.ranges.calls.fits))); fail = can.set.fail; due = can.set.due }))
