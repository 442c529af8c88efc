use Rattle.std.specs.Prelude.{◌≤◌, ℕ, Some}
use Rattle.std.proofs.Common.{ap, arith, sym, subst}
use Rattle.std.proofs.Math.Nat.{min-eq_left}
use Rattle.spec_records.proofs.Forms.{some_is}
use Rattle.afs_disk.specs.Fuses.{failing}
use Rattle.afs_serverhost.specs.Seats.{CanRun, ServerRunning}
use Rattle.afs_serverhost.proofs.Handled.{set_goes}
use Rattle.afs_serverhost.proofs.server.fail_at.Goals as goal

pub returns-clause-can_run : goal.returns-clause-can_run
returns-clause-can_run g c =
    let old = c.args.running.now in
    let can = c.requires.can_run in
    subst (λ (x : ServerRunning g.row.D.Denot). CanRun x) (sym c.set_fail.ensures)
    (set_goes old (failing c.args.call old.store.disk) (record old.armed { fail = Some c.args.call }) can (record { stop = can.set.stop; fail = ap (λ (n : ℕ). Some n) (min-eq_left (omega (arith, c.requires.counted, c.ranges.call.fits))); due = λ k is. subst (λ (n : ℕ). 1 ≤ n) (some_is c.args.call k is) c.requires.due }))
