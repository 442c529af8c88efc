use Rattle.std.proofs.Common.{rules}
use Rattle.afs_summary.proofs.Counted.{step_stops, too_many}
use Rattle.afs_summary.proofs.counts.Counts.with_step.Goals as goal

pub returns-in_err-checked_add : goal.returns-in_err-checked_add
returns-in_err-checked_add c = step_stops c.args.self c.args.lines.now c.args.sent c.from_residual.result (λ fits. too_many c.checked_add.result _ c.checked_add.ensures (search rules) fits.entries) (search rules)

pub returns-in_err-checked_add-2 : goal.returns-in_err-checked_add-2
returns-in_err-checked_add-2 c = step_stops c.args.self c.args.lines.now c.args.sent c.from_residual-in_err-checked_add-2.result (λ fits. too_many c.checked_add-2.result _ c.checked_add-2.ensures (search rules) fits.sent) (search rules)
