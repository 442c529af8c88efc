use Rattle.std.proofs.Common.{List, ap, find, ◌∙◌}
use Rattle.spec_adminrows.specs.AdminRow.{has_label}
use Rattle.spec_adminrows.specs.declared.turns.HeldDump.{HeldDump}
use Rattle.afs_mover.proofs.Held.{found_fits}
use Rattle.afs_mover.proofs.dumps.Dumps.held.Goals as goal

pub returns-in_ok-copy-in-Some-clause-fits : goal.returns-in_ok-copy-in-Some-clause-fits
returns-in_ok-copy-in-Some-clause-fits c = found_fits c.args.label.now c.self.inside.dumps.items c.in-Some.dump.now c.in_ok-copy-in-Some.field-0 c.self.invariant (c.in-Some.ensures ∙ ap (λ (ds : List HeldDump). find (has_label c.args.label.now) ds) c.deref.ensures.value) c.in_ok-copy-in-Some.ensures
