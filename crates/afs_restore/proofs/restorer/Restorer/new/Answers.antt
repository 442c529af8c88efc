use Rattle.std.proofs.Common.{ap, ◌∙◌}
use Rattle.afs_restore.specs.ReadOn.{bytes_read}
use Rattle.afs_restore.specs.declared.steps.Step.TheVariants as steps
use Rattle.afs_restore.proofs.Fed.{at_first, none_read}
use Rattle.afs_restore.proofs.restorer.Restorer.new.Goals as goal

pub invariant_of-result : goal.invariant_of-result
invariant_of-result c = rw c.new-2.ensures.items (at_first c.new.result c.new.ensures)

pub returns : goal.returns
returns c = ap (bytes_read steps.Headers c.new.result) c.new-2.ensures.items ∙ none_read c.new.result
