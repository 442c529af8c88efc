use Rattle.std.proofs.Common.{rules}
use Rattle.std.proofs.lemmas.Fn.{filter_same}
use Rattle.spec_adminrows.specs.AdminRow.{has_other_label}
use Rattle.afs_mover.proofs.dumps.drop_labelled.Goals as goal

pub returns-clause-items : goal.returns-clause-items
returns-clause-items c = filter_same _ (has_other_label c.args.label.now) _ (λ x b f' h. search rules) _ _ c.retain.ensures.filtered
