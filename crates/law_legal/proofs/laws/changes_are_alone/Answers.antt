use Rattle.law_legal.proofs.ActChangesOnce.{run_alone}
use Rattle.law_legal.proofs.laws.changes_are_alone.Goals as goal

pub returns : goal.returns
returns c = run_alone
