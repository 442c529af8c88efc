use Rattle.law_legal.proofs.ServerDiskKeeps.{change_folded}
use Rattle.law_legal.proofs.laws.changes_are_folded.Goals as goal

pub returns : goal.returns
returns c = change_folded
