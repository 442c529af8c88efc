use Rattle.law_legal.proofs.ServerDiskKeeps.{start_folded}
use Rattle.law_legal.proofs.laws.starts_are_folded.Goals as goal

pub returns : goal.returns
returns c = start_folded
