use Rattle.law_legal.proofs.RunLinesInPlace.{run_placed}
use Rattle.law_legal.proofs.laws.lines_are_in_place.Goals as goal

pub returns : goal.returns
returns c = run_placed
