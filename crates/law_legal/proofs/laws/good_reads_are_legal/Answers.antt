use Rattle.law_legal.proofs.RunsAreLegal.{run_by_reads}
use Rattle.law_legal.proofs.laws.good_reads_are_legal.Goals as goal

pub returns : goal.returns
returns c = run_by_reads
