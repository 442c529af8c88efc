use Rattle.law_legal.proofs.ReadsAreGood.{run_reads}
use Rattle.law_legal.proofs.laws.reads_are_good.Goals as goal

pub returns : goal.returns
returns c = run_reads
