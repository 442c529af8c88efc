use Rattle.law_legal.proofs.DatabaseFold.{run_journal}
use Rattle.law_legal.proofs.laws.loc_keeps_its_journal.Goals as goal

pub returns : goal.returns
returns c = run_journal
