use Rattle.law_legal.proofs.DatabaseJournal.{journal_folded}
use Rattle.law_legal.proofs.laws.loc_journal_is_folded.Goals as goal

pub returns : goal.returns
returns c = journal_folded
