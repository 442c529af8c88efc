use Rattle.law_legal.proofs.RunEntries.{run_entered}
use Rattle.law_legal.proofs.laws.entries_are_sound.Goals as goal

pub returns : goal.returns
returns c = run_entered
