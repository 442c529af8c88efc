use Rattle.law_legal.proofs.DatabaseEvents.{run_events}
use Rattle.law_legal.proofs.laws.loc_runs_events.Goals as goal

pub returns : goal.returns
returns c = run_events
