use Rattle.law_legal.proofs.KeptUntrusted.{run_untrusted}
use Rattle.law_legal.proofs.laws.unawaited_are_untrusted.Goals as goal

pub returns : goal.returns
returns c = run_untrusted
