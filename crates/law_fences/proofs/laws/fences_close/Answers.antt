use Rattle.law_fences.proofs.Shutting.{close}
use Rattle.law_fences.proofs.laws.fences_close.Goals as goal

pub returns : goal.returns
returns c = close
