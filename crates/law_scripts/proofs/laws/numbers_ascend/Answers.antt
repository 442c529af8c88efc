use Rattle.law_scripts.proofs.Scripts.{numbers_ascend}
use Rattle.law_scripts.proofs.laws.numbers_ascend.Goals as goal

pub returns : goal.returns
returns c = numbers_ascend
