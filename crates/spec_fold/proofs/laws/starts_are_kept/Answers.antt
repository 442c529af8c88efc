use Rattle.std.proofs.Common.{refl}
use Rattle.spec_fold.specs.Fold.{folded}
use Rattle.spec_fold.proofs.laws.starts_are_kept.Goals as goal

pub returns : goal.returns
unfolding folded
returns c = λ d. refl
