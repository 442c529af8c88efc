use Rattle.std.proofs.Common.{refl}
use Rattle.afs_text.proofs.Threes.{zeros_at, zeros_within}
use Rattle.afs_text.proofs.numbers.zeros_before.Goals as goal

pub overflow_sub-result : goal.overflow_sub-result
overflow_sub-result c = (zeros_at c.args.n _ c.requires refl).0

pub returns-clause-zeros : goal.returns-clause-zeros
returns-clause-zeros c = (zeros_at c.args.n _ c.requires refl).1

pub returns-clause-within : goal.returns-clause-within
returns-clause-within c = zeros_within c.args.n _ c.requires (zeros_at c.args.n _ c.requires refl).1
