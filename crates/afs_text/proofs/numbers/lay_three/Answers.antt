use Rattle.std.proofs.Common.{refl}
use Rattle.afs_text.proofs.Threes.{three_laid}
use Rattle.afs_text.proofs.numbers.lay_three.Goals as goal

pub returns : goal.returns
returns c = three_laid c.args.n _ c.args.at _ _ _ _ c.requires.small refl refl c.requires.room c.lay_four.ensures
