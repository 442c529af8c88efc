use Rattle.std.proofs.Common.{refl}
use Rattle.afs_text.proofs.Threes.{front_laid}
use Rattle.afs_text.proofs.numbers.lay_front.Goals as goal

pub returns : goal.returns
returns c = front_laid c.args.n c.zeros_before-zeros.result c.args.at _ _ _ _ c.requires.small c.zeros_before-zeros.ensures.zeros refl c.requires.room c.lay_four.ensures
