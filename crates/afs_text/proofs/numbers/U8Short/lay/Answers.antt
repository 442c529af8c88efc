-- It has at most 3 digits.
use Rattle.std.proofs.Common.{sym, arith}
use Rattle.std.proofs.lemmas.Fmt.{decimal_digit, length-decimal-le}
use Rattle.afs_text.proofs.Placed.{placed_as}
use Rattle.afs_text.proofs.numbers.U8Short.lay.Goals as goal

pub returns-then-self-lt10-clause-laid : goal.returns-then-self-lt10-clause-laid
returns-then-self-lt10-clause-laid c = placed_as _ _ c.args.at _ _ _ (sym (decimal_digit c.args.self.now c.if-self-lt10.true)) c.lay_byte.ensures

pub returns-then-self-lt10-clause-short : goal.returns-then-self-lt10-clause-short
returns-then-self-lt10-clause-short c = omega (arith, length-decimal-le 3 c.args.self.now (omega arith) (omega arith) (omega arith))

pub returns-else-self-lt10-clause-short : goal.returns-else-self-lt10-clause-short
returns-else-self-lt10-clause-short c = omega (arith, length-decimal-le 3 c.args.self.now (omega arith) (omega arith) (omega arith))
