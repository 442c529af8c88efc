-- It has at most 10 digits.
use Rattle.std.proofs.Common.{arith}
use Rattle.std.proofs.lemmas.Fmt.{length-decimal-le}
use Rattle.afs_text.proofs.numbers.U32Short.lay.Goals as goal

pub lay_number-requires-clause-room : goal.lay_number-requires-clause-room
lay_number-requires-clause-room c = omega (arith, c.requires, length-decimal-le 10 c.args.self.now (omega arith) (omega arith) (omega arith))

pub returns-clause-short : goal.returns-clause-short
returns-clause-short c = omega (arith, length-decimal-le 10 c.args.self.now (omega arith) (omega arith) (omega arith))
