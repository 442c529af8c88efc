use Rattle.std.proofs.Common.{◌≡◌, ◌≤◌, drop}
use Rattle.afs_words.specs.Words.{octal_from}
use Rattle.afs_words.proofs.bytes.octal_from.Given as goal

abbrev pub invariant-loop-digit : goal.invariant-loop-digit
invariant-loop-digit l = record {
  rest : octal_from l.number (drop l.digit-index l.digits) ≡ octal_from 0 l.digits;
  small : l.number ≤ 4095;
}
