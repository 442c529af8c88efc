use Rattle.std.proofs.Common.{◌≡◌, ◌≤◌, drop}
use Rattle.spec_model.specs.ScriptWords.{number_from}
use Rattle.afs_words.proofs.words.number_from.Given as goal

abbrev pub invariant-loop-digit : goal.invariant-loop-digit
invariant-loop-digit l = record {
  so_far : number_from l.high l.number (drop l.digit-index l.digits) ≡ number_from l.high 0 l.digits;
  bound : l.number ≤ l.high;
}
