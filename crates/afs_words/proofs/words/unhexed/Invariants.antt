use Rattle.std.proofs.Common.{◌≡◌, [], length}
use Rattle.spec_model.specs.ScriptWords.{hex_from}
use Rattle.afs_words.proofs.words.unhexed.Given as goal

abbrev pub invariant-loop-high : goal.invariant-loop-high
invariant-loop-high l = hex_from l.bytes.items l.rest ≡ hex_from [] l.digits

abbrev pub decreases-loop-high : goal.decreases-loop-high
decreases-loop-high l = length l.rest
