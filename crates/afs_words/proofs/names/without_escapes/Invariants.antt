use Rattle.std.proofs.Common.{◌≡◌, [], length}
use Rattle.afs_words.specs.Words.{unescaped_from}
use Rattle.afs_words.proofs.names.without_escapes.Given as goal

abbrev pub invariant-loop-byte : goal.invariant-loop-byte
invariant-loop-byte l = unescaped_from l.name.items l.rest ≡ unescaped_from [] l.spelled

abbrev pub decreases-loop-byte : goal.decreases-loop-byte
decreases-loop-byte l = length l.rest
