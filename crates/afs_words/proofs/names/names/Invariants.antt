use Rattle.std.proofs.Common.{◌≡◌, [], length}
use Rattle.afs_words.specs.Words.{names_from}
use Rattle.afs_words.proofs.names.names.Given as goal

abbrev pub invariant-loop-word : goal.invariant-loop-word
invariant-loop-word l = names_from l.names l.words ≡ names_from [] l.fn.words

abbrev pub decreases-loop-word : goal.decreases-loop-word
decreases-loop-word l = length l.words
