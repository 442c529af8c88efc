use Rattle.std.proofs.Common.{◌≡◌, length}
use Rattle.afs_grammar.specs.Forms.{has_loc}
use Rattle.afs_grammar.proofs.forms.has_loc.Given as goal

abbrev pub invariant-loop-word : goal.invariant-loop-word
invariant-loop-word l = has_loc l.words ≡ has_loc l.fn.words

abbrev pub decreases-loop-word : goal.decreases-loop-word
decreases-loop-word l = length l.words
