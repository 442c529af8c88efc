use Rattle.std.proofs.Common.{◌≡◌, drop}
use Rattle.afs_words.specs.Words.{fit_in}
use Rattle.afs_words.proofs.names.fit_in.Given as goal

abbrev pub invariant-loop-name : goal.invariant-loop-name
invariant-loop-name l = fit_in l.room (drop l.name-index l.names) ≡ fit_in l.fn.room l.names
