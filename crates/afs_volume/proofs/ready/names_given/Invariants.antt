use Rattle.std.proofs.Common.{◌≡◌, drop}
use Rattle.std.specs.Option.{option_copied}
use Rattle.afs_volume.specs.Given.{names_after, names_given}
use Rattle.afs_volume.proofs.ready.names_given.Given as goal

abbrev pub invariant-loop-place : goal.invariant-loop-place
invariant-loop-place l = names_after l.number (drop l.place l.vnodes) (option_copied l.given) ≡ names_given l.number l.vnodes
