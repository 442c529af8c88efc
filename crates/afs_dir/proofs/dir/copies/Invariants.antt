use Rattle.std.proofs.Common.{◌≡◌, take}
use Rattle.afs_dir.proofs.dir.copies.Given as goal

abbrev pub invariant-loop-name : goal.invariant-loop-name
invariant-loop-name l = l.made.items ≡ take l.name-index l.names
