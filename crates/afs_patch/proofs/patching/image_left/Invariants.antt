use Rattle.std.proofs.Common.{◌≡◌, drop}
use Rattle.std.specs.Option.{option_copied}
use Rattle.afs_patch.specs.Patching.{image_left}
use Rattle.afs_patch.proofs.patching.image_left.Given as goal

abbrev pub invariant-loop-x : goal.invariant-loop-x
invariant-loop-x l = image_left l.number (drop l.x-index l.changed) (option_copied l.left) ≡ image_left l.number l.changed (option_copied l.fn.there)
