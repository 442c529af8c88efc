use Rattle.std.proofs.Common.{◌≡◌, drop}
use Rattle.afs_patch.specs.Patching.{same_others}
use Rattle.afs_patch.proofs.patching.same_others.Given as goal

abbrev pub invariant-loop-name : goal.invariant-loop-name
invariant-loop-name l = same_others l.touched (drop l.name-index l.names) l.left ≡ same_others l.touched l.names l.others
