use Rattle.std.proofs.Common.{◌≡◌, ◌++◌, ◌+◌, drop, map}
use Rattle.std.specs.List.{flat_map}
use Rattle.afs_text.specs.FinalText.{servers_text}
use Rattle.afs_final.specs.Reading.{part}
use Rattle.afs_final.specs.Telling.{kept_text}
use Rattle.afs_final.proofs.telling.told_of.Given as goal

abbrev pub invariant-loop-i : goal.invariant-loop-i
invariant-loop-i g l = flat_map kept_text l.all.items ++ servers_text (l.i + 1) (map part (drop l.i l.left)) ≡ servers_text 1 (map part l.left)
