use Rattle.std.proofs.Common.{◌≡◌, take}
use Rattle.std.specs.List.{flat_map}
use Rattle.afs_text.specs.FinalText.{vnode_text}
use Rattle.afs_volume.specs.Seen.{all_seen}
use Rattle.afs_final.specs.Telling.{shown_text}
use Rattle.afs_final.proofs.telling.vnodes_of.Given as goal

abbrev pub invariant-loop-place : goal.invariant-loop-place
invariant-loop-place l = flat_map shown_text l.all.items ≡ flat_map (vnode_text l.volume.head.id) (take l.place (all_seen l.volume.vnodes.table))
