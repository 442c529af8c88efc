use Rattle.std.proofs.Common.{◌≡◌, ◌++◌, take}
use Rattle.std.specs.List.{flat_map}
use Rattle.afs_text.specs.FinalText.{volume_text}
use Rattle.afs_final.specs.Telling.{kept_text}
use Rattle.afs_final.proofs.telling.push_volumes.Given as goal

abbrev pub invariant-loop-place : goal.invariant-loop-place
invariant-loop-place g l = flat_map kept_text l.all.items ≡ flat_map kept_text l.fn.all.items ++ flat_map (volume_text l.server) (take l.place l.store.durable.volumes)
