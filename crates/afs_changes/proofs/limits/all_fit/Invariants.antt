use Rattle.std.proofs.Common.{◌≡◌, drop}
use Rattle.std.specs.List.{list_all}
use Rattle.spec_ideal.specs.Operations.{edit_fits}
use Rattle.afs_changes.specs.Planning.{edits_seen}
use Rattle.afs_volume.specs.Giving.{volume_of}
use Rattle.afs_changes.proofs.limits.all_fit.Given as goal

abbrev pub invariant-loop-edit : goal.invariant-loop-edit
invariant-loop-edit l = list_all (edit_fits (volume_of l.volume)) (edits_seen (drop l.edit-index l.edits)) ≡ list_all (edit_fits (volume_of l.volume)) (edits_seen l.edits)
