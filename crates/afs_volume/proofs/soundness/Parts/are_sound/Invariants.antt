use Rattle.std.proofs.Common.{◌≡◌, drop}
use Rattle.std.specs.List.{list_all}
use Rattle.afs_volume.specs.Assembling.{is_sound_pair}
use Rattle.afs_volume.proofs.soundness.Parts.are_sound.Given as goal

abbrev pub invariant-loop-place : goal.invariant-loop-place
invariant-loop-place l =
    list_all (is_sound_pair l.self.head.now l.self.vnodes.now.table) (drop l.place l.self.vnodes.now.table)
    ≡ list_all (is_sound_pair l.self.head.now l.self.vnodes.now.table) l.self.vnodes.now.table
