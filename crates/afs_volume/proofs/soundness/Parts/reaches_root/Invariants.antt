use Rattle.std.proofs.Common.{◌≡◌, ◌-◌, length}
use Rattle.spec_ideal.specs.Operations.{is_below, leads_up}
use Rattle.spec_ideal.specs.Tables.{get}
use Rattle.afs_volume.specs.Seen.{volume_seen}
use Rattle.afs_volume.proofs.soundness.Parts.reaches_root.Given as goal

abbrev pub invariant-loop : goal.invariant-loop
invariant-loop l = leads_up (length l.self.vnodes.now.table - l.counter) l.at 1 (volume_seen l.self.head.now l.self.vnodes.now.table) (get l.at (volume_seen l.self.head.now l.self.vnodes.now.table).vnodes) ≡ is_below l.fn.number 1 (volume_seen l.self.head.now l.self.vnodes.now.table)
