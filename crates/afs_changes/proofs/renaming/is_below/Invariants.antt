use Rattle.std.proofs.Common.{◌≡◌, ◌-◌, length}
use Rattle.spec_ideal.specs.Operations.{is_below, leads_up}
use Rattle.spec_ideal.specs.Tables.{get}
use Rattle.afs_volume.specs.Giving.{volume_of}
use Rattle.afs_changes.proofs.renaming.is_below.Given as goal

abbrev pub invariant-loop : goal.invariant-loop
invariant-loop l = leads_up (length l.volume.vnodes.table - l.counter) l.at l.top (volume_of l.volume) (get l.at (volume_of l.volume).vnodes) ≡ is_below l.fn.number l.top (volume_of l.volume)
