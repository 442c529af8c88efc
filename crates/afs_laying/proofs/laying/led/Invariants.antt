use Rattle.std.proofs.Common.{◌≡◌, drop, Some}
use Rattle.spec_ideal.specs.SetUp.{led, led_to}
use Rattle.spec_ideal.specs.Tables.{get}
use Rattle.afs_laying.specs.Filled.{found_seen}
use Rattle.afs_volume.specs.Giving.{volume_of}
use Rattle.afs_laying.proofs.laying.led.Given as goal

abbrev pub invariant-loop-name : goal.invariant-loop-name
invariant-loop-name l = record {
  leads : led_to l.volume.head.id (volume_of l.volume) (drop l.name-index l.path) (found_seen l.volume.head.id l.at) ≡ led l.volume.head.id (volume_of l.volume) l.path;
  there : get l.at.vnode l.volume.vnodes.table ≡ Some l.at;
}
