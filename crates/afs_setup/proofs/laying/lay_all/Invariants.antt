use Rattle.std.proofs.Common.{◌≡◌, drop}
use Rattle.spec_records.specs.Changes.{laid_all}
use Rattle.afs_volume.specs.Giving.{volume_of}
use Rattle.afs_volume.specs.Taking.{IsAtSetUp}
use Rattle.afs_setup.proofs.laying.lay_all.Given as goal

abbrev pub invariant-loop-line : goal.invariant-loop-line
invariant-loop-line l = record {
  laid : laid_all l.fn.volume.head.id (drop l.line-index l.lines) (volume_of l.volume) ≡ laid_all l.fn.volume.head.id l.lines (volume_of l.fn.volume);
  times : IsAtSetUp l.fn.volume → IsAtSetUp l.volume;
  id : l.volume.head.id ≡ l.fn.volume.head.id;
}
