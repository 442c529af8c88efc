use Rattle.std.proofs.Common.{◌≡◌, true, drop}
use Rattle.std.specs.List.{list_all}
use Rattle.afs_patch.specs.Patching.{after, before, passes}
use Rattle.afs_patch.proofs.patching.Patch.all_pass.Given as goal

abbrev pub invariant-loop-number : goal.invariant-loop-number
invariant-loop-number l = record {
  passed : list_all (passes l.self.touched.now (before l.self.volume.now) (after l.self.volume.now l.self.change.now)) (drop l.number-index l.self.touched.now) ≡ true
      → list_all (passes l.self.touched.now (before l.self.volume.now) (after l.self.volume.now l.self.change.now)) l.self.touched.now ≡ true;
}
