use Rattle.std.proofs.Common.{◌≡◌, ◌++◌, map}
use Rattle.std.specs.Vec.Iter.{into_iter_items}
use Rattle.afs_laying.specs.Filled.{image_at_first}
use Rattle.afs_laying.proofs.laying.all_at_first.Given as goal

abbrev pub invariant-loop-x : goal.invariant-loop-x
invariant-loop-x l = l.first ++ map image_at_first (into_iter_items l.x-iterator) ≡ map image_at_first l.fn.vnodes
