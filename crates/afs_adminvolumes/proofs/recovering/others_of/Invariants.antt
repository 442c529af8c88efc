use Rattle.std.proofs.Common.{◌≡◌, ◌++◌, drop, filter, map}
use Rattle.spec_adminrows.specs.Recovering.{must_go}
use Rattle.spec_adminrows.specs.Removing.{spot_of}
use Rattle.afs_adminvolumes.proofs.recovering.others_of.Given as goal

abbrev pub invariant-loop-one : goal.invariant-loop-one
invariant-loop-one l = l.others ++ map spot_of (filter (must_go l.volume l.entry) (drop l.one-index l.seen)) ≡ map spot_of (filter (must_go l.volume l.entry) l.seen)
