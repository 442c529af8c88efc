use Rattle.std.proofs.Common.{◌≡◌, ◌++◌, drop, filter, map}
use Rattle.spec_adminrows.specs.Removing.{is_other_copy, spot_of}
use Rattle.afs_adminvolumes.proofs.removing.others_of.Given as goal

abbrev pub invariant-loop-one : goal.invariant-loop-one
invariant-loop-one l = l.others ++ map spot_of (filter (is_other_copy l.hold) (drop l.one-index l.seen)) ≡ map spot_of (filter (is_other_copy l.hold) l.seen)
