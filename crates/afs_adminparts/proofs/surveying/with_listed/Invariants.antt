use Rattle.std.proofs.Common.{◌≡◌, ◌++◌, take, map}
use Rattle.spec_adminrows.specs.Surveying.{seen_by}
use Rattle.afs_adminparts.proofs.surveying.with_listed.Given as goal

abbrev pub invariant-loop-volume : goal.invariant-loop-volume
invariant-loop-volume l = l.all ≡ l.seen ++ map (seen_by l.server) (take l.volume-index l.listed)
