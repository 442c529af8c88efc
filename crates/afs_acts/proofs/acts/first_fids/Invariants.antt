use Rattle.std.proofs.Common.{◌≡◌, map, take}
use Rattle.spec_rows.specs.Going.{fid_of}
use Rattle.afs_acts.proofs.acts.first_fids.Given as goal

abbrev pub invariant-loop-name : goal.invariant-loop-name
invariant-loop-name l = l.fids ≡ map (fid_of l.volume) (take l.name-index (take 50 l.names))
