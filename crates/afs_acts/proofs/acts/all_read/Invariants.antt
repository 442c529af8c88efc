use Rattle.std.proofs.Common.{◌≡◌, drop}
use Rattle.afs_acts.specs.Needs.{are_read}
use Rattle.afs_acts.proofs.acts.all_read.Given as goal

abbrev pub invariant-loop-fid : goal.invariant-loop-fid
invariant-loop-fid l = are_read (drop l.fid-index l.fids) l.rest ≡ are_read l.fids l.reads
