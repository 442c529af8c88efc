use Rattle.std.proofs.Common.{◌≡◌, map, take}
use Rattle.afs_num.specs.declared.types.Fid.{Fid}
use Rattle.spec_shape.specs.Rows.{no_callback}
use Rattle.afs_reads.proofs.bulk.no_callbacks.Given as goal

abbrev pub invariant-loop-fid : goal.invariant-loop-fid
invariant-loop-fid l = l.callbacks ≡ map (λ (f : Fid). no_callback) (take l._fid-index l.fids)
