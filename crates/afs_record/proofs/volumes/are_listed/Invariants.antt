use Rattle.std.proofs.Common.{◌≡◌, drop}
use Rattle.spec_records.specs.Records.{are_listed}
use Rattle.afs_record.proofs.volumes.are_listed.Given as goal

abbrev pub invariant-loop-pair : goal.invariant-loop-pair
invariant-loop-pair l = record {
  same : are_listed (drop l.pair-index l.pairs) l.rest ≡ are_listed l.fn.pairs l.fn.vnodes;
}
