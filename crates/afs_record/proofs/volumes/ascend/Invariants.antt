use Rattle.std.proofs.Common.{◌≡◌, drop}
use Rattle.spec_records.specs.Records.{ascend_from}
use Rattle.afs_record.proofs.volumes.ascend.Given as goal

abbrev pub invariant-loop-vnode : goal.invariant-loop-vnode
invariant-loop-vnode l = record {
  same : ascend_from l.least (drop l.vnode-index l.vnodes) ≡ ascend_from 0 l.fn.vnodes;
}
