use Rattle.std.proofs.Common.{◌≡◌, ◌++◌, take}
use Rattle.std.specs.Prelude.{map}
use Rattle.std.specs.List.{flat_map}
use Rattle.spec_records.specs.Records.{listed_vnode, listed_form}
use Rattle.afs_record.proofs.volumes.write_pairs.Given as goal

abbrev pub invariant-loop-vnode : goal.invariant-loop-vnode
invariant-loop-vnode l = record {
  written : l.w ≡ l.fn.w ++ flat_map listed_form.spelled (map listed_vnode (take l.vnode-index l.vnodes));
}
