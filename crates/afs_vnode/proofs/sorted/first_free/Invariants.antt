use Rattle.std.proofs.Common.{◌≡◌, ◌≤◌, ◌+◌, ◌*◌, drop}
use Rattle.spec_ideal.specs.Tables.{lowest_free}
use Rattle.afs_vnode.specs.Stores.{table_of}
use Rattle.afs_vnode.proofs.sorted.first_free.Given as goal

abbrev pub invariant-loop-v : goal.invariant-loop-v
invariant-loop-v l = record {
  free : lowest_free l.number (table_of (drop l.v-index l.vnodes)) ≡ lowest_free l.from (table_of l.vnodes);
  low : l.number ≤ l.from + 2 * l.v-index;
}
