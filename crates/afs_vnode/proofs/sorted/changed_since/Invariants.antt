use Rattle.std.proofs.Common.{◌≡◌, take}
use Rattle.spec_ideal.specs.VnodeMaps.{changed_since}
use Rattle.afs_vnode.specs.Stores.{table_of}
use Rattle.afs_vnode.proofs.sorted.changed_since.Given as goal

abbrev pub invariant-loop-v : goal.invariant-loop-v
invariant-loop-v l = l.numbers ≡ changed_since l.counter (table_of (take l.v-index l.vnodes))
