use Rattle.std.proofs.Common.{◌≡◌, ◌-◌, ◌++◌, ℕ, List}
use Rattle.spec_breaks.specs.declared.types.Promise.{Promise}
use Rattle.spec_breaks.specs.Promises.{lasting}
use Rattle.afs_promise.specs.Gathered.{IsInOrder}
use Rattle.afs_promise.proofs.by_client.add_in_order.Given as goal

abbrev pub invariant-loop-grant : goal.invariant-loop-grant
invariant-loop-grant l = record {
  told : (told : ℕ → List Promise) → IsInOrder l.found told → l.out.items ++ lasting l.now (told l.from) ≡ l.fn.out.items ++ lasting l.now (told 0);
  kept : (some : List Promise) × (l.out.items ≡ l.fn.out.items ++ some);
}

abbrev pub decreases-loop-grant : goal.decreases-loop-grant
decreases-loop-grant l = l.fn.next - l.from
