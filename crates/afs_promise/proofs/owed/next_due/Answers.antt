use Rattle.std.specs.BinaryHeap.{heap_items}
use Rattle.afs_promise.proofs.Breaks.{all_later}
use Rattle.afs_promise.proofs.owed.next_due.Goals as goal

pub returns-then-branch-now-clause-none : goal.returns-then-branch-now-clause-none
returns-then-branch-now-clause-none c = all_later c.args.now c.in_ok-peek.field-0.now (heap_items c.args.due.now) c.if-branch-now.true (c.in_ok-peek.ensures.greatest c.requires)
