use Rattle.std.proofs.Common.{◌≡◌, ◌+◌, ◌≤◌}
use Rattle.std.specs.BinaryHeap.{heap_items, heap_len, heap_capacity, IsHeap}
use Rattle.indexmap.specs.IndexMap.{spare}
use Rattle.spec_breaks.specs.Promises.{lasting_breaks}
use Rattle.afs_promise.specs.Owing.{breaks_in, due_order, IsOwing}
use Rattle.afs_promise.proofs.owed.OwedList.expire.Given as goal

abbrev pub invariant-loop-number : goal.invariant-loop-number
invariant-loop-number l = record {
  owing : IsOwing l.self-inside.breaks.entries (heap_items l.self-inside.due) l.self-inside.last l.self-inside.count;
  heap : IsHeap due_order (heap_items l.self-inside.due);
  spare : l.self-inside.room ≤ spare l.self-inside.breaks;
  capacity : heap_len l.self-inside.due + l.self-inside.room ≤ heap_capacity l.self-inside.due;
  room : l.self-inside.room ≡ l.fn.self.room;
  last : l.self-inside.last ≡ l.fn.self.last;
  lasts : lasting_breaks l.now (breaks_in l.self-inside.breaks.entries) ≡ lasting_breaks l.now l.fn.self.breaks;
}

abbrev pub decreases-loop-number : goal.decreases-loop-number
decreases-loop-number l = heap_len l.self-inside.due
