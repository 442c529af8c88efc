use Rattle.std.proofs.Common.{◌≡◌, ◌≤◌, map, take, length}
use Rattle.std.specs.Vec.Iter.{into_iter_items}
use Rattle.spec_rows.specs.ClientRow.{put_entries}
use Rattle.afs_entries.specs.Cached.{cached, entry_of, HasAll}
use Rattle.afs_entries.proofs.putting.put_each.Given as goal

abbrev pub invariant-loop-one : goal.invariant-loop-one
invariant-loop-one l = record {
  keys : HasAll (into_iter_items l.one-iterator) l.entries;
  within : l.count ≤ length l.entries.entries;
  few : l.count ≤ l.capacity;
  put : put_entries l.capacity (map entry_of (into_iter_items l.one-iterator)) (map cached (take l.count l.entries.entries)) ≡ put_entries l.capacity (map entry_of l.fn.fresh.items) (map cached (take l.fn.count l.fn.entries.entries));
  wide : l.entries.cap ≡ l.fn.entries.cap;
}
