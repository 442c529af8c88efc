use Rattle.std.proofs.Common.{◌≡◌, ◌≤◌, ◌-◌, []}
use Rattle.spec_ideal.specs.AccessLists.{entries_at}
use Rattle.afs_acl.proofs.reading.entries.Given as goal

abbrev pub invariant-loop : goal.invariant-loop
invariant-loop l = record {
  told : entries_at (l.count - l.counter) l.entries l.rest ≡ entries_at l.count [] l.bytes;
  within : l.counter ≤ l.count;
}
