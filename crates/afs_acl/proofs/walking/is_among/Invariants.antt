use Rattle.std.proofs.Common.{◌≡◌, ◌≤◌, ◌-◌}
use Rattle.afs_acl.specs.Walks.{is_among}
use Rattle.afs_acl.proofs.walking.is_among.Given as goal

abbrev pub invariant-loop : goal.invariant-loop
invariant-loop l = record {
  told : is_among l.name (l.count - l.counter) l.rest ≡ is_among l.name l.count l.lines;
  within : l.counter ≤ l.count;
}
