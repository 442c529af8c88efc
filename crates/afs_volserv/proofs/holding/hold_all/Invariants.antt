use Rattle.std.proofs.Common.{◌≡◌, ◌≤◌, ◌+◌, ◌-◌, drop, length}
use Rattle.spec_volrows.specs.VolRow.{holds_of}
use Rattle.afs_volserv.proofs.holding.hold_all.Given as goal

abbrev pub invariant-loop-behind : goal.invariant-loop-behind
invariant-loop-behind g l = record {
  holds : l.store.holds.table ≡ holds_of (drop (length l.later - l.behind) l.later);
  room : l.fn.store.holds.room ≤ l.store.holds.room + l.behind;
  rest : l.store ≡ record l.fn.store { holds = l.store.holds };
}
