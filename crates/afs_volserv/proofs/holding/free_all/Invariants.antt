use Rattle.std.proofs.Common.{◌≡◌, ◌≤◌, ◌+◌, drop}
use Rattle.spec_volrows.specs.VolRow.{holds_of}
use Rattle.afs_volanswers.specs.Flagged.{AreAlone}
use Rattle.afs_volserv.proofs.holding.free_all.Given as goal

abbrev pub invariant-loop-item : goal.invariant-loop-item
invariant-loop-item g l = record {
  holds : l.store.holds.table ≡ holds_of (drop l.item-index l.former);
  alone : AreAlone (drop l.item-index l.former);
  room : l.fn.store.holds.room + l.item-index ≤ l.store.holds.room;
  rest : l.store ≡ record l.fn.store { holds = l.store.holds };
}
