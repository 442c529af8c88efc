use Rattle.std.proofs.Common.{◌≡◌, ◌≤◌, ◌+◌, length}
use Rattle.spec_rows.specs.ClientRow.{batch_to}
use Rattle.afs_entries.proofs.gifts.count_to.Given as goal

abbrev pub invariant-loop-gift : goal.invariant-loop-gift
invariant-loop-gift l = record {
  within : l.left ≤ l.most;
  count : length (batch_to l.server l.most l.gifts) + l.left ≡ l.most + length (batch_to l.server l.left l.rest);
}

abbrev pub decreases-loop-gift : goal.decreases-loop-gift
decreases-loop-gift l = length l.rest
