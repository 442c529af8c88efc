use Rattle.std.proofs.Common.{◌≡◌, ◌-◌}
use Rattle.spec_shape.specs.Items.{items_at}
use Rattle.spec_shape.proofs.Loops.{with_front}
use Rattle.afs_xdr.specs.Reading.{KeepsEnd}
use Rattle.afs_fields.proofs.lists.read_items.Given as goal

-- the items so far and those still to read are all
abbrev pub invariant-loop : goal.invariant-loop
invariant-loop g l = record {
  all : with_front l.items.items (items_at g.T.Item.item_at (l.count - l.counter) l.r.left) ≡ items_at g.T.Item.item_at l.count l.fn.r.left;
  end : KeepsEnd l.fn.r l.r;
}
