use Rattle.std.proofs.Common.{◌≡◌, ◌++◌, take}
use Rattle.spec_rows.specs.ClientRow.{gifts_to}
use Rattle.afs_entries.proofs.gifts.add_gifts.Given as goal

abbrev pub invariant-loop-gift : goal.invariant-loop-gift
invariant-loop-gift l = l.ordered.items ≡ l.fn.ordered.items ++ gifts_to (take l.gift-index l.gifts) l.number
