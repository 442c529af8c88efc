use Rattle.std.proofs.Common.{◌≡◌, take}
use Rattle.afs_entries.proofs.gifts.copy_gifts.Given as goal

abbrev pub invariant-loop-gift : goal.invariant-loop-gift
invariant-loop-gift l = l.copy.items ≡ take l.gift-index l.gifts
