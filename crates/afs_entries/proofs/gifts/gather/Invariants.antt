use Rattle.std.proofs.Common.{◌≡◌, take}
use Rattle.std.specs.List.{flat_map}
use Rattle.spec_rows.specs.ClientRow.{gifts_to}
use Rattle.afs_entries.proofs.gifts.gather.Given as goal

abbrev pub invariant-loop-number : goal.invariant-loop-number
invariant-loop-number l = l.ordered.items ≡ flat_map (gifts_to l.gifts) (take l.number-index l.servers)
