use Rattle.std.proofs.Common.{◌≡◌, drop}
use Rattle.spec_ideal.specs.Tables.{get}
use Rattle.afs_voldecisions.proofs.transactions.find.Given as goal

abbrev pub invariant-loop-item : goal.invariant-loop-item
invariant-loop-item l = get l.number (drop l.item-index l.items) ≡ get l.number l.items
