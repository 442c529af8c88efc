use Rattle.std.proofs.Common.{◌≡◌, drop}
use Rattle.spec_rows.specs.Callbacks.{waits_none}
use Rattle.afs_sendings.proofs.held.waits_none.Given as goal

abbrev pub invariant-loop-number : goal.invariant-loop-number
invariant-loop-number l = waits_none (drop l.number-index l.numbers) l.owed.breaks ≡ waits_none l.numbers l.owed.breaks
