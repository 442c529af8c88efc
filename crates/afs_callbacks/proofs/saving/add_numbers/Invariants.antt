use Rattle.std.proofs.Common.{◌≡◌, ◌++◌, drop}
use Rattle.spec_rows.specs.Callbacks.{break_numbers}
use Rattle.afs_callbacks.proofs.saving.add_numbers.Given as goal

abbrev pub invariant-loop-one : goal.invariant-loop-one
invariant-loop-one l = l.waits ++ break_numbers (drop l.one-index l.breaks) ≡ l.fn.waits ++ break_numbers l.breaks
