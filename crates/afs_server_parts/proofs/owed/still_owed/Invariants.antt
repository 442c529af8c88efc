use Rattle.std.proofs.Common.{◌≡◌, take}
use Rattle.std.specs.Prelude.{filter}
use Rattle.spec_breaks.specs.Promises.{has_break}
use Rattle.spec_breaks.specs.declared.types.OwedBreak.{OwedBreak}
use Rattle.afs_server_parts.proofs.owed.still_owed.Given as goal

abbrev pub invariant-loop-one : goal.invariant-loop-one
invariant-loop-one l = l.left ≡ filter (λ (o : OwedBreak). has_break o.number l.owed) (take l.one-index l.breaks)
