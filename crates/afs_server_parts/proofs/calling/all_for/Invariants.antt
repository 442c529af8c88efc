use Rattle.std.proofs.Common.{◌≡◌, take}
use Rattle.std.specs.Prelude.{filter}
use Rattle.spec_rows.specs.Callbacks.{is_break_for}
use Rattle.afs_server_parts.proofs.calling.all_for.Given as goal

abbrev pub invariant-loop-one : goal.invariant-loop-one
invariant-loop-one l = l.breaks.items ≡ filter (is_break_for l.node) (take l.one-index l.owed)
