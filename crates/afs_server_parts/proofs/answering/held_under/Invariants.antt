use Rattle.std.proofs.Common.{◌≡◌, drop}
use Rattle.spec_rows.specs.Callbacks.{held_under}
use Rattle.afs_server_parts.proofs.answering.held_under.Given as goal

abbrev pub invariant-loop-one : goal.invariant-loop-one
invariant-loop-one l = held_under l.key (drop l.one-index l.replies) ≡ held_under l.key l.replies
