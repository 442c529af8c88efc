use Rattle.std.proofs.Common.{◌≡◌, ◌++◌, not}
use Rattle.std.specs.Prelude.{filter}
use Rattle.std.specs.Vec.Iter.{into_iter_items}
use Rattle.spec_rows.specs.Callbacks.{is_ready, replies_of}
use Rattle.spec_rows.specs.States.{Held}
use Rattle.afs_server_parts.proofs.held.part_ready.Given as goal

abbrev pub invariant-loop-one : goal.invariant-loop-one
invariant-loop-one l = record {
  sent : l.sent ++ replies_of (filter (is_ready l.owed) (into_iter_items l.one-iterator)) ≡ l.fn.sent ++ replies_of (filter (is_ready l.owed) l.fn.replies);
  held : l.held ++ filter (λ (h : Held). not (is_ready l.owed h)) (into_iter_items l.one-iterator) ≡ l.fn.held ++ filter (λ (h : Held). not (is_ready l.owed h)) l.fn.replies;
}
