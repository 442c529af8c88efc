use Rattle.std.proofs.Common.{◌≡◌, ◌≤◌, ◌+◌, ◌++◌, length}
use Rattle.std.specs.Prelude.{filter}
use Rattle.std.specs.Vec.{vec_capacity}
use Rattle.std.specs.Vec.Iter.{into_iter_items}
use Rattle.spec_model.specs.Messages.{messages_spelled, parcels_read}
use Rattle.spec_rows.specs.Callbacks.{is_ready, replies_of}
use Rattle.spec_volrows.specs.VolSteps.{waits_for_breaks}
use Rattle.afs_sendings.proofs.held.part_ready.Given as goal

abbrev pub invariant-loop-one : goal.invariant-loop-one
invariant-loop-one l = record {
  sent : parcels_read l.out.items ++ messages_spelled (replies_of (filter (is_ready l.owed.breaks) (into_iter_items l.one-iterator))) ≡ parcels_read l.fn.out.items ++ messages_spelled (replies_of (filter (is_ready l.owed.breaks) l.fn.replies.items));
  held : l.on.items ++ filter (waits_for_breaks l.owed.breaks) (into_iter_items l.one-iterator) ≡ l.fn.on.items ++ filter (waits_for_breaks l.owed.breaks) l.fn.replies.items;
  out : length l.out.items + length (into_iter_items l.one-iterator) ≤ vec_capacity l.out;
  on : length l.on.items + length (into_iter_items l.one-iterator) ≤ vec_capacity l.on;
}
