use Rattle.std.proofs.Common.{◌≡◌, ◌+◌, ◌<◌, ◌^◌, drop, length}
use Rattle.afs_outside.proofs.Puts.{Completes}
use Rattle.afs_text.specs.KeptText.{kept_entries_text}
use Rattle.afs_text.specs.Telling.{sent_by}
use Rattle.afs_text.proofs.histories.put_entries.Given as goal

abbrev pub invariant-loop-i : goal.invariant-loop-i
invariant-loop-i g l = record {
  left : Completes (kept_entries_text l.wire (l.first_number + l.i) l.place l.left (drop l.i l.entries)) (kept_entries_text l.wire l.first_number l.first_place l.parcels l.entries) (g.K.Sink.held l.fn.sink) (g.K.Sink.held l.sink) (g.K.Sink.faults l.fn.sink) (g.K.Sink.faults l.sink);
  all : sent_by (drop l.i l.entries) ≡ length l.left;
  places : l.place + length l.left < 2 ^ 64;
}
