use Rattle.std.proofs.Common.{◌≡◌, ◌*◌, ◌<◌, ◌≤◌, take, length}
use Rattle.std.specs.List.{flat_map, All}
use Rattle.afs_text.specs.Laying.{halves_of}
use Rattle.afs_text.proofs.bytes.part.Given as goal

abbrev pub invariant-loop-i : goal.invariant-loop-i
invariant-loop-i l = record {
  parted : take (2 * l.i) l.halves ≡ flat_map halves_of (take l.i l.bytes);
  small : All (λ n. n < 16) (take (2 * l.i) l.halves);
  within : l.i ≤ length l.bytes;
  room : length l.halves ≡ length l.fn.halves;
}
