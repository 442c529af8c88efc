use Rattle.std.proofs.Common.{◌≡◌, ◌≤◌, ◌*◌, length, take}
use Rattle.std.specs.List.{flat_map}
use Rattle.spec_ideal.specs.Directories.{name_bytes}
use Rattle.afs_dir.proofs.splicing.front_len.Given as goal

abbrev pub invariant-loop-place : goal.invariant-loop-place
invariant-loop-place l = record {
  value : l.len ≡ length (flat_map name_bytes (take l.place l.names));
  small : l.len ≤ 270 * l.place;
}
