use Rattle.std.proofs.Common.{◌≡◌, ◌++◌, take}
use Rattle.std.specs.List.{flat_map}
use Rattle.spec_ideal.specs.Directories.{FitNames, name_bytes}
use Rattle.afs_dir.proofs.spelling.write_names.Given as goal

abbrev pub invariant-loop-name : goal.invariant-loop-name
invariant-loop-name l = record {
  written : l.bytes ≡ l.fn.bytes ++ flat_map name_bytes (take l.name-index l.names);
  fits : FitNames (take l.name-index l.names);
}
