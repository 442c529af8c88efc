-- Where bytes lie. No public clause cites this module.
use Rattle.std.specs.Prelude.{ℕ, List}
use Rattle.std.specs.Arc.{arc_slice_items}
use Rattle.afs_num.specs.declared.octets.Held.{Held}
use Rattle.afs_num.specs.declared.octets.Held.TheVariants.{Few, Many}

abbrev pub bytes_held : Held → List ℕ
bytes_held (Few s) = s
bytes_held (Many v) = arc_slice_items v
