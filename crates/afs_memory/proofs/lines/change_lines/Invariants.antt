use Rattle.std.proofs.Common.{◌≡◌, ◌++◌, ◌∷◌, length, map, min}
use Rattle.std.specs.Vec.Iter.{into_iter_items}
use Rattle.spec_history.specs.declared.lines.Line.TheVariants as lines
use Rattle.spec_ideal.specs.Operations.{last_count}
use Rattle.afs_memory.proofs.lines.change_lines.Given as goal

abbrev pub invariant-loop-version : goal.invariant-loop-version
invariant-loop-version l = record {
  told : l.lines ++ map lines.Version (into_iter_items l.version-iterator) ≡ lines.Change l.fn.server l.fn.key (min (length l.fn.versions) last_count) ∷ map lines.Version l.fn.versions;
}
