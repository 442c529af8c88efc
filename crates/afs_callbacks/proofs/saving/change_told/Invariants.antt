use Rattle.std.proofs.Common.{◌≡◌, ◌++◌, ◌∷◌, [], length}
use Rattle.std.specs.Vec.Iter.{into_iter_items}
use Rattle.spec_history.specs.declared.lines.Line.TheVariants as lines
use Rattle.spec_rows.specs.ServerRow.{versioned}
use Rattle.afs_callbacks.proofs.saving.change_told.Given as goal

abbrev pub invariant-loop-version : goal.invariant-loop-version
invariant-loop-version l = l.told ++ versioned (into_iter_items l.version-iterator) [] ≡ lines.Change l.fn.server l.fn.key (length l.fn.versions) ∷ versioned l.fn.versions []
