use Rattle.std.proofs.Common.{◌≡◌, ◌++◌, ◌∷◌, [], drop, length}
use Rattle.spec_history.specs.declared.lines.Line.TheVariants as lines
use Rattle.afs_shelves.specs.Words.{AreInWords}
use Rattle.afs_shelves.proofs.Told.{rest_told}
use Rattle.afs_shelves.proofs.telling.tell_whole.Given as goal

abbrev pub invariant-loop-place : goal.invariant-loop-place
invariant-loop-place l = record {
  told : l.lines ++ rest_told l.volume.head.id (drop l.place l.volume.vnodes.table)
      ≡ l.fn.lines ++ (lines.Made l.fn.server l.volume.head.id (length l.volume.vnodes.table) ∷ rest_told l.volume.head.id l.volume.vnodes.table);
  words : AreInWords l.fn.lines → AreInWords l.lines;
}
