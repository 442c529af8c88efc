use Rattle.std.proofs.Common.{◌≡◌, ◌++◌, drop}
use Rattle.afs_shelves.specs.Words.{AreInWords}
use Rattle.afs_shelves.proofs.Told.{rest_gone}
use Rattle.afs_shelves.proofs.shelves.Shelves.vanished.Given as goal

abbrev pub invariant-loop-place : goal.invariant-loop-place
invariant-loop-place l = record {
  told : l.lines ++ rest_gone l.server (drop l.place l.self.volumes.table) ≡ rest_gone l.server l.self.volumes.table;
  words : AreInWords l.lines;
}
