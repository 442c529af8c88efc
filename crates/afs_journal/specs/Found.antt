-- Records as pieces of the bytes in which they lie. No public clause cites this module.
use Rattle.std.specs.Prelude.{ℕ, List, take, drop}
use Rattle.afs_journal.specs.declared.found.Piece.{Piece}

abbrev pub piece_of : List ℕ → Piece → List ℕ
piece_of bytes p = take p.len (drop p.start bytes)
