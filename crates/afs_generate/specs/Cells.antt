-- What every made script is.
use Rattle.std.specs.Prelude.{ℕ}
use Rattle.afs_grammar.specs.CellScripts.{IsCellScript}
use Rattle.afs_generate.specs.Generated.{generated}

abbrev pub GeneratedAreOfCells : Type 0
GeneratedAreOfCells = (n : ℕ) → IsCellScript (generated n)
