-- What a line makes of the reading that hears it.
use Rattle.std.specs.Prelude.{◌≡◌, ℕ, Result, Ok, Err}
use Rattle.afs_num.specs.declared.scripts.Reason.{Reason}
use Rattle.afs_words.specs.declared.faults.LineFault.{LineFault}
use Rattle.afs_words.specs.declared.faults.LineFault.TheVariants as faults
use Rattle.afs_words.specs.declared.faults.ScriptFault.{ScriptFault}
use Rattle.afs_words.specs.declared.faults.ScriptFault.TheVariants as ends
use Rattle.afs_grammar.specs.Lines.{LinesRead}

-- the definition gives what the reading is now; or that reason
abbrev pub Hears : Result LinesRead Reason → LinesRead → Result (Unit {0}) LineFault → Type 0
Hears given new (Ok u) = given ≡ Ok new
Hears given new (Err (faults.Bad reason)) = given ≡ Err reason
Hears given new (Err faults.OutOfMemory) = Unit {0}

-- the same with the number of the bad line
abbrev pub HearsAtLine : Result LinesRead (ℕ × Reason) → LinesRead → Result (Unit {0}) ScriptFault → Type 0
HearsAtLine given new (Ok u) = given ≡ Ok new
HearsAtLine given new (Err (ends.Line number reason)) = given ≡ Err (number, reason)
HearsAtLine given new (Err ends.OutOfMemory) = Unit {0}
