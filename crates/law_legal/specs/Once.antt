-- A key changes something at most once.
use Rattle.std.specs.Prelude.{List, [], ◌∷◌, Option, Some, None, ⊤}
use Rattle.law_legal.specs.Ideal.{change_in}
use Rattle.law_legal.specs.Legal.{IsNew}
use Rattle.spec_history.specs.declared.lines.Line.{Line}
use Rattle.law_legal.specs.Past.{lines_of}
use Rattle.spec_rows.specs.Runs.{Entry}
use Rattle.afs_num.specs.declared.types.Key.{Key}

abbrev pub IsFirst : Option Key → List Line → Type 0 → Type 0
IsFirst None older before = before
IsFirst (Some k) older before = IsNew k older × before

-- no two change lines have one key; the lines are read from the newest
abbrev pub AreOnce : List Line → Type 0
AreOnce [] = ⊤
AreOnce (l ∷ older) = IsFirst (change_in l) older (AreOnce older)

-- the past after these entries
abbrev pub past_of : List Entry → List Entry → List Entry
past_of past [] = past
past_of past (e ∷ es) = past_of (e ∷ past) es

abbrev pub ChangesOnce : List Entry → Type 0
ChangesOnce history = AreOnce (lines_of (past_of [] history))
