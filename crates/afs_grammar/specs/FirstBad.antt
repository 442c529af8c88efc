-- What decides of a script: its first bad line, and nothing behind a front that is too long.
use Rattle.std.specs.Prelude.{◌≡◌, ◌<◌, ℕ, ◌+◌, ◌-◌, List, [], ◌∷◌, ◌++◌, length, true, Result, Ok, Err}
use Rattle.std.specs.List.{list_all}
use Rattle.afs_num.specs.declared.scripts.Reason.{Reason}
use Rattle.spec_history.specs.declared.scripts.Script.{Script}
use Rattle.spec_model.specs.ScriptWords.{◌>>=◌}
use Rattle.spec_model.specs.Script.{at_line}
use Rattle.spec_model.specs.ScriptText.{is_part, closed, room_behind}
use Rattle.afs_grammar.specs.Lines.{LinesRead, nothing_read, line_at, last_at, script_of}

-- what lines tell behind others, if all of them are good
abbrev pub lines_read : ℕ → LinesRead → ℕ → ℕ → List (List ℕ) → Result LinesRead (ℕ × Reason)
lines_read level r number room [] = Ok r
lines_read level r number room (line ∷ lines) = do
  read ← at_line (number + 1) (line_at level r (number + 1) room line)
  lines_read level read (number + 1) (room - (length line + 1)) lines

-- Where lines are good and the line behind them is bad, that line decides, whatever follows.
abbrev pub FirstBadLineDecides : Type 0
FirstBadLineDecides =
    (level : ℕ) (lines : List (List ℕ)) (line rest : List ℕ) (r : LinesRead) (reason : Reason) →
    list_all (is_part 10) lines ≡ true → is_part 10 line ≡ true →
    lines_read level nothing_read 0 16777216 lines ≡ Ok r →
    line_at level r (length lines + 1) (room_behind 16777216 lines) line ≡ Err reason →
    script_of level (closed lines ++ (line ++ 10 ∷ rest)) ≡ Err (length lines + 1, reason)

-- Where lines are good and no newline is behind them, the line after the last decides.
abbrev pub LastLineDecides : Type 0
LastLineDecides =
    (level : ℕ) (lines : List (List ℕ)) (last : List ℕ) (r : LinesRead) →
    list_all (is_part 10) lines ≡ true → is_part 10 last ≡ true →
    lines_read level nothing_read 0 16777216 lines ≡ Ok r →
    script_of level (closed lines ++ last) ≡ at_line (length lines + 1) (last_at r (length lines + 1) (room_behind 16777216 lines) last)

-- what stands behind a front that is too long changes nothing
abbrev pub LongerIsAsItsFront : Type 0
LongerIsAsItsFront = (level : ℕ) (bytes rest : List ℕ) → 16777216 < length bytes → script_of level (bytes ++ rest) ≡ script_of level bytes

-- what is too long is no script
abbrev pub TooLongIsNoScript : Type 0
TooLongIsNoScript = (level : ℕ) (bytes : List ℕ) (s : Script) → 16777216 < length bytes → script_of level bytes ≡ Ok s → ⊥
