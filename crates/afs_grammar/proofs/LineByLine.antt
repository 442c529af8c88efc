-- A good line leads to the reading of the lines behind it.
use Rattle.std.proofs.Common.{◌≡◌, ℕ, ◌+◌, ◌-◌, ◌<◌, List, [], ◌∷◌, length, Ok, Result, ap, ◌∙◌, arith}
use Rattle.afs_num.specs.declared.scripts.Reason.{Reason}
use Rattle.spec_model.specs.ScriptWords.{◌>>=◌}
use Rattle.spec_model.specs.Script.{at_line}
use Rattle.afs_grammar.specs.Lines.{LinesRead, line_at, lines_read_from}

step_on : (level : ℕ) (r read : LinesRead) (number room : ℕ) (line : List ℕ) (new : List (List ℕ)) → 0 < length new → at_line (number + 1) (line_at level r (number + 1) room line) ≡ Ok read → lines_read_from level r number room (line ∷ new) ≡ lines_read_from level read (number + 1) (room - (length line + 1)) new
step_on level r read number room line [] lt e = absurd (omega arith)
step_on level r read number room line (next ∷ more) lt e =
    ap (λ (o : Result LinesRead (ℕ × Reason)). o >>= (λ (s : LinesRead). lines_read_from level s (number + 1) (room - (length line + 1)) (next ∷ more))) e

pub line_by_line : (level : ℕ) (r read : LinesRead) (number room : ℕ) (line : List ℕ) (old new : List (List ℕ)) → old ≡ line ∷ new → 0 < length new → at_line (number + 1) (line_at level r (number + 1) room line) ≡ Ok read → lines_read_from level r number room old ≡ lines_read_from level read (number + 1) (room - (length line + 1)) new
line_by_line level r read number room line old new p lt e = ap (lines_read_from level r number room) p ∙ step_on level r read number room line new lt e
