-- An entry of one line, which no message goes with.
use Rattle.std.specs.Prelude.{◌≡◌, ℕ, [], ◌∷◌, ◌++◌, Option, Some, None, Result, Ok, Err}
use Rattle.afs_num.specs.declared.histories.Actor.{Actor}
use Rattle.spec_history.specs.declared.lines.Entry as kept
use Rattle.spec_history.specs.declared.lines.Line.{Line}
use Rattle.spec_history.specs.declared.lines.Line.TheVariants as lines
use Rattle.afs_cell.specs.Happening.{Wants}
use Rattle.afs_cell.specs.Worlds.{WorldState}
use Rattle.afs_cell.specs.declared.faults.WorldFault.{WorldFault}

abbrev pub one_entry : Actor → Line → kept.Entry
one_entry actor line = record { actor = actor; lines = line ∷ []; sent = 0 }

-- the history has this entry more, and nothing else changed; or memory was wanting
abbrev pub Notes : {D : Type 0} → Actor → Line → WorldState D → WorldState D → Result (Unit {0}) WorldFault → Type 0
Notes {D} actor line old new (Ok done) = new ≡ record old { history = old.history ++ one_entry actor line ∷ [] }
Notes {D} actor line old new (Err e) = Wants old new e

-- the line of a message that a node is given, if it is given one
abbrev pub given_line : Option ℕ → Option Line
given_line None = None
given_line (Some place) = Some (lines.Given place)
