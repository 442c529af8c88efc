-- What a step of a node gives, and what its restart begins with.
use Rattle.std.specs.Prelude.{List}
use Rattle.afs_num.specs.declared.messages.Message.{Message}
use Rattle.spec_history.specs.declared.lines.Line.{Line}

-- the node's new state, its lines, and the messages that it sends
pub record Step (S : Type 0) : Type 0 where
  pub state : S
  pub lines : List Line
  pub sent : List Message

-- what a restart begins with: the state before the interrupted step, or that after it, at the step's own clock; and the lines that
-- the step would have told, put before those of the restart
pub record Begun (S : Type 0) : Type 0 where
  pub state : S
  pub before : List Line → List Line

-- nothing was interrupted, or nothing of it is on the disk
abbrev pub begun_before : {S : Type 0} → S → Begun S
begun_before {S} s = record { state = s; before = λ ls. ls }
