-- What the calls of a node promise whose step is told by a row of its state.
use Rattle.std.specs.Prelude.{◌≡◌, ℕ, List, [], ◌∷◌, ◌++◌, Result, Ok, Err}
use Rattle.spec_history.specs.declared.lines.Line.{Line}
use Rattle.spec_history.specs.declared.lines.Line.TheVariants as lines
use Rattle.spec_history.specs.declared.lines.Outs.{Outs}
use Rattle.spec_model.specs.Messages.{parcels_read, messages_spelled}
use Rattle.spec_model.specs.Steps.{NodeState}
use Rattle.spec_rows.specs.Steps.{Step}

-- the new state and what is given out are those of this step
pub record Makes {S : Type 0} (step : Step S) (new : S) (front : List Line → List Line) (outs : Outs) : Type 0 where
  pub state : new ≡ step.state
  pub lines : front outs.lines ≡ step.lines
  pub sent : parcels_read outs.parcels ≡ messages_spelled step.sent

-- the node made this step; or memory was wanting, and it is as before
abbrev pub Answers : {S E : Type 0} → Step S → NodeState S → NodeState S → Result Outs E → Type 0
Answers step old new (Ok outs) = (new.node ≡ old.node) × Makes step new.state (λ ls. ls) outs
Answers step old new (Err e) = new ≡ old

-- the same with a message, whose place the node isn't told: the first line, which names it, is the cell's, and the node gives those behind it
abbrev pub Takes : {S E : Type 0} → (ℕ → Step S) → NodeState S → NodeState S → Result Outs E → Type 0
Takes step old new (Ok outs) = (new.node ≡ old.node) × ((place : ℕ) → Makes (step place) new.state (λ ls. lines.Given place ∷ ls) outs)
Takes step old new (Err e) = new ≡ old

-- the same behind lines that were told before, which the program has in hand; what comes before them (the act's begin, or that a message was given) the caller adds
abbrev pub Goes : {S E : Type 0} → ((List Line → List Line) → Step S) → List Line → NodeState S → NodeState S → Result Outs E → Type 0
Goes step told old new (Ok outs) = (new.node ≡ old.node) × ((first : List Line) → Makes (step (λ ls. first ++ (told ++ ls))) new.state (λ ls. first ++ ls) outs)
Goes step told old new (Err e) = new ≡ old
