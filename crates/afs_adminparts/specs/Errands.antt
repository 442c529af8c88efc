-- A survey needs nothing of an errand but how many servers the cell has.
use Rattle.std.specs.Prelude.{ℕ, []}
use Rattle.spec_history.specs.declared.scripts.AdminAct.TheVariants as acts
use Rattle.spec_adminrows.specs.declared.turns.Errand.{Errand}

-- an errand in a cell of so many servers, whichever act it is
abbrev pub in_cell : ℕ → Errand
in_cell servers = record { act = acts.Recover []; servers = servers }
