-- What the cell of the runs so far has to do with volume servers: it has none, and so the volumes of its servers are all in service.
use Rattle.std.specs.Prelude.{ℕ, List}
use Rattle.spec_history.specs.declared.scripts.Script.{Script}
use Rattle.spec_rows.specs.Runs.{moved, start, Cell, Entry, Input, Leads}
use Rattle.spec_volrows.specs.FileLaws.{IsOpen}

-- none of its servers has a volume that is out of service, or knows of one elsewhere
abbrev pub HasOpenHosts : Cell → Type 0
HasOpenHosts c = (i : ℕ) → IsOpen (c.hosts i).state

-- Set-up makes such a cell, each input leaves it so, and each run ends in one.
pub record CellsStayOpen : Type 0 where
  pub first : (s : Script) → HasOpenHosts (start s)
  pub moves : (c : Cell) (x : Input) → HasOpenHosts c → HasOpenHosts (moved c x).cell
  pub runs : (s : Script) (inputs : List Input) (history : List Entry) (end : Cell) → Leads (start s) inputs history end → HasOpenHosts end
