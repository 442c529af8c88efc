-- Whom the servers of a cell serve: in the runs so far all of them are clients, since no message goes from one server to another.
use Rattle.std.specs.Prelude.{◌≡◌, ℕ, List, true, Some}
use Rattle.afs_num.specs.declared.messages.Message.{Message}
use Rattle.afs_num.specs.declared.types.Node.TheVariants.{Server}
use Rattle.spec_history.specs.declared.scripts.Script.{Script}
use Rattle.spec_rows.specs.Hosts.{in_step, Blow}
use Rattle.spec_rows.specs.Runs.{message_at, Cell, Entry, RunsTo}
use Rattle.spec_rows.specs.ServerRow.{is_client}

-- each message on its way to a server is a client's, and so is that in whose step a server went down
pub record ServesClients (c : Cell) : Type 0 where
  pub given : (i place : ℕ) (m : Message) → message_at c.sent place ≡ Some m → m.head.to ≡ Server i → is_client m.head.from ≡ true
  pub fallen : (i clock : ℕ) (m : Message) (b : Blow) → (c.hosts i).down ≡ Some (in_step m clock b) → is_client m.head.from ≡ true

abbrev pub CellsServeClients : Type 0
CellsServeClients = (s : Script) (history : List Entry) (end : Cell) → RunsTo history s end → ServesClients end
