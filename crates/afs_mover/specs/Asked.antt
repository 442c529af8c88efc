-- The act that runs at an administrator, and what it asks, as the program keeps them.
use Rattle.std.specs.Prelude.{◌≡◌, ◌≤◌, ◌<◌, ℕ}
use Rattle.afs_num.specs.Nodes.{IsNode}
use Rattle.afs_num.specs.declared.types.Node.{Node}
use Rattle.afs_adminparts.specs.Fitting.{FitsPlace, IsShortAdminAct, IsSpelledAsk}
use Rattle.spec_adminrows.specs.Acts.{asks_at}
use Rattle.spec_adminrows.specs.declared.turns.Ask.{Ask}
use Rattle.spec_adminrows.specs.declared.turns.Running.{Running}

-- what an act asks in a cell of so many servers; it asks the same in any
abbrev pub ask_by : ℕ → Running → Ask
ask_by servers r = asks_at (record { act = r.act; servers = servers }) r.place

-- this is what the act asks at its place, and it can be spelled; and so it will be wherever an answer leads
pub record IsAskedByAct (r : Running) (q : Ask) : Type 0 where
  pub short : IsShortAdminAct r.act
  pub fits : FitsPlace r.act r.place
  pub is : (servers : ℕ) → q ≡ ask_by servers r
  pub spelled : IsSpelledAsk q

-- of an administrator besides: its messages have a spelling, and its call had fewer timeouts than it is given up at
pub record FitsMover (me : Node) (count tries : ℕ) : Type 0 where
  pub node : IsNode me
  pub servers : count ≤ 8
  pub timeouts : tries < 3
