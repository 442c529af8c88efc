-- Whence stored stamps are: each was brought by a call that an administrator sent in the family.
use Rattle.std.specs.Prelude.{◌≡◌, ◌⊎◌, ℕ, List, Some}
use Rattle.afs_num.specs.declared.messages.Call.TheVariants as ask
use Rattle.afs_num.specs.declared.messages.Carried.TheVariants as carried
use Rattle.afs_num.specs.declared.messages.Message.{Message}
use Rattle.afs_num.specs.declared.types.Node.TheVariants.{Admin}
use Rattle.afs_num.specs.declared.volume_calls.VolCall.{VolCall}
use Rattle.spec_history.specs.declared.scripts.Script.{Script}
use Rattle.spec_rows.specs.Runs.{message_at}
use Rattle.spec_volrows.specs.VolRow.{family_of}
use Rattle.spec_runs.specs.NodeRuns.{node_start, CellInput, NodeCell}
use Rattle.law_places.specs.Accepting.{cell_behind}
use Rattle.law_stamps.specs.Stamps.{stored_stamp}

-- Among these messages an administrator sent a volume call in the family under the stamp.
pub record IsBrought (sent : List Message) (family stamp : ℕ) : Type 0 where
  pub place : ℕ
  pub m : Message
  pub admin : ℕ
  pub user : List ℕ
  pub call : VolCall
  pub at : message_at sent place ≡ Some m
  pub from : m.head.from ≡ Admin admin
  pub asks : m.carried ≡ carried.Call user (ask.Volume call)
  pub in_family : family_of call ≡ family
  pub under : m.head.stamp ≡ stamp

-- Behind each entry of a run, what a server has stored of a family is 0, or such a stamp. The pieces of dumps that servers send to each other
-- bring none but these.
abbrev pub AreBrought : NodeCell → Type 0
AreBrought c = (server family : ℕ) → (stored_stamp c server family ≡ 0) ⊎ IsBrought c.sent family (stored_stamp c server family)

-- So it is in every run of every script.
abbrev pub StampsAreBrought : Type 0
StampsAreBrought = (s : Script) (inputs : List CellInput) → AreBrought (cell_behind (node_start s) inputs)
