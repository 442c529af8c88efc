-- The stamps that the location database gives: each to one call.
use Rattle.law_legal.specs.Past.{answered_key}
use Rattle.std.specs.Prelude.{◌≡◌, ◌<◌, ⊤, ℕ, List, [], ◌∷◌, true, Option, Some, None}
use Rattle.std.specs.List.{AllByRecursion}
use Rattle.afs_num.specs.declared.location_calls.LocReply.{LocReply}
use Rattle.afs_num.specs.declared.location_calls.LocReply.TheVariants as replies
use Rattle.afs_num.specs.declared.messages.Carried.{Carried}
use Rattle.afs_num.specs.declared.messages.Carried.TheVariants as carried
use Rattle.afs_num.specs.declared.messages.Message.{Message}
use Rattle.afs_num.specs.declared.messages.Reply.TheVariants as tell
use Rattle.afs_num.specs.declared.types.Key.{Key}
use Rattle.spec_history.specs.declared.scripts.Script.{Script}
use Rattle.spec_rows.specs.Runs.{Entry}
use Rattle.spec_runs.specs.NodeRuns.{node_start, CellInput, NodeCell, NodeLeads}
use Rattle.law_stamps.specs.Stamps.{next_stamp}
use Rattle.law_stamps.specs.Told.{is_database}

-- the stamp that a reply of the database gives: to a call that locks an entry, or that makes one
abbrev pub given_by : LocReply → Option ℕ
given_by (replies.SetLock stamp e) = Some stamp
given_by (replies.CreateEntry stamp) = Some stamp
given_by reply = None

abbrev pub given_in : Carried → Option ℕ
given_in (carried.Reply (tell.Location reply)) = given_by reply
given_in c = None

-- Where the message gives a stamp, it is below this, and is given to the call that has it by this.
abbrev pub IsTheirs : (ℕ → Key) → ℕ → Message → Type 0
IsTheirs owner next m = (stamp : ℕ) → given_in m.carried ≡ Some stamp → (stamp < next) × (answered_key m.head ≡ owner stamp)

-- each message that the database sent in these entries
abbrev pub AreTheirs : (ℕ → Key) → ℕ → List Entry → Type 0
AreTheirs owner next [] = ⊤
AreTheirs owner next (e ∷ es) = (is_database e.actor ≡ true → AllByRecursion (IsTheirs owner next) e.sent) × AreTheirs owner next es

-- Each stamp has one call of one node, and whoever else is told a stamp is told another. A reply that is sent again is one to the same call.
pub record AreGivenOnce (history : List Entry) (end : NodeCell) : Type 0 where
  pub owner : ℕ → Key
  pub theirs : AreTheirs owner (next_stamp end) history

-- So it is in every run of every script.
abbrev pub StampsAreGivenOnce : Type 0
StampsAreGivenOnce = (s : Script) (inputs : List CellInput) (history : List Entry) (end : NodeCell) → NodeLeads (node_start s) inputs history end → AreGivenOnce history end
