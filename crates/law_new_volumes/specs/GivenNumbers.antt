-- The numbers of volumes that the location database gives: each to one call.
use Rattle.std.specs.Prelude.{◌≡◌, ◌≤◌, ◌<◌, ⊤, ℕ, List, [], ◌∷◌, Option, Some, None}
use Rattle.std.specs.List.{AllByRecursion}
use Rattle.afs_num.specs.declared.location_calls.LocReply.{LocReply}
use Rattle.afs_num.specs.declared.location_calls.LocReply.TheVariants as replies
use Rattle.afs_num.specs.declared.messages.Carried.{Carried}
use Rattle.afs_num.specs.declared.messages.Carried.TheVariants as carried
use Rattle.afs_num.specs.declared.messages.Message.{Message}
use Rattle.afs_num.specs.declared.messages.Reply.TheVariants as tell
use Rattle.afs_num.specs.declared.types.Key.{Key}
use Rattle.spec_history.specs.declared.scripts.Script.{Script}
use Rattle.spec_rows.specs.Runs.{Entry}
use Rattle.spec_runs.specs.NodeRuns.{node_start, CellInput, NodeCell, NodeLeads}
use Rattle.law_legal.specs.Past.{answered_key}
use Rattle.law_numbers.specs.Numbers.{next_volume}

-- the number that a reply of the database gives
abbrev pub number_given : LocReply → Option ℕ
number_given (replies.GetNewVolumeId id) = Some id
number_given reply = None

abbrev pub volume_number_in : Carried → Option ℕ
volume_number_in (carried.Reply (tell.Location reply)) = number_given reply
volume_number_in c = None

-- Where the message gives a number, no volume of the script can have it: it isn't below the first that was left; it is below the next; and it
-- is given to the call that has it by this.
abbrev pub GivesOwn : (ℕ → Key) → ℕ → ℕ → Message → Type 0
GivesOwn owner first next m = (id : ℕ) → volume_number_in m.carried ≡ Some id → ((first ≤ id) × (id < next)) × (answered_key m.head ≡ owner id)

-- each message of these entries
abbrev pub AllGiveOwn : (ℕ → Key) → ℕ → ℕ → List Entry → Type 0
AllGiveOwn owner first next [] = ⊤
AllGiveOwn owner first next (e ∷ es) = AllByRecursion (GivesOwn owner first next) e.sent × AllGiveOwn owner first next es

-- Each number has one call of one node, and whoever else is told a number is told another. A reply that is sent again is one to the same call.
pub record NumbersHaveOwners (s : Script) (history : List Entry) (end : NodeCell) : Type 0 where
  pub number_owner : ℕ → Key
  pub own : AllGiveOwn number_owner (next_volume (node_start s)) (next_volume end) history

-- So it is in every run of every script.
abbrev pub NumbersAreGivenOnce : Type 0
NumbersAreGivenOnce = (s : Script) (inputs : List CellInput) (history : List Entry) (end : NodeCell) → NodeLeads (node_start s) inputs history end → NumbersHaveOwners s history end
