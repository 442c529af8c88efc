-- Whose a stamp is: that of one act of one administrator, which the location database gave it to; and who sends calls under it.
use Rattle.std.specs.Prelude.{◌≡◌, ◌<◌, ◌⊎◌, ⊤, ℕ, List, [], ◌∷◌, true, Some}
use Rattle.std.specs.List.{AllByRecursion}
use Rattle.afs_num.specs.declared.messages.Carried.{Carried}
use Rattle.afs_num.specs.declared.messages.Carried.TheVariants as carried
use Rattle.afs_num.specs.declared.messages.Message.{Message}
use Rattle.afs_num.specs.declared.types.Head.{Head}
use Rattle.afs_num.specs.declared.types.Key.{Key}
use Rattle.afs_num.specs.declared.types.Node.{Node}
use Rattle.afs_num.specs.declared.types.Node.TheVariants.{Admin, Client, Loc, Server}
use Rattle.spec_history.specs.declared.scripts.Script.{Script}
use Rattle.spec_rows.specs.Runs.{Entry}
use Rattle.spec_runs.specs.NodeRuns.{node_start, CellInput, NodeCell, NodeLeads}
use Rattle.law_stamps.specs.Given.{given_in, AreTheirs}
use Rattle.law_stamps.specs.Stamps.{next_stamp}
use Rattle.law_stamps.specs.Told.{is_database}

-- ---- whose it is

-- The stamp, which is below the next, was given to a call of this node, in this epoch of it, before the call of this number.
pub record IsGivenTo (owner : ℕ → Key) (next : ℕ) (n : Node) (epoch number stamp : ℕ) : Type 0 where
  pub drawn : stamp < next
  pub node : (owner stamp).node ≡ n
  pub in_epoch : (owner stamp).epoch ≡ epoch
  pub before : (owner stamp).number < number

-- it was given to a call of some administrator
pub record IsOfAdmin (owner : ℕ → Key) (next stamp : ℕ) : Type 0 where
  pub drawn : stamp < next
  pub admin : ℕ
  pub node : (owner stamp).node ≡ Admin admin

-- ---- who uses it

-- The call of an administrator has no stamp, or one that was given to it in this epoch, before this call. So a stamp that it was given before
-- it began again is lost. The call of a server, which sends a dump on, has none, or an administrator's. A client's call has none.
abbrev pub UsedBy : (ℕ → Key) → ℕ → Head → Node → Type 0
UsedBy owner next head (Admin n) = (head.stamp ≡ 0) ⊎ IsGivenTo owner next (Admin n) head.epoch head.number head.stamp
UsedBy owner next head (Server i) = (head.stamp ≡ 0) ⊎ IsOfAdmin owner next head.stamp
UsedBy owner next head (Client n) = head.stamp ≡ 0
UsedBy owner next head Loc = head.stamp ≡ 0

-- of answers nothing is said: they have none
abbrev pub UsedIn : (ℕ → Key) → ℕ → Head → Carried → Type 0
UsedIn owner next head (carried.Call user call) = UsedBy owner next head head.from
UsedIn owner next head c = ⊤

abbrev pub IsUsed : (ℕ → Key) → ℕ → Message → Type 0
IsUsed owner next m = UsedIn owner next m.head m.carried

-- each message of these entries
abbrev pub AreUsed : (ℕ → Key) → ℕ → List Entry → Type 0
AreUsed owner next [] = ⊤
AreUsed owner next (e ∷ es) = AllByRecursion (IsUsed owner next) e.sent × AreUsed owner next es

-- ---- that it was given before

-- one of these messages gives the stamp
abbrev pub OneGives : ℕ → List Message → Type 0
OneGives stamp [] = ⊥
OneGives stamp (m ∷ ms) = (given_in m.carried ≡ Some stamp) ⊎ OneGives stamp ms

-- The location database gives the stamp in one of these entries.
abbrev pub IsGivenIn : List Entry → ℕ → Type 0
IsGivenIn [] stamp = ⊥
IsGivenIn (e ∷ es) stamp = ((is_database e.actor ≡ true) × OneGives stamp e.sent) ⊎ IsGivenIn es stamp

-- a call, whoever's, has no stamp, or one that is given in these entries
abbrev pub HasGiven : List Entry → Head → Carried → Type 0
HasGiven past head (carried.Call user call) = (head.stamp ≡ 0) ⊎ IsGivenIn past head.stamp
HasGiven past head c = ⊤

abbrev pub IsAfterGiven : List Entry → Message → Type 0
IsAfterGiven past m = HasGiven past m.head m.carried

-- So it is of each call in these entries; before the first of them come those others, the last of them first.
abbrev pub AreAfterGiven : List Entry → List Entry → Type 0
AreAfterGiven past [] = ⊤
AreAfterGiven past (e ∷ es) = AllByRecursion (IsAfterGiven past) e.sent × AreAfterGiven (e ∷ past) es

-- ---- the law

-- Each stamp has one owner: the call that the database gave it to. None but 0 is used before a reply of the database, further up in the history,
-- gives it; and whichever reply gives it answers its owner. All that is sent under it is sent by the administrator of that call, in the same
-- epoch and behind that call, or by a server that sends a dump on.
pub record HaveOwners (history : List Entry) (end : NodeCell) : Type 0 where
  pub owner : ℕ → Key
  pub theirs : AreTheirs owner (next_stamp end) history
  pub given : AreAfterGiven [] history
  pub used : AreUsed owner (next_stamp end) history

-- So it is in every run of every script.
abbrev pub StampsHaveOwners : Type 0
StampsHaveOwners = (s : Script) (inputs : List CellInput) (history : List Entry) (end : NodeCell) → NodeLeads (node_start s) inputs history end → HaveOwners history end
