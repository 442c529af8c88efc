-- What is so of every run of a script, however far it was played.
use Rattle.std.specs.Prelude.{◌≡◌, ◌≤◌, List, map}
use Rattle.spec_history.specs.declared.scripts.Script.{Script}
use Rattle.law_answers.specs.Answers.{HaveCauses}
use Rattle.law_one_server.specs.Accepts.{AcceptsAtOne}
use Rattle.law_enabling.specs.Enabling.{EnablesStandAlone}
use Rattle.law_stamp_owners.specs.Owners.{HaveOwners}
use Rattle.law_changed.specs.Changed.{ChangeByOperations}
use Rattle.law_idle.specs.Idle.{but_for_admins, AreIdle}
use Rattle.law_keys.specs.Once.{RunInOrder}
use Rattle.law_latest.specs.Latest.{ChangeInOrder}
use Rattle.law_legal.specs.Cells.{IsOfCell}
use Rattle.law_legal.specs.Laws.{EndsWell}
use Rattle.law_legal.specs.Legal.{Legal}
use Rattle.law_legal.specs.Once.{ChangesOnce}
use Rattle.law_places.specs.Accepting.{AreAcceptedAsTold}
use Rattle.law_places.specs.Standing.{StandWell}
use Rattle.law_numbers.specs.Numbers.{IsNumbered}
use Rattle.law_new_volumes.specs.GivenNumbers.{NumbersHaveOwners}
use Rattle.law_new_volumes.specs.MadeEntries.{EntriesAreMadeOnce}
use Rattle.law_owed.specs.Quits.{QuitLate}
use Rattle.law_settled.specs.Settles.{AreSettledBehindDrops}
use Rattle.law_replies.specs.Decided.{AreAsDecided}
use Rattle.law_replies.specs.Heard.{AnswersAreHeard}
use Rattle.law_in_service.specs.Service.{AreRecovered, EndInService}
use Rattle.spec_rows.specs.Runs.{Entry}
use Rattle.spec_runs.specs.NodeRuns.{node_start, CellInput, NodeCell, NodeLeads}
use Rattle.spec_runs.specs.PlainRuns.{file_cell}
use Rattle.law_stamps.specs.Told.{AreLocatedAsTold, AreLockedAsTold}
use Rattle.law_stored_stamps.specs.Past.{AreVainOncePast}
use Rattle.law_stored_stamps.specs.Surveys.{AreSurveyed}
use Rattle.law_vanishing.specs.Vanishing.{VanishElsewhere}
use Rattle.law_walks.specs.Messages.{HaveSenders}

-- A run of the script, by its inputs, its history and the cell at its end, keeps these laws.
--
-- Where volumes are: behind each entry a server has a volume in service exactly where the history tells that it accepts stores, and each change is
-- told by a server that accepts stores of its volume. A volume accepts them at one server at most, where the location database puts it. It comes into
-- service there alone, while no server accepts them. Where a recovery ends, and where that is told, it accepts them there, and no other server has a
-- copy of it. Where one vanishes a call asked for it, or its server begins again; and moves, removals, recoveries and releases delete none where the
-- database puts it. The database's entries are locked as was told, and name the servers that were told. It gives the number of a new volume to one
-- call; the entry of a volume is made by one call, and never again once it was removed.
--
-- Which calls run: each message says of itself that it is of the node that sent it. Each stamp is used by the administrator that the database gave it
-- to, and by servers that send dumps on for one, and by nobody before the reply that gives it. A call runs at most once in a boot of its callee, and
-- one that changed something at most once at all; none runs behind a later one of its caller. Volume calls under stamps that are past are in vain,
-- and moves, removals and recoveries bring theirs to all servers first, before each call that they ask behind that.
--
-- What changes are: a server tells its changes for a node in the order of their keys, and one in an entry at most. No two changes have one key, at
-- whichever servers. A change is what the ideal operation makes of a client's call, on the volume that the server itself has.
--
-- What clients are told: each reply of a server to a client, wherever it is, is what the server decided on a client's call. No client is given one
-- that isn't to its call and of the boot in which its server then was, or that acknowledges a change which wasn't told. A break is given up only
-- behind three timeouts of a call that carries it, and settled only behind the client's drop of what it is on, by that client's answer to such a call.
--
-- How acts end: each act of an administrator ends with the code of its cause, and each failure that is a cause ends it. Where the script names no
-- administrators, the history is legal, and at its end the servers hold the ideal volumes, with all that was acknowledged. So it is with a void entry
-- in place of each of theirs, where they do nothing but stop and begin again.
pub record IsLawful (s : Script) (inputs : List CellInput) (history : List Entry) (end : NodeCell) : Type 0 where
  pub accepted : AreAcceptedAsTold s inputs history
  pub stand : StandWell s history
  pub alone : AcceptsAtOne s history
  pub enabled : EnablesStandAlone s inputs history
  pub ended : EndInService s inputs
  pub recovered : AreRecovered s inputs history
  pub vanishes : VanishElsewhere s inputs history
  pub locked : AreLockedAsTold s inputs history
  pub located : AreLocatedAsTold s inputs history
  pub numbers : NumbersHaveOwners s history end
  pub entries : EntriesAreMadeOnce s inputs
  pub senders : HaveSenders history
  pub owners : HaveOwners history end
  pub once : RunInOrder s inputs
  pub order : ChangeInOrder s history
  pub fresh : ChangesOnce history
  pub made : ChangeByOperations s inputs history
  pub quits : QuitLate s history
  pub decided : AreAsDecided s inputs
  pub heard : AnswersAreHeard s history
  pub settles : AreSettledBehindDrops s history
  pub past : AreVainOncePast s inputs history
  pub surveyed : AreSurveyed s inputs
  pub caused : HaveCauses history
  pub legal : s.admins ≡ 0 → Legal history s
  pub well : s.admins ≡ 0 → EndsWell s history (file_cell end)
  pub idle : AreIdle history → Legal (map but_for_admins history) s
  pub idle_well : AreIdle history → EndsWell s (map but_for_admins history) (file_cell end)

-- each run of this script is lawful
abbrev pub EachIsLawful : Script → Type 0
EachIsLawful s = (inputs : List CellInput) (history : List Entry) (end : NodeCell) → NodeLeads (node_start s) inputs history end → IsLawful s inputs history end

abbrev pub RunsAreLawful : Type 0
RunsAreLawful = (s : Script) → IsOfCell s → IsNumbered s → 1 ≤ s.servers → EachIsLawful s
