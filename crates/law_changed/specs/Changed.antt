-- The law: a change of a server is what the ideal operation makes of a client's call, on the volume that the server itself has.
use Rattle.std.specs.Prelude.{◌≡◌, ◌⊎◌, ⊤, ℕ, List, [], ◌∷◌, ◌++◌, true, Option, Some, None, length}
use Rattle.std.specs.Option.{option_map}
use Rattle.afs_num.specs.declared.calls.FsCall.{FsCall}
use Rattle.afs_num.specs.declared.histories.Actor.{Actor}
use Rattle.afs_num.specs.declared.histories.Actor.TheVariants as actors
use Rattle.afs_num.specs.declared.messages.Call.TheVariants as ask
use Rattle.afs_num.specs.declared.messages.Carried.TheVariants as carried
use Rattle.afs_num.specs.declared.messages.Message.{Message}
use Rattle.afs_num.specs.declared.types.Key.{Key}
use Rattle.afs_num.specs.declared.types.Node.{Node}
use Rattle.afs_num.specs.declared.types.Node.TheVariants.{Server}
use Rattle.spec_history.specs.declared.lines.Line.{Line}
use Rattle.spec_history.specs.declared.lines.Line.TheVariants as lines
use Rattle.spec_history.specs.declared.scripts.Script.{Script}
use Rattle.spec_ideal.specs.Operations.{changes, op, the_user, volume_called}
use Rattle.spec_ideal.specs.Tables.{get}
use Rattle.spec_ideal.specs.Volumes.{counted, edited_all, versions_by, Edit, Volume}
use Rattle.law_legal.specs.Breaks.{HasStopped}
use Rattle.law_legal.specs.Ideal.{set_up_entry}
use Rattle.law_legal.specs.Legal.{versions_first, IsOfRestart, IsOfServer}
use Rattle.law_legal.specs.Past.{called_key, given_message, sent_of}
use Rattle.spec_records.specs.Durable.{Stored}
use Rattle.spec_rows.specs.Runs.{Entry}
use Rattle.spec_rows.specs.ServerRow.{is_client}
use Rattle.spec_runs.specs.NodeRuns.{node_moved, node_start, CellInput, NodeCell, NodeLeads}

-- ---- the call that ran

-- By these entries, the newest first, the server was given this message and stopped in that entry. Since then it did nothing but begin restarts in
-- which its disk failed at once.
abbrev pub HasStoppedIn : Node → Message → List Entry → Type 0
HasStoppedIn server m [] = ⊥
HasStoppedIn server m (e ∷ past) =
    ((e.actor ≡ actors.Node server) × ((given_message e.lines (sent_of past) ≡ Some m) × HasStopped server e.lines))
    ⊎ ((e.actor ≡ actors.Node server → e.lines ≡ lines.Fault server ∷ []) × HasStoppedIn server m past)

-- The message that the server runs: the entry was given it, in a line before; or the entry is the restart behind the step of it, in which the server
-- stopped, and tells first what that step left on the disk.
abbrev pub RunsMessage : Node → Message → List Entry → List Line → List Line → Type 0
RunsMessage server m past own next = (given_message own (sent_of past) ≡ Some m) ⊎ ((own ≡ []) × (IsOfRestart server next × HasStoppedIn server m past))

-- ---- a change

-- Which volume each node has under each number: before an entry, `had`, and behind it, `has`. The server runs a call that a client sent to it under the
-- key, on a volume that it has, and that is read-write and in service. By the ideal operation, with the user of the call, that is a change. The versions
-- that are told next are those that it makes, as many as the line says. And behind the entry the server has the volume so changed.
pub record IsOperation (had has : Node → ℕ → Option Volume) (server : Node) (k : Key) (count : ℕ) (past : List Entry) (own next : List Line) : Type 0 where
  pub message : Message
  pub runs : RunsMessage server message past own next
  pub to : message.head.to ≡ server
  pub key : called_key message.head ≡ k
  pub client : is_client k.node ≡ true
  pub user : List ℕ
  pub call : FsCall
  pub carries : message.carried ≡ carried.Call user (ask.File call)
  pub id : ℕ
  pub of_volume : volume_called call ≡ Some id
  pub before : Volume
  pub found : had server id ≡ Some before
  pub read_write : before.kind ≡ 0
  pub in_service : before.flags ≡ 0
  pub edits : List Edit
  pub shown : ℕ
  pub result : op id (the_user user) call before ≡ changes edits shown
  pub versions : versions_first next ≡ versions_by id edits before
  pub number : count ≡ length (versions_first next)
  pub left : has server id ≡ Some (counted (edited_all id edits before))

-- a change stands in an entry of its server, and is such an operation; nothing is asked of other lines
abbrev pub IsMadeSo : (Node → ℕ → Option Volume) → (Node → ℕ → Option Volume) → Actor → Line → List Entry → List Line → List Line → Type 0
IsMadeSo had has who (lines.Change server k count) past own next = IsOfServer who server × IsOperation had has server k count past own next
IsMadeSo had has who l past own next = ⊤

-- each of these lines of an entry, behind its lines before them, the newest first
abbrev pub AreMadeSo : (Node → ℕ → Option Volume) → (Node → ℕ → Option Volume) → Actor → List Entry → List Line → List Line → Type 0
AreMadeSo had has who past own [] = ⊤
AreMadeSo had has who past own (l ∷ next) = IsMadeSo had has who l past own next × AreMadeSo had has who past (l ∷ own) next

-- ---- runs

-- the volume that a server has under a number; one that is down has it on its disk
abbrev pub volume_at_node : NodeCell → Node → ℕ → Option Volume
volume_at_node c (Server i) id = option_map (λ (s : Stored). s.volume) (get id (c.hosts i).state.file.lasting.volumes)
volume_at_node c n id = None

-- Of each entry, behind those before it, the newest first; from this cell, with an input for each.
abbrev pub MakeOperations : NodeCell → List CellInput → List Entry → List Entry → Type 0
MakeOperations c [] past [] = ⊤
MakeOperations c (x ∷ xs) past (e ∷ es) =
    AreMadeSo (volume_at_node c) (volume_at_node (node_moved c x).cell) e.actor past [] e.lines × MakeOperations (node_moved c x).cell xs (e ∷ past) es
MakeOperations c [] past (e ∷ es) = ⊥
MakeOperations c (x ∷ xs) past [] = ⊥

-- So are all changes of the history made.
abbrev pub ChangeByOperations : Script → List CellInput → List Entry → Type 0
ChangeByOperations s inputs history = MakeOperations (node_start s) inputs (set_up_entry s ∷ []) history

-- So it is in every run of every script, whatever its administrators do.
abbrev pub ChangesAreOperations : Type 0
ChangesAreOperations = (s : Script) (inputs : List CellInput) (history : List Entry) (end : NodeCell) → NodeLeads (node_start s) inputs history end → ChangeByOperations s inputs history
