-- Parts of what a legal history is, each proved of the runs of every script, with any number of servers. Reads, answers, promises and
-- breaks are not among them.
use Rattle.std.specs.Prelude.{◌≡◌, ℕ, List, [], ◌∷◌, Some, true, ⊤}
use Rattle.spec_history.specs.declared.lines.Line.{Line}
use Rattle.spec_history.specs.declared.lines.Line.TheVariants as lines
use Rattle.spec_history.specs.declared.scripts.Script.{Script}
use Rattle.law_legal.specs.Ideal.{call_under, set_up_entry, user_of}
use Rattle.law_legal.specs.Legal.{WereRun, GoodCall, IdealChange, IsBy, IsEntryOf, IsInPlace, IsOfServer, OwnCall, as_asked}
use Rattle.law_legal.specs.Once.{past_of}
use Rattle.law_legal.specs.Past.{Called, CalledSince, called_key, is_new_to_act, lines_of, running}
use Rattle.afs_num.specs.declared.calls.FsCall.{FsCall}
use Rattle.afs_num.specs.declared.histories.Actor.{Actor}
use Rattle.afs_num.specs.declared.messages.Call.TheVariants as ask
use Rattle.afs_num.specs.declared.messages.Carried.TheVariants as carried
use Rattle.afs_num.specs.declared.messages.Message.{Message}
use Rattle.afs_num.specs.declared.types.Head.{Head}
use Rattle.afs_num.specs.declared.types.Key.{Key}
use Rattle.afs_num.specs.declared.types.Node.TheVariants.{Client}
use Rattle.spec_rows.specs.ClientRow.{act_of, call_of}
use Rattle.spec_rows.specs.Going.{ClientState, Going, asked}
use Rattle.spec_rows.specs.Runs.{Cell, Entry, RunsTo, message_at}

-- ---- acts and calls

-- the act that a client has, whether it waits for a server or for the location database, is the one which the lines tell
abbrev pub ActsAreTold : Type 0
ActsAreTold = (s : Script) (history : List Entry) (end : Cell) → RunsTo history s end → (j : ℕ) → running s (Client j) (lines_of (past_of (set_up_entry s ∷ []) history)) ≡ act_of (end.clients j)

-- a file call is the one under its key, and was sent by its client, for its user, while the act ran that asks for it
pub record IsAsked (s : Script) (sent : List Message) (past : List Entry) (head : Head) (user : List ℕ) (call : FsCall) : Type 0 where
  pub one : call_under (called_key head) sent ≡ Some (user, call)
  pub act : Going
  pub called : Called s (called_key head) user call act past
  pub own_user : user ≡ user_of s head.from
  pub own_call : as_asked call ≡ asked act

-- the key of a client's last call
abbrev pub waited_key : ℕ → ClientState → Key
waited_key j c = record { node = Client j; epoch = c.epoch; number = c.last }

-- the call that the act waits for was sent since it began, under a key that no file call had which was sent before the act's entry
pub record IsWaiting (s : Script) (j : ℕ) (c : ClientState) (act : Going) (past : List Entry) : Type 0 where
  pub called : CalledSince (waited_key j c) (user_of s (Client j)) (call_of c act) past
  pub late : is_new_to_act (Client j) (waited_key j c) past ≡ true

pub record AreAsked (s : Script) (end : Cell) (past : List Entry) : Type 0 where
  pub calls : (j place : ℕ) (head : Head) (user : List ℕ) (call : FsCall) → message_at end.sent place ≡ Some (record { head = head; carried = carried.Call user (ask.File call) }) → head.from ≡ Client j → IsAsked s end.sent past head user call
  pub waits : (j : ℕ) (act : Going) → (end.clients j).running ≡ Some act → IsWaiting s j (end.clients j) act past

-- each file call of a client is one that the act asked which ran there
abbrev pub CallsAreAsked : Type 0
CallsAreAsked = (s : Script) (history : List Entry) (end : Cell) → RunsTo history s end → AreAsked s end (past_of (set_up_entry s ∷ []) history)

-- ---- what is asked of each line, or of each entry, of a history

-- by the entry's node, the entries before, the newest first, the entry's own lines before, the newest first, and those after
abbrev pub LineRule : Type 1
LineRule = Actor → Line → List Entry → List Line → List Line → Type 0

abbrev pub EachLine : LineRule → Actor → List Entry → List Line → List Line → Type 0
EachLine G who past own [] = ⊤
EachLine G who past own (l ∷ next) = G who l past own next × EachLine G who past (l ∷ own) next

abbrev pub EachEntry : (List Entry → Entry → Type 0) → List Entry → List Entry → Type 0
EachEntry G past [] = ⊤
EachEntry G past (e ∷ es) = G past e × EachEntry G (e ∷ past) es

abbrev pub AllLines : LineRule → Script → List Entry → Type 0
AllLines G s history = EachEntry (λ past e. EachLine G e.actor past [] e.lines) (set_up_entry s ∷ []) history

-- ---- entries

-- Each entry of a run is of a node of the script and lays no volume. A server that begins again in it was down, and is then in a boot above the last
-- one that it began. It tells what its node, up or down, can tell, is given what was sent to that, drops what is broken in it, and answers the act of
-- whose last call it is told, where that may change something. What it sends as a server's reply to a client is of its present boot or the success of a
-- change, and is that of the entry which ran its call; to a changing call it is sent only where no other call of the act had changed something before
-- that ran. A notice tells the boot of its sender
abbrev pub EntriesAreSound : Type 0
EntriesAreSound = (s : Script) (history : List Entry) (end : Cell) → RunsTo history s end → EachEntry (λ past e. IsEntryOf s past e × WereRun (e ∷ past) e.sent) (set_up_entry s ∷ []) history

-- ---- where lines stand

-- each line of a run is in its place; besides this a legal history has good grants, changes, reads, answers, breaks and messages, and
-- sound entries
abbrev pub LinesAreInPlace : Type 0
LinesAreInPlace = (s : Script) (history : List Entry) (end : Cell) → RunsTo history s end → AllLines (IsInPlace s) s history

-- ---- messages

-- of each of these messages, after the entry that sends them
abbrev pub EachSent : (List Entry → Message → Type 0) → List Entry → List Message → Type 0
EachSent G past [] = ⊤
EachSent G past (m ∷ ms) = G past m × EachSent G past ms

-- it is sent by the node that its header names as sender, and a call of a client under a key that no file call had which was sent before
-- the act that it began last
abbrev pub IsOwn : List Entry → Message → Type 0
IsOwn past m = IsBy m.head.from past × GoodCall m.head m.carried past

-- so are all messages of a run
abbrev pub MessagesAreOwn : Type 0
MessagesAreOwn = (s : Script) (history : List Entry) (end : Cell) → RunsTo history s end → EachEntry (λ past e. EachSent IsOwn (e ∷ past) e.sent) (set_up_entry s ∷ []) history

-- a client's call is one of its running act, numbered in order, made when the one before was answered, the one under its key, and to the server of
-- what it asks or gives back
abbrev pub IsOwnCall : Script → List Entry → Message → Type 0
IsOwnCall s past m = OwnCall s m.head m.carried past

-- so is each of a run
abbrev pub CallsAreOwn : Type 0
CallsAreOwn = (s : Script) (history : List Entry) (end : Cell) → RunsTo history s end → EachEntry (λ past e. EachSent (IsOwnCall s) (e ∷ past) e.sent) (set_up_entry s ∷ []) history

-- ---- changes

abbrev pub IsIdeal : Script → LineRule
IsIdeal s who (lines.Change server k count) past own next = IsOfServer who server × IdealChange s server k count past own next
IsIdeal s who l past own next = ⊤

-- each change of a run is what the ideal cell makes of the call that ran
abbrev pub ChangesAreIdeal : Type 0
ChangesAreIdeal = (s : Script) (history : List Entry) (end : Cell) → RunsTo history s end → AllLines (IsIdeal s) s history
