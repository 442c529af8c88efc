use Rattle.spec_model.specs.Calls.{same_key}
use Rattle.std.specs.Prelude.{◌<◌, ◌≤◌, not, ◌≡◌, ℕ, List, [], ◌∷◌, ◌++◌, Bool, true, false, ◌&&◌, Option, Some, None, ℤ, pos, if◌then◌else◌, ⊤, ◌⊎◌}
use Rattle.afs_num.specs.Nodes.{same_node}
use Rattle.afs_num.specs.declared.types.Head.{Head}
use Rattle.afs_num.specs.declared.types.Key.{Key}
use Rattle.afs_num.specs.declared.types.Node.{Node}
use Rattle.afs_num.specs.declared.calls.FsCall.{FsCall}
use Rattle.afs_num.specs.declared.location_calls.LocCall.{LocCall}
use Rattle.afs_num.specs.declared.messages.Carried.{Carried}
use Rattle.afs_num.specs.declared.messages.Message.{Message}
use Rattle.spec_rows.specs.Going.{Going, began, read_on}
use Rattle.spec_history.specs.declared.lines.Line.{Line}
use Rattle.spec_rows.specs.Runs.{Entry, locations, message_at}
use Rattle.spec_history.specs.declared.scripts.Script.{Script}
use Rattle.afs_num.specs.declared.types.Half.TheVariants as halves
use Rattle.afs_num.specs.declared.messages.Carried.TheVariants as carried
use Rattle.afs_num.specs.declared.messages.Call.TheVariants as ask
use Rattle.spec_history.specs.declared.lines.Line.TheVariants as lines
use Rattle.afs_num.specs.declared.histories.Actor.TheVariants as actors

-- The past of a moment: the entries before it, the newest first, and what can be looked up in them.

-- ---- lines, the newest first

-- further lines on older ones
abbrev pub onto : List Line → List Line → List Line
onto older [] = older
onto older (l ∷ ls) = onto (l ∷ older) ls

-- the lines of entries on older lines
abbrev pub lines_on : List Line → List Entry → List Line
lines_on older [] = older
lines_on older (e ∷ past) = onto (lines_on older past) e.lines

abbrev pub lines_of : List Entry → List Line
lines_of past = lines_on [] past

-- ---- messages

-- all messages that were sent, from the first
abbrev pub sent_of : List Entry → List Message
sent_of [] = []
sent_of (e ∷ past) = sent_of past ++ e.sent

-- the message that an entry of these lines was given, where these messages were sent before it
abbrev pub given_message : List Line → List Message → Option Message
given_message [] sent = None
given_message (lines.Given place ∷ ls) sent = message_at sent place
given_message (l ∷ ls) sent = given_message ls sent

-- the entry was given a message
abbrev pub has_given : List Line → Bool
has_given [] = false
has_given (lines.Given place ∷ ls) = true
has_given (l ∷ ls) = has_given ls

-- the key of a call, by its header
abbrev pub called_key : Head → Key
called_key head = record { node = head.from; epoch = head.epoch; number = head.number }

-- the key of the call that this is the reply to
abbrev pub answered_key : Head → Key
answered_key head = record { node = head.to; epoch = head.epoch; number = head.number }

-- ---- calls and replies

abbrev pub IsCall : Carried → Type 0
IsCall (carried.Call user call) = ⊤
IsCall c = ⊥

abbrev pub IsFileCall : Carried → Type 0
IsFileCall (carried.Call user (ask.File call)) = ⊤
IsFileCall c = ⊥

-- what a reply carries: a refusal, or what was asked for
abbrev pub HasCode : Carried → Type 0
HasCode (carried.Refusal code) = ⊤
HasCode (carried.Reply reply) = ⊤
HasCode c = ⊥

-- the code of a reply
abbrev pub code_told : Carried → Option ℤ
code_told (carried.Refusal code) = Some code.0
code_told (carried.Reply reply) = Some (pos 0)
code_told c = None

-- a reply, by its header and by what it carries
abbrev pub IsReply : Message → Type 0
IsReply m = (m.head.half ≡ halves.Reply) × HasCode m.carried

-- ---- acts and their calls

-- the act that runs at the node, by where the script has its volumes: the one that it began last, until that is answered or the node
-- stops
abbrev pub running : Script → Node → List Line → Option Going
running s n [] = None
running s n (lines.Begin m act ∷ older) = if same_node m n then Some (began (locations s) act) else running s n older
running s n (lines.Read m f index source body ∷ older) = read_on (same_node m n) f body (running s n older)
running s n (lines.Answer m code ∷ older) = if same_node m n then None else running s n older
running s n (lines.Crash m ∷ older) = if same_node m n then None else running s n older
running s n (l ∷ older) = running s n older

abbrev pub begins_act : Node → Line → Bool
begins_act n (lines.Begin m act) = same_node m n
begins_act n l = false

abbrev pub has_begun : Node → List Line → Bool
has_begun n [] = false
has_begun n (l ∷ ls) = if begins_act n l then true else has_begun n ls

-- whether a call of this key is among the messages
abbrev pub is_called : Key → Head → Carried → Bool
is_called k head (carried.Call user (ask.File call)) = same_key (called_key head) k
is_called k head c = false

abbrev pub has_sent : Key → List Message → Bool
has_sent k [] = false
has_sent k (m ∷ ms) = if is_called k m.head m.carried then true else has_sent k ms

-- the same of calls of every interface
abbrev pub is_by_key : Key → Head → Carried → Bool
is_by_key k head (carried.Call user call) = same_key (called_key head) k
is_by_key k head c = false

abbrev pub has_called : Key → List Message → Bool
has_called k [] = false
has_called k (m ∷ ms) = if is_by_key k m.head m.carried then true else has_called k ms

-- the node's last call among the messages, of whichever interface
abbrev pub later_call : Node → Message → Carried → Option Message → Option Message
later_call n m (carried.Call user call) older = if same_node m.head.from n then Some m else older
later_call n m c older = older

abbrev pub last_call_over : Node → Option Message → List Message → Option Message
last_call_over n older [] = older
last_call_over n older (m ∷ ms) = last_call_over n (later_call n m m.carried older) ms

abbrev pub last_call : Node → List Message → Option Message
last_call n ms = last_call_over n None ms

-- whether a call of this key was sent since the node last began an act
abbrev pub is_sent_since : Node → Key → List Entry → Bool
is_sent_since n k [] = false
is_sent_since n k (e ∷ past) = if has_sent k e.sent then true else (if has_begun n e.lines then false else is_sent_since n k past)

-- whether no call with this key was sent, by whomever, before the entry in which the node last began an act
abbrev pub is_new_to_act : Node → Key → List Entry → Bool
is_new_to_act n k [] = true
is_new_to_act n k (e ∷ past) = if has_begun n e.lines then not (has_called k (sent_of past)) else is_new_to_act n k past

-- no act of the node begins in these entries
abbrev pub AreWithin : Node → List Entry → Type 0
AreWithin n [] = ⊤
AreWithin n (e ∷ es) = (has_begun n e.lines ≡ false) × AreWithin n es

-- whether the key is that of a call of the act that the node began last
abbrev pub is_of_act : Node → Key → List Entry → Bool
is_of_act n k past = same_node k.node n && is_sent_since n k past

-- this call was sent under this key, for this user
abbrev pub Sends : Key → List ℕ → FsCall → List Message → Type 0
Sends k user call [] = ⊥
Sends k user call (m ∷ ms) = ((called_key m.head ≡ k) × (m.carried ≡ carried.Call user (ask.File call))) ⊎ Sends k user call ms

-- the same, and to this callee
abbrev pub SendsTo : Node → Key → List ℕ → FsCall → List Message → Type 0
SendsTo callee k user call [] = ⊥
SendsTo callee k user call (m ∷ ms) = ((m.head.to ≡ callee) × ((called_key m.head ≡ k) × (m.carried ≡ carried.Call user (ask.File call)))) ⊎ SendsTo callee k user call ms

-- this call was sent to this callee under this key, for this user
abbrev pub WasSent : Node → Key → List ℕ → FsCall → List Entry → Type 0
WasSent callee k user call [] = ⊥
WasSent callee k user call (e ∷ past) = SendsTo callee k user call e.sent ⊎ WasSent callee k user call past

-- this call was sent under this key, for this user, by the key's node while this act ran there
abbrev pub Called : Script → Key → List ℕ → FsCall → Going → List Entry → Type 0
Called s k user call act [] = ⊥
Called s k user call act (e ∷ past) =
    ((e.actor ≡ actors.Node k.node) × (Sends k user call e.sent × (running s k.node (lines_of (e ∷ past)) ≡ Some act))) ⊎ Called s k user call act past

-- the same, by the key's node since it last began an act
abbrev pub CalledSince : Key → List ℕ → FsCall → List Entry → Type 0
CalledSince k user call [] = ⊥
CalledSince k user call (e ∷ past) =
    ((e.actor ≡ actors.Node k.node) × Sends k user call e.sent) ⊎ ((has_begun k.node e.lines ≡ false) × CalledSince k user call past)

-- what the location database was asked under this key, for this user
abbrev pub WasAskedOfLoc : Key → List ℕ → LocCall → List Message → Type 0
WasAskedOfLoc k user q [] = ⊥
WasAskedOfLoc k user q (m ∷ ms) = ((called_key m.head ≡ k) × (m.carried ≡ carried.Call user (ask.Location q))) ⊎ WasAskedOfLoc k user q ms

-- by the key's node since it last began an act
abbrev pub AskedSince : Key → List ℕ → LocCall → List Entry → Type 0
AskedSince k user q [] = ⊥
AskedSince k user q (e ∷ past) =
    ((e.actor ≡ actors.Node k.node) × WasAskedOfLoc k user q e.sent) ⊎ ((has_begun k.node e.lines ≡ false) × AskedSince k user q past)

-- ---- the boot of a server, by its lines, the newest first: none while it is down

abbrev pub boot_risen : Option ℕ → ℕ → Option ℕ
boot_risen None boot = Some boot
boot_risen (Some old) boot = Some old

abbrev pub server_boot : Node → List Line → Option ℕ
server_boot s [] = Some 1
server_boot s (lines.Crash n ∷ older) = if same_node n s then None else server_boot s older
server_boot s (lines.Fault n ∷ older) = if same_node n s then None else server_boot s older
server_boot s (lines.Restart n boot ∷ older) = if same_node n s then boot_risen (server_boot s older) boot else server_boot s older
server_boot s (l ∷ older) = server_boot s older

-- the boot that it began last, up or down
abbrev pub last_boot : Node → List Line → ℕ
last_boot s [] = 1
last_boot s (lines.Restart n boot ∷ older) = if same_node n s then boot else last_boot s older
last_boot s (l ∷ older) = last_boot s older

-- the server began this boot: it is the first, or a restart of the server told it
abbrev pub HasBoot : Node → ℕ → List Line → Type 0
HasBoot s boot [] = boot ≡ 1
HasBoot s boot (lines.Restart n b ∷ older) = ((n ≡ s) × (b ≡ boot)) ⊎ HasBoot s boot older
HasBoot s boot (l ∷ older) = HasBoot s boot older

-- ---- whether a client is down, by its lines, the newest first: it crashed, and didn't begin again since

abbrev pub is_down : Node → List Line → Bool
is_down c [] = false
is_down c (lines.Crash n ∷ older) = if same_node n c then true else is_down c older
is_down c (lines.Restart n epoch ∷ older) = if same_node n c then false else is_down c older
is_down c (l ∷ older) = is_down c older

-- ---- the entry that ran a call

-- a call to this callee under this key, to this boot
abbrev pub IsCallUnder : Node → Key → ℕ → Option Message → Type 0
IsCallUnder s k boot None = ⊥
IsCallUnder s k boot (Some m) = (IsCall m.carried × (m.head.to ≡ s)) × ((called_key m.head ≡ k) × (m.head.boot ≡ boot))

abbrev pub IsUnheard : Node → Key → ℕ → List Entry → Type 0
IsUnheard s k boot [] = ⊤
IsUnheard s k boot (e ∷ past) = (IsCallUnder s k boot (given_message e.lines (sent_of past)) → ⊥) × IsUnheard s k boot past

-- a pair of epoch and number is not above another
abbrev pub IsUpTo : ℕ → ℕ → ℕ → ℕ → Type 0
IsUpTo epoch number d m = (epoch < d) ⊎ ((epoch ≡ d) × (number ≤ m))

-- the key's node sends this message to this callee as a call, for this boot, under this key or a later one
abbrev pub IsCallToOrLater : Node → Key → ℕ → Option Message → Type 0
IsCallToOrLater s k boot None = ⊥
IsCallToOrLater s k boot (Some m) = (IsCall m.carried × (m.head.to ≡ s)) × (((m.head.from ≡ k.node) × IsUpTo k.epoch k.number m.head.epoch m.head.number) × (m.head.boot ≡ boot))

-- none of these entries, of whatever node, was given this call for that boot, nor a later call of its node to this callee
abbrev pub IsFirstOfItsBoot : Node → Key → ℕ → List Entry → Type 0
IsFirstOfItsBoot s k boot [] = ⊤
IsFirstOfItsBoot s k boot (e ∷ past) = (IsCallToOrLater s k boot (given_message e.lines (sent_of past)) → ⊥) × IsFirstOfItsBoot s k boot past

-- ---- what a server changed before

-- the server changed something under this key
abbrev pub HasChangeBy : Node → Key → List Line → Type 0
HasChangeBy s k [] = ⊥
HasChangeBy s k (lines.Change q l count ∷ ls) = ((q ≡ s) × (l ≡ k)) ⊎ HasChangeBy s k ls
HasChangeBy s k (l ∷ ls) = HasChangeBy s k ls

-- a node's key of a later call
abbrev pub IsLater : Key → Key → Type 0
IsLater k l = (l.epoch < k.epoch) ⊎ ((l.epoch ≡ k.epoch) × (l.number < k.number))

-- each key of this node under which the server changed something, in whichever boot, is earlier
abbrev pub IsLatest : Node → Key → List Line → Type 0
IsLatest s k ls = (l : Key) → HasChangeBy s l ls → l.node ≡ k.node → IsLater k l

-- The past, split at the entry that ran the call which this is the reply to, by its key and its opcode: the callee's first that was
-- given it, in the boot that the reply tells, and before any later call of that node. In this boot the callee then was, for it runs
-- no call to another one; and a later entry finds the kept reply. Nor does it run again what it changed in an older boot, for of that it
-- has the reply still.
pub record Ran (reply : Head) (past : List Entry) : Type 0 where
  pub newer : List Entry
  pub at : Entry
  pub older : List Entry
  pub split : past ≡ newer ++ (at ∷ older)
  pub message : Message
  pub given : given_message at.lines (sent_of older) ≡ Some message
  pub is_call : IsCall message.carried
  pub key : called_key message.head ≡ answered_key reply
  pub opcode : message.head.opcode ≡ reply.opcode
  pub boot : message.head.boot ≡ reply.boot
  pub up : server_boot reply.from (lines_of older) ≡ Some reply.boot
  pub callee : message.head.to ≡ reply.from
  pub node : at.actor ≡ actors.Node message.head.to
  pub first : IsFirstOfItsBoot reply.from (answered_key reply) reply.boot older
  pub latest : IsLatest reply.from (answered_key reply) (lines_of older)
