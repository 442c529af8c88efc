-- The law, as a history tells it: no client is given an answer that its server didn't decide for that call.
use Rattle.std.specs.Prelude.{◌≡◌, ⊤, List, [], ◌∷◌, ◌++◌, Bool, true, false, Option, Some, None, pos}
use Rattle.afs_num.specs.declared.calls.FsReply.{FsReply}
use Rattle.afs_num.specs.declared.calls.FsReply.TheVariants as replies
use Rattle.afs_num.specs.declared.histories.Actor.TheVariants as actors
use Rattle.afs_num.specs.declared.messages.Call.TheVariants as ask
use Rattle.afs_num.specs.declared.messages.Carried.{Carried}
use Rattle.afs_num.specs.declared.messages.Carried.TheVariants as carried
use Rattle.afs_num.specs.declared.messages.Message.{Message}
use Rattle.afs_num.specs.declared.messages.Reply.TheVariants as tell
use Rattle.spec_history.specs.declared.scripts.Script.{Script}
use Rattle.spec_model.specs.FsRows.{call_number, reply_number}
use Rattle.spec_rows.specs.Runs.{Entry}
use Rattle.spec_runs.specs.NodeRuns.{node_start, CellInput, NodeCell, NodeLeads}
use Rattle.law_legal.specs.Ideal.{set_up_entry}
use Rattle.law_legal.specs.Past.{answered_key, called_key, given_message, lines_of, sent_of, server_boot, HasChangeBy, IsCall}
use Rattle.law_replies.specs.Decided.{answers_client}

-- ---- what a reply tells

-- it tells of a change
abbrev pub file_tells_change : FsReply → Bool
file_tells_change (replies.StoreData status sync) = true
file_tells_change (replies.StoreAcl status sync) = true
file_tells_change (replies.StoreStatus status sync) = true
file_tells_change (replies.RemoveFile directory sync) = true
file_tells_change (replies.CreateFile fid status directory callback sync) = true
file_tells_change (replies.Rename directory target sync) = true
file_tells_change (replies.Symlink fid status directory sync) = true
file_tells_change (replies.Link status directory sync) = true
file_tells_change (replies.MakeDir fid status directory callback sync) = true
file_tells_change (replies.RemoveDir directory sync) = true
file_tells_change reply = false

abbrev pub is_change_told : Carried → Bool
is_change_told (carried.Reply (tell.File reply)) = file_tells_change reply
is_change_told c = false

-- what was asked for answers a call of its own kind
abbrev pub IsOfItsKind : FsReply → Carried → Type 0
IsOfItsKind reply (carried.Call user (ask.File call)) = reply_number reply ≡ call_number call
IsOfItsKind reply asked = ⊥

-- a refusal answers any call, by a code other than 0
abbrev pub IsAnswerOf : Carried → Carried → Type 0
IsAnswerOf asked (carried.Refusal code) = code.0 ≡ pos 0 → ⊥
IsAnswerOf asked (carried.Reply (tell.File reply)) = IsOfItsKind reply asked
IsAnswerOf asked c = ⊥

-- ---- the entry of its call

-- The past, the newest entry first, is split at an entry of the server whose reply this is. There the server was given the call that this is
-- the reply to: under the reply's key, with its opcode, and for the boot that the reply carries. In that boot the server was then, by the lines
-- before. It is a reply to that call. Where it tells of a change, its server has told a change under this key.
pub record WasHeard (reply : Message) (past : List Entry) : Type 0 where
  pub newer : List Entry
  pub at : Entry
  pub older : List Entry
  pub split : past ≡ newer ++ (at ∷ older)
  pub node : at.actor ≡ actors.Node reply.head.from
  pub call : Message
  pub given : given_message at.lines (sent_of older) ≡ Some call
  pub is_call : IsCall call.carried
  pub callee : call.head.to ≡ reply.head.from
  pub key : called_key call.head ≡ answered_key reply.head
  pub opcode : call.head.opcode ≡ reply.head.opcode
  pub boot : call.head.boot ≡ reply.head.boot
  pub up : server_boot reply.head.from (lines_of older) ≡ Some reply.head.boot
  pub kind : IsAnswerOf call.carried reply.carried
  pub made : is_change_told reply.carried ≡ true → HasChangeBy reply.head.from (answered_key reply.head) (lines_of past)

-- ---- the law

-- what an entry was given, where it was given a message
abbrev pub IfGiven : (Message → Type 0) → Option Message → Type 0
IfGiven P None = ⊤
IfGiven P (Some m) = P m

-- a server's reply to a client was decided on its call, in an entry before
abbrev pub IsHeard : List Entry → Message → Type 0
IsHeard past m = answers_client m ≡ true → WasHeard m past

-- what each of these entries is given, behind those before it, the newest first
abbrev pub AreHeard : List Entry → List Entry → Type 0
AreHeard past [] = ⊤
AreHeard past (e ∷ es) = IfGiven (IsHeard past) (given_message e.lines (sent_of past)) × AreHeard (e ∷ past) es

-- So it is of all that the history gives to its clients.
abbrev pub AnswersAreHeard : Script → List Entry → Type 0
AnswersAreHeard s history = AreHeard (set_up_entry s ∷ []) history

-- So it is in every run of every script, whatever its administrators do.
abbrev pub RunsAnswerTheirCalls : Type 0
RunsAnswerTheirCalls = (s : Script) (inputs : List CellInput) (history : List Entry) (end : NodeCell) → NodeLeads (node_start s) inputs history end → AnswersAreHeard s history
