-- More parts of what a legal history is, proved of the runs of every script, with any number of servers: what clients give back, that
-- an act changes things once, by what it reads and is answered, and what it
-- waits for.
use Rattle.spec_history.specs.declared.acts.Operand.{Operand}
use Rattle.std.specs.Prelude.{◌≡◌, ℕ, List, [], ◌∷◌, ◌++◌, Bool, Some, true, false, ℤ, negsuc, pos, if◌then◌else◌, ⊤, ◌⊎◌}
use Rattle.spec_history.specs.declared.lines.Line.{Line}
use Rattle.spec_history.specs.declared.lines.Line.TheVariants as lines
use Rattle.spec_history.specs.declared.scripts.Script.{Script}
use Rattle.law_legal.specs.Cells.{IsOfCell}
use Rattle.law_legal.specs.Breaks.{HasTimeout}
use Rattle.law_legal.specs.Grants.{IsDropped, fetch_reply, has_fetched, is_promised}
use Rattle.law_legal.specs.Ideal.{set_up_entry, user_of}
use Rattle.law_legal.specs.Legal.{EndsAct, GoodGift, HasChange, HasChangeBy, HasOwnHalf, HasUsed, IsDead, IsDone, IsKind, IsLastCall, IsOnItsWay, IsUse, as_asked, has_dropped, HasHeard, IsRefusedWith, IsUnlisted, IsOperandOf, TellsEntry}
use Rattle.law_legal.specs.Once.{past_of}
use Rattle.law_legal.specs.Parts.{AllLines, EachEntry, EachSent, LineRule, waited_key}
use Rattle.law_legal.specs.Past.{CalledSince, IsReply, answered_key, code_told, given_message, has_begun, has_sent, is_of_act, lines_of, lines_on, onto, running, sent_of, AreWithin, AskedSince}
use Rattle.law_legal.specs.ServerParts.{IsCodeGood, IsReadGood}
use Rattle.afs_num.specs.declared.calls.FsCall.{FsCall}
use Rattle.afs_num.specs.declared.histories.Actor.TheVariants as actors
use Rattle.afs_num.specs.declared.histories.ReadBody.{ReadBody}
use Rattle.afs_num.specs.declared.histories.ReadSource.{ReadSource}
use Rattle.afs_num.specs.declared.histories.ReadSource.TheVariants.{Fetched}
use Rattle.afs_num.specs.declared.messages.Message.{Message}
use Rattle.afs_num.specs.declared.types.Code.{Code}
use Rattle.afs_num.specs.declared.types.Fid.{Fid}
use Rattle.afs_num.specs.declared.types.Key.{Key}
use Rattle.afs_num.specs.declared.types.Node.{Node}
use Rattle.afs_num.specs.declared.types.Node.TheVariants.{Client, Loc, Server}
use Rattle.spec_rows.specs.ClientRow.{call_of, find_cached, names_call, question}
use Rattle.spec_rows.specs.Going.{ClientState, Going, asked, gives_back, locates, next, reads_rights, no_entry}
use Rattle.spec_rows.specs.Runs.{Cell, Entry, RunsTo}
use Rattle.spec_rows.specs.States.{CacheEntry}

-- ---- messages

-- what carries a call is one by its header; and what it gives back its sender dropped in the very act, and fetched nothing of since
abbrev pub IsFair : List Entry → Message → Type 0
IsFair past m = HasOwnHalf m × GoodGift m.head m.carried (lines_of past)

-- so are all messages of a run
abbrev pub GiftsAreDropped : Type 0
GiftsAreDropped = (s : Script) (history : List Entry) (end : Cell) → RunsTo history s end → EachEntry (λ past e. EachSent IsFair (e ∷ past) e.sent) (set_up_entry s ∷ []) history

-- ---- changes

-- a change under this key is the first of its act: while an act runs at the key's node, the server has changed nothing under a key of
-- that; and no server has under another key of the act to which this key belongs, were that long over
pub record IsFirstOfAct (s : Script) (server : Node) (k : Key) (past : List Entry) : Type 0 where
  pub once : (a : Going) → running s k.node (lines_of past) ≡ Some a → (l : Key) → HasChangeBy server l (lines_of past) → is_of_act k.node l past ≡ true → ⊥
  pub alone : (newer older : List Entry) → past ≡ newer ++ older → is_of_act k.node k older ≡ true → (l : Key) → HasChange l (lines_of past) → is_of_act k.node l older ≡ true → ⊥

abbrev pub IsAlone : Script → LineRule
IsAlone s who (lines.Change server k count) past own next = IsFirstOfAct s server k past
IsAlone s who l past own next = ⊤

-- an act of a run changes things once, however often its call is repeated, and also when it is over
abbrev pub ChangesAreAlone : Type 0
ChangesAreAlone = (s : Script) (history : List Entry) (end : Cell) → RunsTo history s end → AllLines (IsAlone s) s history

-- ---- reads

-- the act needs these rights, and the entry was given a reply to its call for them
pub record AreAskedFor (s : Script) (c : Node) (f : Fid) (source : ReadSource) (past : List Entry) (own : List Line) : Type 0 where
  pub fetched : source ≡ Fetched
  pub act : Going
  pub runs : running s c (own ++ lines_of past) ≡ Some act
  pub needs : next act ≡ reads_rights f
  pub used : HasUsed s c past own
  pub asks : used.call ≡ asked act

-- what is promised and was fetched just now is of a reply with code 0 to the client's last call, one of the running act that brings just that; rights
-- are such, too. What is read from the cache is read where the act begins, or goes on by a reply
abbrev pub IsUsed : Script → Bool → Node → Fid → ReadSource → ReadBody → List Entry → List Line → Type 0
IsUsed s true c f source body past own = (source ≡ Fetched → IsUse s c f body past own) × IsOnItsWay s c source past own
IsUsed s false c f source body past own = AreAskedFor s c f source past own

-- ---- answers

-- the entry was given a reply with this code to its client's last call, one of this very act, which it sent for its user since the act began,
-- and that was in an entry before. If the reply is of that call's kind, it has code 0 only where the act ends with that call
pub record IsReplied (s : Script) (c : Node) (act : Going) (code : ℤ) (past : List Entry) (own : List Line) : Type 0 where
  pub reply : Message
  pub by : given_message own (sent_of past) ≡ Some reply
  pub is_reply : IsReply reply
  pub told : code_told reply.carried ≡ Some code
  pub to : reply.head.to ≡ c
  pub from : (i : ℕ) × (reply.head.from ≡ Server i)
  pub before : has_begun c own ≡ false
  pub call : FsCall
  pub asks : as_asked call ≡ asked act
  pub called : CalledSince (answered_key reply.head) (user_of s c) call past
  pub last : IsLastCall (answered_key reply.head) (sent_of past)
  pub ends : IsKind call reply.carried → code ≡ pos 0 → EndsAct (next act)

-- The act gives promises back, and is answered in the entry in which it began: then that drops nothing. Of a script with a volume
-- elsewhere this isn't said, for promises are given back to eight servers at most
pub record IsGivenAtOnce (s : Script) (c : Node) (act : Going) (code : ℤ) (own : List Line) : Type 0 where
  pub is : code ≡ pos 0
  pub by : next act ≡ gives_back
  pub begun : has_begun c own ≡ true
  pub none : IsOfCell s → has_dropped c own ≡ false

-- in an entry since its act began the client was given a server's reply with this code, 103 or 111, to the act's call
pub record WasReplied (s : Script) (c : Node) (act : Going) (code : ℤ) (past : List Entry) : Type 0 where
  pub gone : (code ≡ pos 103) ⊎ (code ≡ pos 111)
  pub newer : List Entry
  pub at : Entry
  pub older : List Entry
  pub split : past ≡ newer ++ (at ∷ older)
  pub within : AreWithin c (newer ++ (at ∷ []))
  pub actor : at.actor ≡ actors.Node c
  pub reply : Message
  pub by : given_message at.lines (sent_of older) ≡ Some reply
  pub is_reply : IsReply reply
  pub told : code_told reply.carried ≡ Some code
  pub to : reply.head.to ≡ c
  pub from : (i : ℕ) × (reply.head.from ≡ Server i)
  pub call : FsCall
  pub asks : as_asked call ≡ asked act
  pub called : CalledSince (answered_key reply.head) (user_of s c) call older

-- the server that refused the act is the one that the location database knows; or that refused too
pub record IsLeft (s : Script) (c : Node) (act : Going) (code : ℤ) (past : List Entry) (own : List Line) : Type 0 where
  pub left : ℤ
  pub replied : WasReplied s c act left past
  pub operand : Operand
  pub its : IsOperandOf act operand
  pub heard : HasHeard s c operand past own
  pub is : ((code ≡ left) × TellsEntry heard.reply.carried) ⊎ ((code ≡ pos no_entry) × IsRefusedWith code heard.reply.carried)

-- what the act asked the location database, since it lacked a place or was refused, was timed out for the third time
pub record IsUntold (s : Script) (c : Node) (act : Going) (code : ℤ) (past : List Entry) (own : List Line) : Type 0 where
  pub is : code ≡ negsuc 0
  pub epoch : ℕ
  pub number : ℕ
  pub third : HasTimeout c Loc epoch number 3 own
  pub before : has_begun c own ≡ false
  pub operand : Operand
  pub called : AskedSince (record { node = c; epoch = epoch; number = number }) (user_of s c) (question operand) past
  pub why : (next act ≡ locates operand) ⊎ ((left : ℤ) × (WasReplied s c act left past × IsOperandOf act operand))

-- an act runs, and its answer has its cause. That the ideal cell gives the code of the reply isn't asked here
pub record IsDueCode (s : Script) (c : Node) (code : Code) (past : List Entry) (own : List Line) : Type 0 where
  pub act : Going
  pub runs : running s c (own ++ lines_of past) ≡ Some act
  pub cause : IsReplied s c act code.0 past own ⊎ (IsDone s c act code.0 past own ⊎ (IsDead s c act code.0 past own ⊎ (IsGivenAtOnce s c act code.0 own ⊎ (IsUnlisted s c act code.0 past own ⊎ (IsUntold s c act code.0 past own ⊎ IsLeft s c act code.0 past own)))))

abbrev pub IsDue : Script → LineRule
IsDue s who (lines.Read c f index source body) past own next = IsUsed s (is_promised body) c f source body past own
IsDue s who (lines.Answer c code) past own next = IsDueCode s c code past own
IsDue s who l past own next = ⊤

-- what an act of a run fetches is of replies to its own calls, each the last that was made, and what it reads from the cache it reads where it begins
-- or goes on. It is answered by such a reply, by what it read, by the third timeout of its call, or at once
abbrev pub AnswersAreDue : Type 0
AnswersAreDue = (s : Script) (history : List Entry) (end : Cell) → RunsTo history s end → AllLines (IsDue s) s history

-- each answer of a run has its cause: a reply that tells what the ideal cell made of the act's own call, or what the act read, or the third
-- timeout of its call, or that it had nothing to give back
abbrev pub AnswersAreGood : Type 0
AnswersAreGood = (s : Script) (history : List Entry) (end : Cell) → IsOfCell s → RunsTo history s end → AllLines (IsCodeGood s) s history

-- Each read is good: of a promised body by a promise, of rights by a reply to the act's call for them
abbrev pub ReadsAreGood : Type 0
ReadsAreGood = (s : Script) (history : List Entry) (end : Cell) → RunsTo history s end → AllLines (IsReadGood s) s history

-- ---- what a client waits for

-- these lines begin no act, read nothing and answer none
abbrev pub is_silent : List Line → Bool
is_silent [] = true
is_silent (lines.Begin n act ∷ ls) = false
is_silent (lines.Read n f index source body ∷ ls) = false
is_silent (lines.Answer n code ∷ ls) = false
is_silent (l ∷ ls) = is_silent ls

-- nor do the client's entries among these
abbrev pub AreSilent : Node → List Entry → Type 0
AreSilent c [] = ⊤
AreSilent c (e ∷ es) = (e.actor ≡ actors.Node c → is_silent e.lines ≡ true) × AreSilent c es

-- The past, split at the entry in which the client first sent the call for which it waits: it reads nothing and is answered nothing since.
-- And unless the reply is spoiled, it dropped no object since that the call names, nor all that the callee promised
pub record IsUnspoiled (j : ℕ) (x : ClientState) (act : Going) (past : List Entry) : Type 0 where
  pub newer : List Entry
  pub at : Entry
  pub older : List Entry
  pub split : past ≡ newer ++ (at ∷ older)
  pub sent : has_sent (waited_key j x) at.sent ≡ true
  pub first : has_sent (waited_key j x) (sent_of older) ≡ false
  pub silent : AreSilent (Client j) newer
  pub kept : x.spoiled ≡ false → (f : Fid) → names_call (f ∷ []) (call_of x act) ≡ true → IsDropped x.callee (Client j) f (lines_on [] newer) → ⊥

-- so it is of every client that waits
abbrev pub WaitsAreSilent : Type 0
WaitsAreSilent = (s : Script) (history : List Entry) (end : Cell) → RunsTo history s end → (j : ℕ) (act : Going) → (end.clients j).running ≡ Some act → IsUnspoiled j (end.clients j) act (past_of (set_up_entry s ∷ []) history)

-- ---- what a client keeps

-- the lines since the client's last entry with a fetched read of the object, the newest first, and that entry's
abbrev pub lines_since_fetch : Node → Fid → List Entry → List Line
lines_since_fetch c f [] = []
lines_since_fetch c f (e ∷ past) = if has_fetched c f e.lines then onto [] e.lines else onto (lines_since_fetch c f past) e.lines

-- an entry of a cache is of the server whose reply, with code 0, was given to the client's last entry with a fetched read of its object;
-- and since then the client dropped neither that nor all that the server promised
pub record IsFetchedEntry (j : ℕ) (f : Fid) (e : CacheEntry) (past : List Entry) : Type 0 where
  pub reply : Message
  pub by : fetch_reply (Client j) f past ≡ Some reply
  pub is_reply : IsReply reply
  pub told : code_told reply.carried ≡ Some (pos 0)
  pub to : reply.head.to ≡ Client j
  pub from : reply.head.from ≡ e.server
  pub kept : IsDropped e.server (Client j) f (lines_since_fetch (Client j) f past) → ⊥

abbrev pub CachedAreFetched : Type 0
CachedAreFetched = (s : Script) (history : List Entry) (end : Cell) → RunsTo history s end → (j : ℕ) (f : Fid) (e : CacheEntry) → find_cached f (end.clients j).cache ≡ Some e → IsFetchedEntry j f e (past_of (set_up_entry s ∷ []) history)
