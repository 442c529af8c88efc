-- What a legal history asks of the promises of servers, each proved of the runs of every script, with any number of servers.
use Rattle.law_legal.specs.Breaks.{GoodQuit, GoodSettle, HasOwe, lines_with_gifts, kept_until}
use Rattle.law_legal.specs.Grants.{is_promised}
use Rattle.law_legal.specs.Ideal.{IsAccepted, HasVersion, clock_of, set_up_entry, volume_after}
use Rattle.law_legal.specs.Laws.{IsHeldSince, told_by_restart}
use Rattle.law_legal.specs.Legal.{Answered, GoodCode, GoodGrant, GoodOwe, GoodReadBy, GoodReply, GoodTimeout, IsBrought, IsChanged, IsForOnce, Legal, versions_first}
use Rattle.law_legal.specs.Once.{past_of}
use Rattle.law_legal.specs.Parts.{AllLines, EachEntry, EachSent, LineRule}
use Rattle.law_legal.specs.Past.{HasCode, Ran, answered_key, code_told, lines_of}
use Rattle.afs_num.specs.declared.calls.FsCall.{FsCall}
use Rattle.afs_num.specs.declared.histories.Version.{Version}
use Rattle.afs_num.specs.declared.messages.Call.TheVariants as ask
use Rattle.afs_num.specs.declared.messages.Carried.TheVariants as carried
use Rattle.afs_num.specs.declared.messages.Message.{Message}
use Rattle.afs_num.specs.declared.types.Fid.{Fid}
use Rattle.afs_num.specs.declared.types.Node.TheVariants.{Client, Server}
use Rattle.spec_history.specs.declared.lines.Line.TheVariants as lines
use Rattle.spec_history.specs.declared.scripts.Script.{Script}
use Rattle.spec_rows.specs.Runs.{Cell, Entry, Fall, RunsTo, begun_by_disk}
use Rattle.spec_rows.specs.States.{volume_in}
use Rattle.std.specs.Prelude.{◌≡◌, ◌<◌, ℕ, ℤ, List, [], ◌∷◌, ◌++◌, Some, true, ⊤}

-- ---- promises

abbrev pub IsGrantGood : LineRule
IsGrantGood who (lines.Grant server c f index expiry) past own next = GoodGrant server c f index expiry past own
IsGrantGood who l past own next = ⊤

-- each promise of a run is made where a call runs whose reply promises that object, for 7200 ticks
abbrev pub GrantsAreGood : Type 0
GrantsAreGood = (s : Script) (history : List Entry) (end : Cell) → RunsTo history s end → AllLines IsGrantGood s history

-- ---- breaks

-- after a change stands a break for each other client whose last promise on one of the fids that change lasts, unbroken; and what is owed, settled or
-- given up is good
abbrev pub IsBreakGood : Script → LineRule
IsBreakGood s who (lines.Change server k count) past own next =
    (j : ℕ) (f : Fid) (x : ℕ) → (Client j ≡ k.node → ⊥) → IsChanged f (versions_first next) → kept_until server (Client j) f (own ++ lines_with_gifts server past) ≡ Some x → clock_of (own ++ lines_of past) < x → HasOwe server (Client j) (Some f) next
IsBreakGood s who (lines.Owe server c what n) past own next = GoodOwe s server c what n past own
IsBreakGood s who (lines.Settle server c n) past own next = GoodSettle server c n past own
IsBreakGood s who (lines.Quit server c n) past own next = GoodQuit server c n past own
IsBreakGood s who l past own next = ⊤

-- A timeout is of a call that was sent before, and the one below it was told. A client waits for the reply still: no entry was given one; and
-- its third timeout stands before the answer -1
abbrev pub IsTimeoutGood : Script → LineRule
IsTimeoutGood s who (lines.Timeout n callee epoch number count) past own next = GoodTimeout s n callee epoch number count past own next
IsTimeoutGood s who l past own next = ⊤

-- so is each timeout of a run
abbrev pub TimeoutsAreGood : Type 0
TimeoutsAreGood = (s : Script) (history : List Entry) (end : Cell) → RunsTo history s end → AllLines (IsTimeoutGood s) s history

-- a break becomes owed once in its entry, and ends once
abbrev pub IsBreakOnce : LineRule
IsBreakOnce who l past own next = IsForOnce l past own

-- so does each of a run
abbrev pub BreaksAreOnce : Type 0
BreaksAreOnce = (s : Script) (history : List Entry) (end : Cell) → RunsTo history s end → AllLines IsBreakOnce s history

-- each break of a run is good in all that `IsBreakGood` asks
abbrev pub BreaksAreGood : Type 0
BreaksAreGood = (s : Script) (history : List Entry) (end : Cell) → RunsTo history s end → AllLines (IsBreakGood s) s history

-- each reply with code 0 of a server waits until no break is open that is owed by an entry which was given its call, or, where that
-- changed something, any on all; and the server that sends it is up
abbrev pub RepliesWait : Type 0
RepliesWait = (s : Script) (history : List Entry) (end : Cell) → RunsTo history s end → EachEntry (λ past e. EachSent GoodReply (e ∷ past) e.sent) (set_up_entry s ∷ []) history

-- ---- replies

-- a reply of a server to a client is that of the entry which ran its call, and tells what the ideal operation made of it there
abbrev pub IsTruthful : List Entry → Message → Type 0
IsTruthful past m = (i j : ℕ) → m.head.from ≡ Server i → m.head.to ≡ Client j → HasCode m.carried → Answered m past

-- so does each reply of a run
abbrev pub RepliesAreTrue : Type 0
RepliesAreTrue = (s : Script) (history : List Entry) (end : Cell) → RunsTo history s end → EachEntry (λ past e. EachSent IsTruthful (e ∷ past) e.sent) (set_up_entry s ∷ []) history

-- ---- what is kept

-- while a server is down, what its step that was interrupted may have left is the ideal volumes too, after what a restart tells of that step
abbrev pub FallsAreKept : Type 0
FallsAreKept =
    (s : Script) (history : List Entry) (end : Cell) → RunsTo history s end → (i : ℕ) (fall : Fall) → (end.hosts i).down ≡ Some fall → (id : ℕ) → IsAccepted s id (Server i) (lines_of (past_of (set_up_entry s ∷ []) history))
    → volume_in id (begun_by_disk (Server i) (end.hosts i).state true fall).state.lasting.volumes ≡ volume_after id (told_by_restart i (end.hosts i) fall ∷ past_of (set_up_entry s ∷ []) history)

-- the server of a version's volume holds that version of its object or a later one, and so does what an interrupted step may have left
abbrev pub VersionsAreKept : Type 0
VersionsAreKept =
    (s : Script) (history : List Entry) (end : Cell) → RunsTo history s end → (i : ℕ) (v : Version) → IsAccepted s v.fid.volume (Server i) (lines_of (past_of (set_up_entry s ∷ []) history)) → HasVersion v.fid v.index v.body (lines_of (past_of (set_up_entry s ∷ []) history))
    → IsHeldSince v (end.hosts i).state.lasting.volumes (lines_of (past_of (set_up_entry s ∷ []) history))
    × ((fall : Fall) → (end.hosts i).down ≡ Some fall → IsHeldSince v (begun_by_disk (Server i) (end.hosts i).state true fall).state.lasting.volumes (lines_of (told_by_restart i (end.hosts i) fall ∷ past_of (set_up_entry s ∷ []) history)))

-- ---- what is read from a cache

abbrev pub IsBroughtGood : Script → LineRule
IsBroughtGood s who (lines.Read c f index source body) past own next = IsBrought s c f index source body (own ++ lines_of past)
IsBroughtGood s who l past own next = ⊤

-- what a client of a run reads from its cache came to it since it last crashed, or gave up a change in its volume: that version, and contents as just
-- this body of it, which it didn't drop since
abbrev pub CachedAreBrought : Type 0
CachedAreBrought = (s : Script) (history : List Entry) (end : Cell) → RunsTo history s end → AllLines (IsBroughtGood s) s history

-- ---- all of it

abbrev pub IsReadGood : Script → LineRule
IsReadGood s who (lines.Read c f index source body) past own next = GoodReadBy s (is_promised body) c f index source body past own
IsReadGood s who l past own next = ⊤

abbrev pub IsCodeGood : Script → LineRule
IsCodeGood s who (lines.Answer c code) past own next = GoodCode s c code past own
IsCodeGood s who l past own next = ⊤

-- a run is legal where what its clients read and answer is good: of all else that is asked of a history, nothing is left
abbrev pub GoodReadsAreLegal : Type 0
GoodReadsAreLegal = (s : Script) (history : List Entry) (end : Cell) → RunsTo history s end → AllLines (IsReadGood s) s history → AllLines (IsCodeGood s) s history → Legal history s
