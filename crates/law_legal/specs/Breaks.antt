-- What becomes of the breaks that a server owes.
use Rattle.spec_model.specs.Calls.{pair_below, same_key}
use Rattle.std.specs.Prelude.{◌≡◌, ℕ, ◌+◌, ◌≤◌, List, [], ◌∷◌, ◌++◌, Bool, cond, nat_eq, not, ◌&&◌, Option, Some, None, ◌⊎◌, true, false, if◌then◌else◌}
use Rattle.afs_num.specs.declared.histories.Actor.{Actor}
use Rattle.afs_num.specs.declared.histories.Actor.TheVariants as actors
use Rattle.afs_num.specs.Fids.{same_fid}
use Rattle.afs_num.specs.Nodes.{same_node}
use Rattle.afs_num.specs.declared.types.Fid.{Fid}
use Rattle.afs_num.specs.declared.types.Key.{Key}
use Rattle.afs_num.specs.declared.types.Node.{Node}
use Rattle.afs_num.specs.declared.calls.FsCall.{FsCall}
use Rattle.afs_num.specs.declared.calls.FsCall.TheVariants as calls
use Rattle.law_legal.specs.Ideal.{Unless, clock_of}
use Rattle.spec_history.specs.declared.lines.Line.{Line}
use Rattle.law_legal.specs.Past.{server_boot, onto, lines_on, lines_of, sent_of, given_message, has_sent, HasCode, IsCallUnder, SendsTo, answered_key, called_key}
use Rattle.afs_num.specs.declared.types.Half.{Half}
use Rattle.afs_num.specs.declared.types.Half.TheVariants as halves
use Rattle.afs_num.specs.declared.types.Head.{Head}
use Rattle.afs_num.specs.declared.messages.Carried.{Carried}
use Rattle.afs_num.specs.declared.messages.Carried.TheVariants as carried
use Rattle.afs_num.specs.declared.messages.Call.TheVariants as ask
use Rattle.afs_num.specs.declared.messages.Message.{Message}
use Rattle.spec_rows.specs.Runs.{Entry}
use Rattle.spec_history.specs.declared.lines.Line.TheVariants as lines

-- ---- by the lines since, the newest first

-- the server stopped
abbrev pub HasStopped : Node → List Line → Type 0
HasStopped s [] = ⊥
HasStopped s (lines.Crash n ∷ newer) = (n ≡ s) ⊎ HasStopped s newer
HasStopped s (lines.Fault n ∷ newer) = (n ≡ s) ⊎ HasStopped s newer
HasStopped s (l ∷ newer) = HasStopped s newer

-- the break of this number to the client was answered, or given up
abbrev pub HasSettled : Node → Node → ℕ → List Line → Type 0
HasSettled s c n [] = ⊥
HasSettled s c n (lines.Settle q d k ∷ newer) = ((q ≡ s) × ((d ≡ c) × (k ≡ n))) ⊎ HasSettled s c n newer
HasSettled s c n (lines.Quit q d k ∷ newer) = ((q ≡ s) × ((d ≡ c) × (k ≡ n))) ⊎ HasSettled s c n newer
HasSettled s c n (l ∷ newer) = HasSettled s c n newer

-- the break of this number was settled or given up in the boot in which the server is
abbrev pub HasEnded : Node → ℕ → List Line → Type 0
HasEnded s n [] = ⊥
HasEnded s n (lines.Settle q d k ∷ older) = ((q ≡ s) × (k ≡ n)) ⊎ HasEnded s n older
HasEnded s n (lines.Quit q d k ∷ older) = ((q ≡ s) × (k ≡ n)) ⊎ HasEnded s n older
HasEnded s n (lines.Crash m ∷ older) = Unless (same_node m s) (HasEnded s n older)
HasEnded s n (lines.Fault m ∷ older) = Unless (same_node m s) (HasEnded s n older)
HasEnded s n (l ∷ older) = HasEnded s n older

-- the client dropped the fid, or all that the server granted; what is owed on all is answered by the latter alone
abbrev pub HasDrop : Node → Node → Option Fid → List Line → Type 0
HasDrop s c what [] = ⊥
HasDrop s c what (lines.Drop m g ∷ newer) = ((m ≡ c) × (what ≡ Some g)) ⊎ HasDrop s c what newer
HasDrop s c what (lines.DropAll m q ∷ newer) = ((m ≡ c) × (q ≡ s)) ⊎ HasDrop s c what newer
HasDrop s c what (l ∷ newer) = HasDrop s c what newer

-- the count-th timeout of the caller's call
abbrev pub HasTimeout : Node → Node → ℕ → ℕ → ℕ → List Line → Type 0
HasTimeout s c epoch number count [] = ⊥
HasTimeout s c epoch number count (lines.Timeout q d e n k ∷ ls) = ((q ≡ s) × ((d ≡ c) × ((e ≡ epoch) × ((n ≡ number) × (k ≡ count))))) ⊎ HasTimeout s c epoch number count ls
HasTimeout s c epoch number count (l ∷ ls) = HasTimeout s c epoch number count ls

-- ---- by the lines before

-- the clock at which the server's last promise to the client on f ends; none where it made none
abbrev pub promised_until : Node → Node → Fid → List Line → Option ℕ
promised_until s c f [] = None
promised_until s c f (lines.Grant q d g index expiry ∷ older) = cond (same_node q s && (same_node d c && same_fid g f)) (Some expiry) (promised_until s c f older)
promised_until s c f (l ∷ older) = promised_until s c f older

abbrev pub is_on_object : Fid → Option Fid → Bool
is_on_object f None = true
is_on_object f (Some g) = same_fid g f

-- The same, but none where after that promise the server stopped, a break of it became owed to the client, or the client dropped it. Whether
-- its time has come isn't looked at
abbrev pub kept_until : Node → Node → Fid → List Line → Option ℕ
kept_until s c f [] = None
kept_until s c f (lines.Grant q d g index expiry ∷ older) = cond (same_node q s && (same_node d c && same_fid g f)) (Some expiry) (kept_until s c f older)
kept_until s c f (lines.Crash n ∷ older) = cond (same_node n s) None (kept_until s c f older)
kept_until s c f (lines.Fault n ∷ older) = cond (same_node n s) None (kept_until s c f older)
kept_until s c f (lines.Drop m g ∷ older) = cond (same_node m c && same_fid g f) None (kept_until s c f older)
kept_until s c f (lines.DropAll m q ∷ older) = cond (same_node m c && same_node q s) None (kept_until s c f older)
kept_until s c f (lines.Owe q d w n ∷ older) = cond (same_node q s && (same_node d c && is_on_object f w)) None (kept_until s c f older)
kept_until s c f (l ∷ older) = kept_until s c f older

-- The last promise again, but none where since then the server stopped, or a break of it became owed to the client. Drops aren't looked at, for that
-- the client dropped it is nothing that a server has to know
abbrev pub unbroken_until : Node → Node → Fid → List Line → Option ℕ
unbroken_until s c f [] = None
unbroken_until s c f (lines.Grant q d g index expiry ∷ older) = cond (same_node q s && (same_node d c && same_fid g f)) (Some expiry) (unbroken_until s c f older)
unbroken_until s c f (lines.Crash n ∷ older) = cond (same_node n s) None (unbroken_until s c f older)
unbroken_until s c f (lines.Fault n ∷ older) = cond (same_node n s) None (unbroken_until s c f older)
unbroken_until s c f (lines.Owe q d w n ∷ older) = cond (same_node q s && (same_node d c && is_on_object f w)) None (unbroken_until s c f older)
unbroken_until s c f (l ∷ older) = unbroken_until s c f older

-- ---- the lines before, as a server knows them: what a client gave back by a call is dropped where the server runs the call

abbrev pub fids_given_up : FsCall → List Fid
fids_given_up (calls.GiveUpCallBacks fids callbacks) = fids
fids_given_up call = []

-- whether a message of this half that carries this is a reply with code 0
abbrev pub is_reply_of_0 : Half → Carried → Bool
is_reply_of_0 halves.Reply (carried.Reply reply) = true
is_reply_of_0 half c = false

abbrev pub has_answer : Key → List Message → Bool
has_answer k [] = false
has_answer k (m ∷ ms) = if (same_key (answered_key m.head) k && is_reply_of_0 m.head.half m.carried) then true else has_answer k ms

abbrev pub drops_of : Node → List Fid → List Line
drops_of c [] = []
drops_of c (f ∷ fs) = lines.Drop c f ∷ drops_of c fs

abbrev pub returned_by : Node → Bool → Head → Carried → List Line
returned_by s true head (carried.Call user (ask.File call)) = if same_node head.to s then drops_of head.from (fids_given_up call) else []
returned_by s t head c = []

-- it is the server's entry
abbrev pub is_entry_of : Node → Actor → Bool
is_entry_of s (actors.Node n) = same_node n s
is_entry_of s a = false

-- whether the key's node sends this message to this callee as a call, for this boot, under this key or a later one (`IsCallFrom`, as a test)
abbrev pub is_call : Carried → Bool
is_call (carried.Call user call) = true
is_call c = false

abbrev pub is_call_from : Node → Key → ℕ → Option Message → Bool
is_call_from s k boot None = false
is_call_from s k boot (Some m) = (is_call m.carried && same_node m.head.to s) && ((same_node m.head.from k.node && not (pair_below m.head.epoch m.head.number k.epoch k.number)) && nat_eq m.head.boot boot)

-- whether none of these entries was given it, or a later one of its node, for that boot (`IsToCome`, as a test)
abbrev pub is_to_come : Node → Key → ℕ → List Entry → Bool
is_to_come s k boot [] = true
is_to_come s k boot (e ∷ past) = not (is_call_from s k boot (given_message e.lines (sent_of past))) && is_to_come s k boot past

-- whether a server, which is in this boot or down, is in that one
abbrev pub is_in_boot : ℕ → Option ℕ → Bool
is_in_boot boot None = false
is_in_boot boot (Some now) = nat_eq boot now

-- whether an entry after this past that is given the call runs it: it is to the boot in which the server is, and the first there
-- under its key, before any later call of its node. What the server changed in older boots isn't looked at here: a client sends no call of
-- an older key to a later boot
abbrev pub runs_now : Node → Head → List Entry → Bool
runs_now s head past = is_in_boot head.boot (server_boot s (lines_of past)) && is_to_come s (called_key head) head.boot past

-- the fids of the message that this entry of the server was given, runs and answers: a reply that is sent again drops nothing, and
-- a call that is old, or to another boot, isn't run
abbrev pub returned_in : Node → Entry → Option Message → List Entry → List Line
returned_in s e None past = []
returned_in s e (Some m) past = returned_by s (is_entry_of s e.actor && (runs_now s m.head past && has_answer (called_key m.head) e.sent)) m.head m.carried

-- All lines of these entries, of whatever node, the newest first; and before those of an entry in which this server runs and answers a call
-- that gives promises back, a drop of each fid that the call names
abbrev pub lines_with_gifts : Node → List Entry → List Line
lines_with_gifts s [] = []
lines_with_gifts s (e ∷ past) = onto (onto (lines_with_gifts s past) (returned_in s e (given_message e.lines (sent_of past)) past)) e.lines

-- the number of the last break that became owed in this boot
abbrev pub last_number : Node → List Line → ℕ
last_number s [] = 0
last_number s (lines.Owe q d w n ∷ older) = cond (same_node q s) n (last_number s older)
last_number s (lines.Crash n ∷ older) = cond (same_node n s) 0 (last_number s older)
last_number s (lines.Fault n ∷ older) = cond (same_node n s) 0 (last_number s older)
last_number s (l ∷ older) = last_number s older

-- the server owes the client this break, by lines
abbrev pub HasOwe : Node → Node → Option Fid → List Line → Type 0
HasOwe s c what [] = ⊥
HasOwe s c what (lines.Owe q d w n ∷ ls) = ((q ≡ s) × ((d ≡ c) × (w ≡ what))) ⊎ HasOwe s c what ls
HasOwe s c what (l ∷ ls) = HasOwe s c what ls

-- when a break ends by itself that becomes owed after these lines: with the last grant, or so long after the restart
abbrev pub expiry_of : Node → Node → Option Fid → List Line → Option ℕ
expiry_of s c (Some f) older = promised_until s c f older
expiry_of s c None older = Some (clock_of older + 7200)

abbrev pub HasCome : Option ℕ → ℕ → Type 0
HasCome None clock = ⊥
HasCome (Some expiry) clock = expiry ≤ clock

-- an owed break is ended by this clock: settled or given up, or its server stopped, or its time has come
abbrev pub IsEnded : Node → Node → Option Fid → ℕ → List Line → List Line → ℕ → Type 0
IsEnded s c what n older newer clock = HasSettled s c n newer ⊎ (HasStopped s newer ⊎ HasCome (expiry_of s c what older) clock)

-- ---- all breaks that were owed so far: of the entry `at`, whose lines before and after the owe line these are

abbrev pub Owes : Type 1
Owes = List Entry → Entry → List Entry → List Line → List Line → Node → Option Fid → ℕ → Type 0

abbrev pub AllOwes : Node → Owes → List Entry → Type 0
AllOwes s Q past = (newer : List Entry) (at : Entry) (older : List Entry) (before after : List Line) (c : Node) (what : Option Fid) (n : ℕ) → past ≡ newer ++ (at ∷ older) → at.lines ≡ before ++ lines.Owe s c what n ∷ after
    → Q newer at older before after c what n

abbrev pub EndedBy : Node → ℕ → Owes
EndedBy s clock newer at older before after c what n = IsEnded s c what n (onto (lines_of older) before) (lines_on (onto [] after) newer) clock

-- those of an entry that was given a call of this key are ended
abbrev pub EndedOf : Node → Key → ℕ → Owes
EndedOf s k clock newer at older before after c what n = (boot : ℕ) → IsCallUnder s k boot (given_message at.lines (sent_of older)) → EndedBy s clock newer at older before after c what n

-- those on all are ended
abbrev pub EndedAll : Node → ℕ → Owes
EndedAll s clock newer at older before after c what n = what ≡ None → EndedBy s clock newer at older before after c what n

-- ---- settle and quit

-- the lines, split at the break of this number that the server owes the client in this boot
pub record OweAt (s c : Node) (what : Option Fid) (n : ℕ) (ls : List Line) : Type 0 where
  pub newer : List Line
  pub base : List Line
  pub split : ls ≡ newer ++ (lines.Owe s c what n ∷ base)
  pub up : HasStopped s newer → ⊥

abbrev pub IsNamedIn : Fid → List Fid → Type 0
IsNamedIn f [] = ⊥
IsNamedIn f (g ∷ fs) = (g ≡ f) ⊎ IsNamedIn f fs

abbrev pub NamesIn : Option Fid → List Fid → Type 0
NamesIn None fs = ⊥
NamesIn (Some f) fs = IsNamedIn f fs

abbrev pub CarriesBreak : FsCall → Option Fid → Type 0
CarriesBreak (calls.CallBack fs callbacks) what = NamesIn what fs
CarriesBreak calls.InitCallBackState what = what ≡ None
CarriesBreak call what = ⊥

-- the past, split at the entry that first sent this call to this callee under this key
pub record FirstSent (callee : Node) (k : Key) (user : List ℕ) (call : FsCall) (past : List Entry) : Type 0 where
  pub newer : List Entry
  pub at : Entry
  pub older : List Entry
  pub split : past ≡ newer ++ (at ∷ older)
  pub sent : SendsTo callee k user call at.sent
  pub first : has_sent k (sent_of older) ≡ false

-- A call of the server to the client carries the break. It was first sent after that became owed, or in the same entry, for an entry sends
-- after its lines; and the server hasn't stopped since
pub record IsCarried (s c : Node) (epoch number : ℕ) (what : Option Fid) (n : ℕ) (past : List Entry) : Type 0 where
  pub user : List ℕ
  pub call : FsCall
  pub sent : FirstSent c (record { node = s; epoch = epoch; number = number }) user call past
  pub carries : CarriesBreak call what
  pub owe : OweAt s c what n (lines_of (sent.at ∷ sent.older))
  pub up : HasStopped s (lines_on [] sent.newer) → ⊥

-- and since that call was first sent the client dropped what the break is on
pub record IsGivenUp (s c : Node) (epoch number : ℕ) (what : Option Fid) (n : ℕ) (past : List Entry) : Type 0 where
  pub carried : IsCarried s c epoch number what n past
  pub dropped : HasDrop s c what (lines_on [] carried.sent.newer)

-- the entry, in which the server hasn't stopped, was given a message with a code from the client, under the key of a call that carries the
-- break; and the client dropped what that is on
pub record GoodSettle (s c : Node) (n : ℕ) (past : List Entry) (own : List Line) : Type 0 where
  pub going : HasStopped s own → ⊥
  pub reply : Message
  pub by : given_message own (sent_of past) ≡ Some reply
  pub is : HasCode reply.carried
  pub to : reply.head.to ≡ s
  pub from : reply.head.from ≡ c
  pub what : Option Fid
  pub back : IsGivenUp s c reply.head.epoch reply.head.number what n past

-- a call to the client that carries the break was timed out for the third time in this entry, in which the server hasn't stopped
pub record GoodQuit (s c : Node) (n : ℕ) (past : List Entry) (own : List Line) : Type 0 where
  pub going : HasStopped s own → ⊥
  pub epoch : ℕ
  pub number : ℕ
  pub third : HasTimeout s c epoch number 3 own
  pub what : Option Fid
  pub carried : IsCarried s c epoch number what n past
