pub use Rattle.law_legal.specs.Past.{HasChangeBy, IsLater}
use Rattle.afs_num.specs.declared.location_calls.LocCall.{LocCall}
use Rattle.afs_num.specs.declared.location_calls.LocCall.TheVariants as queries
use Rattle.std.specs.Option.{option_map}
use Rattle.afs_num.specs.Fids.{same_fid}
use Rattle.spec_rows.specs.ServerRow.{promise_ticks}
use Rattle.std.specs.Prelude.{◌&&◌, ◌+◌, Bool, true, ◌≡◌, ℕ, ◌≤◌, ◌<◌, List, [], ◌∷◌, ◌++◌, false, Option, Some, None, ℤ, pos, negsuc, length, ⊤, ◌⊎◌, if◌then◌else◌}
use Rattle.afs_num.specs.Nodes.{same_node}
use Rattle.afs_num.specs.declared.types.Code.{Code}
use Rattle.afs_num.specs.declared.types.Fid.{Fid}
use Rattle.afs_num.specs.declared.types.Head.{Head}
use Rattle.afs_num.specs.declared.types.Key.{Key}
use Rattle.afs_num.specs.declared.types.Node.{Node}
use Rattle.afs_num.specs.declared.types.Node.TheVariants.{Server, Client, Loc}
use Rattle.afs_num.specs.declared.calls.AfsCallBack.{AfsCallBack}
use Rattle.spec_history.specs.declared.acts.Operand.{Operand}
use Rattle.afs_num.specs.declared.location_calls.LocEntry.{LocEntry}
use Rattle.spec_rows.specs.ClientRow.{entry_in, question, volume_asked}
use Rattle.spec_rows.specs.LocRow.{made_for}
use Rattle.afs_num.specs.declared.calls.FsCall.{FsCall}
use Rattle.afs_num.specs.declared.calls.FsCall.TheVariants as calls
use Rattle.afs_num.specs.declared.messages.Carried.{Carried}
use Rattle.afs_num.specs.declared.messages.Message.{Message}
use Rattle.spec_ideal.specs.Operations.{Caller, the_user, Result, refused, changes, no_operation, op, code_of, volume_called, volume_changed}
use Rattle.spec_ideal.specs.Volumes.{Volume, Edit, versions_by}
use Rattle.law_legal.specs.Breaks.{HasDrop, unbroken_until, IsNamedIn, AllOwes, HasEnded, HasStopped, HasTimeout, EndedOf, EndedAll, GoodSettle, GoodQuit, kept_until, lines_with_gifts, HasOwe, last_number}
use Rattle.spec_rows.specs.Going.{Going, Need, answers, asks_for, next, asked, gives_back, reads, reads_rights, reads_status, locates, no_entry, operand_in, volume_at}
use Rattle.law_legal.specs.Grants.{change_below, is_promised, read_reply, GrantOf, since, until, IsWithdrawn, IsChangedByOther, IsDropped}
use Rattle.law_legal.specs.Ideal.{last_version, Unless, set_up_entry, IsLast, WasLast, HasBeen, HasVersion, IsAccepted, clock_of, user_of, highest_seen, change_in, change_key, call_under, callee_under, volume_after}
use Rattle.spec_history.specs.declared.acts.Act.TheVariants as acts
use Rattle.spec_history.specs.declared.lines.Line.{Line}
use Rattle.spec_rows.specs.Runs.{locations, message_at}
use Rattle.law_legal.specs.Lives.{IsDelivered, IsHostLived, epoch_after, last_written}
use Rattle.spec_model.specs.CellRows as cell_rows
use Rattle.law_legal.specs.Past.{onto, HasBoot, IsLatest, IsUpTo, WasSent, has_sent, has_called, is_down, last_boot, is_new_to_act, called_key, last_call, HasCode, IsCall, IsFirstOfItsBoot, is_of_act, lines_of, sent_of, given_message, answered_key, code_told, IsReply, running, has_begun, has_given, Called, CalledSince, IsCallUnder, Ran, server_boot, AreWithin, AskedSince}
use Rattle.spec_rows.specs.Runs.{Entry}
use Rattle.spec_history.specs.declared.scripts.Script.{Script}
use Rattle.afs_num.specs.declared.histories.Actor.{Actor}
use Rattle.afs_num.specs.declared.histories.Actor.TheVariants as actors
use Rattle.afs_num.specs.declared.histories.Body.{Body}
use Rattle.afs_num.specs.declared.histories.Body.TheVariants as bodies
use Rattle.afs_num.specs.declared.histories.ReadBody.{ReadBody}
use Rattle.afs_num.specs.declared.histories.ReadBody.TheVariants as shows
use Rattle.afs_num.specs.declared.histories.ReadSource.{ReadSource}
use Rattle.afs_num.specs.declared.histories.ReadSource.TheVariants.{Cached, Fetched}
use Rattle.afs_num.specs.declared.histories.Version.{Version}
use Rattle.afs_num.specs.declared.messages.Carried.TheVariants as carried
use Rattle.afs_num.specs.declared.types.Half.TheVariants as halves
use Rattle.afs_num.specs.declared.messages.Call.TheVariants as ask
use Rattle.afs_num.specs.declared.messages.Reply.TheVariants as tell
use Rattle.spec_model.specs.FsRows.{call_number, reply_number}
use Rattle.spec_history.specs.declared.lines.Line.TheVariants as lines

-- Which histories are legal: those of which each line is good after all that stands before it.
-- `who` is the entry's node, `past` are the entries before, the newest first, `own` the entry's own lines before, the
-- newest first, and `next` its lines after.

-- ---- acts

-- an act runs at the client
pub record HasAct (s : Script) (c : Node) (past : List Entry) (own : List Line) : Type 0 where
  pub act : Going
  pub runs : running s c (own ++ lines_of past) ≡ Some act

-- the act began in this entry, which was given no message: what it read was in the cache, and it called nobody
abbrev pub IsAtOnce : Node → List Line → Type 0
IsAtOnce c own = (has_begun c own ≡ true) × (has_given own ≡ false)

-- the client read something in these lines
abbrev pub has_read : Node → List Line → Bool
has_read c [] = false
has_read c (lines.Read m f index source body ∷ own) = if same_node m c then true else has_read c own
has_read c (l ∷ own) = has_read c own

-- none of these messages is a call of the key's node under a later key
abbrev pub IsLastCall : Key → List Message → Type 0
IsLastCall k [] = ⊤
IsLastCall k (m ∷ ms) = (IsCall m.carried → m.head.from ≡ k.node → IsUpTo m.head.epoch m.head.number k.epoch k.number) × IsLastCall k ms

-- the entry was given a reply with code 0, by the first callee of the client's last call, which it sent for its user since it last began an act, in
-- an entry before
pub record HasUsed (s : Script) (c : Node) (past : List Entry) (own : List Line) : Type 0 where
  pub reply : Message
  pub by : given_message own (sent_of past) ≡ Some reply
  pub is_reply : IsReply reply
  pub told : code_told reply.carried ≡ Some (pos 0)
  pub to : reply.head.to ≡ c
  pub before : has_begun c own ≡ false
  pub call : FsCall
  pub called : CalledSince (answered_key reply.head) (user_of s c) call past
  pub from : callee_under (answered_key reply.head) (sent_of past) ≡ Some reply.head.from
  pub last : IsLastCall (answered_key reply.head) (sent_of past)

-- the act is on its way: it began in this entry, which was given nothing; or the entry was given a reply with code 0 to its call, and reads something
abbrev pub GoesOn : Script → Node → List Entry → List Line → Type 0
GoesOn s c past own = IsAtOnce c own ⊎ (HasUsed s c past own × (has_read c own ≡ true))

-- ---- reads

-- a call whose reply brings this of the object: its contents, or its status, by itself or among several
abbrev pub Brings : FsCall → Fid → ReadBody → Type 0
Brings (calls.FetchData g position wanted) f (shows.Contents body) = g ≡ f
Brings (calls.FetchStatus g) f (shows.Status status) = g ≡ f
Brings (calls.BulkStatus fids) f (shows.Status status) = IsNamedIn f fids
Brings call f body = ⊥

-- the entry was given a reply with code 0 to such a call of the running act
pub record IsUse (s : Script) (c : Node) (f : Fid) (body : ReadBody) (past : List Entry) (own : List Line) : Type 0 where
  pub used : HasUsed s c past own
  pub of : Brings used.call f body

-- a call that makes this the body of the object
abbrev pub Stores : FsCall → Fid → Body → Type 0
Stores (calls.StoreData g status position wanted file_length contents) f body = (g ≡ f) × (body ≡ bodies.File contents)
Stores call f body = ⊥

abbrev pub StoresBy : Option Going → Fid → Body → Type 0
StoresBy None f body = ⊥
StoresBy (Some act) f body = Stores (asked act) f body

-- a call that sets the status or the rights of an object, and leaves what is in it
abbrev pub Sets : FsCall → Fid → Type 0
Sets (calls.StoreStatus g status) f = g ≡ f
Sets (calls.StoreAcl g acl) f = g ≡ f
Sets call f = ⊥

abbrev pub SetsBy : Option Going → Fid → Type 0
SetsBy None f = ⊥
SetsBy (Some act) f = Sets (asked act) f

-- it is a change of this node's own call
abbrev pub IsOwnChange : Node → Option (Node × Key) → Type 0
IsOwnChange c None = ⊥
IsOwnChange c (Some change) = change.1.node ≡ c

-- by these lines, the newest first, a call of the client's own made the version of this index since the client last began an act
abbrev pub HasMadeItself : Node → Fid → ℕ → List Line → Type 0
HasMadeItself c f index [] = ⊥
HasMadeItself c f index (lines.Version v ∷ older) = ((v.fid ≡ f) × ((v.index ≡ index) × IsOwnChange c (change_below older))) ⊎ HasMadeItself c f index older
HasMadeItself c f index (lines.Begin m act ∷ older) = Unless (same_node m c) (HasMadeItself c f index older)
HasMadeItself c f index (l ∷ older) = HasMadeItself c f index older

-- a call that stores into just this object: its contents, its rights or its mode. Its reply tells the object's status
abbrev pub StoresInto : FsCall → Fid → Type 0
StoresInto (calls.StoreData g status position wanted file_length contents) f = g ≡ f
StoresInto (calls.StoreAcl g acl) f = g ≡ f
StoresInto (calls.StoreStatus g status) f = g ≡ f
StoresInto call f = ⊥

abbrev pub StoresIntoBy : Option Going → Fid → Type 0
StoresIntoBy None f = ⊥
StoresIntoBy (Some act) f = StoresInto (asked act) f

-- an act that asks for a change of this volume
abbrev pub ChangesIn : ℕ → Option Going → Type 0
ChangesIn id None = ⊥
ChangesIn id (Some act) = volume_changed (asked act) ≡ Some id

-- The client times a server's call out for the third time, by which its act asks for a change of the volume. Whether that was made it doesn't know
abbrev pub Loses : Script → Node → ℕ → Node → Node → ℕ → List Line → Type 0
Loses s c id n callee count older = (n ≡ c) × ((count ≡ 3) × ((callee ≡ Loc → ⊥) × ChangesIn id (running s c older)))

-- By these lines, the newest first, the version of this index came to the client since it last crashed, or gave up a change in its volume: by a read of
-- its contents or its status that was fetched; or by an act that asks for a store into just this object, and was answered 0 after a call of the client's
-- own had made the version since the act began
abbrev pub HasLearned : Script → Node → Fid → ℕ → List Line → Type 0
HasLearned s c f index [] = ⊥
HasLearned s c f index (lines.Read m g i source shown ∷ older) = ((m ≡ c) × ((g ≡ f) × ((i ≡ index) × ((source ≡ Fetched) × (is_promised shown ≡ true))))) ⊎ HasLearned s c f index older
HasLearned s c f index (lines.Answer m code ∷ older) = ((m ≡ c) × ((code.0 ≡ pos 0) × (StoresIntoBy (running s c older) f × HasMadeItself c f index older))) ⊎ HasLearned s c f index older
HasLearned s c f index (lines.Timeout n callee epoch number count ∷ older) = (Loses s c f.volume n callee count older → ⊥) × HasLearned s c f index older
HasLearned s c f index (lines.Crash n ∷ older) = Unless (same_node n c) (HasLearned s c f index older)
HasLearned s c f index (l ∷ older) = HasLearned s c f index older

-- By these lines, the newest first, this body came to the client as that of the version of this index, and since then it neither dropped the object,
-- nor gave up a change in its volume, nor crashed. It came by a read that was fetched; or by an own act that made the version and was answered 0: a
-- store of the whole, or a setting of the status or the rights, over contents that had come as those of the index below. What drops all of a server
-- drops the objects of its volumes
abbrev pub HasBrought : Script → Node → Fid → ℕ → Body → List Line → Type 0
HasBrought s c f index body [] = ⊥
HasBrought s c f index body (lines.Read m g i source shown ∷ older) = ((m ≡ c) × ((g ≡ f) × ((i ≡ index) × ((source ≡ Fetched) × (shown ≡ shows.Contents body))))) ⊎ HasBrought s c f index body older
HasBrought s c f index body (lines.Answer m code ∷ older) =
    ((m ≡ c) × ((code.0 ≡ pos 0) × (HasMadeItself c f index older × (StoresBy (running s c older) f body ⊎ ((below : ℕ) × ((index ≡ below + 1) × (SetsBy (running s c older) f × HasBrought s c f below body older))))))) ⊎ HasBrought s c f index body older
HasBrought s c f index body (lines.Drop m g ∷ older) = Unless (same_node m c && same_fid g f) (HasBrought s c f index body older)
HasBrought s c f index body (lines.DropAll m server ∷ older) = (m ≡ c → IsAccepted s f.volume server older → ⊥) × HasBrought s c f index body older
HasBrought s c f index body (lines.Timeout n callee epoch number count ∷ older) = (Loses s c f.volume n callee count older → ⊥) × HasBrought s c f index body older
HasBrought s c f index body (lines.Crash n ∷ older) = Unless (same_node n c) (HasBrought s c f index body older)
HasBrought s c f index body (l ∷ older) = HasBrought s c f index body older

-- contents came to the client as just this body of that version, and it has them still
abbrev pub AreBrought : Script → Node → Fid → ℕ → ReadBody → List Line → Type 0
AreBrought s c f index (shows.Contents body) ls = HasBrought s c f index body ls
AreBrought s c f index body ls = ⊤

-- what is read from the cache came to the client: the version of this index, and contents
abbrev pub IsBrought : Script → Node → Fid → ℕ → ReadSource → ReadBody → List Line → Type 0
IsBrought s c f index Cached body ls = HasLearned s c f index ls × AreBrought s c f index body ls
IsBrought s c f index Fetched body ls = ⊤

-- a version of this index was told, whatever its body
abbrev pub HasIndex : Fid → ℕ → List Line → Type 0
HasIndex f index ls = (body : Body) × HasVersion f index body ls

-- a vnode that is gone shows nothing
abbrev pub IsThere : Body → Type 0
IsThere bodies.Gone = ⊥
IsThere body = ⊤

-- what a read shows is that of a version: its body, or what its vnode had beside it
abbrev pub Shows : Fid → ℕ → ReadBody → List Entry → List Line → Type 0
Shows f index (shows.Contents body) past own = IsThere body × HasVersion f index body (own ++ lines_of past)
Shows f index body past own = HasIndex f index (own ++ lines_of past) × HasBeen f index body past

-- A read shows one stored version, whole. It is not older than what the client saw, or than the last one when the promise was made. The
-- promise is of the server that accepts stores of the volume; it lasts, and since then the client didn't drop what it is on. The version is the
-- last one, unless the promise was withdrawn. A fetched read has a reply with code 0 to a call of the running act for such a thing, and shows
-- the version that the promise tells; the promise was made where that call ran. A cached read is of a version that came to the client before, and
-- its contents came too
pub record GoodRead (s : Script) (c : Node) (f : Fid) (index : ℕ) (source : ReadSource) (body : ReadBody) (past : List Entry) (own : List Line) : Type 0 where
  pub whole : Shows f index body past own
  pub not_older : highest_seen c f past own ≤ index
  pub used : source ≡ Fetched → IsUse s c f body past own
  pub brought : IsBrought s c f index source body (own ++ lines_of past)
  pub reply : Message
  pub by : read_reply c f source past own ≡ Some reply
  pub expiry : ℕ
  pub grant : GrantOf c f expiry reply past
  pub exact : source ≡ Fetched → grant.index ≡ index
  pub home : IsAccepted s f.volume grant.server (until c f expiry reply past grant)
  pub granted : (v : Version) → last_version f (until c f expiry reply past grant) ≡ Some v → v.index ≤ index
  pub lasts : clock_of (own ++ lines_of past) < expiry
  pub kept : IsDropped grant.server c f (own ++ since c f expiry reply past grant) → ⊥
  pub newest : IsWithdrawn grant.server c f (own ++ since c f expiry reply past grant) ⊎ IsLast f index (own ++ lines_of past)

-- ---- changes

-- no change has this key
abbrev pub IsNot : Key → Option Key → Type 0 → Type 0
IsNot k None before = before
IsNot k (Some l) before = (k ≡ l → ⊥) × before

abbrev pub IsNew : Key → List Line → Type 0
IsNew k [] = ⊤
IsNew k (l ∷ older) = IsNot k (change_in l) (IsNew k older)

-- a change under this key is among the lines
abbrev pub IsKey : Key → Option Key → Type 0 → Type 0
IsKey k None before = before
IsKey k (Some l) before = (l ≡ k) ⊎ before

abbrev pub HasChange : Key → List Line → Type 0
HasChange k [] = ⊥
HasChange k (l ∷ ls) = IsKey k (change_in l) (HasChange k ls)

-- the versions that stand first
abbrev pub versions_first : List Line → List Version
versions_first (lines.Version v ∷ ls) = v ∷ versions_first ls
versions_first ls = []

abbrev pub IsChanged : Fid → List Version → Type 0
IsChanged f [] = ⊥
IsChanged f (v ∷ vs) = (v.fid ≡ f) ⊎ IsChanged f vs

-- among these lines, which come later in an entry, the server begins again, or its disk fails or has no room for that: the entry is a restart
abbrev pub IsOfRestart : Node → List Line → Type 0
IsOfRestart s [] = ⊥
IsOfRestart s (lines.Restart n boot ∷ next) = (n ≡ s) ⊎ IsOfRestart s next
IsOfRestart s (lines.Fault n ∷ next) = (n ≡ s) ⊎ IsOfRestart s next
IsOfRestart s (lines.Full n ∷ next) = (n ≡ s) ⊎ IsOfRestart s next
IsOfRestart s (l ∷ next) = IsOfRestart s next

-- in these entries the server did nothing but begin restarts in which its disk failed at once
abbrev pub AreFailed : Node → List Entry → Type 0
AreFailed s [] = ⊤
AreFailed s (e ∷ past) = (e.actor ≡ actors.Node s → e.lines ≡ lines.Fault s ∷ []) × AreFailed s past

-- This entry was given a call of the key to the node, a server, a client or the location database, and to the boot or epoch in which that is: the first in
-- that boot, and before any later call of the key's node. What a server changed for the key's node before, in whichever boot, it changed under earlier keys
pub record RunsHere (server : Node) (k : Key) (past : List Entry) (own : List Line) : Type 0 where
  pub boot : ℕ
  pub up : server_boot server (lines_of past) ≡ Some boot
  pub given : IsCallUnder server k boot (given_message own (sent_of past))
  pub first : IsFirstOfItsBoot server k boot past
  pub latest : IsLatest server k (lines_of past)

-- the server stopped in the entry that was given it; and this one is the restart that finds what that step left, which it tells
-- first
pub record RanBefore (server : Node) (k : Key) (past : List Entry) (own next : List Line) : Type 0 where
  pub alone : own ≡ []
  pub boots : IsOfRestart server next
  pub newer : List Entry
  pub at : Entry
  pub older : List Entry
  pub split : past ≡ newer ++ (at ∷ older)
  pub actor : at.actor ≡ actors.Node server
  pub ran : RunsHere server k older at.lines
  pub stopped : HasStopped server at.lines
  pub since : AreFailed server newer

-- A change runs a key for the first time, at a server that accepts stores of the volume, is the only one of its entry, and is later than
-- what the server changed before for the same node. Its entry ran the key's call, or is the restart after the one that was interrupted
-- in that. The call was sent by its node, for its user, and is that of the act that ran there, with the act's own bytes. The versions
-- that follow are just those of the ideal operation on the ideal volume
pub record IdealChange (s : Script) (server : Node) (k : Key) (count : ℕ) (past : List Entry) (own next : List Line) : Type 0 where
  pub fresh : IsNew k (own ++ lines_of past)
  pub latest : IsLatest server k (own ++ lines_of past)
  pub place : RunsHere server k past own ⊎ RanBefore server k past own next
  pub going : HasStopped server own → ⊥
  pub only : change_key own ≡ None
  pub user : List ℕ
  pub call : FsCall
  pub act : Going
  pub called : Called s k user call act past
  pub one : call_under k (sent_of past) ≡ Some (user, call)
  pub own_user : user ≡ user_of s k.node
  pub own_call : call ≡ asked act
  pub id : ℕ
  pub of_volume : volume_called call ≡ Some id
  pub before : Volume
  pub at : volume_after id past ≡ Some before
  pub edits : List Edit
  pub shown : ℕ
  pub result : op id (the_user user) call before ≡ changes edits shown
  pub versions : versions_first next ≡ versions_by id edits before
  pub number : count ≡ length (versions_first next)
  pub home : IsAccepted s id server (own ++ lines_of past)

-- A change is the ideal one, and the only one of its act. `once`: while any act runs at the key's node, this server changed nothing before under
-- a key of that act. `alone`: no server changed anything before under another key of the act to which this key belongs, were that long over.
-- `owed`: after the change stands a break for each other client whose last promise on one of the fids that change lasts, and isn't broken already
pub record GoodChange (s : Script) (server : Node) (k : Key) (count : ℕ) (past : List Entry) (own next : List Line) : Type 0 where
  pub ideal : IdealChange s server k count past own next
  pub once : (a : Going) → running s k.node (lines_of past) ≡ Some a → (l : Key) → HasChangeBy server l (lines_of past) → is_of_act k.node l past ≡ true → ⊥
  pub alone : (newer older : List Entry) → past ≡ newer ++ older → is_of_act k.node k older ≡ true → (l : Key) → HasChange l (lines_of past) → is_of_act k.node l older ≡ true → ⊥
  pub owed : (j : ℕ) (f : Fid) (x : ℕ) → (Client j ≡ k.node → ⊥) → IsChanged f (versions_first next) → kept_until server (Client j) f (own ++ lines_with_gifts server past) ≡ Some x → clock_of (own ++ lines_of past) < x → HasOwe server (Client j) (Some f) next

-- the server began again in this entry
abbrev pub HasRisen : Node → List Line → Type 0
HasRisen s [] = ⊥
HasRisen s (lines.Restart n boot ∷ own) = (n ≡ s) ⊎ HasRisen s own
HasRisen s (l ∷ own) = HasRisen s own

-- a client that the script has
abbrev pub IsClientOf : Script → Node → Type 0
IsClientOf s (Client j) = (1 ≤ j) × (j ≤ s.clients)
IsClientOf s n = ⊥

-- a promise of the server to the client on f, made in an entry before, lasts; and since then no break of it became owed, nor did the server
-- stop. What this entry owes already isn't looked at
abbrev pub IsUnbroken : Node → Node → Fid → List Entry → Type 0
IsUnbroken server c f past = (expiry : ℕ) × ((unbroken_until server c f (lines_of past) ≡ Some expiry) × (clock_of (lines_of past) < expiry))

-- why a break becomes owed: the server began again, and each client of the script is owed one on all; or another node's call changed a
-- fid in this entry that the client is promised. No line fences or moves a volume yet, which would be a cause too
abbrev pub IsOwedFor : Script → Node → Node → Option Fid → List Entry → List Line → Type 0
IsOwedFor s server c None past own = HasRisen server own × IsClientOf s c
IsOwedFor s server c (Some f) past own = IsChangedByOther server c f own × IsUnbroken server c f past

-- a break becomes owed at a server that hasn't stopped in this entry, under the number after that of its last one in this boot
pub record GoodOwe (s : Script) (server c : Node) (what : Option Fid) (n : ℕ) (past : List Entry) (own : List Line) : Type 0 where
  pub going : HasStopped server own → ⊥
  pub number : n ≡ last_number server (own ++ lines_of past) + 1
  pub cause : IsOwedFor s server c what past own

-- no entry owes a client two breaks on one thing, and in a boot no number is settled or given up twice
abbrev pub IsForOnce : Line → List Entry → List Line → Type 0
IsForOnce (lines.Owe server c what n) past own = HasOwe server c what own → ⊥
IsForOnce (lines.Settle server c n) past own = HasEnded server n (own ++ lines_of past) → ⊥
IsForOnce (lines.Quit server c n) past own = HasEnded server n (own ++ lines_of past) → ⊥
IsForOnce l past own = ⊤

abbrev pub AreForOnce : List Entry → List Line → List Line → Type 0
AreForOnce past own [] = ⊤
AreForOnce past own (l ∷ next) = IsForOnce l past own × AreForOnce past (l ∷ own) next

-- a version stands under its change; that these are not too many is said of the change
abbrev pub IsUnderChange : List Line → Type 0
IsUnderChange (lines.Change s k count ∷ own) = ⊤
IsUnderChange (lines.Version v ∷ own) = IsUnderChange own
IsUnderChange own = ⊥

-- ---- answers

-- the ideal operation on a volume; one that isn't there is 103
abbrev pub op_on : ℕ → Caller → FsCall → Option Volume → Result
op_on id caller call None = refused 103
op_on id caller call (Some v) = op id caller call v

-- what the ideal operation makes of a call by the ideal volume of a moment; none where no volume serves the call
abbrev pub answer_on : List ℕ → FsCall → Option ℕ → List Entry → Option Result
answer_on user call None past = None
answer_on user call (Some id) past = Some (op_on id (the_user user) call (volume_after id past))

-- several statuses: each on the volume of its fid, and the first refusal counts
abbrev pub all_on : Result → Result → Result
all_on (refused code) r = refused code
all_on q r = r

abbrev pub statuses_on : Caller → List Fid → List Entry → Result
statuses_on caller [] past = no_operation
statuses_on caller (f ∷ fs) past = all_on (op_on f.volume caller (calls.FetchStatus f) (volume_after f.volume past)) (statuses_on caller fs past)

-- what the time is, and that promises are given up, needs no volume
abbrev pub ideal_answer : List ℕ → FsCall → List Entry → Option Result
ideal_answer user (calls.GiveUpCallBacks fids callbacks) past = Some no_operation
ideal_answer user calls.GetTime past = Some no_operation
ideal_answer user (calls.BulkStatus fids) past = Some (statuses_on (the_user user) fids past)
ideal_answer user call past = answer_on user call (volume_called call) past

-- a call that no volume serves is -455
abbrev pub code_given : Option Result → ℤ
code_given None = negsuc 454
code_given (Some r) = pos (code_of r)

-- where that is a change, it was told
abbrev pub ChangeIsTold : Key → Option Result → List Line → Type 0
ChangeIsTold k (Some (changes es shown)) ls = HasChange k ls
ChangeIsTold k r ls = ⊤

-- the ideal operation makes versions
abbrev pub IsChanging : Option Result → Type 0
IsChanging (Some (changes es shown)) = ⊤
IsChanging r = ⊥

-- A reply's code, where `r` is what the ideal operation makes of its call, `ran` are the lines of the entry that ran the call, and `ls` all lines
-- so far. It is the code of the ideal operation, and what that changes was told. Or it is 108, for a change: the server had no room. Then the
-- entry that ran the call tells none under its key, and wasn't interrupted, so that no restart told what that step left. Whether there was room no
-- line tells
abbrev pub IsResult : Node → ℤ → Option Result → Key → List Line → List Line → Type 0
IsResult server code r k ran ls = ((code_given r ≡ code) × ChangeIsTold k r ls) ⊎ ((code ≡ pos 108) × (IsChanging r × ((HasChange k ran → ⊥) × (HasStopped server ran → ⊥))))

-- the call as its act asks it: which promises are given back no act tells
abbrev pub as_asked : FsCall → FsCall
as_asked (calls.GiveUpCallBacks fids callbacks) = calls.GiveUpCallBacks [] []
as_asked call = call

-- the reply has this code, and so has the ideal operation where the call ran, or the code is 108 for a change; the call is the one that the act asks;
-- and where the operation makes versions and the code is its own, their change stands before
pub record Cause (reply : Message) (code : ℤ) (asks_for : FsCall) (past : List Entry) (own : List Line) : Type 0 where
  pub is_reply : IsReply reply
  pub told : code_told reply.carried ≡ Some code
  pub ran : Ran reply.head past
  pub user : List ℕ
  pub call : FsCall
  pub carries : ran.message.carried ≡ carried.Call user (ask.File call)
  pub asks : as_asked call ≡ asks_for
  pub result : IsResult reply.head.from code (ideal_answer user call ran.older) (answered_key reply.head) ran.at.lines (own ++ lines_of past)

-- Rights are read without a promise: the act needs them, and the entry was given a reply with code 0 to its call for them. That is the code of the
-- ideal operation where the call ran, for the client's user. The read is whole, and not older than any that the client has seen. It shows the
-- version that was the last one where that call ran, and so at some line since the act began
pub record GoodRights (s : Script) (c : Node) (f : Fid) (index : ℕ) (source : ReadSource) (body : ReadBody) (past : List Entry) (own : List Line) : Type 0 where
  pub fetched : source ≡ Fetched
  pub act : Going
  pub runs : running s c (own ++ lines_of past) ≡ Some act
  pub needs : next act ≡ reads_rights f
  pub used : HasUsed s c past own
  pub asks : used.call ≡ asked act
  pub whole : Shows f index body past own
  pub not_older : highest_seen c f past own ≤ index
  pub was : WasLast c f index (own ++ lines_of past)
  pub cause : Cause used.reply (pos 0) (asked act) past own
  pub own_user : cause.user ≡ user_of s c
  pub exact : IsLast f index (lines_of cause.ran.older)

-- an act reads from the cache where it begins, or goes on by a reply, after what that brought
abbrev pub IsOnItsWay : Script → Node → ReadSource → List Entry → List Line → Type 0
IsOnItsWay s c Cached past own = GoesOn s c past own
IsOnItsWay s c Fetched past own = ⊤

abbrev pub GoodReadBy : Script → Bool → Node → Fid → ℕ → ReadSource → ReadBody → List Entry → List Line → Type 0
GoodReadBy s true c f index source body past own = GoodRead s c f index source body past own × IsOnItsWay s c source past own
GoodReadBy s false c f index source body past own = GoodRights s c f index source body past own

-- the act ends with what it needs next: where the reply to that has code 0, so has the act. After what it reads it goes on
abbrev pub EndsAct : Need → Type 0
EndsAct (asks_for call) = ⊤
EndsAct gives_back = ⊤
EndsAct need = ⊥

-- the reply that the answer's entry was given is the cause of the code, and its call is the client's last one, of this very act: the
-- client sent it for its user since the act began, which was in an entry before. (So its server ran it since then, for no act before used
-- its key.) The code is 0 only where the act ends with this call
pub record IsCaused (s : Script) (c : Node) (act : Going) (code : ℤ) (past : List Entry) (own : List Line) : Type 0 where
  pub reply : Message
  pub by : given_message own (sent_of past) ≡ Some reply
  pub to : reply.head.to ≡ c
  pub cause : Cause reply code (asked act) past own
  pub own_user : cause.user ≡ user_of s c
  pub before : has_begun c own ≡ false
  pub called : CalledSince (answered_key reply.head) cause.user cause.call past
  pub last : IsLastCall (answered_key reply.head) (sent_of past)
  pub ends : code ≡ pos 0 → EndsAct (next act)

-- the act needs no more, and answers so by its read lines; it began in this entry, which was given nothing, or the entry was
-- given a reply with code 0 to its call, and reads something
pub record IsDone (s : Script) (c : Node) (act : Going) (code : ℤ) (past : List Entry) (own : List Line) : Type 0 where
  pub number : ℕ
  pub is : code ≡ pos number
  pub by : next act ≡ answers number
  pub last : GoesOn s c past own

-- the act needs something still
abbrev pub IsOpen : Need → Type 0
IsOpen (locates o) = ⊥
IsOpen (answers code) = ⊥
IsOpen need = ⊤

-- the act isn't at its end, and a call that it needs now, which its client sent since it began, was timed out for the third time in this entry
pub record IsDead (s : Script) (c : Node) (act : Going) (code : ℤ) (past : List Entry) (own : List Line) : Type 0 where
  pub is : code ≡ negsuc 0
  pub callee : Node
  pub epoch : ℕ
  pub number : ℕ
  pub third : HasTimeout c callee epoch number 3 own
  pub before : has_begun c own ≡ false
  pub call : FsCall
  pub asks : as_asked call ≡ asked act
  pub unended : IsOpen (next act)
  pub to : WasSent callee (record { node = c; epoch = epoch; number = number }) (user_of s c) call past
  pub called : CalledSince (record { node = c; epoch = epoch; number = number }) (user_of s c) call past

-- the client gave up a fid by itself
abbrev pub has_dropped : Node → List Line → Bool
has_dropped c [] = false
has_dropped c (lines.Drop m f ∷ own) = if same_node m c then true else has_dropped c own
has_dropped c (l ∷ own) = has_dropped c own

-- the act gives promises back, and is answered in the entry in which it began, where it gave up nothing; what its client was promised no line tells
pub record GivesNothingUp (c : Node) (act : Going) (code : ℤ) (own : List Line) : Type 0 where
  pub is : code ≡ pos 0
  pub by : next act ≡ gives_back
  pub begun : has_begun c own ≡ true
  pub none : has_dropped c own ≡ false

-- ---- promises that are given back

-- the fids that the client gave up by themselves in these lines
abbrev pub drops_in : Node → List Line → List Fid
drops_in c [] = []
drops_in c (lines.Drop m f ∷ ls) = if same_node m c then f ∷ drops_in c ls else drops_in c ls
drops_in c (l ∷ ls) = drops_in c ls

-- those of the entry in which it last began an act
abbrev pub dropped_first : Node → List Entry → List Fid
dropped_first c [] = []
dropped_first c (e ∷ past) = if has_begun c e.lines then drops_in c e.lines else dropped_first c past

-- a call that the client sent since it began its act names f among what it gives back
pub record IsGivenBack (s : Script) (c : Node) (past : List Entry) (f : Fid) : Type 0 where
  pub key : Key
  pub node : key.node ≡ c
  pub fids : List Fid
  pub callbacks : List AfsCallBack
  pub called : CalledSince key (user_of s c) (calls.GiveUpCallBacks fids callbacks) past
  pub named : IsNamedIn f fids

-- an act that gives promises back is answered 0, in a later entry than that in which it began, only where its calls named all that
-- its client gave up when it began
abbrev pub GivesAllBack : Script → Node → ℤ → List Entry → List Line → Type 0
GivesAllBack s c code past own = (act : Going) (f : Fid) → running s c (own ++ lines_of past) ≡ Some act → act.act ≡ acts.GiveUp → code ≡ pos 0 → has_begun c own ≡ false → IsNamedIn f (dropped_first c past) → IsGivenBack s c past f

-- and it is answered so late, with whichever code, only where its client gave up something when it began
abbrev pub GivesSomeBack : Script → Node → List Entry → List Line → Type 0
GivesSomeBack s c past own = (act : Going) → running s c (own ++ lines_of past) ≡ Some act → act.act ≡ acts.GiveUp → has_begun c own ≡ false → dropped_first c past ≡ [] → ⊥

-- ---- answers behind a call of the location database

-- The entry was given the database's reply to what this very act asked it, for its user, since it began, which was in an entry before. The reply tells
-- that call's opcode, and that is the client's last call
pub record HasHeard (s : Script) (c : Node) (o : Operand) (past : List Entry) (own : List Line) : Type 0 where
  pub reply : Message
  pub by : given_message own (sent_of past) ≡ Some reply
  pub is_reply : IsReply reply
  pub from : reply.head.from ≡ Loc
  pub to : reply.head.to ≡ c
  pub before : has_begun c own ≡ false
  pub opcode : reply.head.opcode ≡ cell_rows.call_number (ask.Location (question o))
  pub called : AskedSince (answered_key reply.head) (user_of s c) (question o) past
  pub last : IsLastCall (answered_key reply.head) (sent_of past)

-- The database has no such volume: it refuses with this code, or it tells an entry, in which the client finds no number of the volume. No line tells
-- entries yet, so what it should have told isn't asked
abbrev pub IsNowhere : ℤ → Carried → Type 0
IsNowhere code (carried.Refusal other) = code ≡ other.0
IsNowhere code (carried.Reply reply) = ⊤
IsNowhere code x = ⊥

-- the act needs to know where a volume is, and the database, which was asked for it, has none, for the script has none: 363524
pub record IsUnlisted (s : Script) (c : Node) (act : Going) (code : ℤ) (past : List Entry) (own : List Line) : Type 0 where
  pub operand : Operand
  pub needs : next act ≡ locates operand
  pub heard : HasHeard s c operand past own
  pub is : code ≡ pos no_entry
  pub none : volume_at (locations s) operand ≡ None
  pub told : IsNowhere code heard.reply.carried

-- the server has no such volume, or not any more
abbrev pub IsGoneNumber : ℤ → Type 0
IsGoneNumber code = (code ≡ pos 103) ⊎ (code ≡ pos 111)

-- In an entry since its act began the client was given a server's reply with this code to the act's call, and the code has its cause:
-- 103 or 111, that it has no such volume, or not any more.
pub record WasRefused (s : Script) (c : Node) (act : Going) (code : ℤ) (past : List Entry) (own : List Line) : Type 0 where
  pub gone : IsGoneNumber code
  pub newer : List Entry
  pub at : Entry
  pub older : List Entry
  pub split : past ≡ newer ++ (at ∷ older)
  pub within : AreWithin c (newer ++ (at ∷ []))
  pub actor : at.actor ≡ actors.Node c
  pub reply : Message
  pub by : given_message at.lines (sent_of older) ≡ Some reply
  pub to : reply.head.to ≡ c
  pub cause : Cause reply code (asked act) past own
  pub own_user : cause.user ≡ user_of s c
  pub called : CalledSince (answered_key reply.head) cause.user cause.call older

-- the operand in whose volume the act calls
abbrev pub IsOperandOf : Going → Operand → Type 0
IsOperandOf act operand = operand_in act (volume_asked (asked act)) ≡ Some operand

-- an act asks the database where it needs to know where a volume is, or where a server told of the volume of its call that it has none
abbrev pub MayAsk : Script → Node → Going → Operand → List Entry → List Line → Type 0
MayAsk s c act operand past own = (next act ≡ locates operand) ⊎ ((left : ℤ) × (WasRefused s c act left past own × IsOperandOf act operand))

-- what the act asked the database was timed out for the third time in this entry: that call is dead
pub record IsUnheardOf (s : Script) (c : Node) (act : Going) (code : ℤ) (past : List Entry) (own : List Line) : Type 0 where
  pub is : code ≡ negsuc 0
  pub epoch : ℕ
  pub number : ℕ
  pub third : HasTimeout c Loc epoch number 3 own
  pub before : has_begun c own ≡ false
  pub operand : Operand
  pub called : AskedSince (record { node = c; epoch = epoch; number = number }) (user_of s c) (question operand) past
  pub why : MayAsk s c act operand past own

-- it refused with this code
abbrev pub IsRefusedWith : ℤ → Carried → Type 0
IsRefusedWith code (carried.Refusal other) = code ≡ other.0
IsRefusedWith code x = ⊥

-- it tells an entry
abbrev pub TellsEntry : Carried → Type 0
TellsEntry (carried.Reply (tell.Location reply)) = (e : LocEntry) × (entry_in reply ≡ Some e)
TellsEntry x = ⊥

-- A server told that it has no such volume, or not any more; and the database was asked where that is, and tells an entry. That names no other server, so
-- the server's code is the answer. Or it has none, and refuses: 363524. (Where it had moved, the act would go on: none does yet.)
pub record IsGone (s : Script) (c : Node) (act : Going) (code : ℤ) (past : List Entry) (own : List Line) : Type 0 where
  pub left : ℤ
  pub refused : WasRefused s c act left past own
  pub operand : Operand
  pub its : IsOperandOf act operand
  pub heard : HasHeard s c operand past own
  pub is : ((code ≡ left) × TellsEntry heard.reply.carried) ⊎ ((code ≡ pos no_entry) × IsRefusedWith code heard.reply.carried)

-- An act runs, and its answer has its cause: the reply to its call, for 0 that it was done from the cache or that there was nothing to
-- give back, or for -1 that its call was given up; or what the location database told, or that it told nothing. Where promises are
-- given back, 0 tells that all were
pub record GoodCode (s : Script) (c : Node) (code : Code) (past : List Entry) (own : List Line) : Type 0 where
  pub act : Going
  pub runs : running s c (own ++ lines_of past) ≡ Some act
  pub cause : IsCaused s c act code.0 past own ⊎ (IsDone s c act code.0 past own ⊎ (IsDead s c act code.0 past own ⊎ (GivesNothingUp c act code.0 own ⊎ (IsUnlisted s c act code.0 past own ⊎ (IsUnheardOf s c act code.0 past own ⊎ IsGone s c act code.0 past own)))))
  pub gives : GivesAllBack s c code.0 past own
  pub some : GivesSomeBack s c past own

-- ---- grants

-- the fid of a new vnode: the number is what the ideal operation shows, and the unique what the volume before gives next
abbrev pub IsNewIn : ℕ → Fid → Option Result → Option Volume → Type 0
IsNewIn id f (Some (changes es shown)) (Some v) = f ≡ record { volume = id; vnode = shown; unique = v.next }
IsNewIn id f r o = ⊥

-- the reply to this call promises the fid, where this is what the ideal operation makes of the call: the one that the call reads or
-- names, or the new one that it makes
abbrev pub IsPromisedBy : Fid → FsCall → Option Result → List Entry → Type 0
IsPromisedBy f (calls.FetchData g position wanted) r past = g ≡ f
IsPromisedBy f (calls.FetchStatus g) r past = g ≡ f
IsPromisedBy f (calls.BulkStatus fids) r past = IsNamedIn f fids
IsPromisedBy f (calls.CreateFile d name status) r past = IsNewIn d.volume f r (volume_after d.volume past)
IsPromisedBy f (calls.MakeDir d name status) r past = IsNewIn d.volume f r (volume_after d.volume past)
IsPromisedBy f call r past = ⊥

abbrev pub IsClient : Node → Type 0
IsClient (Client j) = ⊤
IsClient n = ⊥

-- A server makes a promise to a client in the entry in which it runs a call of that, for 7200 ticks. The call's reply promises the fid, and
-- the ideal operation gives it code 0. The index that the grant tells is the fid's last one
pub record GoodGrant (server c : Node) (f : Fid) (index expiry : ℕ) (past : List Entry) (own : List Line) : Type 0 where
  pub client : IsClient c
  pub key : Key
  pub node : key.node ≡ c
  pub ran : RunsHere server key past own
  pub going : HasStopped server own → ⊥
  pub user : List ℕ
  pub call : FsCall
  pub carries : option_map (λ (m : Message). m.carried) (given_message own (sent_of past)) ≡ Some (carried.Call user (ask.File call))
  pub code : code_given (ideal_answer user call past) ≡ pos 0
  pub promises : IsPromisedBy f call (ideal_answer user call past) past
  pub newest : IsLast f index (own ++ lines_of past)
  pub lasts : expiry ≡ clock_of (own ++ lines_of past) + promise_ticks

-- ---- messages that are sent

-- the client dropped the fid since it last began an act, and fetched nothing of it since, by these lines, the newest first
abbrev pub HasDropped : Node → Fid → List Line → Type 0
HasDropped c f [] = ⊥
HasDropped c f (lines.Drop m g ∷ older) = ((m ≡ c) × (g ≡ f)) ⊎ HasDropped c f older
HasDropped c f (lines.Begin m act ∷ older) = Unless (same_node m c) (HasDropped c f older)
HasDropped c f (lines.Read m g index Fetched body ∷ older) = Unless (is_promised body && (same_node m c && same_fid g f)) (HasDropped c f older)
HasDropped c f (l ∷ older) = HasDropped c f older

abbrev pub AreDropped : Node → List Fid → List Line → Type 0
AreDropped c [] ls = ⊤
AreDropped c (f ∷ fs) ls = HasDropped c f ls × AreDropped c fs ls

-- who tells that promises are given back dropped each of their fids in the same act, and was promised none anew
abbrev pub GoodGift : Head → Carried → List Line → Type 0
GoodGift head (carried.Call user (ask.File (calls.GiveUpCallBacks fids callbacks))) ls = AreDropped head.from fids ls
GoodGift head c ls = ⊤

-- A reply with code 0 of a server: every break is ended that the server owes in an entry that was given a call of its key; and where that key
-- changed something, every one on all; and the server is up. `past` begins with the entry that sends it
abbrev pub GoodReply : List Entry → Message → Type 0
GoodReply past m = IsReply m → code_told m.carried ≡ Some (pos 0) → (i : ℕ) → m.head.from ≡ Server i
    → (AllOwes m.head.from (EndedOf m.head.from (answered_key m.head) (clock_of (lines_of past))) past × (HasChange (answered_key m.head) (lines_of past) → AllOwes m.head.from (EndedAll m.head.from (clock_of (lines_of past))) past)) × (server_boot m.head.from (lines_of past) ≡ None → ⊥)

-- the newest of these entries is this node's
abbrev pub IsBy : Node → List Entry → Type 0
IsBy n [] = ⊥
IsBy n (e ∷ past) = e.actor ≡ actors.Node n

-- a client gives its call a key that no call had which was sent before the act that it began last
abbrev pub HasOwnKey : Node → Key → List Entry → Type 0
HasOwnKey (Client j) k past = is_new_to_act (Client j) k past ≡ true
HasOwnKey n k past = ⊤

abbrev pub GoodCall : Head → Carried → List Entry → Type 0
GoodCall head (carried.Call user call) past = HasOwnKey head.from (called_key head) past
GoodCall head c past = ⊤

-- what carries a call is one by its header too
abbrev pub HasOwnHalf : Message → Type 0
HasOwnHalf m = IsCall m.carried → m.head.half ≡ halves.Call

-- a server answers a client in the boot in which it is; or it tells that a call is done which changed something, for such a reply is kept over all boots
abbrev pub IsPresent : List Entry → Message → Type 0
IsPresent past m =
    (i j : ℕ) → IsReply m → m.head.from ≡ Server i → m.head.to ≡ Client j → (server_boot m.head.from (lines_of past) ≡ Some m.head.boot) ⊎ (HasChangeBy m.head.from (answered_key m.head) (lines_of past) × (code_told m.carried ≡ Some (pos 0)))

-- the node is in this boot; that of a client is its epoch. Of other nodes nothing is asked
abbrev pub IsInBoot : Node → ℕ → List Line → Type 0
IsInBoot (Client j) boot ls = epoch_after (Client j) ls ≡ boot
IsInBoot (Server i) boot ls = server_boot (Server i) ls ≡ Some boot
IsInBoot n boot ls = ⊤

-- a notice tells the boot in which its sender is
abbrev pub TellsItsBoot : List Entry → Message → Type 0
TellsItsBoot past m = m.carried ≡ carried.Notice → IsInBoot m.head.from m.head.boot (lines_of past)

-- Something was changed under another key of the act to which this key belongs: at some moment of these entries both were keys of calls of the
-- act which the key's node had begun last. The act may be over since
pub record HasActed (k : Key) (past : List Entry) : Type 0 where
  pub newer : List Entry
  pub older : List Entry
  pub split : past ≡ newer ++ older
  pub of_act : is_of_act k.node k older ≡ true
  pub changed : Key
  pub other : k ≡ changed → ⊥
  pub change : HasChange changed (lines_of past)
  pub same : is_of_act k.node changed older ≡ true

-- What a server tells a client of a call that may change something: when that call ran, nothing had been changed by another call of its act. So a
-- call that repeats a change of its own act under another key isn't answered, also if that act is over by now
abbrev pub RunsFirstOfAct : List Entry → Message → Type 0
RunsFirstOfAct past m =
    (i j : ℕ) → m.head.from ≡ Server i → m.head.to ≡ Client j → (ran : Ran m.head past) (user : List ℕ) (call : FsCall) → ran.message.carried ≡ carried.Call user (ask.File call) → (id : ℕ) → volume_changed call ≡ Some id → HasActed (answered_key m.head) ran.older → ⊥

-- what servers answer is of now, and none answers a changing call that ran after another of its act had changed something; and notices tell the
-- boots of their senders
abbrev pub ArePresent : List Entry → List Message → Type 0
ArePresent past [] = ⊤
ArePresent past (m ∷ ms) = ((IsPresent past m × TellsItsBoot past m) × RunsFirstOfAct past m) × ArePresent past ms

-- A message is sent by the node that its header names as sender, in the entry with which `past` begins, and a call is one by its header.
-- A reply of a server waits for its breaks, what a call gives back was dropped, and a client's call has a key that no call had which was
-- sent before the act that it began last
pub record GoodMessage (past : List Entry) (m : Message) : Type 0 where
  pub sender : IsBy m.head.from past
  pub half : HasOwnHalf m
  pub reply : GoodReply past m
  pub gift : GoodGift m.head m.carried (lines_of past)
  pub key : GoodCall m.head m.carried past

abbrev pub AreGoodSent : List Entry → List Message → Type 0
AreGoodSent past [] = ⊤
AreGoodSent past (m ∷ ms) = GoodMessage past m × AreGoodSent past ms

-- a refusal answers any call, by a code that isn't 0, and a reply one of its kind
abbrev pub IsKind : FsCall → Carried → Type 0
IsKind call (carried.Refusal code) = code.0 ≡ pos 0 → ⊥
IsKind call (carried.Reply (tell.File reply)) = reply_number reply ≡ call_number call
IsKind call c = ⊥

-- What is sent as a server's reply to a client is that of the entry which ran its call, one before or the one that sends it. It has the code
-- that `IsResult` allows there, and is a refusal with another code than 0, or of that call's kind
pub record Answered (m : Message) (past : List Entry) : Type 0 where
  pub ran : Ran m.head past
  pub user : List ℕ
  pub call : FsCall
  pub carries : ran.message.carried ≡ carried.Call user (ask.File call)
  pub code : ℤ
  pub told : code_told m.carried ≡ Some code
  pub result : IsResult m.head.from code (ideal_answer user call ran.older) (answered_key m.head) ran.at.lines (lines_of past)
  pub kind : IsKind call m.carried

abbrev pub WereRun : List Entry → List Message → Type 0
WereRun past [] = ⊤
WereRun past (m ∷ ms) = ((i j : ℕ) → IsReply m → m.head.from ≡ Server i → m.head.to ≡ Client j → Answered m past) × WereRun past ms

-- where this is a server, it began this boot
abbrev pub IsBootOf : Node → ℕ → List Line → Type 0
IsBootOf (Server i) boot ls = HasBoot (Server i) boot ls
IsBootOf n boot ls = ⊤

-- the node accepts stores of the volume of each of these fids
abbrev pub AcceptsEach : Script → Node → List Fid → List Line → Type 0
AcceptsEach s n [] ls = ⊤
AcceptsEach s n (f ∷ fs) ls = IsAccepted s f.volume n ls × AcceptsEach s n fs ls

-- The node accepts stores of the volume of which the call asks; or of each, where it asks for several statuses or gives promises back. A call for
-- the time asks of none
abbrev pub IsAtHome : Script → Node → FsCall → List Line → Type 0
IsAtHome s n (calls.BulkStatus fids) ls = AcceptsEach s n fids ls
IsAtHome s n (calls.GiveUpCallBacks fids callbacks) ls = AcceptsEach s n fids ls
IsAtHome s n call ls = (id : ℕ) → volume_called call ≡ Some id → IsAccepted s id n ls

-- what a file server answers a call with: a refusal, or what was asked for
abbrev pub IsFileReply : Carried → Type 0
IsFileReply (carried.Refusal code) = ⊤
IsFileReply (carried.Reply (tell.File reply)) = ⊤
IsFileReply c = ⊥

-- what has this header goes back under the last call of its receiver: it comes from the node that was called, with the call's key and opcode
pub record IsOfLastCall (head : Head) (past : List Entry) : Type 0 where
  pub user : List ℕ
  pub call : FsCall
  pub of : call_under (answered_key head) (sent_of past) ≡ Some (user, call)
  pub from : callee_under (answered_key head) (sent_of past) ≡ Some head.from
  pub opcode : head.opcode ≡ call_number call
  pub last : IsLastCall (answered_key head) (sent_of past)

-- the entry was given the answer to the client's last call, a reply or a refusal
pub record HearsAnswer (c : Node) (past : List Entry) (ls : List Line) : Type 0 where
  pub message : Message
  pub given : given_message ls (sent_of past) ≡ Some message
  pub to : message.head.to ≡ c
  pub is : IsFileReply message.carried
  pub code : ℤ
  pub told : code_told message.carried ≡ Some code
  pub its : IsOfLastCall message.head past

-- A call under this key was sent before the entry with which `past` begins. Or its node begins an act in that entry, or is given the answer to its last
-- call. So a client that waits for an answer makes no other call. An answer of `loc` is none of these: no client's table changes, so the call behind it
-- has been sent before, or its act ends
abbrev pub IsInTurn : Key → List Entry → Type 0
IsInTurn k [] = ⊥
IsInTurn k (e ∷ past) = (has_sent k (sent_of past) ≡ true) ⊎ ((has_begun k.node e.lines ≡ true) ⊎ HearsAnswer k.node past e.lines)

-- a call that gives promises back names one
abbrev pub GivesSome : FsCall → Type 0
GivesSome (calls.GiveUpCallBacks [] callbacks) = ⊥
GivesSome call = ⊤

-- the key's number is 1, or the one after that of a call which its node sent in the same epoch
abbrev pub IsInOrder : Key → List Message → Type 0
IsInOrder k ms = (k.number ≡ 1) ⊎ ((n : ℕ) × ((k.number ≡ n + 1) × (has_called (record k { number = n }) ms ≡ true)))

-- the client stops in these lines
abbrev pub has_crashed : Node → List Line → Bool
has_crashed c [] = false
has_crashed c (lines.Crash n ∷ ls) = if same_node n c then true else has_crashed c ls
has_crashed c (l ∷ ls) = has_crashed c ls

-- while an act ran at the client, the entry was given a notice under its last call, which tells this boot of this server
pub record IsNoted (s : Script) (c server : Node) (boot : ℕ) (past : List Entry) (ls : List Line) : Type 0 where
  pub act : Going
  pub runs : running s c (lines_of past) ≡ Some act
  pub message : Message
  pub given : given_message ls (sent_of past) ≡ Some message
  pub to : message.head.to ≡ c
  pub is : message.carried ≡ carried.Notice
  pub its : IsOfLastCall message.head past
  pub server' : message.head.from ≡ server
  pub boot' : message.head.boot ≡ boot

-- what the client knows of the server's boot: the last such notice of it since the client crashed told this one; and without one it is 1
abbrev pub KnowsBoot : Script → Node → Node → ℕ → List Entry → Type 0
KnowsBoot s c server boot [] = boot ≡ 1
KnowsBoot s c server boot (e ∷ past) =
    IsNoted s c server boot past e.lines ⊎ (((b : ℕ) → IsNoted s c server b past e.lines → ⊥) × (((has_crashed c e.lines ≡ true) × (boot ≡ 1)) ⊎ ((has_crashed c e.lines ≡ false) × KnowsBoot s c server boot past)))

-- A client sends a file call for its user while an act runs there that isn't at its end, and asks for just this call, which the header names too.
-- It sends it in its epoch. Of all calls that it sent so far none has a later pair, and its numbers go on one by one. It makes a call where it begins
-- the act, or is given the answer to the one before; else it sends that again. It is the call under its key, to the one callee: what is sent again is
-- the same call. That callee accepts stores of the volumes of which it asks, and of those whose promises it gives back, which are one at least; and it
-- is sent to a boot that its callee, where a server, has begun, and that which the client knows
pub record OwnFileCall (s : Script) (c : Node) (head : Head) (user : List ℕ) (call : FsCall) (past : List Entry) : Type 0 where
  pub own_user : user ≡ user_of s c
  pub act : Going
  pub runs : running s c (lines_of past) ≡ Some act
  pub unended : IsOpen (next act)
  pub asks : as_asked call ≡ asked act
  pub opcode : head.opcode ≡ call_number call
  pub epoch : head.epoch ≡ epoch_after c (lines_of past)
  pub order : IsInOrder (called_key head) (sent_of past)
  pub last : IsLastCall (called_key head) (sent_of past)
  pub turn : IsInTurn (called_key head) past
  pub one : call_under (called_key head) (sent_of past) ≡ Some (user, call)
  pub one_callee : callee_under (called_key head) (sent_of past) ≡ Some head.to
  pub home : IsAtHome s head.to call (lines_of past)
  pub gives : GivesSome call
  pub boot : IsBootOf head.to head.boot (lines_of past)
  pub known : KnowsBoot s c head.to head.boot past

abbrev pub OwnCallOf : Script → Node → Head → List ℕ → FsCall → List Entry → Type 0
OwnCallOf s (Client j) head user call past = OwnFileCall s (Client j) head user call past
OwnCallOf s n head user call past = ⊤

-- The same was asked under this key before, since the act began; or nothing had the key, and the node begins an act in that entry, or is given the
-- answer to its last call
abbrev pub IsAskedInTurn : Key → List ℕ → LocCall → List Entry → Type 0
IsAskedInTurn k user call [] = ⊥
IsAskedInTurn k user call (e ∷ past) =
    ((has_begun k.node e.lines ≡ false) × AskedSince k user call past) ⊎ ((has_called k (sent_of past) ≡ false) × ((has_begun k.node e.lines ≡ true) ⊎ HearsAnswer k.node past e.lines))

-- While an act ran at the client, whose last call asked the location database something, the entry was given the notice under that call, which tells this
-- boot
pub record IsNotedByLoc (s : Script) (c : Node) (boot : ℕ) (past : List Entry) (ls : List Line) : Type 0 where
  pub act : Going
  pub runs : running s c (lines_of past) ≡ Some act
  pub asking : Message
  pub last : last_call c (sent_of past) ≡ Some asking
  pub user : List ℕ
  pub call : LocCall
  pub carries : asking.carried ≡ carried.Call user (ask.Location call)
  pub message : Message
  pub given : given_message ls (sent_of past) ≡ Some message
  pub from : message.head.from ≡ Loc
  pub to : message.head.to ≡ c
  pub is : message.carried ≡ carried.Notice
  pub key : answered_key message.head ≡ called_key asking.head
  pub opcode : message.head.opcode ≡ asking.head.opcode
  pub boot' : message.head.boot ≡ boot

-- what the client knows of the database's boot: the last such notice since the client crashed told this one; and without one it is 1
abbrev pub KnowsLocBoot : Script → Node → ℕ → List Entry → Type 0
KnowsLocBoot s c boot [] = boot ≡ 1
KnowsLocBoot s c boot (e ∷ past) =
    IsNotedByLoc s c boot past e.lines ⊎ (((b : ℕ) → IsNotedByLoc s c b past e.lines → ⊥) × (((has_crashed c e.lines ≡ true) × (boot ≡ 1)) ⊎ ((has_crashed c e.lines ≡ false) × KnowsLocBoot s c boot past)))

-- A client asks the location database, for its user, where a volume is that its act needs to know, or of which a server told that it has none. It asks
-- under its next pair, as it calls a server, and the same again; and it asks it in the boot that the client knows
pub record OwnQuestion (s : Script) (c : Node) (head : Head) (user : List ℕ) (call : LocCall) (past : List Entry) : Type 0 where
  pub own_user : user ≡ user_of s c
  pub act : Going
  pub runs : running s c (lines_of past) ≡ Some act
  pub operand : Operand
  pub asks : call ≡ question operand
  pub why : MayAsk s c act operand past []
  pub to : head.to ≡ Loc
  pub opcode : head.opcode ≡ cell_rows.call_number (ask.Location call)
  pub epoch : head.epoch ≡ epoch_after c (lines_of past)
  pub order : IsInOrder (called_key head) (sent_of past)
  pub last : IsLastCall (called_key head) (sent_of past)
  pub turn : IsAskedInTurn (called_key head) user call past
  pub known : KnowsLocBoot s c head.boot past

abbrev pub OwnQuestionOf : Script → Node → Head → List ℕ → LocCall → List Entry → Type 0
OwnQuestionOf s (Client j) head user call past = OwnQuestion s (Client j) head user call past
OwnQuestionOf s n head user call past = ⊤

abbrev pub IsNoClient : Node → Type 0
IsNoClient (Client j) = ⊥
IsNoClient n = ⊤

-- a client makes calls of file servers, and asks the location database; it makes none of volume servers
abbrev pub OwnCall : Script → Head → Carried → List Entry → Type 0
OwnCall s head (carried.Call user (ask.File call)) past = OwnCallOf s head.from head user call past
OwnCall s head (carried.Call user (ask.Location call)) past = OwnQuestionOf s head.from head user call past
OwnCall s head (carried.Call user call) past = IsNoClient head.from
OwnCall s head c past = ⊤

abbrev pub AreOwnCalls : Script → List Entry → List Message → Type 0
AreOwnCalls s past [] = ⊤
AreOwnCalls s past (m ∷ ms) = OwnCall s m.head m.carried past × AreOwnCalls s past ms

-- ---- restarts

-- a server that begins again owes every client a break on all
abbrev pub GoodRestart : Script → Node → List Line → Type 0
GoodRestart s (Server i) next = (j : ℕ) → 1 ≤ j → j ≤ s.clients → HasOwe (Server i) (Client j) None next
GoodRestart s n next = ⊤

-- ---- breaks that a client is given

-- in these lines the client drops each of the fids, or all that the server promised
abbrev pub AreDroppedIn : Node → Node → List Fid → List Line → Type 0
AreDroppedIn server c [] ls = ⊤
AreDroppedIn server c (f ∷ fs) ls = HasDrop server c (Some f) ls × AreDroppedIn server c fs ls

-- these lines drop what a call of this header breaks
abbrev pub DropsBroken : Node → Head → Carried → List Line → Type 0
DropsBroken c head (carried.Call user (ask.File (calls.CallBack fids callbacks))) ls = AreDroppedIn head.from c fids ls
DropsBroken c head (carried.Call user (ask.File calls.InitCallBackState)) ls = HasDrop head.from c None ls
DropsBroken c head x ls = ⊤

abbrev pub DropsGiven : Node → Option Message → List Line → Type 0
DropsGiven c None ls = ⊤
DropsGiven c (Some m) ls = DropsBroken c m.head m.carried ls

-- a client that runs a call which breaks promises, one to its present epoch, drops in that step what these are on
abbrev pub HandlesBreaks : Actor → List Entry → List Line → Type 0
HandlesBreaks (actors.Node (Client j)) past ls = (k : Key) → RunsHere (Client j) k past ls → DropsGiven (Client j) (given_message ls (sent_of past)) ls
HandlesBreaks who past ls = ⊤

-- ---- a reply that a client is given

-- in these lines the client's act is answered with this code
abbrev pub HasAnswer : Node → ℤ → List Line → Type 0
HasAnswer c code [] = ⊥
HasAnswer c code (lines.Answer m given ∷ ls) = ((m ≡ c) × (given.0 ≡ code)) ⊎ HasAnswer c code ls
HasAnswer c code (l ∷ ls) = HasAnswer c code ls

-- the entry was given the answer to the client's last call, and that is one of the act which runs
pub record HearsOfAct (s : Script) (c : Node) (past : List Entry) (ls : List Line) : Type 0 where
  pub heard : HearsAnswer c past ls
  pub act : Going
  pub runs : running s c (lines_of past) ≡ Some act
  pub called : CalledSince (answered_key heard.message.head) heard.its.user heard.its.call past

-- the node asks the location database something
abbrev pub AsksLoc : Node → List Message → Type 0
AsksLoc n [] = ⊥
AsksLoc n (m ∷ ms) = ((m.head.from ≡ n) × ((m.head.to ≡ Loc) × IsCall m.carried)) ⊎ AsksLoc n ms

-- A client that is so given the reply to a call which may change something, or its refusal, answers its act with that code in that entry; or, where the
-- server has no such volume, it asks in that entry where that is. (No volume is busy or out of service yet; of such a refusal, 110 or 106, this can't be
-- asked.)
abbrev pub TakesReply : Script → Actor → List Entry → List Line → List Message → Type 0
TakesReply s (actors.Node (Client j)) past ls sent = (given : HearsOfAct s (Client j) past ls) (id : ℕ) → volume_changed given.heard.its.call ≡ Some id → HasAnswer (Client j) given.heard.code ls ⊎ (IsGoneNumber given.heard.code × AsksLoc (Client j) sent)
TakesReply s who past ls sent = ⊤

-- ---- what an entry of a restart tells

-- it was down, and its boot is above all that it began before
abbrev pub IsRising : Line → List Line → Type 0
IsRising (lines.Restart (Server i) boot) older = (server_boot (Server i) older ≡ None) × (last_boot (Server i) older < boot)
IsRising l older = ⊤

abbrev pub AreRising : List Line → List Line → Type 0
AreRising older [] = ⊤
AreRising older (l ∷ ls) = IsRising l older × AreRising (l ∷ older) ls

-- ---- nodes that stop

-- these lines tell a crash or a restart
abbrev pub has_crash_or_restart : List Line → Bool
has_crash_or_restart [] = false
has_crash_or_restart (lines.Crash n ∷ ls) = true
has_crash_or_restart (lines.Restart n boot ∷ ls) = true
has_crash_or_restart (l ∷ ls) = has_crash_or_restart ls

-- An entry of a client that is down is its restart, in this epoch. One of a client that is up is its crash, or tells neither a crash nor a
-- restart. A crash and a restart are their entry's only line, and send nothing
abbrev pub IsLived : Node → Bool → ℕ → List Line → List Message → Type 0
IsLived c true epoch ls sent = (ls ≡ lines.Restart c epoch ∷ []) × (sent ≡ [])
IsLived c false epoch ls sent = ((ls ≡ lines.Crash c ∷ []) × (sent ≡ [])) ⊎ (has_crash_or_restart ls ≡ false)

-- a boot that these lines begin is above this one
abbrev pub RisesAbove : ℕ → List Line → Type 0
RisesAbove last [] = ⊤
RisesAbove last (lines.Restart n boot ∷ ls) = (last < boot) × RisesAbove last ls
RisesAbove last (l ∷ ls) = RisesAbove last ls

-- no lock and no place is told
abbrev pub TellsNoDeed : List Line → Type 0
TellsNoDeed [] = ⊤
TellsNoDeed (lines.Locked v stamp operation ∷ ls) = ⊥
TellsNoDeed (lines.Unlocked v ∷ ls) = ⊥
TellsNoDeed (lines.Recovered v ∷ ls) = ⊥
TellsNoDeed (lines.Located v server ∷ ls) = ⊥
TellsNoDeed (l ∷ ls) = TellsNoDeed ls

-- What a call may make the location database tell. A new entry, or one in place of another, is locked and placed; SetLock locks, for the operation that it
-- names; an entry that goes is unlocked; ReleaseLock unlocks, and may end a recovery. The other calls change no entry
abbrev pub MayLock : LocCall → ℕ → ℕ → Type 0
MayLock (queries.CreateEntry e) v operation = (v ≡ e.read_write) × (operation ≡ made_for)
MayLock (queries.ReplaceEntry id e) v operation = v ≡ e.read_write
MayLock (queries.SetLock id wanted force) v operation = operation ≡ wanted
MayLock call v operation = ⊥

abbrev pub MayUnlock : LocCall → Type 0
MayUnlock (queries.DeleteEntry id) = ⊤
MayUnlock (queries.ReleaseLock id) = ⊤
MayUnlock call = ⊥

abbrev pub MayRecover : LocCall → Type 0
MayRecover (queries.ReleaseLock id) = ⊤
MayRecover call = ⊥

abbrev pub MayPlace : LocCall → ℕ → Type 0
MayPlace (queries.CreateEntry e) v = v ≡ e.read_write
MayPlace (queries.ReplaceEntry id e) v = v ≡ e.read_write
MayPlace call v = ⊥

-- these lines tell no lock and no place but such of this call
abbrev pub AreDeedsOf : LocCall → List Line → Type 0
AreDeedsOf call [] = ⊤
AreDeedsOf call (lines.Locked v stamp operation ∷ ls) = MayLock call v operation × AreDeedsOf call ls
AreDeedsOf call (lines.Unlocked v ∷ ls) = MayUnlock call × AreDeedsOf call ls
AreDeedsOf call (lines.Recovered v ∷ ls) = MayRecover call × AreDeedsOf call ls
AreDeedsOf call (lines.Located v server ∷ ls) = MayPlace call v × AreDeedsOf call ls
AreDeedsOf call (l ∷ ls) = AreDeedsOf call ls

-- the location database runs this call in this entry
pub record RunsInLoc (call : LocCall) (past : List Entry) (ls : List Line) : Type 0 where
  pub key : Key
  pub ran : RunsHere Loc key past ls
  pub user : List ℕ
  pub carries : option_map (λ (m : Message). m.carried) (given_message ls (sent_of past)) ≡ Some (carried.Call user (ask.Location call))

-- it stopped in the entry that ran this call, and did nothing since but begin restarts in which its disk failed at once
pub record StoppedIn (call : LocCall) (past : List Entry) : Type 0 where
  pub newer : List Entry
  pub at : Entry
  pub older : List Entry
  pub split : past ≡ newer ++ (at ∷ older)
  pub actor : at.actor ≡ actors.Node Loc
  pub runs : RunsInLoc call older at.lines
  pub stopped : HasStopped Loc at.lines
  pub since : AreFailed Loc newer

-- each of these messages tells success
abbrev pub AllSucceed : List Message → Type 0
AllSucceed [] = ⊤
AllSucceed (m ∷ ms) = (code_told m.carried ≡ Some (pos 0)) × AllSucceed ms

-- What the location database tells of locks and places, a call may have done which it runs in this entry and doesn't refuse. Where it is down, that is
-- the call of the step in which it stopped: this entry begins it again, and finds what that step left
abbrev pub DeedsAreCaused : Option ℕ → List Entry → List Line → List Message → Type 0
DeedsAreCaused None past ls sent = TellsNoDeed ls ⊎ ((call : LocCall) × (StoppedIn call past × AreDeedsOf call ls))
DeedsAreCaused (Some boot) past ls sent = TellsNoDeed ls ⊎ ((call : LocCall) × (RunsInLoc call past ls × (AreDeedsOf call ls × AllSucceed sent)))

-- the calls by these opcodes change something at the location database, and their replies are kept over its boots
abbrev pub IsChangeNumber : ℕ → Type 0
IsChangeNumber n = (n ≡ 501) ⊎ ((n ≡ 502) ⊎ ((n ≡ 505) ⊎ ((n ≡ 506) ⊎ ((n ≡ 508) ⊎ (n ≡ 509)))))

-- by these lines the database is in the boot that this tells. Or it began that before, and this is the success of a change
abbrev pub IsOfLocBoot : List Line → Message → Type 0
IsOfLocBoot ls m = (server_boot Loc ls ≡ Some m.head.boot) ⊎ (HasBoot Loc m.head.boot ls × (IsChangeNumber m.head.opcode × (code_told m.carried ≡ Some (pos 0))))

-- What the location database sends goes back under the call that its entry is given, to who sent that. It is no call, and tells the boot in which the database
-- is; but the success of a change may tell an older one
abbrev pub GoesBack : List Line → Option Message → Message → Type 0
GoesBack ls None m = ⊥
GoesBack ls (Some k) m = (IsCall k.carried × (IsCall m.carried → ⊥)) × (((m.head.to ≡ k.head.from) × ((m.head.epoch ≡ k.head.epoch) × (m.head.number ≡ k.head.number))) × IsOfLocBoot ls m)

-- and it sends one message at most
abbrev pub AllGoBack : List Line → Option Message → List Message → Type 0
AllGoBack ls given [] = ⊤
AllGoBack ls given (m ∷ []) = GoesBack ls given m
AllGoBack ls given (m ∷ n ∷ ms) = ⊥

-- A client's entry is as the client is, up or down, and so is a server's, and the location database's. A server, and the database, begins again in a boot
-- at most one above those which restarts that failed may have written; it may be a lower one. The database tells that it does in one above the last
-- that it began; it tells of locks and places what a call did that it runs, or ran when it stopped, and sends but answers
abbrev pub IsLivedBy : Actor → List Entry → List Line → List Message → Type 0
IsLivedBy (actors.Node (Client j)) past ls sent = IsLived (Client j) (is_down (Client j) (lines_of past)) (epoch_after (Client j) (lines_of past)) ls sent
IsLivedBy (actors.Node (Server i)) past ls sent = IsHostLived (server_boot (Server i) (lines_of past)) (last_written (Server i) (lines_of past) + 1) ls sent
IsLivedBy (actors.Node Loc) past ls sent = IsHostLived (server_boot Loc (lines_of past)) (last_written Loc (lines_of past) + 1) ls sent × ((RisesAbove (last_boot Loc (lines_of past)) ls × DeedsAreCaused (server_boot Loc (lines_of past)) past ls sent) × AllGoBack (onto (lines_of past) ls) (given_message ls (sent_of past)) sent)
IsLivedBy who past ls sent = ⊤

-- ---- timeouts

-- this is the callee's reply to the call of this key and this opcode
abbrev pub IsReplyTo : Node → Key → ℕ → Option Message → Type 0
IsReplyTo callee k opcode None = ⊥
IsReplyTo callee k opcode (Some m) = (IsFileReply m.carried × (m.head.from ≡ callee)) × ((answered_key m.head ≡ k) × (m.head.opcode ≡ opcode))

-- none of these entries was given such a reply
abbrev pub IsUnanswered : Node → Key → ℕ → List Entry → Type 0
IsUnanswered callee k opcode [] = ⊤
IsUnanswered callee k opcode (e ∷ past) = (IsReplyTo callee k opcode (given_message e.lines (sent_of past)) → ⊥) × IsUnanswered callee k opcode past

-- The client waits for the reply to this call: the call is its last one, of the act that runs, and no reply to it was given. This timeout of it
-- wasn't told before; and the third is followed by the act's answer -1 in the same entry
pub record AwaitsReply (s : Script) (c callee : Node) (k : Key) (user : List ℕ) (call : FsCall) (count : ℕ) (past : List Entry) (own next : List Line) : Type 0 where
  pub act : Going
  pub runs : running s c (lines_of past) ≡ Some act
  pub called : CalledSince k user call past
  pub last : (place : ℕ) (m : Message) → message_at (sent_of past) place ≡ Some m → IsCall m.carried → m.head.from ≡ c → IsUpTo m.head.epoch m.head.number k.epoch k.number
  pub unanswered : IsUnanswered callee k (call_number call) past
  pub once : HasTimeout c callee k.epoch k.number count (own ++ lines_of past) → ⊥
  pub dead : count ≡ 3 → HasAnswer c (negsuc 0) next

-- of a server's calls this isn't asked
abbrev pub IsAwaitedBy : Script → Node → Node → Key → List ℕ → FsCall → ℕ → List Entry → List Line → List Line → Type 0
IsAwaitedBy s (Client j) callee k user call count past own next = AwaitsReply s (Client j) callee k user call count past own next
IsAwaitedBy s n callee k user call count past own next = ⊤

-- a file call of this key was sent to this node before, and a client waits for the reply still
pub record IsTimedCall (s : Script) (n callee : Node) (k : Key) (count : ℕ) (past : List Entry) (own next : List Line) : Type 0 where
  pub user : List ℕ
  pub call : FsCall
  pub sent : WasSent callee k user call past
  pub awaited : IsAwaitedBy s n callee k user call count past own next

-- this is what the location database tells under this key and this opcode: a reply or a refusal
abbrev pub IsLocReply : Key → ℕ → Option Message → Type 0
IsLocReply k opcode None = ⊥
IsLocReply k opcode (Some m) = (HasCode m.carried × (m.head.from ≡ Loc)) × ((answered_key m.head ≡ k) × (m.head.opcode ≡ opcode))

-- none of these entries was given that
abbrev pub IsUntoldOf : Key → ℕ → List Entry → Type 0
IsUntoldOf k opcode [] = ⊤
IsUntoldOf k opcode (e ∷ past) = (IsLocReply k opcode (given_message e.lines (sent_of past)) → ⊥) × IsUntoldOf k opcode past

-- Or the location database was asked under this key since the act began that runs, and told nothing under it; it is the client's last call. This timeout
-- wasn't told before; and the third is followed by the act's answer -1 in the same entry
pub record IsTimedQuestion (s : Script) (n callee : Node) (k : Key) (count : ℕ) (past : List Entry) (own next : List Line) : Type 0 where
  pub is : callee ≡ Loc
  pub user : List ℕ
  pub call : LocCall
  pub act : Going
  pub runs : running s n (lines_of past) ≡ Some act
  pub asked : AskedSince k user call past
  pub last : IsLastCall k (sent_of past)
  pub unanswered : IsUntoldOf k (cell_rows.call_number (ask.Location call)) past
  pub once : HasTimeout n callee k.epoch k.number count (own ++ lines_of past) → ⊥
  pub dead : count ≡ 3 → HasAnswer n (negsuc 0) next

-- The call of this key was sent to this node before. Its count is 1, or the timeout of the count below stands in an entry before; and it is 3
-- at most
pub record GoodTimeout (s : Script) (n callee : Node) (epoch number count : ℕ) (past : List Entry) (own next : List Line) : Type 0 where
  pub sent : IsTimedCall s n callee (record { node = n; epoch = epoch; number = number }) count past own next ⊎ IsTimedQuestion s n callee (record { node = n; epoch = epoch; number = number }) count past own next
  pub below : (count ≡ 1) ⊎ ((k : ℕ) × ((count ≡ k + 1) × HasTimeout n callee epoch number k (lines_of past)))
  pub few : count ≤ 3

-- ---- histories

-- it is this client's entry, and this server's
abbrev pub IsOfClient : Actor → Node → Type 0
IsOfClient who (Client j) = who ≡ actors.Node (Client j)
IsOfClient who n = ⊥

abbrev pub IsOfServer : Actor → Node → Type 0
IsOfServer who (Server i) = who ≡ actors.Node (Server i)
IsOfServer who n = ⊥

-- servers and the location database have disks
abbrev pub IsOfDisk : Actor → Node → Type 0
IsOfDisk who (Server i) = who ≡ actors.Node (Server i)
IsOfDisk who Loc = who ≡ actors.Node Loc
IsOfDisk who n = ⊥

-- a step that times a call out is given no message, and begins no act
abbrev pub IsTimed : Node → List Line → List Line → Type 0
IsTimed c own next = ((has_given own ≡ false) × (has_begun c own ≡ false)) × ((has_given next ≡ false) × (has_begun c next ≡ false))

-- it is the only line of its entry
abbrev pub IsOnlyLine : List Line → List Line → Type 0
IsOnlyLine own next = (own ≡ []) × (next ≡ [])

-- what this shows of the object is what an act needs
abbrev pub IsNeeded : Fid → ReadBody → Need → Type 0
IsNeeded f (shows.Contents body) (reads g) = g ≡ f
IsNeeded f (shows.Status status) (reads_status g) = g ≡ f
IsNeeded f body need = ⊥

-- so is what is read from the cache; what is fetched comes by a call that the act asked for
abbrev pub IsNeededFrom : ReadSource → Fid → ReadBody → Need → Type 0
IsNeededFrom Cached f body need = IsNeeded f body need
IsNeededFrom Fetched f body need = ⊤

-- an act runs at the client; and what this shows from the cache is what that needs next
pub record NeedsRead (s : Script) (c : Node) (f : Fid) (source : ReadSource) (body : ReadBody) (past : List Entry) (own : List Line) : Type 0 where
  pub act : Going
  pub runs : running s c (own ++ lines_of past) ≡ Some act
  pub needs : IsNeededFrom source f body (next act)

-- an act begins first in its entry, while none runs
abbrev pub IsBegun : Script → Node → List Entry → List Line → Type 0
IsBegun s c past own = (own ≡ []) × (running s c (lines_of past) ≡ None)

-- Each line stands in an entry of its own node: a begin, a read, an answer, a drop in one of its client, a change, a grant, a break in
-- one of its server, a tick, which isn't of 0, in the clock's, and that nothing happened in nobody's. A tick, a stop and a fail are their entry's
-- only line. An act begins first in its entry, while none runs. An entry is given one message at most, and that first; a version stands under its
-- change; an act runs where a client reads or answers, and what is read from the cache it needs next; a timeout stands in an entry that is given no
-- message and in which its node begins no act; and a server that begins again owes each client of the script a break on all. A crash is of any
-- node, a fault of a server or of the location database, for clients have no disk; and what that locks, unlocks and tells of places stands in its
-- entries. No volume is made, fenced, enabled, deleted or released: clients can't do that, and a script has no others. So no act of an administrator
-- begins, is stuck or has its dump. Nor is a client answered 105: none compares the releases of copies
abbrev pub IsInPlace : Script → Actor → Line → List Entry → List Line → List Line → Type 0
IsInPlace s who (lines.Begin c act) past own next = IsOfClient who c × IsBegun s c past own
IsInPlace s who (lines.Given place) past own next = own ≡ []
IsInPlace s who (lines.Grant server c f index expiry) past own next = IsOfServer who server
IsInPlace s who (lines.Change server k count) past own next = IsOfServer who server
IsInPlace s who (lines.Version v) past own next = IsUnderChange own
IsInPlace s who (lines.Read c f index source body) past own next = IsOfClient who c × NeedsRead s c f source body past own
IsInPlace s who (lines.Answer c code) past own next = IsOfClient who c × HasAct s c past own
IsInPlace s who (lines.Timeout c callee epoch number count) past own next = (who ≡ actors.Node c) × IsTimed c own next
IsInPlace s who (lines.Tick n) past own next = (who ≡ actors.Clock) × ((0 < n) × IsOnlyLine own next)
IsInPlace s who (lines.Stop n calls pick) past own next = IsOfDisk who n × IsOnlyLine own next
IsInPlace s who (lines.Fail n call) past own next = IsOfDisk who n × IsOnlyLine own next
IsInPlace s who (lines.Crash n) past own next = who ≡ actors.Node n
IsInPlace s who (lines.Fault n) past own next = IsOfDisk who n
IsInPlace s who (lines.Restart n boot) past own next = (who ≡ actors.Node n) × GoodRestart s n next
IsInPlace s who (lines.Full n) past own next = IsOfDisk who n
IsInPlace s who (lines.Drop c f) past own next = IsOfClient who c
IsInPlace s who (lines.DropAll c server) past own next = IsOfClient who c
IsInPlace s who (lines.Owe server c what n) past own next = IsOfServer who server
IsInPlace s who (lines.Settle server c n) past own next = IsOfServer who server
IsInPlace s who (lines.Quit server c n) past own next = IsOfServer who server
IsInPlace s who (lines.Made server v count) past own next = ⊥
IsInPlace s who (lines.Fence v server) past own next = ⊥
IsInPlace s who (lines.Enable v server) past own next = ⊥
IsInPlace s who (lines.Vanish v server) past own next = ⊥
IsInPlace s who (lines.Released family v release server) past own next = ⊥
IsInPlace s who (lines.Locked v stamp operation) past own next = who ≡ actors.Node Loc
IsInPlace s who (lines.Unlocked v) past own next = who ≡ actors.Node Loc
IsInPlace s who (lines.Recovered v) past own next = who ≡ actors.Node Loc
IsInPlace s who (lines.Located v server) past own next = who ≡ actors.Node Loc
IsInPlace s who (lines.Older c offered known) past own next = ⊥
IsInPlace s who (lines.BeginAdmin a act) past own next = ⊥
IsInPlace s who (lines.Stuck a code) past own next = ⊥
IsInPlace s who (lines.Dumped a label size) past own next = ⊥
IsInPlace s who lines.Void past own next = who ≡ actors.Nobody

-- a line is in its place; and what it grants, changes, reads, answers, times out, owes, settles or gives up is good
abbrev pub IsGood : Script → Actor → Line → List Entry → List Line → List Line → Type 0
IsGood s who (lines.Grant server c f index expiry) past own next = IsInPlace s who (lines.Grant server c f index expiry) past own next × GoodGrant server c f index expiry past own
IsGood s who (lines.Change server k count) past own next = IsInPlace s who (lines.Change server k count) past own next × GoodChange s server k count past own next
IsGood s who (lines.Read c f index source body) past own next = IsInPlace s who (lines.Read c f index source body) past own next × GoodReadBy s (is_promised body) c f index source body past own
IsGood s who (lines.Answer c code) past own next = IsInPlace s who (lines.Answer c code) past own next × GoodCode s c code past own
IsGood s who (lines.Timeout n callee epoch number count) past own next = IsInPlace s who (lines.Timeout n callee epoch number count) past own next × GoodTimeout s n callee epoch number count past own next
IsGood s who (lines.Owe server c what n) past own next = IsInPlace s who (lines.Owe server c what n) past own next × GoodOwe s server c what n past own
IsGood s who (lines.Settle server c n) past own next = IsInPlace s who (lines.Settle server c n) past own next × GoodSettle server c n past own
IsGood s who (lines.Quit server c n) past own next = IsInPlace s who (lines.Quit server c n) past own next × GoodQuit server c n past own
IsGood s who l past own next = IsInPlace s who l past own next

abbrev pub AreGood : Script → Actor → List Entry → List Line → List Line → Type 0
AreGood s who past own [] = ⊤
AreGood s who past own (l ∷ next) = IsGood s who l past own next × AreGood s who past (l ∷ own) next

-- the script has the node whose entry this is; a tick and what is void are of none
abbrev pub IsOfScript : Script → Actor → Type 0
IsOfScript s (actors.Node (Client j)) = IsClientOf s (Client j)
IsOfScript s (actors.Node (Server i)) = (1 ≤ i) × (i ≤ s.servers)
IsOfScript s (actors.Node Loc) = ⊤
IsOfScript s (actors.Node n) = ⊥
IsOfScript s actors.Clock = ⊤
IsOfScript s actors.Nobody = ⊤

-- An entry lays no volumes, for the set-up alone does; and it is of a node of the script. A server that begins again was down, and is then in
-- a boot above the last one that it began. A node that is down does nothing but begin again, or fail to. What an entry is given was sent to its
-- node. A client that runs a call which breaks promises drops what these are on, and one that is given the answer to its last call answers its act, where
-- that call may change something. A server answers in the boot in which it is, and to a changing call only where no other call of its act had changed
-- something before that ran. A notice tells the boot of its sender
abbrev pub IsEntryOf : Script → List Entry → Entry → Type 0
IsEntryOf s past e = ((e.volumes ≡ []) × IsOfScript s e.actor) × (AreRising (lines_of past) e.lines × (IsLivedBy e.actor past e.lines e.sent × (IsDelivered e.actor past e.lines × ((HandlesBreaks e.actor past e.lines × TakesReply s e.actor past e.lines e.sent) × ArePresent (e ∷ past) e.sent))))

abbrev pub LegalAfter : Script → List Entry → List Entry → Type 0
LegalAfter s past [] = ⊤
LegalAfter s past (e ∷ es) = ((AreGood s e.actor past [] e.lines × AreGoodSent (e ∷ past) e.sent) × (IsEntryOf s past e × (WereRun (e ∷ past) e.sent × (AreOwnCalls s (e ∷ past) e.sent × AreForOnce past [] e.lines)))) × LegalAfter s (e ∷ past) es

abbrev pub Legal : List Entry → Script → Type 0
Legal history s = LegalAfter s (set_up_entry s ∷ []) history
