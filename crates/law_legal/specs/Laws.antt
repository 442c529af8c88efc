-- Laws about the runs of a script.
use Rattle.spec_history.specs.Written.{bytes_in}
use Rattle.spec_history.specs.declared.acts.Written.{Written}
use Rattle.spec_history.specs.declared.acts.Operand.{Operand}
use Rattle.std.specs.Option.{option_map}
use Rattle.afs_num.specs.declared.histories.Version.{Version}
use Rattle.spec_ideal.specs.ChangeLaws.{IsOneChange}
use Rattle.afs_num.specs.declared.types.Key.{Key}
use Rattle.spec_breaks.specs.declared.types.Promise.{Promise}
use Rattle.spec_breaks.specs.declared.types.OwedBreak.{OwedBreak}
use Rattle.spec_rows.specs.Scopes.{may_change}
use Rattle.law_legal.specs.Breaks.{AllOwes, EndedBy, HasTimeout, Owes, IsGivenUp, kept_until, lines_with_gifts}
use Rattle.spec_model.specs.Calls.{admitted, call_seat, key_of}
use Rattle.spec_rows.specs.Going.{stored_whole, ClientState, asked, Going}
use Rattle.spec_ideal.specs.Operations.{Caller, the_user, Result, refused, reads, changes, no_operation, op, volume_called, volume_changed}
use Rattle.afs_num.specs.declared.histories.ReadSource.TheVariants.{Cached}
use Rattle.spec_rows.specs.ClientRow.{find_cached}
use Rattle.afs_num.specs.declared.messages.Message.{Message}
use Rattle.afs_num.specs.declared.types.Node.TheVariants.{Client, Server, Loc}
use Rattle.spec_ideal.specs.Tables.{get, Table}
use Rattle.afs_num.specs.Nodes.{IsNode}
use Rattle.spec_records.specs.Changes.{boot_record}
use Rattle.spec_records.specs.Durable.{Stored, has_room, Durable}
use Rattle.spec_fold.specs.Effects.{effect_of}
use Rattle.spec_fold.specs.Fold.{folded}
use Rattle.spec_records.specs.Laws.{CanBeStored}
use Rattle.std.specs.List.{AllByRecursion}
use Rattle.spec_ideal.specs.Told.{live, Agrees}
use Rattle.spec_ideal.specs.Volumes.{version_at, vnode_of, Volume}
use Rattle.law_legal.specs.Grants.{change_below, since, IsOutstanding, fetch_reply}
use Rattle.law_legal.specs.Ideal.{IsAccepted, last_version, user_of, versions_in, volume_after, set_up_entry, IsLast}
use Rattle.law_legal.specs.Legal.{IsCaused, HasChangeBy, GoodRead, HasChange, Legal, Cause}
use Rattle.spec_history.specs.declared.lines.Line.{Line}
use Rattle.law_legal.specs.Once.{past_of, ChangesOnce}
use Rattle.law_legal.specs.Cells.{IsOfCell}
use Rattle.law_legal.specs.Past.{IsReply, AreWithin, IsUpTo, CalledSince, HasCode, IsCall, lines_of, onto, running, IsUnheard, called_key, answered_key, Ran, IsFileCall}
use Rattle.spec_rows.specs.Steps.{Begun}
use Rattle.spec_rows.specs.Runs.{Fall, begun_by_disk, message_at, Leads, start, Input, Entry, Cell, RunsTo, first_lasting, first_stored, first_volumes_at, ServerHost}
use Rattle.spec_rows.specs.ServerRow.{Change, is_client, lasting_after, lasting_started, record_of, serves, runs, refuses, not_served, whole, no_room, versions_made, versioned}
use Rattle.spec_rows.specs.States.{CacheEntry, Seat, Lasting, durable_of, volume_in, ServerState, BackCall}
use Rattle.spec_model.specs.FsRows.{call_number}
use Rattle.afs_num.specs.declared.messages.Carried.TheVariants as carried
use Rattle.afs_num.specs.declared.messages.Call.TheVariants as ask
use Rattle.spec_model.specs.Calls as pairs
use Rattle.spec_history.specs.declared.lines.Line.TheVariants as lines
use Rattle.afs_num.specs.declared.histories.Actor.TheVariants as actors
use Rattle.spec_history.specs.declared.acts.Act.{Act}
use Rattle.spec_history.specs.declared.acts.Act.TheVariants as acts
use Rattle.afs_num.specs.declared.types.Code.{Code}
use Rattle.std.specs.Prelude.{⊤, pos, ◌⊎◌, ◌≤◌, ◌<◌, None, Some, ◌∷◌, [], ◌≡◌, ◌↔◌, ℕ, List, ◌++◌, false, ◌+◌, ◌&&◌, Option, true, ℤ, length, filter, nat_eq}
use Rattle.afs_num.specs.declared.types.Fid.{Fid}
use Rattle.afs_num.specs.declared.types.Node.{Node}
use Rattle.spec_history.specs.declared.scripts.VolumeLine.{VolumeLine}
use Rattle.spec_fold.specs.SetUps as set_ups
use Rattle.spec_history.specs.declared.scripts.Script.{Script}
use Rattle.afs_num.specs.declared.histories.Body.{Body}
use Rattle.afs_num.specs.declared.histories.Body.TheVariants as bodies
use Rattle.afs_num.specs.declared.histories.ReadBody.{ReadBody}
use Rattle.afs_num.specs.declared.histories.ReadBody.TheVariants as seen
use Rattle.afs_num.specs.declared.histories.ReadSource.{ReadSource}
use Rattle.afs_num.specs.declared.types.Head.{Head}
use Rattle.afs_num.specs.declared.calls.FsCall.{FsCall}

-- every run is legal, whatever is given to its nodes, how often and in what order; of a script whose cell has eight servers at most, and
-- each volume at one of them
abbrev pub RunsAreLegal : Type 0
RunsAreLegal = (s : Script) (history : List Entry) (end : Cell) → IsOfCell s → RunsTo history s end → Legal history s

-- in every run a key changes something at most once
abbrev pub KeysRunOnce : Type 0
KeysRunOnce = (s : Script) (history : List Entry) (end : Cell) → RunsTo history s end → ChangesOnce history

-- the same inputs make one run: its entries and its end
abbrev pub RunsAreOne : Type 0
RunsAreOne = (s : Script) (inputs : List Input) (history other : List Entry) (end last : Cell) → Leads (start s) inputs history end → Leads (start s) inputs other last → (history ≡ other) × (end ≡ last)

-- what the server holds of a volume at the end of a run is the ideal volume, and the versions that were told agree with it
pub record IsHeld (id : ℕ) (volumes : Table Stored) (past : List Entry) : Type 0 where
  pub ideal : volume_in id volumes ≡ volume_after id past
  pub told : (v : Volume) → volume_after id past ≡ Some v → Agrees id v (versions_in (lines_of past))

-- each volume whose stores the server accepts is held so, and it holds no other
pub record AreHeld (s : Script) (i : ℕ) (volumes : Table Stored) (past : List Entry) : Type 0 where
  pub held : (id : ℕ) → IsAccepted s id (Server i) (lines_of past) → IsHeld id volumes past
  pub alone : (id : ℕ) (v : Volume) → volume_in id volumes ≡ Some v → IsAccepted s id (Server i) (lines_of past)

-- it is so of every server, and a volume whose stores no server accepts isn't there
pub record AreTold (s : Script) (end : Cell) (past : List Entry) : Type 0 where
  pub servers : (i : ℕ) → AreHeld s i (end.hosts i).state.lasting.volumes past
  pub nowhere : (id : ℕ) → ((server : Node) → IsAccepted s id server (lines_of past) → ⊥) → volume_after id past ≡ None

abbrev pub VolumesAreTold : Type 0
VolumesAreTold = (s : Script) (history : List Entry) (end : Cell) → RunsTo history s end → AreTold s end (past_of (set_up_entry s ∷ []) history)

abbrev pub IsKnownTo : ClientState → Head → Type 0
IsKnownTo c head = IsUpTo head.epoch head.number c.epoch c.last

-- no call of a client, and no reply to one, of a server or of the location database, has a pair above the client's last call
pub record ArePairsKnown (sent : List Message) (clients : ℕ → ClientState) : Type 0 where
  pub calls : (j place : ℕ) (m : Message) → message_at sent place ≡ Some m → IsCall m.carried → m.head.from ≡ Client j → IsKnownTo (clients j) m.head
  pub replies : (i j place : ℕ) (m : Message) → message_at sent place ≡ Some m → HasCode m.carried → m.head.from ≡ Server i → m.head.to ≡ Client j → IsKnownTo (clients j) m.head
  pub told : (j place : ℕ) (m : Message) → message_at sent place ≡ Some m → m.head.from ≡ Loc → m.head.to ≡ Client j → IsKnownTo (clients j) m.head

abbrev pub PairsAreKnown : Type 0
PairsAreKnown = (s : Script) (history : List Entry) (end : Cell) → RunsTo history s end → ArePairsKnown end.sent end.clients

-- what an idle client trusts can be shown: a read of it from the cache would be good
abbrev pub TrustedIsGood : Type 0
TrustedIsGood =
    (s : Script) (history : List Entry) (end : Cell) → RunsTo history s end → (j : ℕ) → (end.clients j).running ≡ None → (f : Fid) (e : CacheEntry) → find_cached f (end.clients j).cache ≡ Some e → end.clock < e.expiry
    → ((body : Body) → e.body ≡ Some body → GoodRead s (Client j) f e.index Cached (seen.Contents body) (past_of (set_up_entry s ∷ []) history) []) × GoodRead s (Client j) f e.index Cached (seen.Status e.status) (past_of (set_up_entry s ∷ []) history) []

-- a good read shows the newest version where no break of its grant is outstanding
abbrev pub ReadsAreNewest : Type 0
ReadsAreNewest =
    (s : Script) (c : Node) (f : Fid) (index : ℕ) (source : ReadSource) (body : ReadBody) (past : List Entry) (own : List Line) (read : GoodRead s c f index source body past own)
    → (IsOutstanding read.grant.server c f (own ++ since c f read.expiry read.reply past read.grant) → ⊥) → IsLast f index (own ++ lines_of past)

-- acts that change something where they are answered 0
abbrev pub IsChangingAct : Act → Type 0
IsChangingAct (acts.Close o contents) = ⊤
IsChangingAct (acts.Make p) = ⊤
IsChangingAct (acts.MakeDirectory p) = ⊤
IsChangingAct (acts.Remove p) = ⊤
IsChangingAct (acts.RemoveDirectory p) = ⊤
IsChangingAct (acts.Move p q) = ⊤
IsChangingAct (acts.Link p q) = ⊤
IsChangingAct (acts.Symlink p target) = ⊤
IsChangingAct (acts.SetMode o mode) = ⊤
IsChangingAct (acts.SetAccessList o text) = ⊤
IsChangingAct act = ⊥

-- a call that the client sent since it began its act changed something
pub record IsMade (c : Node) (past : List Entry) (own : List Line) : Type 0 where
  pub key : Key
  pub node : key.node ≡ c
  pub user : List ℕ
  pub call : FsCall
  pub called : CalledSince key user call past
  pub told : HasChange key (own ++ lines_of past)

-- In a legal history, where an act that changes something is answered 0, one key of that act has a change line. Before the
-- answer stand the entries `before`, and in its own entry the lines `first`
abbrev pub AcknowledgedAreMade : Type 0
AcknowledgedAreMade =
    (s : Script) (history before after : List Entry) (e : Entry) (first rest : List Line) (c : Node) (code : Code) (act : Going) → Legal history s → history ≡ before ++ (e ∷ after) → e.lines ≡ first ++ lines.Answer c code ∷ rest
    → running s c (onto [] first ++ lines_of (past_of (set_up_entry s ∷ []) before)) ≡ Some act → IsChangingAct act.act → code.0 ≡ pos 0 → IsMade c (past_of (set_up_entry s ∷ []) before) (onto [] first)

-- the change has this key
abbrev pub IsOfKey : Key → Option (Node × Key) → Type 0
IsOfKey k None = ⊥
IsOfKey k (Some change) = change.1 ≡ k

-- the version stands, by these lines, under a change of this key
abbrev pub HasMade : Key → Version → List Line → Type 0
HasMade k v [] = ⊥
HasMade k v (lines.Version w ∷ older) = ((w ≡ v) × IsOfKey k (change_below older)) ⊎ HasMade k v older
HasMade k v (l ∷ older) = HasMade k v older

-- These volumes hold this version of its object, or a later one: the last one that these lines tell is it or a later one, and they hold
-- just that. Where that says that the object is gone, they have nothing under its fid
pub record IsHeldSince (v : Version) (volumes : Table Stored) (told : List Line) : Type 0 where
  pub last : Version
  pub is_last : last_version v.fid told ≡ Some last
  pub since : v.index ≤ last.index
  pub same : last.index ≡ v.index → last.body ≡ v.body
  pub volume : Volume
  pub at : volume_in v.fid.volume volumes ≡ Some volume
  pub held : live (Some last) ≡ option_map (version_at v.fid.volume v.fid.vnode) (vnode_of v.fid volume)

-- What a restart of a server finds, where the record of the interrupted step is on its disk; and the entry that this restart makes,
-- by what it tells of that step
abbrev pub found_by_restart : ℕ → ServerHost → Fall → Begun ServerState
found_by_restart i host fall = begun_by_disk (Server i) host.state true fall

abbrev pub told_by_restart : ℕ → ServerHost → Fall → Entry
told_by_restart i host fall = record { actor = actors.Node (Server i); lines = (found_by_restart i host fall).before []; sent = []; volumes = [] }

-- no other server accepts stores of the volume
abbrev pub IsNoOthers : Script → ℕ → ℕ → List Line → Type 0
IsNoOthers s i id ls = (q : Node) → IsAccepted s id q ls → q ≡ Server i

-- The server keeps of each volume that is no other's just the ideal one: all that the changes which were told have made of it, with each
-- mode, owner, link count and access list. While the server is down, it is also so of what the step that was interrupted may have left
pub record Survives (s : Script) (i : ℕ) (host : ServerHost) (past : List Entry) : Type 0 where
  pub kept : (id : ℕ) → IsNoOthers s i id (lines_of past) → volume_in id host.state.lasting.volumes ≡ volume_after id past
  pub after : (fall : Fall) → host.down ≡ Some fall → (id : ℕ) → IsNoOthers s i id (lines_of past) → volume_in id (found_by_restart i host fall).state.lasting.volumes ≡ volume_after id (told_by_restart i host fall ∷ past)

-- of one version: the server that accepts stores of its volume holds it or a later one, and so does what the interrupted step may have left
pub record IsHeldStill (s : Script) (v : Version) (hosts : ℕ → ServerHost) (past : List Entry) : Type 0 where
  pub server : ℕ
  pub home : IsAccepted s v.fid.volume (Server server) (lines_of past)
  pub kept : IsHeldSince v (hosts server).state.lasting.volumes (lines_of past)
  pub after : (fall : Fall) → (hosts server).down ≡ Some fall → IsHeldSince v (found_by_restart server (hosts server) fall).state.lasting.volumes (lines_of (told_by_restart server (hosts server) fall ∷ past))

-- the version gives a file the bytes that a close stores
pub record IsClosed (act : Going) (contents : Written) (key : Key) (ls : List Line) : Type 0 where
  pub version : Version
  pub made : HasMade key version ls
  pub asked_for : asked act ≡ stored_whole version.fid (bytes_in contents)
  pub body : version.body ≡ bodies.File (bytes_in contents)

-- One key of the act has a change line; where the act is a close, a version under that gives the file the bytes of the close. All changes
-- that were told, and so this one, survive: in each volume, and by each version under this key
pub record AreMadeAndKept (s : Script) (c : Node) (act : Going) (past : List Entry) (own : List Line) (hosts : ℕ → ServerHost) (later : List Entry) : Type 0 where
  pub made : IsMade c past own
  pub closed : (o : Operand) (contents : Written) → act.act ≡ acts.Close o contents → IsClosed act contents made.key (own ++ lines_of past)
  pub survive : (i : ℕ) → Survives s i (hosts i) later
  pub versions : (v : Version) → HasMade made.key v (own ++ lines_of past) → IsHeldStill s v hosts later

-- What is acknowledged survives every crash. In every run, where an act that changes something was answered 0, its change was told, and
-- from then on each server keeps of its volumes what all changes that were told have made of them. Before the answer stand the entries
-- `before`, and in its own entry the lines `first`; `end` is any moment after it
abbrev pub AcknowledgedAreKept : Type 0
AcknowledgedAreKept =
    (s : Script) (history before after : List Entry) (e : Entry) (first rest : List Line) (c : Node) (code : Code) (act : Going) (end : Cell) → IsOfCell s → RunsTo history s end → history ≡ before ++ (e ∷ after) → e.lines ≡ first ++ lines.Answer c code ∷ rest
    → running s c (onto [] first ++ lines_of (past_of (set_up_entry s ∷ []) before)) ≡ Some act → IsChangingAct act.act → code.0 ≡ pos 0 → AreMadeAndKept s c act (past_of (set_up_entry s ∷ []) before) (onto [] first) end.hosts (past_of (set_up_entry s ∷ []) history)

-- the same of one history and its end
abbrev pub KeepsAcknowledged : Script → List Entry → Cell → Type 0
KeepsAcknowledged s history end =
    (before after : List Entry) (e : Entry) (first rest : List Line) (c : Node) (code : Code) (act : Going) → history ≡ before ++ (e ∷ after) → e.lines ≡ first ++ lines.Answer c code ∷ rest
    → running s c (onto [] first ++ lines_of (past_of (set_up_entry s ∷ []) before)) ≡ Some act → IsChangingAct act.act → code.0 ≡ pos 0 → AreMadeAndKept s c act (past_of (set_up_entry s ∷ []) before) (onto [] first) end.hosts (past_of (set_up_entry s ∷ []) history)

-- At its end the servers hold the ideal volumes whose stores they accept, and nothing else; and what was acknowledged is among that
pub record EndsWell (s : Script) (history : List Entry) (end : Cell) : Type 0 where
  pub held : AreTold s end (past_of (set_up_entry s ∷ []) history)
  pub kept : KeepsAcknowledged s history end

-- so does every run of such a script
abbrev pub RunsEndWell : Type 0
RunsEndWell = (s : Script) (history : List Entry) (end : Cell) → IsOfCell s → RunsTo history s end → EndsWell s history end

-- Behind a legal history, where a reply is the cause of a client's answer, its server ran the call since the act began
abbrev pub AnswersAreRecent : Type 0
AnswersAreRecent =
    (s : Script) (history : List Entry) → Legal history s → (j : ℕ) (act : Going) (code : ℤ) (own : List Line) (x : IsCaused s (Client j) act code (past_of (set_up_entry s ∷ []) history) own) → AreWithin (Client j) (x.cause.ran.newer ++ x.cause.ran.at ∷ [])

-- a server tells that a call isn't served exactly where its caller is no client, or its opcode none of those that it serves
abbrev pub UnservedAreRefused : Type 0
UnservedAreRefused =
    (s : ServerState) (clock : ℕ) (head : Head) (user : List ℕ) (call : FsCall) → (runs s clock head (whole head (carried.Call user (ask.File call))) ≡ refuses head not_served) ↔ ((is_client head.from && serves (call_number call)) ≡ false)

-- there is no room for the change of a call: the operation says so, or its record doesn't fit
abbrev pub LacksRoomBy : ServerState → ℕ → Head → Caller → FsCall → ℕ → Stored → Result → Type 0
LacksRoomBy s clock head caller call id st (refused code) = code ≡ 108
LacksRoomBy s clock head caller call id st (reads shown) = ⊥
LacksRoomBy s clock head caller call id st no_operation = ⊥
LacksRoomBy s clock head caller call id st (changes es n) =
    has_room (durable_of s.lasting) (record_of s.lasting.boot head clock (record { id = id; caller = caller; call = call; before = st; edits = es; shown = n })) ≡ false

abbrev pub LacksRoomIn : ServerState → ℕ → Head → Caller → FsCall → ℕ → Option Stored → Type 0
LacksRoomIn s clock head caller call id None = ⊥
LacksRoomIn s clock head caller call id (Some st) = LacksRoomBy s clock head caller call id st (op id caller call st.volume)

abbrev pub LacksRoom : ServerState → ℕ → Head → Caller → FsCall → Option ℕ → Type 0
LacksRoom s clock head caller call None = ⊥
LacksRoom s clock head caller call (Some id) = LacksRoomIn s clock head caller call id (get id s.lasting.volumes)

-- a server tells a client that there is no room (108) exactly where the change has none
abbrev pub RoomlessAreRefused : Type 0
RoomlessAreRefused =
    (s : ServerState) (clock : ℕ) (head : Head) (user : List ℕ) (call : FsCall)
    → (runs s clock head (whole head (carried.Call user (ask.File call))) ≡ refuses head no_room) ↔ ((is_client head.from ≡ true) × LacksRoom s clock head (the_user user) call (volume_called call))

-- What a change leaves is the fold of its record: where it is made in the volume as it stands, which it leaves one that a disk
-- may hold, and the callers are nodes.
abbrev pub ChangesAreFolded : Type 0
ChangesAreFolded = (l : Lasting) (head : Head) (clock : ℕ) (c : Change) → get c.id l.volumes ≡ Some c.before → CanBeStored c.id c.edits c.before.volume → IsNode head.from → AllByRecursion (λ (s : Seat). IsNode s.caller) l.kept →
    folded (record_of l.boot head clock c) (durable_of l) ≡ Some (durable_of (lasting_after head clock c l))

-- What the record of one change tells, as a restart tells it after a step that was interrupted, is what the step tells of it.
abbrev pub EffectsAreTold : Type 0
EffectsAreTold = (me : Node) (l : Lasting) (head : Head) (clock : ℕ) (c : Change) → get c.id l.volumes ≡ Some c.before → IsOneChange c.id c.edits c.before.volume → CanBeStored c.id c.edits c.before.volume →
    effect_of me (record_of l.boot head clock c) (durable_of l) ≡ lines.Change me (key_of head) (length (versions_made c)) ∷ versioned (versions_made c) []

-- what a start leaves is the fold of its record
abbrev pub StartsAreFolded : Type 0
StartsAreFolded = (l : Lasting) → folded (boot_record (l.boot + 1)) (durable_of l) ≡ Some (durable_of (lasting_started l))

-- the lines of the volumes at one server
abbrev pub placed_lines : ℕ → List VolumeLine → List VolumeLine
placed_lines server vs = filter (λ (v : VolumeLine). nat_eq v.server server) vs

-- the volumes' numbers ascend, from this one on
abbrev pub AscendBy : ℕ → List VolumeLine → Type 0
AscendBy n [] = ⊤
AscendBy n (v ∷ vs) = (n ≤ v.id) × AscendBy (v.id + 1) vs

-- What set-up puts on a disk of this capacity is what the server begins with, where the volumes of the script have ascending
-- numbers, as those of each script that can be read.
abbrev pub SetUpsAreFirst : Type 0
SetUpsAreFirst = (capacity server : ℕ) (vs : List VolumeLine) (d : Durable) → AscendBy 0 vs → set_ups.set_up capacity (placed_lines server vs) ≡ Some d →
    d ≡ durable_of (first_lasting capacity (first_stored (first_volumes_at server vs)))

-- ---- what holds between any two entries of a run

-- a call of a client that a server would run now was never given to it in this boot: a key runs at most once in each
abbrev pub CallsRunOnce : Type 0
CallsRunOnce =
    (s : Script) (history : List Entry) (end : Cell) → RunsTo history s end → (i j : ℕ) → (end.hosts i).down ≡ None → (head : Head) → head.from ≡ Client j → admitted (end.hosts i).state.lasting.boot (end.hosts i).state.seats head ≡ pairs.runs
    → IsUnheard (Server i) (called_key head) head.boot (past_of (set_up_entry s ∷ []) history)

-- the reply to the call that a client waits for is that of the entry which ran the call in the boot that the reply carries, and
-- tells what the ideal cell made of it there, for the client's user
abbrev pub RepliesAreCaused : Type 0
RepliesAreCaused =
    (s : Script) (history : List Entry) (end : Cell) → RunsTo history s end → (i j place : ℕ) (m : Message) (act : Going) → message_at end.sent place ≡ Some m → HasCode m.carried → m.head.from ≡ Server i → m.head.to ≡ Client j
    → (end.clients j).running ≡ Some act → m.head.epoch ≡ (end.clients j).epoch → m.head.number ≡ (end.clients j).last → (code : ℤ) × ((cause : Cause m code (asked act) (past_of (set_up_entry s ∷ []) history) []) × (cause.user ≡ user_of s (Client j)))

-- each reply of a server to a client, once sent, is that of the entry that ran its call in the boot that it carries
abbrev pub RepliesWereRun : Type 0
RepliesWereRun =
    (s : Script) (history : List Entry) (end : Cell) → RunsTo history s end → (i j place : ℕ) (m : Message) → message_at end.sent place ≡ Some m → HasCode m.carried → m.head.from ≡ Server i → m.head.to ≡ Client j → Ran m.head (past_of (set_up_entry s ∷ []) history)

abbrev pub seat_key : Node → Seat → Key
seat_key n seat = record { node = n; epoch = seat.epoch; number = seat.number }

-- And so is each that a server keeps for a client: it is its own reply, and answers the call whose pair the seat has
abbrev pub KeptWereRun : Type 0
KeptWereRun =
    (s : Script) (history : List Entry) (end : Cell) → RunsTo history s end → (i j : ℕ) (seat : Seat) (m : Message) → call_seat (Client j) (end.hosts i).state.seats ≡ Some seat → seat.reply ≡ Some m
    → IsReply m × (Ran m.head (past_of (set_up_entry s ∷ []) history) × ((answered_key m.head ≡ seat_key (Client j) seat) × (m.head.from ≡ Server i)))

-- its reply is kept
abbrev pub HasReply : Node → Seat → Type 0
HasReply n seat = (m : Message) × ((seat.reply ≡ Some m) × (answered_key m.head ≡ seat_key n seat))

-- what a server's disk keeps of a caller is its last call that changed something, with the reply to that
pub record AreChanges (s : Node) (kept : List Seat) (ls : List Line) : Type 0 where
  pub told : (n : Node) (seat : Seat) → call_seat n kept ≡ Some seat → HasChangeBy s (seat_key n seat) ls
  pub reply : (n : Node) (seat : Seat) → call_seat n kept ≡ Some seat → HasReply n seat
  pub last : (k : Key) → HasChangeBy s k ls → (seat : Seat) × ((call_seat k.node kept ≡ Some seat) × IsUpTo k.epoch k.number seat.epoch seat.number)

abbrev pub DurableAreChanges : Type 0
DurableAreChanges = (s : Script) (history : List Entry) (end : Cell) → RunsTo history s end → (i : ℕ) → AreChanges (Server i) (end.hosts i).state.lasting.kept (lines_of (past_of [] history))

abbrev pub IsPromisedIn : Promise → List Promise → Type 0
IsPromisedIn p [] = ⊥
IsPromisedIn p (q ∷ ps) = (q ≡ p) ⊎ IsPromisedIn p ps

-- a grant that lasts, of which no break became owed and that its client hasn't dropped, is promised still
abbrev pub GrantsAreKept : Type 0
GrantsAreKept =
    (s : Script) (history : List Entry) (end : Cell) → RunsTo history s end → (i : ℕ) (c : Node) (f : Fid) (expiry : ℕ) → kept_until (Server i) c f (lines_with_gifts (Server i) (past_of (set_up_entry s ∷ []) history)) ≡ Some expiry → end.clock < expiry
    → ((end.hosts i).down ≡ None) × IsPromisedIn (record { client = c; fid = f; expiry = expiry }) (end.hosts i).state.backs.lists.promises

abbrev pub IsOwedIn : List OwedBreak → Node → Option Fid → ℕ → Type 0
IsOwedIn [] c what n = ⊥
IsOwedIn (o ∷ os) c what n = ((o.client ≡ c) × ((o.what ≡ what) × (o.number ≡ n))) ⊎ IsOwedIn os c what n

-- a break is ended, or the server is up and owes it still
abbrev pub IsAccounted : ℕ → ServerHost → ℕ → Owes
IsAccounted i host clock newer at older before after c what n = EndedBy (Server i) clock newer at older before after c what n ⊎ ((host.down ≡ None) × IsOwedIn host.state.backs.lists.owed c what n)

abbrev pub BreaksAreOwed : Type 0
BreaksAreOwed = (s : Script) (history : List Entry) (end : Cell) → RunsTo history s end → (i : ℕ) → AllOwes (Server i) (IsAccounted i (end.hosts i) end.clock) (past_of (set_up_entry s ∷ []) history)

-- the client gave up what this break is on
abbrev pub IsHandled : ℕ → ℕ → Head → List Entry → OwedBreak → Type 0
IsHandled i j head past o = IsGivenUp (Server i) (Client j) head.epoch head.number o.what o.number past

-- where a client's reply to the call of its server is under way which that waits for, the client gave up all that the call breaks
abbrev pub RepliesFollowDrops : Type 0
RepliesFollowDrops =
    (s : Script) (history : List Entry) (end : Cell) → RunsTo history s end → (i j place : ℕ) (m : Message) (b : BackCall) → message_at end.sent place ≡ Some m → HasCode m.carried → m.head.to ≡ Server i → m.head.from ≡ Client j
    → (end.hosts i).down ≡ None → m.head.epoch ≡ (end.hosts i).state.lasting.boot → (end.hosts i).state.backs.calls (Client j) ≡ Some b → m.head.number ≡ b.number → AllByRecursion (IsHandled i j m.head (past_of (set_up_entry s ∷ []) history)) b.content

-- the client waits for the reply to this call
pub record IsAwaited (c : ClientState) (head : Head) : Type 0 where
  pub act : Going
  pub runs : c.running ≡ Some act
  pub epoch : head.epoch ≡ c.epoch
  pub number : head.number ≡ c.last

-- A changing call that its server may still run, and that its client doesn't wait for, be its act answered or dead: what the client keeps of
-- the fids that it may change, it was promised in an older boot of that server. So it keeps none of them while the server hasn't stopped
abbrev pub UnawaitedAreUntrusted : Type 0
UnawaitedAreUntrusted =
    (s : Script) (history : List Entry) (end : Cell) → RunsTo history s end → (i j place : ℕ) (head : Head) (user : List ℕ) (call : FsCall) (id : ℕ) → message_at end.sent place ≡ Some (record { head = head; carried = carried.Call user (ask.File call) }) → head.from ≡ Client j → head.to ≡ Server i
    → volume_changed call ≡ Some id → admitted (end.hosts i).state.lasting.boot (end.hosts i).state.seats head ≡ pairs.runs → (IsAwaited (end.clients j) head → ⊥)
    → (f : Fid) (e : CacheEntry) → may_change call f ≡ true → find_cached f (end.clients j).cache ≡ Some e
    → (reply : Message) × ((fetch_reply (Client j) f (past_of (set_up_entry s ∷ []) history) ≡ Some reply) × ((reply.head.from ≡ Server i) × (reply.head.boot < (end.hosts i).state.lasting.boot)))

-- A changing call that its client gave up at the third timeout and that its server would run, up or down: the client keeps nothing of the
-- volume that it may change
abbrev pub DeadAreUntrusted : Type 0
DeadAreUntrusted =
    (s : Script) (history : List Entry) (end : Cell) → RunsTo history s end → (i j place : ℕ) (head : Head) (user : List ℕ) (call : FsCall) (id : ℕ) → message_at end.sent place ≡ Some (record { head = head; carried = carried.Call user (ask.File call) }) → head.from ≡ Client j → head.to ≡ Server i
    → volume_changed call ≡ Some id → HasTimeout (Client j) (Server i) head.epoch head.number 3 (lines_of (past_of (set_up_entry s ∷ []) history)) → admitted (end.hosts i).state.lasting.boot (end.hosts i).state.seats head ≡ pairs.runs
    → (f : Fid) (e : CacheEntry) → f.volume ≡ id → find_cached f (end.clients j).cache ≡ Some e → ⊥
