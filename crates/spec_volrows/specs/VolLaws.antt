-- Laws about the steps of a volume server: what it writes is what the fold of its records makes, stamps and transactions stay in order, and
-- replies wait for the breaks that their calls owe.
use Rattle.std.specs.Prelude.{⊤, ◌≡◌, ◌⊎◌, ◌≤◌, ◌+◌, ◌++◌, ℕ, Bool, true, false, List, [], ◌∷◌, Option, Some, None, is_some, filter, map, if◌then◌else◌}
use Rattle.std.specs.List.{AllByRecursion}
use Rattle.afs_num.specs.Nodes.{IsNode}
use Rattle.afs_num.specs.declared.messages.Message.{Message}
use Rattle.afs_num.specs.declared.messages.Received.{Received}
use Rattle.afs_num.specs.declared.records.RecordBody.{RecordBody}
use Rattle.afs_num.specs.declared.records.RecordBody.TheVariants as bodies
use Rattle.afs_num.specs.declared.types.Head.{Head}
use Rattle.afs_num.specs.declared.types.Node.{Node}
use Rattle.spec_breaks.specs.Promises.{has_break, Lists}
use Rattle.spec_history.specs.declared.lines.Line.{Line}
use Rattle.spec_history.specs.declared.lines.Line.TheVariants as lines
use Rattle.spec_ideal.specs.Tables.{get, set, unset, AscendsFrom, Table}
use Rattle.spec_records.specs.Durable.{has_room, or_zero, stamp_of, with_stamp, Durable, Stored}
use Rattle.spec_rows.specs.Callbacks.{alls, expired, is_ready, break_numbers, owe_line, replies_of}
use Rattle.spec_rows.specs.States.{durable_of, BackCall, Held, Lasting, Seat, ServerState}
use Rattle.spec_rows.specs.Steps.{Begun, Step}
use Rattle.spec_fold.specs.Deeds.{can_take, done_by, has_volume}
use Rattle.spec_fold.specs.Effects.{effect_of}
use Rattle.spec_fold.specs.Fold.{folded}
use Rattle.spec_volrows.specs.FileRow.{file_row}
use Rattle.spec_volrows.specs.VolRow.{gave, holds_of, takes_out}
use Rattle.spec_volrows.specs.VolStates.{NodeState, PieceCall, Transaction, VolState}
use Rattle.spec_volrows.specs.VolSteps.{deed_done, deed_head, deed_lines, deed_record, dispatches, drops, from_of, is_of_client, waits_for_breaks, node_back_timeout_row, node_begun_after, node_row, node_start_row, node_wake_row, owes_of, piece_timeout_row, released, repeats, replies_to, saves, tells_boot, vol_begun_after, vol_decides, withdraws_from, Deed, VolDecision}

-- ---- its disk

-- something is asked of what is written, and nothing of other decisions
abbrev pub OfSaved : (Head → Deed → Type 0) → VolDecision → Type 0
OfSaved asks (saves head x) = asks head x
OfSaved asks drops = ⊤
OfSaved asks (tells_boot head) = ⊤
OfSaved asks (repeats reply) = ⊤
OfSaved asks (replies_to head reply ts last) = ⊤
OfSaved asks (dispatches head x) = ⊤

-- the volume whose promises its record withdraws: one that is taken out of service, deleted, restored or cloned anew
abbrev pub taken_out : ℕ → ℕ → Option Stored → Option ℕ
taken_out id flags None = None
taken_out id flags (Some s) = if takes_out s.volume.flags flags then Some id else None

abbrev pub if_there : ℕ → Bool → Option ℕ
if_there id true = Some id
if_there id false = None

abbrev pub withdrawn_by : Durable → RecordBody → Option ℕ
withdrawn_by d (bodies.Delete id) = Some id
withdrawn_by d (bodies.Restore id dump) = Some id
withdrawn_by d (bodies.Flags id flags) = taken_out id flags (get id d.volumes)
withdrawn_by d (bodies.Clone source id name kind release) = if_there id (has_volume id d)
withdrawn_by d body = None

-- What is written can be taken by the fold, there is room for its record, and it withdraws what its record says, also under a raised stamp.
pub record IsWritable (d : Durable) (head : Head) (x : Deed) : Type 0 where
  pub taken : can_take x.body d ≡ true
  pub room : has_room d (deed_record head x) ≡ true
  pub withdraws : x.withdraws ≡ withdrawn_by d x.body

abbrev pub DeedsAreWritable : Type 0
DeedsAreWritable = (me : Node) (d : Durable) (v : VolState) (m : Received) → OfSaved (IsWritable d) (vol_decides me d v m)

-- What it leaves is the fold of its record, where the callers are nodes.
abbrev pub DeedsAreFolded : Type 0
DeedsAreFolded = (l : Lasting) (head : Head) (x : Deed) → can_take x.body (durable_of l) ≡ true → IsNode head.from → AllByRecursion (λ (s : Seat). IsNode s.caller) l.kept →
    folded (deed_record head x) (durable_of l) ≡ Some (durable_of (deed_done head x l))

-- What its record tells is what its step tells of it, and what a restart tells behind a step that was interrupted.
pub record DeedsAreTold : Type 0 where
  pub step : (me : Node) (l : Lasting) (head : Head) (x : Deed) → deed_lines me head x l ≡ effect_of me (deed_record head x) (durable_of l)
  pub restart : (me : Node) (s : ServerState) (head : Head) (x : Deed) (ls : List Line) →
      (vol_begun_after me s (saves head x)).before ls ≡ effect_of me (deed_record head x) (durable_of s.lasting) ++ ls

-- ---- what files see of it

-- A saved call leaves what its deed leaves on the disk, withdraws promises on one volume or none, and tells what its record tells and then the
-- breaks that it owes. The file server's callers stay.
pub record ShowsDeed (me : Node) (s : NodeState) (clock place : ℕ) (head : Head) (x : Deed) (r : Step NodeState) : Type 0 where
  pub lasting : r.state.file.lasting ≡ deed_done head x s.file.lasting
  pub seats : r.state.file.seats ≡ s.file.seats
  pub lists : r.state.file.backs.lists ≡ withdraws_from x.withdraws (expired clock s.file.backs).lists
  pub lines : r.lines ≡ lines.Given place ∷ (effect_of me (deed_record head x) (durable_of s.file.lasting) ++ map (owe_line me) (owes_of x.withdraws (expired clock s.file.backs).lists))

abbrev pub DeedsAreShown : Type 0
DeedsAreShown = (me : Node) (s : NodeState) (clock place : ℕ) (m : Received) (head : Head) (x : Deed) → is_of_client (from_of m) ≡ false → vol_decides me (durable_of s.file.lasting) s.vol m ≡ saves head x →
    ShowsDeed me s clock place head x (node_row me s clock place m)

-- no file sees anything, but that promises and breaks expire
pub record LeavesFiles (clock : ℕ) (s : ServerState) (r : Step NodeState) : Type 0 where
  pub lasting : r.state.file.lasting ≡ s.lasting
  pub seats : r.state.file.seats ≡ s.seats
  pub lists : r.state.file.backs.lists ≡ (expired clock s.backs).lists

abbrev pub is_saved : VolDecision → Bool
is_saved (saves head x) = true
is_saved d = false

-- every other call, every answer to a call of its own, and every timeout of one
pub record OthersLeaveFiles : Type 0 where
  pub given : (me : Node) (s : NodeState) (clock place : ℕ) (m : Received) → is_of_client (from_of m) ≡ false → is_saved (vol_decides me (durable_of s.file.lasting) s.vol m) ≡ false →
      LeavesFiles clock s.file (node_row me s clock place m)
  pub late : (me : Node) (s : NodeState) (clock : ℕ) (n : Node) (c : PieceCall) → LeavesFiles clock s.file (piece_timeout_row me s clock n c)

-- ---- a node whose callers are clients steps as its file server does, and its volume server rests

abbrev pub resting : VolState → Step ServerState → Step NodeState
resting v s = record { state = record { file = s.state; vol = v }; lines = s.lines; sent = s.sent }

abbrev pub ClientsLeaveVolumesAlone : Type 0
ClientsLeaveVolumesAlone = (me : Node) (s : NodeState) (clock place : ℕ) (m : Received) → s.vol.held ≡ [] → is_of_client (from_of m) ≡ true →
    node_row me s clock place m ≡ resting s.vol (file_row me (holds_of s.vol.transactions) s.file clock place m)

-- ---- stamps: a stored one never falls, and each transaction has the stored stamp of its family

abbrev pub AreStamped : (ℕ → ℕ) → Table Transaction → Type 0
AreStamped stamps ts = AllByRecursion (λ (p : ℕ × Transaction). p.1.stamp ≡ stamps p.1.family) ts

pub record StandsAfter (d : Durable) (head : Head) (x : Deed) : Type 0 where
  pub transactions : AreStamped (λ (f : ℕ). stamp_of f (with_stamp (deed_head head x) (done_by x.body d))) x.transactions
  pub stamps : (f : ℕ) → stamp_of f d ≤ stamp_of f (with_stamp (deed_head head x) (done_by x.body d))

abbrev pub KeepsStamps : Durable → VolDecision → Type 0
KeepsStamps d (saves head x) = StandsAfter d head x
KeepsStamps d (replies_to head reply ts last) = AreStamped (λ (f : ℕ). stamp_of f d) ts
KeepsStamps d drops = ⊤
KeepsStamps d (tells_boot head) = ⊤
KeepsStamps d (repeats reply) = ⊤
KeepsStamps d (dispatches head x) = ⊤

abbrev pub StampsStand : Type 0
StampsStand = (me : Node) (d : Durable) (v : VolState) (m : Received) → AreStamped (λ (f : ℕ). stamp_of f d) v.transactions → KeepsStamps d (vol_decides me d v m)

abbrev pub stamp_at : ServerState → ℕ → ℕ
stamp_at s f = or_zero (get f s.lasting.stamps)

abbrev pub IsStamped : NodeState → Type 0
IsStamped s = AreStamped (stamp_at s.file) s.vol.transactions

-- a state after another: no stamp fell
pub record Follows (before : ServerState) (after : NodeState) : Type 0 where
  pub stamped : IsStamped after
  pub rises : (f : ℕ) → stamp_at before f ≤ stamp_at after.file f

-- so it is at every step of a node
pub record NodesStayStamped : Type 0 where
  pub given : (me : Node) (s : NodeState) (clock place : ℕ) (m : Received) → IsStamped s → Follows s.file (node_row me s clock place m).state
  pub late : (me : Node) (s : NodeState) (clock : ℕ) (n : Node) (c : PieceCall) → IsStamped s → Follows s.file (piece_timeout_row me s clock n c).state
  pub back : (me : Node) (s : NodeState) (clock : ℕ) (n : Node) (c : BackCall) → IsStamped s → Follows s.file (node_back_timeout_row me s clock n c).state
  pub woken : (me : Node) (s : NodeState) (clock : ℕ) → IsStamped s → Follows s.file (node_wake_row me s clock).state
  pub cut : (me : Node) (s : NodeState) (clock : ℕ) (m : Received) → IsStamped s → (f : ℕ) → stamp_at s.file f ≤ stamp_at (node_begun_after me s clock m).state f
  pub started : (me : Node) (clock count : ℕ) (begun : Begun ServerState) → Follows begun.state (node_start_row me clock count begun).state

-- ---- transactions are apart: each on a volume of the disk, and no two on one

pub record AreApart (volumes : Table Stored) (last : ℕ) (ts : Table Transaction) : Type 0 where
  pub ascend : AscendsFrom 1 ts
  pub there : (n : ℕ) (t : Transaction) → get n ts ≡ Some t → is_some (get t.volume volumes) ≡ true
  pub numbered : (n : ℕ) (t : Transaction) → get n ts ≡ Some t → n ≤ last
  pub alone : (n m : ℕ) (t u : Transaction) → get n ts ≡ Some t → get m ts ≡ Some u → t.volume ≡ u.volume → n ≡ m

abbrev pub KeepsApart : Durable → VolDecision → Type 0
KeepsApart d (saves head x) = AreApart (done_by x.body d).volumes x.last x.transactions
KeepsApart d (replies_to head reply ts last) = AreApart d.volumes last ts
KeepsApart d drops = ⊤
KeepsApart d (tells_boot head) = ⊤
KeepsApart d (repeats reply) = ⊤
KeepsApart d (dispatches head x) = ⊤

abbrev pub TransactionsStayApart : Type 0
TransactionsStayApart = (me : Node) (d : Durable) (v : VolState) (m : Received) → AreApart d.volumes v.last_transaction v.transactions → KeepsApart d (vol_decides me d v m)

abbrev pub IsApart : NodeState → Type 0
IsApart s = AreApart s.file.lasting.volumes s.vol.last_transaction s.vol.transactions

-- so it is at every step of a node
pub record NodesStayApart : Type 0 where
  pub given : (me : Node) (s : NodeState) (clock place : ℕ) (m : Received) → IsApart s → IsApart (node_row me s clock place m).state
  pub late : (me : Node) (s : NodeState) (clock : ℕ) (n : Node) (c : PieceCall) → IsApart s → IsApart (piece_timeout_row me s clock n c).state
  pub back : (me : Node) (s : NodeState) (clock : ℕ) (n : Node) (c : BackCall) → IsApart s → IsApart (node_back_timeout_row me s clock n c).state
  pub woken : (me : Node) (s : NodeState) (clock : ℕ) → IsApart s → IsApart (node_wake_row me s clock).state
  pub started : (me : Node) (clock count : ℕ) (begun : Begun ServerState) → IsApart (node_start_row me clock count begun).state

-- The volumes that are held are those of the transactions, each with its flags. They change by one where a transaction begins or ends, and by
-- none where one is given bytes.
pub record HoldsFollow : Type 0 where
  pub held : (volumes : Table Stored) (last n : ℕ) (t : Transaction) (ts : Table Transaction) → AreApart volumes last ts → get n ts ≡ Some t → get t.volume (holds_of ts) ≡ Some t.flags
  pub begun : (volumes : Table Stored) (last : ℕ) (x : Transaction) (ts : Table Transaction) → AreApart volumes last ts → is_some (get x.volume volumes) ≡ true → ((n : ℕ) (t : Transaction) → get n ts ≡ Some t → t.volume ≡ x.volume → ⊥) →
      holds_of (set (last + 1) x ts) ≡ set x.volume x.flags (holds_of ts)
  pub ended : (volumes : Table Stored) (last n : ℕ) (t : Transaction) (ts : Table Transaction) → AreApart volumes last ts → get n ts ≡ Some t → holds_of (unset n ts) ≡ unset t.volume (holds_of ts)
  pub gave : (volumes : Table Stored) (last n : ℕ) (bytes : List ℕ) (ts : Table Transaction) → AreApart volumes last ts → holds_of (gave n bytes (get n ts) ts) ≡ holds_of ts

-- ---- replies that wait

abbrev pub IsAmong : ℕ → List ℕ → Type 0
IsAmong n [] = ⊥
IsAmong n (k ∷ ks) = (k ≡ n) ⊎ IsAmong n ks

-- this reply is held until the break of this number ends
abbrev pub IsHeldFor : Message → ℕ → List Held → Type 0
IsHeldFor reply n [] = ⊥
IsHeldFor reply n (h ∷ hs) = ((h.reply ≡ reply) × IsAmong n h.waits) ⊎ IsHeldFor reply n hs

-- the breaks for which the reply to a saved call waits
abbrev pub waits_of : Deed → Lists → List ℕ
waits_of x l = break_numbers (owes_of x.withdraws l) ++ alls l.owed

-- The reply to a saved call that waits for breaks doesn't go out in its step: each of these breaks is owed then, and the reply is held for it.
pub record IsHeldBack (reply : Message) (n : ℕ) (r : Step NodeState) : Type 0 where
  pub owed : has_break n r.state.file.backs.lists.owed ≡ true
  pub held : IsHeldFor reply n r.state.vol.held

abbrev pub FencesWait : Type 0
FencesWait = (me : Node) (s : NodeState) (clock place : ℕ) (m : Received) (head : Head) (x : Deed) (n : ℕ) → is_of_client (from_of m) ≡ false → vol_decides me (durable_of s.file.lasting) s.vol m ≡ saves head x →
    IsAmong n (waits_of x (expired clock s.file.backs).lists) → IsHeldBack x.reply n (node_row me s clock place m)

-- a step of the node keeps what is held while its break is owed
abbrev pub KeepsHeld : NodeState → Step NodeState → Type 0
KeepsHeld s r = (reply : Message) (n : ℕ) → IsHeldFor reply n s.vol.held → has_break n r.state.file.backs.lists.owed ≡ true → IsHeldFor reply n r.state.vol.held

pub record HeldAreKept : Type 0 where
  pub given : (me : Node) (s : NodeState) (clock place : ℕ) (m : Received) → KeepsHeld s (node_row me s clock place m)
  pub late : (me : Node) (s : NodeState) (clock : ℕ) (n : Node) (c : BackCall) → KeepsHeld s (node_back_timeout_row me s clock n c)
  pub piece : (me : Node) (s : NodeState) (clock : ℕ) (n : Node) (c : PieceCall) → KeepsHeld s (piece_timeout_row me s clock n c)
  pub woken : (me : Node) (s : NodeState) (clock : ℕ) → KeepsHeld s (node_wake_row me s clock)

-- What was held goes out behind all else, where none of its breaks is owed, and is held no more.
pub record HeldGoOut (v : VolState) (ls : List Line) (after : Step ServerState) : Type 0 where
  pub sent : (released v ls after).sent ≡ after.sent ++ replies_of (filter (is_ready after.state.backs.lists.owed) v.held)
  pub ended : AllByRecursion (λ (h : Held). (n : ℕ) → IsAmong n h.waits → has_break n after.state.backs.lists.owed ≡ false) (filter (is_ready after.state.backs.lists.owed) v.held)
  pub left : (released v ls after).state.vol.held ≡ filter (waits_for_breaks after.state.backs.lists.owed) v.held

abbrev pub HeldGoOutLast : Type 0
HeldGoOutLast = (v : VolState) (ls : List Line) (after : Step ServerState) → HeldGoOut v ls after
