-- What a step of a volume server gives, before the replies go out that waited for breaks.
use Rattle.std.specs.Prelude.{◌≡◌, ◌≤◌, ◌<◌, ◌+◌, ◌++◌, ℤ, ℕ, List, [], ◌∷◌, length, map, None, Some, Option, Result, Ok, Err}
use Rattle.afs_num.specs.declared.messages.Carried.TheVariants as carried
use Rattle.afs_num.specs.declared.messages.Received.{Received}
use Rattle.afs_num.specs.declared.records.StoreRecord.{StoreRecord}
use Rattle.afs_num.specs.declared.types.Head.{Head}
use Rattle.afs_num.specs.declared.types.Node.{Node}
use Rattle.afs_disk.specs.declared.disk.Disk.{Ghosts}
use Rattle.spec_history.specs.declared.lines.Line.{Line}
use Rattle.spec_history.specs.declared.lines.Outs.{Outs}
use Rattle.spec_model.specs.Messages.{messages_spelled, parcels_read, received_by}
use Rattle.spec_records.specs.Durable.{Durable}
use Rattle.spec_fold.specs.Effects.{effect_of}
use Rattle.spec_fold.specs.Fold.{folded}
use Rattle.afs_memory.specs.Telling.{in_words}
use Rattle.spec_rows.specs.Callbacks as row
use Rattle.spec_rows.specs.Callbacks.{pumped}
use Rattle.spec_rows.specs.States.{Backs, ServerState}
use Rattle.spec_volrows.specs.VolStates.{PieceCall, Sending}
use Rattle.spec_volrows.specs.VolSteps.{deed_record, saves, vol_begun_after, vol_decides, vol_timed, vol_told, vol_turn, vol_turned, VolDecision, VolTurn}
use Rattle.afs_callbacks.specs.States.{backs_at, CallbackState}
use Rattle.afs_volstore.specs.Stores.{Store}
use Rattle.afs_server_parts.specs.declared.faults.NodeFault.{NodeFault}
use Rattle.afs_server_parts.specs.declared.faults.NodeFault.TheVariants as faults
use Rattle.afs_volserv.specs.Seen.{durable_seen, vol_seen, CanRelease, ServesVolumes, StandsBeside, VolMemory}
use Rattle.afs_sharing.specs.Stores.{IsClosed, IsKeptBehind, SameStore, OnDisk, LeavesPrepared}
use Rattle.afs_sharing.specs.Lasting.{lasting_of}

-- the calls that it serves
abbrev pub vol_calls_served : List ℕ
vol_calls_served = 100 ∷ 101 ∷ 102 ∷ 103 ∷ 104 ∷ 105 ∷ 106 ∷ 107 ∷ 108 ∷ 109 ∷ 111 ∷ 113 ∷ 116 ∷ 120 ∷ []

-- ---- by the row

-- what is promised, owed, called and held at this time
abbrev pub backs_then : {D : Type 0} → CallbackState → Store D → ℕ → Backs
backs_then {D} k s clock = row.expired clock (backs_at k s.drawn)

-- what is decided at this time on what was found in a message
abbrev pub vol_decided : {D : Type 0} → VolMemory → Store D → Received → VolDecision
vol_decided {D} m s r = vol_decides s.node (durable_seen s) (vol_seen m) r

-- what the row does where this is decided
abbrev pub vol_turn_then : {D : Type 0} → VolMemory → CallbackState → Store D → ℕ → VolDecision → VolTurn
vol_turn_then {D} m k s clock d = vol_turn s.node (lasting_of s.durable) (vol_seen m) (backs_then k s clock) d

-- with an answer to a call of its own: with a reply, or a refusal with this code, and with a notice
abbrev pub vol_answered_then : {D : Type 0} → VolMemory → CallbackState → Store D → ℕ → Head → ℤ → VolTurn
vol_answered_then {D} m k s clock head code = vol_told s.node (lasting_of s.durable) (vol_seen m) (backs_then k s clock) head (carried.Refusal (record { 0 = code }))

abbrev pub vol_noticed_then : {D : Type 0} → VolMemory → CallbackState → Store D → ℕ → Head → VolTurn
vol_noticed_then {D} m k s clock head = vol_told s.node (lasting_of s.durable) (vol_seen m) (backs_then k s clock) head carried.Notice

-- where this unanswered call, which carries these dumps, has waited too long
abbrev pub vol_timed_then : {D : Type 0} → VolMemory → CallbackState → Store D → ℕ → Node → PieceCall → List Sending → VolTurn
vol_timed_then {D} m k s clock n c dumps = vol_timed s.node (lasting_of s.durable) (vol_seen m) (backs_then k s clock) n c dumps

-- and with what was found in a message
abbrev pub vol_turned_by : {D : Type 0} → VolMemory → CallbackState → Store D → ℕ → Received → VolTurn
vol_turned_by {D} m k s clock r = vol_turned s.node (lasting_of s.durable) (vol_seen m) (backs_then k s clock) (vol_decided m s r) r

-- by the bytes of a message
abbrev pub vol_decided_then : {D : Type 0} → VolMemory → Store D → List ℕ → VolDecision
vol_decided_then {D} m s bytes = vol_decided m s (received_by vol_calls_served bytes)

abbrev pub vol_turned_then : {D : Type 0} → VolMemory → CallbackState → Store D → ℕ → List ℕ → VolTurn
vol_turned_then {D} m k s clock bytes = vol_turned_by m k s clock (received_by vol_calls_served bytes)

-- ---- the step

-- what the file server then does with promises and breaks
abbrev pub turn_behind : VolTurn → row.CallbackStep
turn_behind t = record { backs = t.backs; lines = []; sent = t.sent; outs = [] }

-- The step was made: what it leaves of the volume server, of the disk, and of promises and breaks; its lines; and what it sends, with the
-- file server's replies and breaks behind that.
pub record MakesVolumes {D : Type 0} (t : VolTurn) (me : Node) (m : VolMemory) (k : CallbackState) (s : Store D) (outs : Outs) : Type 0 where
  pub vol : vol_seen m ≡ t.vol
  pub lasting : lasting_of s.durable ≡ t.lasting
  pub backs : backs_at k s.drawn ≡ (pumped me t.lasting.boot (turn_behind t)).backs
  pub lines : outs.lines ≡ t.lines
  pub sent : parcels_read outs.parcels ≡ messages_spelled (pumped me t.lasting.boot (turn_behind t)).sent

-- The step was made; or memory was wanting, and all is as before, but that a record may be left prepared; or the disk failed while the
-- step's record was written, and what the node had in memory is gone.
abbrev pub HandlesVolumes : {D : Type 0} → VolTurn → VolMemory → VolMemory → CallbackState → CallbackState → Store D → Store D → Result Outs NodeFault → Type 0
HandlesVolumes {D} t old new k l s u (Ok outs) = MakesVolumes t s.node new l u outs
HandlesVolumes {D} t old new k l s u (Err faults.OutOfMemory) = (new ≡ old) × ((l ≡ k) × SameStore s u)
HandlesVolumes {D} t old new k l s u (Err faults.Down) = IsClosed s u

-- What stays in order: what both servers of the node keep with the store; that the boot is the same; and that replies can go out, where there
-- was room for one more.
pub record StaysInOrder {D : Type 0} (old new : VolMemory) (l : CallbackState) (u : Store D) : Type 0 where
  pub serves : ServesVolumes new u
  pub beside : StandsBeside l u
  pub boot : new.boot ≡ old.boot
  pub release : length old.held < old.room → CanRelease new

-- A step draws few numbers of calls, and none of a break that wasn't that of a promise.
pub record DrawsFew {D : Type 0} (k l : CallbackState) (s u : Store D) : Type 0 where
  pub calls : u.drawn ≤ s.drawn + 204
  pub breaks : l.lists.last_owed + length l.lists.promises ≤ k.lists.last_owed + length k.lists.promises

-- ---- a step that leaves what is on the disk as it is

pub record IsStep {D : Type 0} (t : VolTurn) (old new : VolMemory) (k l : CallbackState) (s u : Store D) (outs : Outs) : Type 0 where
  pub makes : MakesVolumes t s.node new l u outs
  pub order : StaysInOrder old new l u
  pub draws : DrawsFew k l s u
  pub store : u ≡ record s { drawn = u.drawn; holds = u.holds }

-- it was made, or memory was wanting, and all is as before
abbrev pub StepsVolumes : {D E : Type 0} → VolTurn → VolMemory → VolMemory → CallbackState → CallbackState → Store D → Store D → Result Outs E → Type 0
StepsVolumes {D} {E} t old new k l s u (Ok outs) = IsStep t old new k l s u outs
StepsVolumes {D} {E} t old new k l s u (Err e) = (new ≡ old) × ((l ≡ k) × (u ≡ s))

-- ---- the step's record

-- if it makes one
abbrev pub vol_record : VolDecision → Option StoreRecord
vol_record (saves head x) = Some (deed_record head x)
vol_record d = None

-- What a restart tells of this record, where it stands on the disk, is what the row tells then of the step before its own lines.
abbrev pub IsToldAgain : {D : Type 0} → VolDecision → Store D → Type 0
IsToldAgain {D} d s = (r : StoreRecord) → vol_record d ≡ Some r → (f : ServerState) → f.lasting ≡ lasting_of s.durable → (ls : List Line) →
    (vol_begun_after s.node f d).before ls ≡ map in_words (effect_of s.node r s.durable) ++ ls

-- A disk that keeps the record keeps what the row leaves of the step.
abbrev pub IsLeftAgain : {D : Type 0} → VolDecision → Store D → Type 0
IsLeftAgain {D} d s = (r : StoreRecord) → vol_record d ≡ Some r → (e : Durable) → folded r s.durable ≡ Some e → (f : ServerState) → f.lasting ≡ lasting_of s.durable →
    lasting_of e ≡ (vol_begun_after s.node f d).state.lasting

-- what is left of a step that was made
pub record IsVolumeStep {D : Type 0} (d : VolDecision) (t : VolTurn) (old new : VolMemory) (k l : CallbackState) (s u : Store D) (outs : Outs) : Type 0 where
  pub makes : MakesVolumes t s.node new l u outs
  pub order : StaysInOrder old new l u
  pub draws : DrawsFew k l s u
  pub store : u ≡ record s { durable = u.durable; disk = u.disk; prepared = u.prepared; count = u.count; drawn = u.drawn; holds = u.holds }
  pub done : IsKeptBehind (vol_record d) s u
  pub prepared : LeavesPrepared (vol_record d) s u (Ok outs)
  pub effects : IsToldAgain d s

-- and of one that its disk ended
pub record IsCutShort {D : Type 0} (d : VolDecision) (s u : Store D) : Type 0 where
  pub closed : IsClosed s u
  pub some : vol_record d ≡ None → ⊥
  pub effects : IsToldAgain d s
  pub left : IsLeftAgain d s

-- the step was made; or memory was wanting, and all is as before; or the disk failed while the record was written
abbrev pub DoesVolumes : {D : Type 0} → VolDecision → VolTurn → VolMemory → VolMemory → CallbackState → CallbackState → Store D → Store D → Result Outs NodeFault → Type 0
DoesVolumes {D} d t old new k l s u (Ok outs) = IsVolumeStep d t old new k l s u outs
DoesVolumes {D} d t old new k l s u (Err faults.OutOfMemory) = (new ≡ old) × ((l ≡ k) × (SameStore s u × LeavesPrepared {T = Outs} (vol_record d) s u (Err faults.OutOfMemory)))
DoesVolumes {D} d t old new k l s u (Err faults.Down) = IsCutShort d s u

-- what a step did that is decided so, with this turn: to the servers and their store, and to the disk
pub record TookVolumes {D : Type 0} (w : Ghosts D) (d : VolDecision) (t : VolTurn) (old new : VolMemory) (k l : CallbackState) (s u : Store D) (result : Result Outs NodeFault) : Type 0 where
  pub does : DoesVolumes d t old new k l s u result
  pub disk : OnDisk w (vol_record d) s.durable s.disk u.disk result
