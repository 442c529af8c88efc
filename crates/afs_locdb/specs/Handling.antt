-- What a call of the location database's node gives.
use Rattle.std.specs.Prelude.{◌≡◌, ◌+◌, ◌++◌, ℕ, List, [], ◌∷◌, true, Option, Some, None, Result, Ok, Err}
use Rattle.spec_history.specs.declared.lines.Line.{Line}
use Rattle.spec_history.specs.declared.lines.Outs.{Outs}
use Rattle.afs_num.specs.declared.messages.Message.{Message}
use Rattle.afs_num.specs.declared.types.Head.{Head}
use Rattle.spec_model.specs.Messages.{messages_spelled, parcels_read, received_by}
use Rattle.spec_records.specs.LocDurable.{loc_folded}
use Rattle.spec_records.specs.LocRecords.{LocRecord}
use Rattle.spec_rows.specs.LocRow.{loc_decides, loc_keeps, loc_left, loc_record_of, loc_sent, saves, LocDecision, LocState}
use Rattle.spec_rows.specs.LocSteps.{loc_told}
use Rattle.spec_rows.specs.Steps.{Step}
use Rattle.afs_locdb.specs.Seen.{loc_seen, Database, IsInBoot}
use Rattle.afs_server_parts.specs.declared.faults.NodeFault.{NodeFault}
use Rattle.afs_server_parts.specs.declared.faults.NodeFault.TheVariants as faults
pub use Rattle.afs_saving.specs.Saving.{IsQuiet, IsWritten}

-- the calls that it serves
abbrev pub loc_calls_served : List ℕ
loc_calls_served = 501 ∷ 502 ∷ 503 ∷ 504 ∷ 505 ∷ 506 ∷ 508 ∷ 509 ∷ 510 ∷ []

-- The step was made: the new state is its, and so is what was given out. Its lines are these and then the node's.
pub record Makes {D : Type 0} (step : Step LocState) (before : List Line) (new : Database D) (outs : Outs) : Type 0 where
  pub state : loc_seen new ≡ step.state
  pub lines : before ++ outs.lines ≡ step.lines
  pub sent : parcels_read outs.parcels ≡ messages_spelled step.sent

-- nothing but the disk's room, and a record that was prepared, is another
abbrev pub IsUntouched : {D : Type 0} → Database D → Database D → Type 0
IsUntouched {D} old new = new ≡ record old { store = record old.store { disk = new.store.disk; prepared = new.store.prepared } }

-- the store's device call failed; it is closed until its disk is attached anew
abbrev pub IsClosed : {D : Type 0} → Database D → Database D → Type 0
IsClosed {D} old new = new.store ≡ record old.store { disk = new.store.disk; prepared = None; closed = true }

-- The step was made; or memory was wanting, and the database is as before; or the disk failed while the step's record was written,
-- and what the database had in memory is gone.
abbrev pub Handles : {D : Type 0} → Step LocState → List Line → Database D → Database D → Result Outs NodeFault → Type 0
Handles {D} step before old new (Ok outs) = Makes step before new outs
Handles {D} step before old new (Err faults.OutOfMemory) = IsUntouched old new
Handles {D} step before old new (Err faults.Down) = IsClosed old new

-- what is decided leaves this state, tells these lines and sends these messages
abbrev pub loc_done : LocState → LocDecision → Step LocState
loc_done s d = record { state = loc_left s d; lines = loc_told s d; sent = loc_sent s d }

-- What is decided is done, where that leaves the disk as it is: the store is the same, and the database serves as before. Or memory was
-- wanting, and all is as before.
abbrev pub Does : {D E : Type 0} → LocDecision → Database D → Database D → Result Outs E → Type 0
Does {D} {E} d old new (Ok outs) = Makes (loc_done (loc_seen old) d) [] new outs × (IsInBoot new × (new.store ≡ old.store))
Does {D} {E} d old new (Err e) = new ≡ old

-- a call that runs is answered with this message, which is kept
abbrev pub Answers : {D E : Type 0} → Head → Message → Database D → Database D → Result Outs E → Type 0
Answers {D} {E} head message old new (Ok outs) =
    Makes (record { state = loc_keeps head message (loc_seen old); lines = []; sent = message ∷ [] }) [] new outs × (IsInBoot new × (new.store ≡ old.store))
Answers {D} {E} head message old new (Err e) = new ≡ old

-- ---- the disk

-- the record that a step makes, if it makes one
abbrev pub loc_record_decided : ℕ → LocDecision → Option LocRecord
loc_record_decided boot (saves head c) = Some (loc_record_of boot head c)
loc_record_decided boot d = None

-- what is decided on the message of these bytes, and its record, if it makes one
abbrev pub loc_decided_then : {D : Type 0} → Database D → List ℕ → LocDecision
loc_decided_then {D} b bytes = loc_decides (loc_seen b) (received_by loc_calls_served bytes)

abbrev pub loc_record_then : {D : Type 0} → Database D → List ℕ → Option LocRecord
loc_record_then {D} b bytes = loc_record_decided b.store.durable.boot (loc_decided_then b bytes)

-- what is kept on the disk after a step that makes this record, or none
abbrev pub IsKeptBehind : {D : Type 0} → Option LocRecord → Database D → Database D → Type 0
IsKeptBehind {D} None old new = (new.store.durable ≡ old.store.durable) × (new.store.count ≡ old.store.count)
IsKeptBehind {D} (Some r) old new = (loc_folded r old.store.durable ≡ Some new.store.durable) × (new.store.count ≡ old.store.count + 1)
