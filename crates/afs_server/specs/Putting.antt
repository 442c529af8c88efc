-- What a step does to its store: what is decided is done, with its record or without one.
use Rattle.std.specs.Prelude.{◌≡◌, ◌≤◌, ◌+◌, ◌++◌, ℕ, List, [], Some, None, Result, Ok, Err, length, map}
use Rattle.spec_history.specs.declared.lines.Line.{Line}
use Rattle.spec_history.specs.declared.lines.Outs.{Outs}
use Rattle.afs_num.specs.declared.records.StoreRecord.{StoreRecord}
use Rattle.afs_num.specs.declared.types.Node.{Node}
use Rattle.spec_records.specs.Durable.{Durable}
use Rattle.spec_fold.specs.Effects.{effect_of}
use Rattle.spec_fold.specs.Fold.{folded}
use Rattle.spec_rows.specs.Callbacks as row
use Rattle.spec_rows.specs.ServerRow.{begun_after, does, shows, Decision}
use Rattle.spec_rows.specs.ServerSteps.{stepped}
use Rattle.spec_rows.specs.States.{ServerState}
use Rattle.afs_volstore.specs.Stores.{Store}
use Rattle.afs_memory.specs.Telling.{in_words}
use Rattle.afs_server.specs.Handling.{lines_behind, record_decided, server_seen, Makes}
use Rattle.afs_server.specs.Seen.{Memory, Serves}
use Rattle.afs_server_parts.specs.declared.faults.NodeFault.{NodeFault}
use Rattle.afs_server_parts.specs.declared.faults.NodeFault.TheVariants as faults
use Rattle.afs_server_parts.specs.declared.faults.NodeFault.TheVariants.{Down}
use Rattle.afs_disk.specs.declared.disk.Disk.{Ghosts}
use Rattle.afs_sharing.specs.Stores.{IsClosed, IsKeptBehind, LeavesPrepared, OnDisk, SameStore}
use Rattle.afs_sharing.specs.Lasting.{lasting_of}

-- no more promises are granted than a message has room for
abbrev pub IsFew : Decision → Type 0
IsFew (shows head r) = length r.granted ≤ 50
IsFew d = Unit {0}

-- What a restart tells of this record, where it stands on the disk, is what the row tells then of the step before its own lines.
abbrev pub IsToldAgain : Node → ServerState → ℕ → Decision → StoreRecord → Durable → Type 0
IsToldAgain me s clock d r durable = (ls : List Line) → (begun_after me s clock d).before ls ≡ map in_words (effect_of me r durable) ++ ls

-- the record of what is decided, if it has one
abbrev pub TellsAgain : {D : Type 0} → ℕ → Decision → Memory → Store D → Type 0
TellsAgain {D} clock d old s = (r : StoreRecord) → record_decided s.durable.boot clock d ≡ Some r → IsToldAgain s.node (server_seen old s) clock d r s.durable

-- what is left of a step that was made
pub record IsMadeOf {D : Type 0} (clock : ℕ) (d : Decision) (turn : row.CallbackStep) (old new : Memory) (s t : Store D) (outs : Outs) : Type 0 where
  pub makes : Makes (stepped s.node (does s.node (server_seen old s) clock 0 d []).state (lines_behind (does s.node (server_seen old s) clock 0 d turn.lines).lines) turn) [] new t outs
  pub serves : Serves t.node new t.durable
  pub store : t ≡ record s { durable = t.durable; disk = t.disk; prepared = t.prepared; count = t.count; drawn = t.drawn }
  pub done : IsKeptBehind (record_decided s.durable.boot clock d) s t
  pub prepared : LeavesPrepared (record_decided s.durable.boot clock d) s t (Ok outs)
  pub effects : TellsAgain clock d old s
  pub few : IsFew d

-- A disk that keeps the record of the step keeps what the row leaves of it.
pub record IsInterrupted {D : Type 0} (me : Node) (clock : ℕ) (d : Decision) (old : Memory) (s t : Store D) : Type 0 where
  pub closed : IsClosed s t
  pub some : record_decided s.durable.boot clock d ≡ None → ⊥
  pub effects : TellsAgain clock d old s
  pub left : (r : StoreRecord) → record_decided s.durable.boot clock d ≡ Some r → (e : Durable) → folded r s.durable ≡ Some e → lasting_of e ≡ (begun_after me (server_seen old s) clock d).state.lasting

-- what is decided is done, and then this; or memory was wanting, and all is as before; or the disk failed while the record was written
abbrev pub DoesAll : {D : Type 0} → ℕ → Decision → row.CallbackStep → Memory → Memory → Store D → Store D → Result Outs NodeFault → Type 0
DoesAll {D} clock d turn old new s t (Ok outs) = IsMadeOf clock d turn old new s t outs
DoesAll {D} clock d turn old new s t (Err faults.OutOfMemory) = (new ≡ old) × (SameStore s t × LeavesPrepared {T = Outs} (record_decided s.durable.boot clock d) s t (Err faults.OutOfMemory))
DoesAll {D} clock d turn old new s t (Err faults.Down) = IsInterrupted s.node clock d old s t

-- what a step that is decided so did, with this turn: to the server and its store, and to the disk
pub record Took {D : Type 0} (w : Ghosts D) (clock : ℕ) (d : Decision) (turn : row.CallbackStep) (old new : Memory) (s t : Store D) (result : Result Outs NodeFault) : Type 0 where
  pub does : DoesAll clock d turn old new s t result
  pub disk : OnDisk w (record_decided s.durable.boot clock d) s.durable s.disk t.disk result
