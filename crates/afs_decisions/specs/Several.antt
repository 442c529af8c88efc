-- The statuses of several fids, as they are looked up one after the other.
use Rattle.std.specs.Prelude.{◌≡◌, ℕ, List, [], ◌∷◌, ◌++◌, map, length, false, Option, Some, None, Result, Ok, Err, ℤ, pos, nat_eq}
use Rattle.afs_num.specs.declared.calls.AfsVolSync.{AfsVolSync}
use Rattle.afs_num.specs.declared.calls.FsReply.{FsReply}
use Rattle.afs_num.specs.declared.calls.FsReply.TheVariants as replies
use Rattle.afs_num.specs.declared.types.Fid.{Fid}
use Rattle.spec_ideal.specs.Operations.{Caller}
use Rattle.spec_ideal.specs.Replies.{sync_of}
use Rattle.spec_shape.specs.Rows.{no_callback, no_sync}
use Rattle.spec_rows.specs.ServerRow.{sight_status, Sight}
use Rattle.afs_callees.specs.Telling.{grants_seen}
use Rattle.afs_reads.specs.declared.faults.OpFault.{OpFault}
use Rattle.afs_reads.specs.declared.faults.OpFault.TheVariants as faults
use Rattle.afs_decisions.specs.declared.decided.Decided.{Decided}
use Rattle.afs_decisions.specs.declared.decided.Decided.TheVariants as decided
use Rattle.afs_decisions.specs.declared.several.Seen.{Seen}
use Rattle.afs_decisions.specs.declared.several.Told.{Told}

-- a fid is seen so, or refused with a code
pub record IsSight (caller : Caller) (f : Fid) (seen : Seen) (x : Sight) : Type 0 where
  pub status : seen.status ≡ sight_status caller x
  pub sync : seen.sync ≡ sync_of x.stored.volume
  pub fid : x.found.fid ≡ f

abbrev pub IsSeen : Caller → Fid → Seen → Result Sight ℕ → Type 0
IsSeen caller f seen (Ok x) = IsSight caller f seen x
IsSeen caller f seen (Err code) = ⊥

-- refused with this code, which isn't 0
abbrev pub IsRefused : {A : Type 0} → ℤ → Result A ℕ → Type 0
IsRefused {A} code (Ok x) = ⊥
IsRefused {A} code (Err k) = (pos k ≡ code) × (nat_eq k 0 ≡ false)

-- refused so; memory may be wanting either way
abbrev pub IsFault : {A : Type 0} → OpFault → Result A ℕ → Type 0
IsFault {A} (faults.Code code) s = IsRefused code.0 s
IsFault {A} faults.OutOfMemory s = Unit {0}

abbrev pub Sees : Caller → Fid → Result Sight ℕ → Result Seen OpFault → Type 0
Sees caller f s (Ok seen) = IsSeen caller f seen s
Sees caller f s (Err fault) = IsFault fault s

-- what a volume answers to FetchStatus
abbrev pub IsStatusRead : Result FsReply OpFault → Type 0
IsStatusRead (Ok (replies.FetchStatus status callback sync)) = Unit {0}
IsStatusRead (Ok reply) = ⊥
IsStatusRead (Err fault) = Unit {0}

-- and what is seen in it; it answers with no other reply
abbrev pub seen_in : Result FsReply OpFault → Result Seen OpFault
seen_in (Ok (replies.FetchStatus status callback sync)) = Ok (record { status = status; sync = sync })
seen_in (Ok reply) = Err faults.OutOfMemory
seen_in (Err fault) = Err fault

abbrev pub or_first : AfsVolSync → Option AfsVolSync → Option AfsVolSync
or_first sync None = Some sync
or_first sync (Some first) = Some first

abbrev pub sync_seen : List Sight → Option AfsVolSync
sync_seen [] = None
sync_seen (x ∷ xs) = Some (sync_of x.stored.volume)

-- what is told of these
pub record AreTold (caller : Caller) (xs : List Sight) (t : Told) : Type 0 where
  pub statuses : t.statuses ≡ map (sight_status caller) xs
  pub callbacks : t.callbacks ≡ map (λ (x : Sight). no_callback) xs
  pub grants : t.grants ≡ grants_seen (map (λ (x : Sight). x.found) xs)
  pub sync : t.sync ≡ sync_seen xs

-- behind those that have been seen
abbrev pub behind : List Sight → Result (List Sight) ℕ → Result (List Sight) ℕ
behind xs (Ok ys) = Ok (xs ++ ys)
behind xs (Err code) = Err code

-- one more is told, which is this
pub record TellsOne (caller : Caller) (s : Result Sight ℕ) (old new : Told) : Type 0 where
  pub sight : Sight
  pub seen : s ≡ Ok sight
  pub told : (xs : List Sight) → AreTold caller xs old → AreTold caller (xs ++ sight ∷ []) new

abbrev pub TellsNext : Caller → Result Sight ℕ → Told → Told → Result (Unit {0}) OpFault → Type 0
TellsNext caller s old new (Ok u) = TellsOne caller s old new
TellsNext caller s old new (Err fault) = IsFault fault s

-- some of these have been told, and they stand before the others
pub record AreFirst (caller : Caller) (all rest : Result (List Sight) ℕ) (count : ℕ) (t : Told) : Type 0 where
  pub sights : List Sight
  pub behind : all ≡ behind sights rest
  pub told : AreTold caller sights t
  pub few : length sights ≡ count

abbrev pub AreSeen : Caller → ℕ → Told → Result (List Sight) ℕ → Type 0
AreSeen caller count told (Ok xs) = AreTold caller xs told × (length xs ≡ count)
AreSeen caller count told (Err code) = ⊥

abbrev pub SeesAll : Caller → ℕ → Result (List Sight) ℕ → Result Told OpFault → Type 0
SeesAll caller count s (Ok told) = AreSeen caller count told s
SeesAll caller count s (Err fault) = IsFault fault s

-- ---- what is then decided

abbrev pub sync_told : Option AfsVolSync → AfsVolSync
sync_told None = no_sync
sync_told (Some sync) = sync

abbrev pub ToldAs : Result Told OpFault → Decided → Type 0
ToldAs (Ok t) d = d ≡ decided.Shows (replies.BulkStatus t.statuses t.callbacks (sync_told t.sync)) t.grants
ToldAs (Err (faults.Code code)) d = d ≡ decided.Refuses code.0
ToldAs (Err faults.OutOfMemory) d = ⊥
