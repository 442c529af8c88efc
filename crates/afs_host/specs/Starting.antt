-- What becomes of a node that was down and begins again, of whatever kind it is.
use Rattle.std.specs.Prelude.{◌≡◌, ◌⊎◌, ◌+◌, ℕ, List, [], ◌∷◌, ◌++◌, Bool, Some, length, IsSome}
use Rattle.afs_num.specs.declared.faults.StoreFault.{StoreFault}
use Rattle.afs_num.specs.declared.faults.StoreFault.TheVariants as refusals
use Rattle.spec_history.specs.declared.lines.Line.{Line}
use Rattle.spec_history.specs.declared.lines.Line.TheVariants as lines
use Rattle.afs_disk.specs.Disk.{Rose}
use Rattle.afs_disk.specs.Fuses.{Fused}
use Rattle.afs_disk.specs.declared.disk.Disk.{Ghosts}
use Rattle.afs_journal.specs.Records.{whole_records}
use Rattle.spec_rows.specs.Hosts.{at_rest, begun_from, comes_up, fails_midway, goes, in_boot, is_full, restarted, without_boot_record, stays, unarmed, Fails, Fall, Host, HostStep, NodeKind, MayFind, Outcome}
use Rattle.spec_rows.specs.Steps.{Begun, Step}
use Rattle.afs_store.specs.Stores.{StandFor, StoreOf}
use Rattle.afs_host.specs.Seats.{IsHostDown, IsHostStepDown, IsHostStepUp, Resting, Running}
use Rattle.afs_host.specs.Standing.{Keeping}
use Rattle.afs_host.specs.Views.{count_mark, StoreView}
use Rattle.afs_host.specs.declared.starting.Start.{Start}
use Rattle.afs_host.specs.declared.starting.Start.TheVariants as starts

-- How a kind of node that is up is seen: its state, in its memory and its store; what its host sees of the store; and what is known where
-- memory ran out behind the record of a boot that began with this state.
pub record Sight (N V D S : Type 0) : Type 1 where
  pub state : N → V → S
  pub shown : V → StoreView D
  pub Lost : S → Type 0

-- One of the two that the disk may hold was found, as the blow that ended the step allows it, and the restart ended so; the step of the
-- host, of a node of this kind, is this. Where the disk failed, its count rose.
pub record HasStarted {S : Type 0} (kind : NodeKind S) (h : Host S) (clock count : ℕ) (fall : Fall) (Is : HostStep S → Type 0) (rose : Type 0) : Type 0 where
  pub after : Bool
  pub may : MayFind fall after
  pub outcome : Outcome
  pub is : Is (restarted kind h clock count after outcome fall)
  pub blame : Fails outcome → rose

-- The node is up, and gave this out; or it stays down, and told this. Or memory ran out, and it is what it was; or it can't be told
-- of, since the record of its boot is on the disk.
abbrev pub IsStartedBy : {R T M P L S N V D : Type 0} → Keeping R T M P L S → Sight N V D S → Ghosts D → ℕ → ℕ → Resting D → Start (Running N V) (Resting D) → Type 0
IsStartedBy {R} {T} {M} {P} {L} {S} k v w clock count old (starts.Up r outs) =
    (h : Host S) (was : IsHostDown w.seen w.may_leave w.limit k old h) → HasStarted k.kind h clock count was.fall (IsHostStepUp v.state r [] outs) (Rose (w.faults old.disk) (w.faults (v.shown r.store).fuse.disk))
IsStartedBy {R} {T} {M} {P} {L} {S} k v w clock count old (starts.Down s ls) =
    (h : Host S) (was : IsHostDown w.seen w.may_leave w.limit k old h) → HasStarted k.kind h clock count was.fall (IsHostStepDown w.seen w.may_leave w.limit k s ls) (Rose (w.faults old.disk) (w.faults s.disk))
IsStartedBy {R} {T} {M} {P} {L} {S} k v w clock count old (starts.Unchanged s) =
    (h : Host S) → IsHostDown w.seen w.may_leave w.limit k old h → IsHostDown w.seen w.may_leave w.limit k s h
IsStartedBy {R} {T} {M} {P} {L} {S} k v w clock count old (starts.Lost s) =
    (h : Host S) (was : IsHostDown w.seen w.may_leave w.limit k old h) → (after : Bool) × (MayFind was.fall after × v.Lost (begun_from k.kind h.state after was.fall).state)

-- ---- whatever the disk tells

-- a restart over what was found, which tells these lines first
abbrev pub begun_over : {R T M P L S : Type 0} → Keeping R T M P L S → T → List Line → Begun S
begun_over k d front = record { state = k.begun d; before = λ ls. front ++ ls }

-- The record of the boot was put after what was found, and the node is up in that boot, by this step of its start; or it didn't fit, or
-- the disk failed while it was written, and the node stays down. Or memory ran out before the record was begun, or once it was on the
-- disk. Where it isn't told that the disk failed, its count is what it was before.
abbrev pub BootsOverBy : {R T M P L S N V D : Type 0} → Keeping R T M P L S → Sight N V D S → Ghosts D → (Begun S → Step S) → T → List Line → ℕ → Start (Running N V) (Resting D) → Type 0
BootsOverBy k v w start d front before (starts.Up r outs) =
    (without_boot_record (k.kind.can_start (k.begun d)) comes_up ≡ comes_up) × (IsHostStepUp v.state r [] outs (goes unarmed (start (begun_over k d front))) × (w.faults (v.shown r.store).fuse.disk ≡ before))
BootsOverBy k v w start d front before (starts.Down s ls) =
    ((without_boot_record (k.kind.can_start (k.begun d)) is_full ≡ is_full) × ((ls ≡ front ++ lines.Full k.kind.me ∷ []) × (w.faults s.disk ≡ before)))
    ⊎ ((without_boot_record (k.kind.can_start (k.begun d)) fails_midway ≡ fails_midway) × ((ls ≡ front ++ lines.Fault k.kind.me ∷ []) × Rose before (w.faults s.disk)))
BootsOverBy k v w start d front before (starts.Unchanged s) = w.faults s.disk ≡ before
BootsOverBy k v w start d front before (starts.Lost s) = v.Lost (k.begun d) × (w.faults s.disk ≡ before)

-- The disk failed before anything was found, or a record of this number can't be taken; that the node stays down is all that is told.
pub record IsRefusedOver {R T M P L S D : Type 0} (k : Keeping R T M P L S) (w : Ghosts D) (old new : Resting D) (told : List Line) : Type 0 where
  pub mark : new.mark ≡ old.mark
  pub lines : told ≡ lines.Fault k.kind.me ∷ []
  pub cause : Rose (w.faults old.disk) (w.faults new.disk) ⊎ ((number : ℕ) × ((bytes : List ℕ) → w.seen old.disk ≡ Some bytes → k.fold.first_bad (w.limit old.disk) (whole_records bytes) ≡ Some number))

-- something was found on the disk, and the boot is over that
pub record HasFoundOver {R T M P L S N V D : Type 0} (k : Keeping R T M P L S) (v : Sight N V D S) (w : Ghosts D) (start : Begun S → Step S) (old : Resting D) (result : Start (Running N V) (Resting D)) : Type 0 where
  pub durable : T
  pub capacity : k.fold.capacity durable ≡ w.limit old.disk
  pub front : List Line
  pub boots : BootsOverBy k v w start durable front (w.faults old.disk) result

-- So it is also of a disk that doesn't tell its bytes. Of such a one nothing else is said of what was found on it.
abbrev pub StartsOverBy : {R T M P L S N V D : Type 0} → Keeping R T M P L S → Sight N V D S → Ghosts D → (Begun S → Step S) → Resting D → Start (Running N V) (Resting D) → Type 0
StartsOverBy k v w start old (starts.Up r outs) = HasFoundOver k v w start old (starts.Up r outs)
StartsOverBy k v w start old (starts.Down s ls) = IsRefusedOver k w old s ls ⊎ HasFoundOver k v w start old (starts.Down s ls)
StartsOverBy k v w start old (starts.Unchanged s) = w.faults s.disk ≡ w.faults old.disk
StartsOverBy k v w start old (starts.Lost s) = HasFoundOver k v w start old (starts.Lost s)

-- ---- the parts of a restart

-- A store that was made of a disk which held these records: the restart begins so, and with these lines.
pub record IsFound {R T M P L S D : Type 0} (k : Keeping R T M P L S) (w : Ghosts D) (begun : Begun S) (records : List (List ℕ)) (front : List Line) (s : StoreOf (Fused D) R T) : Type 0 where
  pub read : k.read s.durable ≡ k.lasting begun.state
  pub before : (ls : List Line) → begun.before ls ≡ front ++ ls
  pub stands : StandFor k.fold records s.durable
  pub counted : s.count ≡ length records
  pub told : (bytes : List ℕ) × ((w.seen s.disk.disk ≡ Some bytes) × (whole_records bytes ≡ records))

-- The record of the boot was put on the disk, and the node is up; or it didn't fit, or the disk failed, and the node stays down. Or
-- memory ran out before that, and whatever a crash leaves has the records that were there; or after it.
abbrev pub BootsBy : {R T M P L S N V D : Type 0} → Keeping R T M P L S → Sight N V D S → Ghosts D → (Begun S → Step S) → Begun S → List (List ℕ) → D → Start (Running N V) (Resting D) → Type 0
BootsBy k v w start begun records disk (starts.Up r outs) = (without_boot_record (k.kind.can_start begun.state) comes_up ≡ comes_up) × IsHostStepUp v.state r [] outs (goes unarmed (start begun))
BootsBy k v w start begun records disk (starts.Down d ls) =
    ((without_boot_record (k.kind.can_start begun.state) is_full ≡ is_full) × IsHostStepDown w.seen w.may_leave w.limit k d ls (stays begun (lines.Full k.kind.me) at_rest))
    ⊎ ((without_boot_record (k.kind.can_start begun.state) fails_midway ≡ fails_midway) × (IsHostStepDown w.seen w.may_leave w.limit k d ls (stays begun (lines.Fault k.kind.me) in_boot) × Rose (w.faults disk) (w.faults d.disk)))
BootsBy k v w start begun records disk (starts.Unchanged d) = IsSome (w.seen d.disk) → (c : List ℕ) → w.may_leave d.disk c → whole_records c ≡ records
BootsBy k v w start begun records disk (starts.Lost d) = v.Lost begun.state

-- a node of any kind stays down, with the mark of its store and these lines, and one more
abbrev pub Stays : {U D : Type 0} → StoreView D → List Line → Line → Start U (Resting D) → Type 0
Stays {U} {D} v front last (starts.Up r outs) = ⊥
Stays {U} {D} v front last (starts.Down d ls) = (d ≡ record { disk = v.fuse.disk; mark = count_mark v.count }) × (ls ≡ front ++ last ∷ [])
Stays {U} {D} v front last (starts.Unchanged d) = ⊥
Stays {U} {D} v front last (starts.Lost d) = ⊥

-- The disk couldn't be taken up, by this refusal: memory ran out, or the node stays down and tells just this.
abbrev pub IsRefused : {U D : Type 0} → StoreFault → Resting D → List Line → Start U (Resting D) → Type 0
IsRefused {U} {D} refusal old told (starts.Up r outs) = ⊥
IsRefused {U} {D} refusal old told (starts.Down d ls) = (refusal ≡ refusals.OutOfMemory → ⊥) × ((d ≡ old) × (ls ≡ told))
IsRefused {U} {D} refusal old told (starts.Unchanged d) = (refusal ≡ refusals.OutOfMemory) × (d ≡ old)
IsRefused {U} {D} refusal old told (starts.Lost d) = ⊥
