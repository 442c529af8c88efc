-- A world of which the first entries, and the first messages, were let go: what is so of it together with these.
use Rattle.std.specs.Prelude.{◌≡◌, ◌≤◌, ◌<◌, ◌⊎◌, ◌+◌, ◌/◌, ◌^◌, ℕ, List, [], ◌++◌, drop, length, false, Option, Result}
use Rattle.afs_num.specs.declared.types.Parcel.{Parcel}
use Rattle.spec_history.specs.declared.scripts.Event.{Event}
use Rattle.spec_history.specs.declared.scripts.Event.TheVariants as events
use Rattle.afs_disk.specs.declared.disks.Lent.{Lent}
use Rattle.spec_runs.specs.NodeRuns.{CellInput, NodeCell}
use Rattle.afs_schedule.specs.Schedules.{ScheduleState}
use Rattle.afs_text.specs.Telling.{sent_by}
use Rattle.afs_cell.specs.Steps.{AreStanding, Stepped, Steps}
use Rattle.afs_cell.specs.Worlds.{none_gone, HistoryTold, IsCell, IsSafe, IsWorld, WorldState}
use Rattle.afs_cell.specs.declared.faults.WorldFault.{WorldFault}

-- the world with what was let go before
abbrev pub whole : {D : Type 0} → HistoryTold → WorldState D → WorldState D
whole {D} before w = record w { wire = before.wire ++ w.wire; history = before.history ++ w.history; gone = none_gone }

-- So many entries and messages were let go, and no message but of such an entry.
pub record IsBefore {D : Type 0} (before : HistoryTold) (w : WorldState D) : Type 0 where
  pub entries : length before.history ≡ w.gone.entries
  pub sent : sent_by before.history ≡ w.gone.sent
  pub messages : length before.wire ≡ w.gone.messages
  pub told : w.gone.messages ≤ w.gone.sent

pub record IsSafeSince {D : Type 0} (limit : D → ℕ) (w : WorldState D) : Type 0 where
  pub before : HistoryTold
  pub is : IsBefore before w
  pub safe : IsSafe limit w.script (whole before w)

pub record IsWorldSince {D : Type 0} (seen : D → Option (List ℕ)) (may_leave : D → List ℕ → Type 0) (faults limit : D → ℕ) (w : WorldState D) : Type 0 where
  pub before : HistoryTold
  pub is : IsBefore before w
  pub world : IsWorld seen may_leave faults limit w.script (whole before w)

-- the message that a deliver gives wasn't let go
abbrev pub DeliversKept : {D : Type 0} → WorldState D → Event → Type 0
DeliversKept {D} w (events.Deliver place) = w.gone.messages < place
DeliversKept {D} w event = Unit {0}

-- Nothing is let go, and messages are sent behind the others.
pub record Keeps {D : Type 0} (old new : WorldState D) : Type 0 where
  pub script : new.script ≡ old.script
  pub gone : new.gone ≡ old.gone
  pub sent : List Parcel
  pub wire : new.wire ≡ old.wire ++ sent

-- ---- a step, whatever was let go before

abbrev pub SteppedSince : {D : Type 0} → (D → Option (List ℕ)) → (D → List ℕ → Type 0) → (D → ℕ) → (D → ℕ) → (ScheduleState → CellInput → Type 0) → WorldState D → WorldState D → Result (Unit {0}) WorldFault → Type 0
SteppedSince {D} seen may_leave faults limit is w new result =
    (before : HistoryTold) → IsBefore before w → IsSafe limit w.script (whole before w) → Stepped seen may_leave faults limit w.script is (whole before w) (whole before new) result

abbrev pub GoesOnSince : {D : Type 0} → (D → Option (List ℕ)) → (D → List ℕ → Type 0) → (D → ℕ) → (D → ℕ) → WorldState D → WorldState D → Type 0
GoesOnSince {D} seen may_leave faults limit w new =
    (before : HistoryTold) → IsBefore before w → IsWorld seen may_leave faults limit w.script (whole before w) → IsWorld seen may_leave faults limit w.script (whole before new)

abbrev pub StepsSince : {D : Type 0} → (D → Option (List ℕ)) → (D → List ℕ → Type 0) → (D → ℕ) → (D → ℕ) → (ScheduleState → CellInput → Type 0) → WorldState D → WorldState D → Result (Unit {0}) WorldFault → Type 0
StepsSince {D} seen may_leave faults limit is w new result =
    (before : HistoryTold) → IsBefore before w → IsWorld seen may_leave faults limit w.script (whole before w) → Steps seen may_leave faults limit is (whole before w) (whole before new) result

-- So it was, whatever was let go before: nothing is let go, and the clock rose by so many ticks at most.
pub record PlaysSince {D : Type 0} (seen : D → Option (List ℕ)) (may_leave : D → List ℕ → Type 0) (faults limit : D → ℕ) (is : ScheduleState → CellInput → Type 0) (ticks : ℕ) (old new : WorldState D) (result : Result (Unit {0}) WorldFault) : Type 0 where
  pub stepped : SteppedSince seen may_leave faults limit is old new result
  pub keeps : Keeps old new
  pub clock : new.clock ≤ old.clock + ticks

-- ---- more is let go

-- The entries were let go, and some of the first messages, none of them behind this place. Either no message is kept then, or at most half
-- of those that are kept stand at that place or before it, and so could have gone. (From 2 ^ 62 on none need go: no run sends so many.)
pub record LetsGo {D : Type 0} (settled : ℕ) (old new : WorldState D) : Type 0 where
  pub count : ℕ
  pub within : count ≤ length old.wire
  pub is : new ≡ record old {
    wire = drop count old.wire;
    history = [];
    gone = record { entries = old.gone.entries + length old.history; sent = old.gone.messages + length old.wire; messages = old.gone.messages + count };
  }
  pub none_behind : (new.gone.messages ≡ old.gone.messages) ⊎ (new.gone.messages ≤ settled)
  pub few_left : (new.wire ≡ []) ⊎ ((settled ≤ new.gone.messages + length new.wire / 2) ⊎ (2 ^ 62 ≤ settled))

-- ---- the end

-- the disks stand for what the cell keeps for which the whole world stands
abbrev pub StandsSince : {D : Type 0} → (D → Option (List ℕ)) → (D → List ℕ → Type 0) → (D → ℕ) → WorldState D → List (Lent D) → Type 0
StandsSince {D} seen may_leave limit w disks =
    w.is_lost ≡ false → (before : HistoryTold) → IsBefore before w → IsSafe limit w.script (whole before w) → (c : NodeCell) → IsCell seen may_leave limit (whole before w) c → AreStanding seen limit c disks
