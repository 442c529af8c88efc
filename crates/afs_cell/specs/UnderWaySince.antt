-- A schedule under way in a world of which the first entries were let go.
use Rattle.std.specs.Prelude.{ℕ, List, Option}
use Rattle.afs_schedule.specs.declared.schedule.Schedule.{Schedule}
use Rattle.afs_cell.specs.Since.{whole, IsBefore}
use Rattle.afs_cell.specs.UnderWay.{GoesSo, IsUnderWay}
use Rattle.afs_cell.specs.Worlds.{HistoryTold, WorldState}
use Rattle.afs_cell.specs.declared.playing.Played.{Played}

-- with what was let go, it can play what is left of its schedule
pub record IsUnderWaySince {D : Type 0} (seen : D → Option (List ℕ)) (may_leave : D → List ℕ → Type 0) (faults limit : D → ℕ) (w : WorldState D) (schedule : Schedule) : Type 0 where
  pub before : HistoryTold
  pub is : IsBefore before w
  pub way : IsUnderWay seen may_leave faults limit w.script (whole before w) schedule

-- so the next event went, whatever was let go before
abbrev pub GoesSoSince : {D : Type 0} → (D → Option (List ℕ)) → (D → List ℕ → Type 0) → (D → ℕ) → (D → ℕ) → WorldState D → WorldState D → Schedule → Schedule → Played → Type 0
GoesSoSince {D} seen may_leave faults limit old new before_schedule schedule result =
    (before : HistoryTold) → IsBefore before old → IsUnderWay seen may_leave faults limit old.script (whole before old) before_schedule → GoesSo seen may_leave faults limit old.script (whole before old) (whole before new) schedule result
