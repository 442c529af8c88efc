-- A schedule under way: what has been played of it, and what is left.
use Rattle.std.specs.Prelude.{◌≡◌, ◌≤◌, ◌+◌, ℕ, List, ◌++◌, false, length, Option}
use Rattle.std.specs.List.{All}
use Rattle.spec_history.specs.declared.scripts.Event.{Event}
use Rattle.spec_history.specs.declared.scripts.Script.{Script}
use Rattle.afs_grammar.specs.CellScripts.{counts_of, FitsEvent}
use Rattle.afs_grammar.specs.Lines.{ticks_in}
use Rattle.spec_runs.specs.NodeRuns.{CellInput}
use Rattle.afs_schedule.specs.Schedules.{events_of, first_turn, AreFirst, AreInputs, ScheduleState}
use Rattle.afs_schedule.specs.Taking.{IsLeft}
use Rattle.afs_schedule.specs.declared.schedule.Schedule.{Schedule}
use Rattle.afs_cell.specs.Steps.{HasPlayedAll, HasPlayedFirst, HasPlayedSome, IsAt, TellsNothing}
use Rattle.afs_cell.specs.Worlds.{most_history_entries, most_ticks, AllTell, IsWorld, Runs, WorldState}
use Rattle.afs_cell.specs.declared.playing.Played.{Played}
use Rattle.afs_cell.specs.declared.playing.Played.TheVariants as played

-- these inputs lead to this turn, and these events are left: what they are is played behind them
pub record SoFar (s : Script) (xs : List CellInput) (t : ScheduleState) (es : List Event) : Type 0 where
  pub all : (ys : List CellInput) → AreInputs t es ys → AreInputs (first_turn s) (events_of s) (xs ++ ys)
  pub first : (ys : List CellInput) → AreFirst t es ys → AreFirst (first_turn s) (events_of s) (xs ++ ys)

-- these inputs were played, and the world stands for their turn
pub record HasCome {D : Type 0} (seen : D → Option (List ℕ)) (may_leave : D → List ℕ → Type 0) (faults limit : D → ℕ) (s : Script) (w : WorldState D) (es : List Event) (named : List ℕ) : Type 0 where
  pub inputs : List CellInput
  pub turn : ScheduleState
  pub runs : Runs seen may_leave faults limit s w inputs turn.cell
  pub at : IsAt seen may_leave limit w turn.cell turn.left
  pub named_so : turn.named ≡ named
  pub far : SoFar s inputs turn es

-- The world can play what is left of the schedule. Where its disks tell, it has played what came before.
pub record IsUnderWay {D : Type 0} (seen : D → Option (List ℕ)) (may_leave : D → List ℕ → Type 0) (faults limit : D → ℕ) (s : Script) (w : WorldState D) (schedule : Schedule) : Type 0 where
  pub world : IsWorld seen may_leave faults limit s w
  pub going : w.is_lost ≡ false
  pub events : List Event
  pub named : List ℕ
  pub is_left : IsLeft schedule events named
  pub fit : All (FitsEvent (counts_of s)) events
  pub ticks : w.clock + ticks_in events ≤ most_ticks
  pub come : AllTell seen w → HasCome seen may_leave faults limit s w events named

-- it is a world, and told nothing more
abbrev pub Stops : {D : Type 0} → (D → Option (List ℕ)) → (D → List ℕ → Type 0) → (D → ℕ) → (D → ℕ) → Script → WorldState D → WorldState D → Type 0
Stops {D} seen may_leave faults limit s old new = IsWorld seen may_leave faults limit s new × TellsNothing old new

-- How the next event went. Where none was played, nothing more was told.
abbrev pub GoesSo : {D : Type 0} → (D → Option (List ℕ)) → (D → List ℕ → Type 0) → (D → ℕ) → (D → ℕ) → Script → WorldState D → WorldState D → Schedule → Played → Type 0
GoesSo {D} seen may_leave faults limit s old new schedule played.Event = IsUnderWay seen may_leave faults limit s new schedule × (length new.history ≡ length old.history + 1)
GoesSo {D} seen may_leave faults limit s old new schedule played.All = Stops seen may_leave faults limit s old new × ((new.is_lost ≡ false) × (AllTell seen new → HasPlayedAll seen may_leave faults limit s new))
GoesSo {D} seen may_leave faults limit s old new schedule played.Limit = Stops seen may_leave faults limit s old new × ((new.is_lost ≡ false) × ((length new.history ≡ most_history_entries) × (AllTell seen new → HasPlayedFirst seen may_leave faults limit s new)))
GoesSo {D} seen may_leave faults limit s old new schedule played.OutOfMemory = Stops seen may_leave faults limit s old new × (AllTell seen new → HasPlayedSome seen may_leave faults limit s new)
