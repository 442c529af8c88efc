-- What is left of a schedule, and what is taken from it.
use Rattle.std.specs.Prelude.{◌≡◌, ℕ, List, false, Option, Some, None}
use Rattle.std.specs.List.{list_any}
use Rattle.spec_history.specs.declared.scripts.Event.{Event}
use Rattle.afs_schedule.specs.Named.{IsNamed}
use Rattle.afs_schedule.specs.Delivers.{is_deliver}
use Rattle.afs_schedule.specs.Schedules.{lowest, named_by, next_event}
use Rattle.afs_schedule.specs.declared.schedule.Schedule.{Schedule}

-- These events are left, and these places were named. Where no place is named again, no deliver is left.
pub record IsLeft (s : Schedule) (es : List Event) (named : List ℕ) : Type 0 where
  pub events : s.events.now ≡ es
  pub named_so : IsNamed s.named named
  pub drains : s.names_again ≡ false → list_any is_deliver es ≡ false

-- the next event was taken, if there is one
abbrev pub IsTaken : Schedule → List ℕ → Option Event → Option (Event × List Event) → Type 0
IsTaken new named None None = Unit {0}
IsTaken new named (Some event) (Some e) = (event ≡ e.0) × IsLeft new e.1 (named_by event named)
IsTaken new named None (Some e) = ⊥
IsTaken new named (Some event) None = ⊥

-- Whichever events were left, and whichever places were named: what was taken is the first of them, after so many messages.
abbrev pub Takes : ℕ → Schedule → Schedule → Option Event → Type 0
Takes sent old new event = (es : List Event) (named : List ℕ) → IsLeft old es named → IsTaken new named event (next_event (lowest sent 1 named) es)
