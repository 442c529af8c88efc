-- Places that no event which is left names.
use Rattle.std.specs.Prelude.{◌≡◌, ◌≤◌, ◌<◌, ◌⊎◌, ℕ, List, Bool, true, false, Option, Some, None}
use Rattle.spec_history.specs.declared.scripts.Event.{Event}
use Rattle.spec_history.specs.declared.scripts.Event.TheVariants as events
use Rattle.afs_schedule.specs.Taking.{IsLeft}
use Rattle.afs_schedule.specs.declared.schedule.Schedule.{Schedule}
pub use Rattle.afs_schedule.specs.Delivers.{is_deliver}

abbrev pub settled_so : Bool → ℕ → ℕ
settled_so true first = 0
settled_so false first = first

-- So many places, from the first on, were named, and no event that is left names one of them: a drain names those above them alone.
abbrev pub places_settled : Schedule → ℕ
places_settled s = settled_so s.names_again s.named.first

-- a deliver names a place behind these, if there are any
abbrev pub DeliversBehind : ℕ → Event → Type 0
DeliversBehind places (events.Deliver place) = (places ≡ 0) ⊎ (places < place)
DeliversBehind places e = Unit {0}

abbrev pub IsBehindEach : ℕ → Option Event → Type 0
IsBehindEach places None = Unit {0}
IsBehindEach places (Some event) = DeliversBehind places event

-- whichever events were left: the one that was taken names none of the settled places, and these stay settled
abbrev pub IsBehind : Schedule → Schedule → Option Event → Type 0
IsBehind old new event = (es : List Event) (named : List ℕ) → IsLeft old es named → (places_settled old ≤ places_settled new) × IsBehindEach (places_settled old) event
