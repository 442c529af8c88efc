-- Events that name a place by themselves.
use Rattle.std.specs.Prelude.{Bool, true, false}
use Rattle.spec_history.specs.declared.scripts.Event.{Event}
use Rattle.spec_history.specs.declared.scripts.Event.TheVariants as events

abbrev pub is_deliver : Event → Bool
is_deliver (events.Deliver place) = true
is_deliver e = false
