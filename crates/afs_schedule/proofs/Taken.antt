-- What is taken from a schedule.
use Rattle.std.proofs.Common.{refl, subst, ◌≡◌, ℕ, List, Bool, false, Option, Some}
use Rattle.std.specs.List.{list_any}
use Rattle.spec_history.specs.declared.scripts.Event.{Event}
use Rattle.afs_schedule.specs.Named.{IsNamed}
use Rattle.afs_schedule.specs.Delivers.{is_deliver}
use Rattle.afs_schedule.specs.Schedules.{named_by}
use Rattle.afs_schedule.specs.Taking.{IsTaken}
use Rattle.afs_schedule.specs.declared.schedule.Schedule.{Schedule}

pub taken : (new : Schedule) (named : List ℕ) (event : Event) (o : Option (Event × List Event)) → Some (event, new.events.now) ≡ o → IsNamed new.named (named_by event named) → (new.names_again ≡ false → list_any is_deliver new.events.now ≡ false) → IsTaken new named (Some event) o
taken new named event o e h drains = subst (λ (o : Option (Event × List Event)). IsTaken new named (Some event) o) e (refl, record { events = refl; named_so = h; drains = drains })
