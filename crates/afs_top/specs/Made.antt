-- How a call for a made script ends where there is no memory for the script itself.
use Rattle.std.specs.Prelude.{◌≡◌}
use Rattle.afs_command.specs.Spans.{IsUnchanged}
use Rattle.afs_command.specs.declared.statuses.Status.{Status}
use Rattle.afs_command.specs.declared.statuses.Status.TheVariants as statuses
use Rattle.afs_lending.specs.Outside.{Outside}

-- nothing was lent, nothing was written and nothing given back
pub record DoesNothing (o : Outside) : Type 0 where
  pub sink : IsUnchanged o.sink
  pub lends : IsUnchanged o.lends
  pub given : IsUnchanged o.given

-- there was no memory for the script itself
abbrev pub IsUnmade : Outside → Status → Type 0
IsUnmade o status = (status ≡ statuses.OutOfMemory) × DoesNothing o
