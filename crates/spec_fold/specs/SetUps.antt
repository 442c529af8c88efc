-- A server's disk at set-up.
use Rattle.std.specs.Prelude.{ℕ, List, Option, None, if◌then◌else◌}
use Rattle.spec_history.specs.declared.scripts.VolumeLine.{VolumeLine}
use Rattle.spec_shape.specs.Taking.{◌>>=◌}
use Rattle.spec_records.specs.Changes.{first_record}
use Rattle.spec_records.specs.Durable.{Durable, has_room, nothing_on}
use Rattle.spec_fold.specs.Fold.{first_folded}

-- a new disk of this capacity; None also where the first record doesn't fit
abbrev pub set_up : ℕ → List VolumeLine → Option Durable
set_up capacity ls = first_record ls >>= λ r. (if has_room (nothing_on capacity) r then first_folded r (nothing_on capacity) else None)
