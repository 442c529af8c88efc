-- Copies of a volume: a server has one where it has a read-write volume under the volume's number, in service or not.
use Rattle.std.specs.Prelude.{ℕ, Bool, false, nat_eq, Option, Some, None}
use Rattle.spec_ideal.specs.Tables.{get}
use Rattle.spec_records.specs.Durable.{Stored}
use Rattle.law_families.specs.Families.{volumes_in}
use Rattle.spec_runs.specs.NodeRuns.{NodeCell}

abbrev pub is_copy : Option Stored → Bool
is_copy None = false
is_copy (Some s) = nat_eq s.volume.kind 0

-- of the server of this number, or of its disk, while it is down
abbrev pub has_copy_at : NodeCell → ℕ → ℕ → Bool
has_copy_at c volume server = is_copy (get volume (volumes_in c server))
