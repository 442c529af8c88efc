-- What the bytes of a disk stand for.
use Rattle.std.specs.Prelude.{ℕ, List}
use Rattle.afs_journal.specs.Records.{whole_records}
use Rattle.spec_fold.specs.Fold.{StandFor}
use Rattle.spec_records.specs.Durable.{Durable}

-- the whole records of the bytes are those of this durable part
abbrev pub StandsForVolumes : List ℕ → Durable → Type 0
StandsForVolumes bytes d = StandFor (whole_records bytes) d
