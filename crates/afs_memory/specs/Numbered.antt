-- Volumes in memory, by their own numbers.
use Rattle.std.specs.Prelude.{ℕ}
use Rattle.spec_ideal.specs.Tables.{Table}
use Rattle.afs_shelves.specs.Numbered.{AreNumberedBy}
use Rattle.afs_volume.specs.declared.volume.Volume.{Volume}

abbrev pub volume_number : Volume → ℕ
volume_number v = v.head.id

-- each volume stands by its own number
abbrev pub AreNumbered : Table Volume → Type 0
AreNumbered t = AreNumberedBy volume_number t
