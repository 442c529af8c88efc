-- What a call that makes a volume of a dump gives.
use Rattle.std.specs.Prelude.{◌≡◌, Some, None, Result, Ok, Err}
use Rattle.spec_dumps.specs.Dumps.{Dump}
use Rattle.spec_dumps.specs.Restores.{restored}
use Rattle.afs_volume.specs.Taking.{stored_of}
use Rattle.afs_volume.specs.declared.faults.AssembleFault.{AssembleFault}
use Rattle.afs_volume.specs.declared.faults.AssembleFault.TheVariants as faults
use Rattle.afs_volume.specs.declared.volume.Volume.{Volume}

-- the volume that the dump makes of another one, or that it makes none
abbrev pub MakesVolume : Dump → Volume → Result Volume AssembleFault → Type 0
MakesVolume d old (Ok v) = restored old.head.id (stored_of old) d ≡ Some (stored_of v)
MakesVolume d old (Err faults.NotSound) = restored old.head.id (stored_of old) d ≡ None
MakesVolume d old (Err faults.OutOfMemory) = Unit {0}
