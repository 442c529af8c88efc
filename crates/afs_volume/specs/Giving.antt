-- What a volume gives: its value, as the definitions see it.
use Rattle.spec_ideal.specs.Volumes as ideal
use Rattle.afs_volume.specs.Seen.{volume_seen}
use Rattle.afs_volume.specs.declared.volume.Volume.{Volume}

abbrev pub volume_of : Volume → ideal.Volume
volume_of v = volume_seen v.head v.vnodes.table
