-- What a deed of the code does, as the definitions have it.
use Rattle.spec_records.specs.LocRecords.{leaves, removes, sets, EntryDeed}
use Rattle.afs_locrecord.specs.declared.types.Doing.{Doing}
use Rattle.afs_locrecord.specs.declared.types.Doing.TheVariants as doings

abbrev pub deed_of : Doing → EntryDeed
deed_of (doings.Sets l) = sets l
deed_of (doings.Removes e) = removes e
deed_of doings.Leaves = leaves
