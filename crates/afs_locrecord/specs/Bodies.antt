-- What the body of a record of the code says, as the definitions have it.
use Rattle.spec_records.specs.LocRecords.{Boot, Database, First, LocBody}
use Rattle.afs_locrecord.specs.declared.deeds.Body.{Body}
use Rattle.afs_locrecord.specs.declared.deeds.Body.TheVariants as bodies

abbrev pub body_of : Body → LocBody
body_of (bodies.First entries next_id next_stamp) = First entries next_id next_stamp
body_of (bodies.Boot boot) = Boot boot
body_of (bodies.Database deed next_id next_stamp) = Database deed next_id next_stamp
