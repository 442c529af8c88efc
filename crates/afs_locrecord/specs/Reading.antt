-- What a call that reads a body gives, in the words of the definitions.
use Rattle.std.specs.Prelude.{Result, Ok, Err}
use Rattle.afs_record.specs.declared.faults.RecordFault.{RecordFault}
use Rattle.spec_records.specs.LocRecords.{LocBody}
use Rattle.afs_locrecord.specs.Bodies.{body_of}
use Rattle.afs_locrecord.specs.declared.deeds.Body.{Body}

abbrev pub body_result : Result Body RecordFault → Result LocBody RecordFault
body_result (Ok b) = Ok (body_of b)
body_result (Err e) = Err e
