use Rattle.std.proofs.Common.{sym, subst}
use Rattle.spec_records.specs.LocRecords.{FitsLocRecord}
use Rattle.afs_locdb.proofs.Recorded.{first_fits}
use Rattle.afs_locdb.proofs.creating.first_record.Goals as goal

pub returns-clause-fits : goal.returns-clause-fits
returns-clause-fits c = subst FitsLocRecord (sym c.in_ok-rec.ensures) (first_fits c.args.volumes.now c.requires)
