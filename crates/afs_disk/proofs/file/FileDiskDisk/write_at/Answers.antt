use Rattle.std.proofs.Common.{length}
use Rattle.afs_disk.proofs.Painting.{torn_same}
use Rattle.afs_disk.proofs.file.FileDiskDisk.write_at.Goals as goal

pub returns-in-Ok-clause-crash : goal.returns-in-Ok-clause-crash
returns-in-Ok-clause-crash c = λ x left. (x, tt, torn_same c.args.at (length c.args.bytes.now) x)

pub returns-in-Err-clause-crash : goal.returns-in-Err-clause-crash
returns-in-Err-clause-crash c = λ x left. (x, tt, torn_same c.args.at (length c.args.bytes.now) x)

pub returns-in_err-admits-clause-crash : goal.returns-in_err-admits-clause-crash
returns-in_err-admits-clause-crash c = λ x left. (x, tt, torn_same c.args.at (length c.args.bytes.now) x)
