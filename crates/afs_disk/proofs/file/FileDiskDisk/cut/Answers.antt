use Rattle.afs_disk.proofs.Painting.{cut_same}
use Rattle.afs_disk.proofs.file.FileDiskDisk.cut.Goals as goal

pub returns-in-Ok-clause-crash : goal.returns-in-Ok-clause-crash
returns-in-Ok-clause-crash c = λ x left. (x, tt, cut_same c.args.len x)

pub returns-in-Err-clause-crash : goal.returns-in-Err-clause-crash
returns-in-Err-clause-crash c = λ x left. (x, tt, cut_same c.args.len x)

pub returns-in_err-admits-clause-crash : goal.returns-in_err-admits-clause-crash
returns-in_err-admits-clause-crash c = λ x left. (x, tt, cut_same c.args.len x)
