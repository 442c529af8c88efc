use Rattle.afs_adminparts.proofs.Bits.{with_bit_is}
use Rattle.afs_adminparts.proofs.entries.with_backup.Goals as goal

pub returns : goal.returns
returns c = with_bit_is c.args.flags 14
