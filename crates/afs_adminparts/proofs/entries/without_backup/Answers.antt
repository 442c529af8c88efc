use Rattle.std.proofs.Common.{arith}
use Rattle.afs_adminparts.proofs.Bits.{without_bit_is}
use Rattle.afs_adminparts.proofs.entries.without_backup.Goals as goal

pub returns : goal.returns
returns c = without_bit_is 32 c.args.flags 14 (omega (arith, c.ranges.flags.fits)) (omega arith)
