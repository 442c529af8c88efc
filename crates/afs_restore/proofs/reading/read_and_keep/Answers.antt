use Rattle.std.proofs.Common.{arith}
use Rattle.afs_restore.proofs.Fed.{left_within}
use Rattle.afs_restore.proofs.reading.read_and_keep.Goals as goal

pub last-requires : goal.last-requires
last-requires c =
    let within = left_within c.args.from c.args.parts.now c.read_on.new.parts c.args.bytes.now c.in_ok-read.read c.in_ok-read.ensures.read in
    omega (arith, within, c.left_of.ensures)
