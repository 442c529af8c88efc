use Rattle.afs_text.proofs.Digits.{plain_at}
use Rattle.afs_text.proofs.bytes.is_plain.Goals as goal

pub returns : goal.returns
returns c = plain_at c.args.b c.ranges.b.fits
