use Rattle.afs_outside.proofs.Puts.{puts_then, puts_stop}
use Rattle.afs_text.proofs.Octal.{octal_one, octal_more, puts_same}
use Rattle.afs_text.proofs.acts.+put_octal.Goals as goal

pub returns-then-n-lt8 : goal.returns-then-n-lt8
returns-then-n-lt8 g t c = puts_same _ _ _ _ _ _ _ (octal_one c.args.n c.if-n-lt8.true) c.put_bytes.ensures

pub returns-in_err-put_octal : goal.returns-in_err-put_octal
returns-in_err-put_octal g t c =
    puts_same _ _ _ _ _ _ _ (octal_more c.args.n c.if-n-lt8.false c.ranges.n.fits) (puts_stop _ _ _ _ _ _ _ _ c.from_residual.ensures.0 c.in_err-put_octal.ensures)

pub returns : goal.returns
returns g t c = puts_same _ _ _ _ _ _ _ (octal_more c.args.n c.if-n-lt8.false c.ranges.n.fits) (puts_then _ _ _ _ _ _ _ _ _ _ c.in_ok-put_octal.ensures c.put_bytes-2.ensures)
