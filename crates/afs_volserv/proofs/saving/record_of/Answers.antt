use Rattle.afs_volserv.proofs.Recorded.{record_fits}
use Rattle.afs_volserv.proofs.saving.record_of.Goals as goal

pub returns-clause-fits : goal.returns-clause-fits
returns-clause-fits c =
    record_fits c.args.head.now c.in_ok-bytes.bytes c.args.family c.args.stamp c.args.body c.requires.head.0 c.requires.caller c.are_words.ensures.0 c.are_words.ensures.1.0 c.in_ok-is_short.ensures
    c.ranges.family.fits c.ranges.stamp.fits c.requires.form c.requires.may
