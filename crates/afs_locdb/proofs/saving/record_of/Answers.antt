use Rattle.afs_locdb.proofs.Recorded.{change_fits}
use Rattle.afs_locdb.proofs.saving.record_of.Goals as goal

pub returns-clause-fits : goal.returns-clause-fits
returns-clause-fits c =
    change_fits c.args.head.now c.in_ok-bytes.bytes c.args.deed c.args.next_id c.args.next_stamp c.requires.node c.requires.another c.are_words.ensures.0 c.are_words.ensures.1.0 c.in_ok-is_short.ensures c.requires.deed c.ranges.next_id.fits
    c.ranges.next_stamp.fits
