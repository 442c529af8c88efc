use Rattle.afs_entries.proofs.Behind.{added_front, added_key}
use Rattle.afs_entries.proofs.putting.reserve_one.Goals as goal

pub returns-clause-front : goal.returns-clause-front
returns-clause-front c = added_front c.args.slot c.blank.result c.args.entries.now c.add_last.new.entries c.add_last.result c.add_last.ensures.ok c.add_last.ensures.err

pub returns-clause-key : goal.returns-clause-key
returns-clause-key c = added_key c.args.slot c.blank.result c.args.entries.now c.add_last.new.entries c.add_last.result c.add_last.ensures.ok
