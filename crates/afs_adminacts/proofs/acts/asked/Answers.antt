use Rattle.afs_adminacts.proofs.Acted.{given_spelled}
use Rattle.afs_adminacts.proofs.acts.asked.Goals as goal

pub returns-clause-spelled : goal.returns-clause-spelled
returns-clause-spelled c = given_spelled c.args.act.now c.args.place.now c.asked_at.result c.requires.short c.requires.fits c.asked_at.ensures
