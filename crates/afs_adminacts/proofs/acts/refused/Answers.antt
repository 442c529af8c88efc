use Rattle.afs_adminparts.specs.Fitting.{FitsTurn}
use Rattle.spec_adminrows.specs.Acts as rows
use Rattle.afs_adminacts.proofs.Acted.{given_is, refused_fits}
use Rattle.afs_adminacts.proofs.acts.refused.Goals as goal

pub returns-clause-fits : goal.returns-clause-fits
returns-clause-fits c = given_is (FitsTurn c.args.act.now) (rows.refused c.args.place.now c.args.code) c.refusal_leads.result (refused_fits c.args.act.now c.args.place.now c.args.code c.requires.fits) c.refusal_leads.ensures
