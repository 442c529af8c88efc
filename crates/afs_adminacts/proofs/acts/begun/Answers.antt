use Rattle.std.proofs.Common.{subst, sym}
use Rattle.afs_adminparts.specs.Fitting.{FitsTurn}
use Rattle.afs_adminacts.proofs.Acted.{begun_fits}
use Rattle.afs_adminacts.proofs.acts.begun.Goals as goal

pub returns-clause-fits : goal.returns-clause-fits
returns-clause-fits c = subst (FitsTurn c.args.act.now) (sym c.begins.ensures) (begun_fits c.args.act.now c.args.held c.requires.short c.requires.held)
