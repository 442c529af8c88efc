use Rattle.afs_adminparts.specs.Fitting.{FitsTurn}
use Rattle.spec_adminrows.specs.Acts as rows
use Rattle.spec_adminrows.specs.declared.turns.Errand.{Errand}
use Rattle.afs_adminacts.proofs.Acted.{answered_fits, given_is}
use Rattle.afs_adminacts.proofs.acts.answered.Goals as goal

pub returns-clause-fits : goal.returns-clause-fits
returns-clause-fits c =
    let e : Errand = record { act = c.args.act.now; servers = c.args.servers } in
    given_is (FitsTurn c.args.act.now) (rows.answered e c.args.place.now c.args.reply.now) c.leads.result
    (answered_fits e c.args.place.now c.args.reply.now c.requires.servers c.requires.short c.requires.fits c.requires.within) c.leads.ensures
