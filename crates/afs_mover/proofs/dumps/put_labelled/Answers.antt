use Rattle.std.proofs.Common.{◌≡◌, [], ◌∷◌, ◌++◌, filter, rules, subst, sym}
use Rattle.afs_adminparts.specs.Fitting.{FitDumps}
use Rattle.spec_adminrows.specs.AdminRow.{has_other_label}
use Rattle.afs_mover.proofs.Held.{fits_put}
use Rattle.afs_mover.proofs.dumps.put_labelled.Goals as goal

pub returns-clause-fits : goal.returns-clause-fits
returns-clause-fits c h fit =
    let is : c.push.new.self.items ≡ filter (has_other_label c.args.dump.label) c.args.dumps.now.items ++ c.args.dump ∷ [] = search rules in
    subst FitDumps (sym is) (fits_put c.args.dump.label c.args.dump c.args.dumps.now.items h fit)
