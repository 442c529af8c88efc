use Rattle.std.proofs.Common.{◌+◌, ℕ, List, Some, subst, sym}
use Rattle.afs_num.specs.declared.records.RecordBody.TheVariants as bodies
use Rattle.afs_voldecisions.specs.Verdicts.{HasForm}
use Rattle.afs_voldecisions.proofs.Forms.{clone_fits}
use Rattle.afs_voldecisions.proofs.verdicts.cloning.Goals as goal

pub returns-clause-form : goal.returns-clause-form
returns-clause-form c =
    let source = c.head-head.result.now.id in
    let release = c.head-head.result.now.release + 1 in
    subst (λ (n : List ℕ). HasForm (Some (bodies.Clone source c.args.id n c.args.kind release))) (sym c.in_ok-copy.ensures)
    (clone_fits source c.args.id c.args.kind release c.args.name.now c.are_words.ensures.0 c.ranges.id.fits c.ranges.kind.fits c.are_words.ensures.1.0 c.requires.named)
