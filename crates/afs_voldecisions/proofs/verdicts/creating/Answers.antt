use Rattle.std.proofs.Common.{ℕ, List, Some, subst, sym}
use Rattle.afs_num.specs.declared.records.RecordBody.TheVariants as bodies
use Rattle.afs_voldecisions.specs.Verdicts.{HasForm}
use Rattle.afs_voldecisions.proofs.Forms.{create_fits}
use Rattle.afs_voldecisions.proofs.verdicts.creating.Goals as goal

pub returns-clause-form : goal.returns-clause-form
returns-clause-form c =
    let new = c.args.call.now in
    let words = c.are_words.ensures in
    subst (λ (n : List ℕ). HasForm (Some (bodies.Create new.id new.family n new.kind new.flags new.quota c.begins_new.result))) (sym c.in_ok-copy.ensures)
    (create_fits new.id new.family new.kind new.flags new.quota new.name.now c.begins_new.result words.0 words.1.0 words.1.1.0 words.1.1.1.0 words.1.1.1.1.0 c.requires)
