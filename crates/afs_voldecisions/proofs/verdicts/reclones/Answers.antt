use Rattle.std.proofs.Common.{◌≡◌, ◌∙◌, Some, ap, sym}
use Rattle.std.proofs.lemmas.Result.{IfOk-weaker}
use Rattle.std.specs.Option.{option_copied}
use Rattle.spec_volrows.specs.VolStates.{Transaction}
use Rattle.afs_voldecisions.specs.Verdicts.{family_in}
use Rattle.afs_voldecisions.proofs.Cloning.{again_is}
use Rattle.afs_voldecisions.proofs.verdicts.reclones.Goals as goal

pub returns : goal.returns
returns c =
    let t = c.args.transaction.now in
    let named = c.args.named in
    let old = c.in-Some.old.now in
    let one : family_in t.family (option_copied named) ≡ Some old =
    sym (ap (λ (u : Transaction). family_in u.family (option_copied named)) c.transaction.view_is) ∙ (sym c.of_family.ensures ∙ ap option_copied c.in-Some.is) in
    let free = sym c.is_held_by_other.ensures ∙ c.if-is_held_by_other.false in
    IfOk-weaker _ _ _ (again_is c.args.number c.args.ts.now.table c.args.id t c.args.volume.now old named one free) c.clones_again.ensures
