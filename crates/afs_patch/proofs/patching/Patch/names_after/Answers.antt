use Rattle.std.proofs.Common.{ap, sym, ◌∙◌}
use Rattle.afs_num.specs.declared.volumes.Change.{Change}
use Rattle.afs_volume.specs.Given.{names_given}
use Rattle.afs_patch.proofs.Names.{names_left, names_stay}
use Rattle.afs_patch.proofs.patching.Patch.names_after.Goals as goal

pub returns-in-Some : goal.returns-in-Some
returns-in-Some c =
    let p = c.args.self.now in
    names_left c.args.number p.volume.now p.change.now c.args.y.now c.in-Some.names.now c.requires (ap (λ (d : Change). names_given c.args.number d.vnodes) (sym p.same) ∙ sym c.in-Some.ensures)

pub returns-in-None : goal.returns-in-None
returns-in-None c =
    let p = c.args.self.now in
    c.names_at.ensures ∙ names_stay c.args.number p.volume.now p.change.now c.args.y.now c.requires (ap (λ (d : Change). names_given c.args.number d.vnodes) (sym p.same) ∙ sym c.in-None.ensures)
