use Rattle.std.proofs.Common.{None, List, sym, ap, ◌∙◌}
use Rattle.std.specs.Option.{option_copied}
use Rattle.afs_num.specs.declared.vnodes.Vnode as image
use Rattle.afs_volume.specs.Taking.{is_among}
use Rattle.afs_patch.specs.Patching.{image_left}
use Rattle.afs_patch.proofs.Patches.{image_is_left, none_left, seen_left}
use Rattle.afs_patch.proofs.patching.Patch.after.Goals as goal

pub returns-then-is_among-clause-value : goal.returns-then-is_among-clause-value
returns-then-is_among-clause-value c =
    sym (none_left c.args.number c.args.self.now.volume.now c.args.self.now.change.now (ap (is_among c.args.number) (sym c.as_slice.ensures) ∙ (sym c.is_among.ensures ∙ c.if-is_among.true)))

pub returns-then-is_among-clause-seen : goal.returns-then-is_among-clause-seen
returns-then-is_among-clause-seen c =
    seen_left c.args.number c.args.self.now.volume.now c.args.self.now.change.now None
    (sym (none_left c.args.number c.args.self.now.volume.now c.args.self.now.change.now (ap (is_among c.args.number) (sym c.as_slice.ensures) ∙ (sym c.is_among.ensures ∙ c.if-is_among.true))))

pub returns-clause-value : goal.returns-clause-value
returns-clause-value c =
    c.image_left.ensures
    ∙ (ap (λ (xs : List image.Vnode). image_left c.args.number xs (option_copied c.before-2.result)) c.as_slice-2.ensures
    ∙ (ap (image_left c.args.number c.args.self.now.change.now.vnodes) c.before-2.ensures.value
    ∙ sym (image_is_left c.args.number c.args.self.now.volume.now c.args.self.now.change.now (ap (is_among c.args.number) (sym c.as_slice.ensures) ∙ (sym c.is_among.ensures ∙ c.if-is_among.false)))))

pub returns-clause-seen : goal.returns-clause-seen
returns-clause-seen c =
    seen_left c.args.number c.args.self.now.volume.now c.args.self.now.change.now (option_copied c.image_left.result)
    (c.image_left.ensures
    ∙ (ap (λ (xs : List image.Vnode). image_left c.args.number xs (option_copied c.before-2.result)) c.as_slice-2.ensures
    ∙ (ap (image_left c.args.number c.args.self.now.change.now.vnodes) c.before-2.ensures.value
    ∙ sym (image_is_left c.args.number c.args.self.now.volume.now c.args.self.now.change.now (ap (is_among c.args.number) (sym c.as_slice.ensures) ∙ (sym c.is_among.ensures ∙ c.if-is_among.false))))))
