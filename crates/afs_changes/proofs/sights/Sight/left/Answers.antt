use Rattle.std.proofs.Common.{◌∙◌, ap, subst, sym, find, nat_eq}
use Rattle.std.specs.Option.{option_map}
use Rattle.std.specs.List.{AllByRecursion}
use Rattle.afs_num.specs.declared.vnodes.Vnode as image
use Rattle.afs_changes.specs.Drawing.{IsLeft}
use Rattle.afs_volume.specs.Seen.{seen}
use Rattle.afs_changes.proofs.Shown.{found_shown, some_among}
use Rattle.afs_changes.proofs.sights.Sight.left.Goals as goal

pub returns-clause-seen : goal.returns-clause-seen
returns-clause-seen c =
    ap (option_map seen) c.found.ensures.value
    ∙ (ap (λ xs. option_map seen (find (λ (x : image.Vnode). nat_eq x.vnode c.args.number) xs)) c.as_slice.ensures ∙ found_shown c.args.number c.args.self.now.draft.now.vnodes)

pub returns-clause-left : goal.returns-clause-left
returns-clause-left c = some_among (IsLeft c.args.self.now.draft.now.time) c.args.number c.as_slice.result.now c.found.result (subst (AllByRecursion (IsLeft c.args.self.now.draft.now.time)) (sym c.as_slice.ensures) c.requires) c.found.ensures.value
