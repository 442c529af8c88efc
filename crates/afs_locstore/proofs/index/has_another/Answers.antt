use Rattle.std.proofs.Common.{ℕ, ◌+◌, ◌∙◌, ap, slice_get}
use Rattle.afs_locstore.specs.Indexed.{another_of, number_under}
use Rattle.afs_locstore.proofs.Pairs.{another_found}
use Rattle.afs_locstore.proofs.index.has_another.Goals as goal

pub returns : goal.returns
returns g c =
    let same = g.K.Ordered.same in
    let mark = c.args.mark.now in
    let items = c.args.items.now in
    c.another_at.ensures ∙ (ap (λ (i : ℕ). another_of c.args.but (number_under same mark (slice_get items i)) (number_under same mark (slice_get items (i + 1)))) c.place-place.ensures.value
    ∙ another_found g.K.Ordered.below g.K.Ordered.same g.K.Ordered.ordered mark c.args.but items c.requires)
