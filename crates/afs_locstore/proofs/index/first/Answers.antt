use Rattle.std.proofs.Common.{ℕ, ◌∙◌, ap, slice_get}
use Rattle.afs_locstore.specs.Indexed.{number_under}
use Rattle.afs_locstore.proofs.Pairs.{first_found}
use Rattle.afs_locstore.proofs.index.first.Goals as goal

pub returns : goal.returns
returns g c =
    c.number_at.ensures.value ∙ (ap (λ (i : ℕ). number_under g.K.Ordered.same c.args.mark.now (slice_get c.args.items.now i)) c.place-place.ensures.value
    ∙ first_found g.K.Ordered.below g.K.Ordered.same g.K.Ordered.ordered c.args.mark.now c.args.items.now c.requires)
