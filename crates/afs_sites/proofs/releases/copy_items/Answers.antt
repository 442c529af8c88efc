use Rattle.std.proofs.Common.{ℕ, List, [], ◌∷◌, ◌++◌, ap, sym, ◌∙◌}
use Rattle.afs_sites.proofs.Copied.{one_more}
use Rattle.afs_sites.proofs.releases.copy_items.Goals as goal

pub loop-place-preserved : goal.loop-place-preserved
loop-place-preserved c =
    c.in_ok-push.ensures.items
    ∙ (ap (λ (xs : List (ℕ × ℕ)). xs ++ c.nth.result ∷ []) c.loop-place.invariant ∙ sym (one_more c.args.seats.now.table c.loop-place.place c.nth.result c.nth.ensures))
