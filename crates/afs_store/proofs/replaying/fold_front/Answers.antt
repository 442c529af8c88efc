use Rattle.std.proofs.Common.{◌≡◌, ℕ, subst, take, rules}
use Rattle.afs_store.specs.Folds.{IsFront}
use Rattle.afs_store.proofs.replaying.fold_front.Goals as goal

pub returns-clause-folded : goal.returns-clause-folded
returns-clause-folded g c =
    let all : c.loop-place.place ≡ c.args.count = search rules in
    subst (λ (n : ℕ). IsFront g.S.Fold.fold (take n c.args.records.now) (g.S.Fold.fold.held c.loop-place.state)) all c.loop-place.invariant.front
