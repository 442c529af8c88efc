use Rattle.std.proofs.Common.{◌≡◌, ℕ, refl}
use Rattle.spec_rows.specs.ClientRow.{ignores}
use Rattle.afs_cache.proofs.Placing.{still_taken}
use Rattle.afs_cache.proofs.node.CacheManager.ignore.Goals as goal

pub returns-clause-takes : goal.returns-clause-takes
returns-clause-takes c =
    let old = c.args.self.now in
    still_taken (λ (place : ℕ). ignores old.state.client place) old old c.rest.result (λ place. refl) c.rest.ensures.still
