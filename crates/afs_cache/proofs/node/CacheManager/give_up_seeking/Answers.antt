use Rattle.std.proofs.Common.{◌≡◌, ℕ, ◌+◌, ◌∷◌, ◌++◌, List, Some, None, ap, sym, ◌∙◌}
use Rattle.spec_history.specs.declared.lines.Line.{Line}
use Rattle.spec_model.specs.Calls.{last_timeout}
use Rattle.spec_rows.specs.ClientRow.{dead_code, sought_ends, timeout_line}
use Rattle.afs_cache.proofs.Placing.{still_goes_answered}
use Rattle.afs_cache.proofs.node.CacheManager.give_up_seeking.Goals as goal

pub returns : goal.returns
returns c =
    let old = c.args.self.now in
    still_goes_answered (λ (front : List Line → List Line). sought_ends old.node old.state.client front dead_code) (sought_ends old.node old.state.client (λ ls. timeout_line old.node old.state.client last_timeout ∷ ls) dead_code) c.in_ok-lines.lines old c.end_seeking.new.self c.end_seeking.result
    (ap (λ (xs : List Line). sought_ends old.node old.state.client (λ ls. xs ++ ls) dead_code) c.in_ok-lines.ensures) c.end_seeking.ensures
