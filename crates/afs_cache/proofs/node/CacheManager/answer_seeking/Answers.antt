use Rattle.std.proofs.Common.{◌≡◌, ℕ, ◌+◌, ◌∷◌, ◌++◌, List, Some, None, ap, sym, ◌∙◌, refl}
use Rattle.spec_history.specs.declared.lines.Line.{Line}
use Rattle.spec_rows.specs.ClientRow.{with_given, sought_ends}
use Rattle.spec_history.specs.declared.lines.Line.TheVariants as lines
use Rattle.afs_cache.proofs.node.CacheManager.answer_seeking.Goals as goal
use Rattle.afs_cache.proofs.Placing.{still_goes_taken, still_taken}

pub returns : goal.returns
returns c =
    let old = c.args.self.now in
    still_taken (λ (place : ℕ). sought_ends old.node old.state.client (with_given place) c.args.code) old c.end_seeking.new.self c.end_seeking.result (λ place. refl)
    (still_goes_taken (λ (front : List Line → List Line). sought_ends old.node old.state.client front c.args.code) (λ (place : ℕ). sought_ends old.node old.state.client (with_given place) c.args.code) c.no_lines-lines.result old c.end_seeking.new.self c.end_seeking.result
    (λ place. ap (λ (xs : List Line). sought_ends old.node old.state.client (λ ls. lines.Given place ∷ (xs ++ ls)) c.args.code) c.no_lines-lines.ensures) c.end_seeking.ensures)
