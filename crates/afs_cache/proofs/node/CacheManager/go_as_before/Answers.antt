use Rattle.std.proofs.Common.{subst}
use Rattle.afs_num.specs.declared.types.Code.{Code}
use Rattle.afs_cache.specs.Managing.{Takes}
use Rattle.std.proofs.Common.{◌≡◌, ℕ, ◌+◌, ◌∷◌, ◌++◌, List, Some, None, ap, sym, ◌∙◌}
use Rattle.spec_rows.specs.Going.{ClientState, Going}
use Rattle.spec_rows.specs.ClientRow.{with_given, sought_ends}
use Rattle.afs_cache.specs.Locating.{goes_as_before, goes_by_table, left_sought}
use Rattle.afs_cache.proofs.Answering.{takes_same}
use Rattle.afs_cache.proofs.node.CacheManager.go_as_before.Goals as goal

pub returns-in-Some : goal.returns-in-Some
returns-in-Some c = λ k e.
    let old = c.args.self.now in
    takes_same (λ (place : ℕ). sought_ends old.node old.state.client (with_given place) c.in-Some.left.code) (λ (place : ℕ). goes_as_before old.node old.state.client c.args.now place k k.left) old c.answer_seeking.new.self c.answer_seeking.result
    (λ place. ap (goes_as_before old.node old.state.client c.args.now place k) (sym c.in-Some.is ∙ (c.left_sought.ensures ∙ ap left_sought e)))
    (subst (λ (x : Code). Takes (λ (place : ℕ). sought_ends old.node old.state.client (with_given place) x) old c.answer_seeking.new.self c.answer_seeking.result) c.code-code.ensures c.answer_seeking.ensures)

pub returns-in-None : goal.returns-in-None
returns-in-None c = λ k e.
    let old = c.args.self.now in
    takes_same (λ (place : ℕ). goes_by_table old.node old.state.client c.args.now place k) (λ (place : ℕ). goes_as_before old.node old.state.client c.args.now place k k.left) old c.go_by_table.new.self c.go_by_table.result
    (λ place. ap (goes_as_before old.node old.state.client c.args.now place k) (sym c.in-None.is ∙ (c.left_sought.ensures ∙ ap left_sought e))) (c.go_by_table.ensures k e)
