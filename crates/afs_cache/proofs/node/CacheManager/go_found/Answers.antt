use Rattle.std.proofs.Common.{◌≡◌, ℕ, ◌+◌, ◌∷◌, ◌++◌, List, Some, None, ap, sym, ◌∙◌}
use Rattle.spec_rows.specs.Going.{ClientState, Going}
use Rattle.spec_rows.specs.Going.{Left, filled}
use Rattle.spec_rows.specs.ClientRow.{with_given, walks_on}
use Rattle.afs_cache.specs.Locating.{calls_elsewhere, found_on, left_sought}
use Rattle.afs_cache.proofs.Answering.{takes_same}
use Rattle.afs_cache.proofs.node.CacheManager.go_found.Goals as goal

pub returns-in-Some : goal.returns-in-Some
returns-in-Some c = λ k e.
    let old = c.args.self.now in
    takes_same (λ (place : ℕ). calls_elsewhere old.node old.state.client place k.act c.in-Some.left) (λ (place : ℕ). found_on old.node old.state.client c.args.now place k k.left) old c.call_moved.new.self c.call_moved.result
    (λ place. ap (found_on old.node old.state.client c.args.now place k) (sym c.in-Some.is ∙ (c.left_sought.ensures ∙ ap left_sought e))) (c.call_moved.ensures k e)

pub returns-in-None : goal.returns-in-None
returns-in-None c = λ k e.
    let old = c.args.self.now in
    takes_same (λ (place : ℕ). walks_on old.node old.state.client c.args.now (with_given place) (filled old.state.client.table k.act) old.state.client.cache) (λ (place : ℕ). found_on old.node old.state.client c.args.now place k k.left) old c.go_located.new.self c.go_located.result
    (λ place. ap (found_on old.node old.state.client c.args.now place k) (sym c.in-None.is ∙ (c.left_sought.ensures ∙ ap left_sought e))) (c.go_located.ensures k e)
