use Rattle.std.proofs.Common.{◌≡◌, ℕ, ◌+◌, ◌∷◌, ◌++◌, List, Some, None, ap, sym, ◌∙◌}
use Rattle.spec_rows.specs.Going.{ClientState, Going}
use Rattle.spec_history.specs.declared.lines.Line.{Line}
use Rattle.spec_history.specs.declared.lines.Line.TheVariants as lines
use Rattle.spec_rows.specs.Going.{filled}
use Rattle.spec_rows.specs.ClientRow.{with_given, walks_on}
use Rattle.afs_cache.specs.Locating.{filled_from}
use Rattle.afs_cache.proofs.Answering.{goes_taken}
use Rattle.afs_cache.proofs.Sought.{some_is}
use Rattle.afs_cache.proofs.node.CacheManager.go_located.Goals as goal

pub returns : goal.returns
returns c = λ k e.
    let old = c.args.self.now in
    let act : c.in_ok-going.going ≡ filled old.state.client.table k.act = some_is c.in_ok-going.going (filled old.state.client.table k.act) (c.in_ok-going.ensures.value ∙ ap (filled_from old.state.client.table) e) in
    goes_taken (λ (front : List Line → List Line). walks_on old.node old.state.client c.args.now front c.in_ok-going.going old.state.client.cache) (λ (place : ℕ). walks_on old.node old.state.client c.args.now (with_given place) (filled old.state.client.table k.act) old.state.client.cache)
    c.no_lines-lines.result old c.walk_on.new.self c.walk_on.result
    (λ place. ap (λ (xs : List Line). walks_on old.node old.state.client c.args.now (λ ls. lines.Given place ∷ (xs ++ ls)) c.in_ok-going.going old.state.client.cache) c.no_lines-lines.ensures
    ∙ ap (λ (g : Going). walks_on old.node old.state.client c.args.now (with_given place) g old.state.client.cache) act) c.walk_on.ensures
