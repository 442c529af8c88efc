use Rattle.std.proofs.Common.{◌≡◌, ℕ, ◌+◌, ◌∷◌, ◌++◌, List, Some, None, ap, sym, ◌∙◌}
use Rattle.spec_rows.specs.Going.{ClientState, Going}
use Rattle.afs_cache.specs.Locating.{volume_sought}
use Rattle.afs_cache.proofs.Sought.{found_taken, missed_taken}
use Rattle.afs_cache.proofs.node.CacheManager.go_by_table.Goals as goal

pub returns-in-Some : goal.returns-in-Some
returns-in-Some c = λ k e.
    let old = c.args.self.now in
    found_taken old.node old.state.client c.args.now k c.in-Some.field-0 old c.go_found.new.self c.go_found.result (sym c.in-Some.is ∙ (c.volume_sought.ensures ∙ ap (volume_sought old.state.client.table) e)) (c.go_found.ensures k e)

pub returns-in-None : goal.returns-in-None
returns-in-None c = λ k e.
    let old = c.args.self.now in
    missed_taken old.node old.state.client c.args.now k old c.answer_seeking.new.self c.answer_seeking.result (sym c.in-None.is ∙ (c.volume_sought.ensures ∙ ap (volume_sought old.state.client.table) e)) c.answer_seeking.ensures
