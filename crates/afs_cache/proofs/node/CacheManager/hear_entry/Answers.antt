use Rattle.std.specs.Option.{option_copied}
use Rattle.std.proofs.Common.{◌≡◌, ℕ, ◌+◌, ◌∷◌, ◌++◌, List, Some, None, ap, sym, ◌∙◌}
use Rattle.spec_rows.specs.Going.{ClientState, Going}
use Rattle.spec_rows.specs.ClientRow.{located, located_by}
use Rattle.afs_cache.proofs.Answering.{takes_same}
use Rattle.afs_cache.proofs.node.CacheManager.hear_entry.Goals as goal

pub returns-in-Some : goal.returns-in-Some
returns-in-Some c = λ k e.
    let old = c.args.self.now in
    takes_same (λ (place : ℕ). located old.node old.state.client c.args.now place k c.in-Some.entry.now k.left) _ old c.locate.new.self c.locate.result
    (λ place. ap (located_by old.node old.state.client c.args.now place k) (ap option_copied (sym c.in-Some.is) ∙ c.entry_told.ensures)) (c.locate.ensures k e)

pub returns-in-None : goal.returns-in-None
returns-in-None c = λ k e.
    let old = c.args.self.now in
    takes_same _ _ old old c.ignore.result (λ place. ap (located_by old.node old.state.client c.args.now place k) (ap option_copied (sym c.in-None.is) ∙ c.entry_told.ensures)) c.ignore.ensures.takes
