use Rattle.std.proofs.Common.{◌≡◌, ◌<◌, ◌+◌, ℕ, Bool, true, false, cond, ◌||◌, ◌&&◌, List, [], ◌∷◌, ◌++◌, map, filter, Option, Some, None, Ok, Err, refl, ap, sym, subst, ◌∙◌}
use Rattle.spec_rows.specs.Going.{Going}
use Rattle.spec_rows.specs.ClientRow.{call_of, gives_up}
use Rattle.spec_copyrows.specs.Sites.{Round, round_of}
use Rattle.afs_cache.proofs.Siting.{dies_given_up, dies_in, round_is}
use Rattle.afs_cache.proofs.node.CacheManager.die.Goals as goal

pub returns-in-Some : goal.returns-in-Some
returns-in-Some c = λ act run.
    let old = c.args.self.now in
    dies_in act c.in-Some.round old c.die_at.new.self c.die_at.result (sym c.in-Some.is ∙ (c.in_ok-round.ensures ∙ round_is old.state act run)) (c.die_at.ensures act run)

pub returns-in-None : goal.returns-in-None
returns-in-None c = λ act run.
    let old = c.args.self.now in
    dies_given_up act old c.give_up.new.self c.give_up.result run (sym c.in-None.is ∙ (c.in_ok-round.ensures ∙ round_is old.state act run)) c.give_up.ensures
