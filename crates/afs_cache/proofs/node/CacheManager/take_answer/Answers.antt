use Rattle.std.proofs.Common.{◌≡◌, ◌<◌, ◌+◌, ℕ, Bool, true, false, cond, ◌||◌, ◌&&◌, List, [], ◌∷◌, ◌++◌, map, filter, Option, Some, None, Ok, Err, refl, ap, sym, subst, ◌∙◌}
use Rattle.afs_num.specs.declared.messages.Message.{Message}
use Rattle.afs_cache.proofs.Siting.{in_no_round, in_round, round_is}
use Rattle.afs_cache.proofs.node.CacheManager.take_answer.Goals as goal

pub returns-in-Some : goal.returns-in-Some
returns-in-Some c = λ act run.
    let old = c.args.self.now in
    in_round c.args.now (record { head = c.args.head.now; carried = c.args.carried }) act c.in-Some.round old c.answer_at.new.self c.answer_at.result (sym c.in-Some.is ∙ (c.in_ok-round.ensures ∙ round_is old.state act run)) (c.answer_at.ensures act run)

pub returns-in-None : goal.returns-in-None
returns-in-None c = λ act run.
    let old = c.args.self.now in
    in_no_round c.args.now (record { head = c.args.head.now; carried = c.args.carried }) act old c.take_guest.new.self c.take_guest.result (sym c.in-None.is ∙ (c.in_ok-round.ensures ∙ round_is old.state act run)) c.take_guest.ensures
