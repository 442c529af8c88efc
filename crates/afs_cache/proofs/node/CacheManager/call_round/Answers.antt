use Rattle.std.proofs.Common.{◌≡◌, ◌<◌, ◌+◌, ℕ, Bool, true, false, cond, ◌||◌, ◌&&◌, List, [], ◌∷◌, ◌++◌, map, filter, Option, Some, None, Ok, Err, refl, ap, sym, subst, ◌∙◌}
use Rattle.afs_cache.proofs.Planning.{round_taken}
use Rattle.afs_cache.proofs.Replying.{gifts_is, none_runs, this_runs}
use Rattle.afs_cache.proofs.Siting.{round_called}
use Rattle.afs_cache.proofs.node.CacheManager.call_round.Goals as goal

pub returns-in_default : goal.returns-in_default
returns-in_default c = λ act run. absurd (none_runs c.args.self.now.state.client.running c.args.self.now.state.client.gifts act c.in_default.ensures run)

pub returns : goal.returns
returns c = λ act run.
    let old = c.args.self.now in
    round_called c.in_ok-asked.asked c.in-Some.asked.now act c.args.round c.no_lines-lines.result c.in_ok-plan.plan old c.follow.new.self c.follow.result c.in_ok-plan.ensures.plan c.in_ok-asked.ensures c.in-Some.ensures run c.follow.ensures.node c.follow.ensures.state c.follow.ensures.outs c.no_lines-lines.ensures
