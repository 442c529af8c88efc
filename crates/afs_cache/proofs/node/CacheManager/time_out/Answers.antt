use Rattle.std.proofs.Common.{◌≡◌, ◌<◌, ◌+◌, ℕ, Bool, true, false, cond, ◌||◌, ◌&&◌, List, [], ◌∷◌, ◌++◌, map, filter, Option, Some, None, Ok, Err, refl, ap, sym, subst, ◌∙◌}
use Rattle.spec_model.specs.Calls.{is_sent_again}
use Rattle.spec_model.specs.Steps.{NodeState}
use Rattle.spec_copyrows.specs.Sites.{CopyState}
use Rattle.afs_cache.proofs.Replying.{gifts_is, idle_is, running_is}
use Rattle.afs_cache.proofs.Siting.{again_answered, dead_answered, idle_timed}
use Rattle.afs_cache.proofs.node.CacheManager.time_out.Goals as goal

pub returns-in_default : goal.returns-in_default
returns-in_default c =
    let old = c.args.self.now in
    idle_timed old c.time_out_seeking.new.self c.time_out_seeking.result (idle_is old.state.client.running old.state.client.gifts c.in_default.ensures) c.time_out_seeking.ensures

pub returns-in-Dead : goal.returns-in-Dead
returns-in-Dead c =
    let old = c.args.self.now in
    let a = c.in-Some.asked.now in
    let last : is_sent_again old.state.client.tries ≡ false = ap (λ (n : NodeState CopyState). is_sent_again n.state.client.tries) (sym c.self.view_is) ∙ c.in-Dead.ensures in
    let run = running_is old.state.client.running old.state.client.gifts a c.in-Some.ensures in
    dead_answered a.going old c.die.new.self c.die.result run last (c.die.ensures a.going run)

pub returns-in_ok-outs-in-Again : goal.returns-in_ok-outs-in-Again
returns-in_ok-outs-in-Again c =
    let old = c.args.self.now in
    let a = c.in-Some.asked.now in
    let run = running_is old.state.client.running old.state.client.gifts a c.in-Some.ensures in
    again_answered a.going a.gifts c.in-Again.tries old c.count_tries.new.self c.in_ok-outs-in-Again.outs run (gifts_is old.state.client.running old.state.client.gifts a c.in-Some.ensures)
    (ap (λ (n : NodeState CopyState). is_sent_again n.state.client.tries) (sym c.self.view_is) ∙ c.in-Again.ensures.0) (c.in-Again.ensures.1 ∙ ap (λ (n : NodeState CopyState). n.state.client.tries + 1) c.self.view_is) c.count_tries.ensures c.in_ok-outs-in-Again.ensures.lines c.in_ok-outs-in-Again.ensures.sent
