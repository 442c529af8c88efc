use Rattle.std.proofs.Common.{◌≡◌, Some, None, sym, ◌∙◌}
use Rattle.std.specs.Prelude.{IfOk}
use Rattle.afs_cache.specs.Acting.{PlansRound}
use Rattle.afs_cache.proofs.Planning.{plans_asking, plans_in_round}
use Rattle.afs_cache.proofs.node.CacheManager.plan_asked.Goals as goal

pub returns-in-Some-clause-plan : goal.returns-in-Some-clause-plan
returns-in-Some-clause-plan c = plans_in_round c.args.self.now c.args.asked c.in-Some.round c.args.lines c.plan_round.result (sym (sym c.in-Some.is ∙ c.in_ok-round.ensures)) c.plan_round.ensures.plan

pub returns-in_ok-asks-in-None-clause-plan : goal.returns-in_ok-asks-in-None-clause-plan
returns-in_ok-asks-in-None-clause-plan c = plans_asking c.args.self.now c.args.asked c.args.lines c.in_ok-asks-in-None.asks (sym (sym c.in-None.is ∙ c.in_ok-round.ensures)) c.in_ok-asks-in-None.ensures

pub returns-in_ok-asks-in-None-clause-follows : goal.returns-in_ok-asks-in-None-clause-follows
returns-in_ok-asks-in-None-clause-follows c = (c.in_ok-asks-in-None.ensures.node, c.requires)
