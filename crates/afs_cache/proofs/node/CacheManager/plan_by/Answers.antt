use Rattle.afs_asking.proofs.Calling.{need_fits}
use Rattle.afs_cache.proofs.Planning.{plans_answer}
use Rattle.afs_asking.specs.Asking.{code_of}
use Rattle.afs_acts.specs.Walks.{need_of}
use Rattle.std.proofs.Common.{ap, sym, ◌∙◌}
use Rattle.afs_cache.proofs.node.CacheManager.plan_by.Goals as goal

pub code_in-requires : goal.code_in-requires
code_in-requires c = need_fits c.args.going (need_of c.args.need) c.requires.short c.requires.need

pub plan_on-requires-clause-none : goal.plan_on-requires-clause-none
plan_on-requires-clause-none c = sym (sym c.in-None.is ∙ c.code_in.ensures)

pub returns-in-Some-clause-plan : goal.returns-in-Some-clause-plan
returns-in-Some-clause-plan c = plans_answer c.args.self.now c.args.going c.args.lines c.in-Some.code c.plan_ending.result (sym c.in-Some.is ∙ (c.code_in.ensures ∙ ap code_of c.requires.need)) c.plan_ending.ensures.plan
