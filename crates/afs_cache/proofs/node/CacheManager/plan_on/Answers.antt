use Rattle.afs_acts.specs.Acts.{FitsNeed}
use Rattle.afs_acts.specs.Walks.{need_of}
use Rattle.afs_asking.specs.Asking.{code_of, operand_of}
use Rattle.afs_asking.proofs.Calling.{need_fits}
use Rattle.afs_cache.proofs.Planning.{plans_call, plans_question}
use Rattle.std.proofs.Common.{ap, subst, sym, ◌∙◌}
use Rattle.afs_cache.proofs.node.CacheManager.plan_on.Goals as goal

pub plan_seeking-requires-clause-operand : goal.plan_seeking-requires-clause-operand
plan_seeking-requires-clause-operand c = subst FitsNeed c.in-Ok.ensures (need_fits c.args.going (need_of c.args.need) c.requires.short c.requires.need)

pub returns-in-Ok-clause-plan : goal.returns-in-Ok-clause-plan
returns-in-Ok-clause-plan c = plans_question c.args.self.now c.args.going c.in-Ok.operand c.args.lines c.plan_seeking.result (sym c.requires.need ∙ c.in-Ok.ensures) c.plan_seeking.ensures.plan

pub returns-in-Err-clause-plan : goal.returns-in-Err-clause-plan
returns-in-Err-clause-plan c =
    plans_call c.args.self.now c.args.going c.args.lines c.plan_next.result (sym c.requires.none ∙ ap code_of c.requires.need) (ap operand_of (sym c.requires.need) ∙ c.in-Err.ensures.1) c.plan_next.ensures.plan
