use Rattle.std.proofs.Common.{◌≡◌, List, subst}
use Rattle.std.specs.Prelude.{IfOk}
use Rattle.spec_history.specs.declared.lines.Line.{Line}
use Rattle.spec_rows.specs.Going.{ClientState}
use Rattle.spec_rows.specs.ClientRow.{calls_step}
use Rattle.afs_asking.specs.Asking.{Asking}
use Rattle.afs_cache.specs.Acting.{PlansFor}
use Rattle.afs_cache.proofs.node.CacheManager.plan_call.Goals as goal

pub returns-clause-plan : goal.returns-clause-plan
returns-clause-plan c =
    subst (λ (a : Asking). IfOk c.plan_asked.result (λ p. PlansFor (λ (d : ClientState) (front : List Line → List Line). calls_step c.args.self.now.node (record d { gifts = a.gifts }) a.going front) c.args.lines c.args.self.now p)) c.in_ok-asked.ensures c.plan_asked.ensures.plan
