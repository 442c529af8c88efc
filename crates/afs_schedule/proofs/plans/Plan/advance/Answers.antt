use Rattle.std.proofs.Common.{sym, ap, ◌∙◌, drop, map}
use Rattle.std.proofs.lemmas.List.{drop-drop}
use Rattle.afs_schedule.proofs.plans.Plan.advance.Goals as goal

pub returns-then-self-len : goal.returns-then-self-len
returns-then-self-len c = sym (drop-drop 1 c.self.inside.begun (map (λ t. t.now) c.self.inside.tasks.items)) ∙ ap (drop 1) c.self.view_is
