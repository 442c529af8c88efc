use Rattle.std.proofs.Common.{ℕ, ap, take, ◌∙◌}
use Rattle.std.proofs.lemmas.List.{take_min}
use Rattle.afs_acts.proofs.acts.first_names.Goals as goal

pub returns : goal.returns
returns c = c.split_at.ensures.front ∙ (ap (λ (n : ℕ). take n c.args.names.now) c.min.ensures ∙ take_min 50 c.args.names.now)
