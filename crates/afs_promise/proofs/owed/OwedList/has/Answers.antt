use Rattle.std.proofs.Common.{ap, ◌∙◌}
use Rattle.spec_breaks.specs.Promises.{has_break}
use Rattle.afs_promise.specs.Owing.{Owing}
use Rattle.afs_promise.proofs.Breaks.{has_is}
use Rattle.afs_promise.proofs.owed.OwedList.has.Goals as goal

pub returns : goal.returns
returns c = c.is_owed.ensures ∙ (has_is 0 c.self.inside.last c.args.number c.self.inside.breaks.entries c.self.invariant.0.ascends ∙ ap (λ (v : Owing). has_break c.args.number v.breaks) c.self.view_is)
