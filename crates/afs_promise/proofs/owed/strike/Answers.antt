use Rattle.std.proofs.Common.{sym, ap, ◌∙◌}
use Rattle.std.specs.Option.{option_copied_mut}
use Rattle.afs_promise.proofs.Breaks.{absent}
use Rattle.afs_promise.proofs.owed.strike.Goals as goal

pub returns-in-None-clause-entries : goal.returns-in-None-clause-entries
returns-in-None-clause-entries c =
    (λ i. (c.get_mut.follows.holds-at-none i).entries) ∙ sym (absent c.args.number c.args.breaks.now.entries (sym c.get_mut.ensures.value ∙ ap option_copied_mut c.in-None.is))
