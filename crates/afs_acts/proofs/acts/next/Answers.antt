use Rattle.std.proofs.Common.{ap, sym, ◌++◌, ◌∙◌, List}
use Rattle.spec_history.specs.declared.acts.Act.{Act}
use Rattle.spec_rows.specs.Going.{ReadShown, next}
use Rattle.afs_acts.specs.Needs.{needed_by}
use Rattle.afs_acts.proofs.Fitting.{next_fits}
use Rattle.afs_acts.proofs.Walking.{needs_are}
use Rattle.afs_acts.proofs.acts.next.Goals as goal

pub returns-clause-value : goal.returns-clause-value
returns-clause-value c =
    let g = c.going.inside in
    c.in_ok-need.ensures.value
    ∙ (ap (λ (act : Act). needed_by g.homes act (g.way.behind ++ c.as_slice.result.now)) c.get-act.ensures
    ∙ (ap (λ (rs : List ReadShown). needed_by g.homes g.act (g.way.behind ++ rs)) c.as_slice.ensures ∙ (sym (needs_are g.homes g.act (g.way.behind ++ g.rest)) ∙ ap next c.going.view_is)))

pub returns-clause-fits : goal.returns-clause-fits
returns-clause-fits c = next_fits c.args.going.now c.requires

pub returns-in_err-need-clause-fits : goal.returns-in_err-need-clause-fits
returns-in_err-need-clause-fits c = next_fits c.args.going.now c.requires
