-- Each name goes on behind those before it.
use Rattle.std.proofs.Common.{ℕ, List}
use Rattle.std.specs.List.{flat_map}
use Rattle.afs_text.specs.ActText.{names_text, step_text}
use Rattle.afs_outside.proofs.Puts.{completes_more, completes_stop, completes_end, at_item, at_end}
use Rattle.afs_text.proofs.acts.put_names.Goals as goal

abbrev more : List (List ℕ) → List ℕ
more names = flat_map step_text names

pub loop-name-preserved : goal.loop-name-preserved
loop-name-preserved g c =
    completes_more _ _ _ _ _ _ _ _ _ _ (at_item more _ _ _ _ _ _ _ _ _ c.loop-name-test.true c.name-item.is c.loop-name.invariant) c.in_ok-put_step.ensures

pub returns-in_err-put_step : goal.returns-in_err-put_step
unfolding names_text
returns-in_err-put_step g c =
    completes_stop _ _ _ _ _ _ _ _ _ _ _ (at_item more _ _ _ _ _ _ _ _ _ c.loop-name-test.true c.name-item.is c.loop-name.invariant) c.from_residual.ensures.0 c.in_err-put_step.ensures

pub returns : goal.returns
unfolding names_text
returns g c = completes_end _ _ _ _ _ _ (at_end more _ _ _ _ _ _ _ c.loop-name-test.false c.loop-name.invariant)
