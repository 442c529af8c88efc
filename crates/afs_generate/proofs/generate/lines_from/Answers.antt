use Rattle.std.proofs.Common.{[], ◌∷◌, ◌++◌, ◌∙◌, ap, arith}
use Rattle.spec_history.specs.declared.scripts.SetupLine.{SetupLine}
use Rattle.afs_generate.proofs.Acts.{line_goes_on, lines_end}
use Rattle.afs_generate.proofs.generate.lines_from.Goals as goal

pub loop-left-preserved : goal.loop-left-preserved
loop-left-preserved c = record {
  all = line_goes_on _ _ c.loop-left.lines c.push.new.self _ c.loop-left-test.true c.loop-left.invariant.all (c.in_ok-push.ensures.ok ∙ ap (λ (x : SetupLine). c.loop-left.lines ++ x ∷ []) c.in_ok-line_of.ensures);
  few = omega (arith, c.loop-left.invariant.few, c.loop-left-test.true);
}

pub returns : goal.returns
returns c = lines_end _ _ _ _ (omega (arith, c.loop-left-test.false)) c.loop-left.invariant.all
