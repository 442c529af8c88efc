use Rattle.std.proofs.Common.{◌+◌, ◌-◌, ◌++◌, ◌∙◌, ℕ, ap, arith}
use Rattle.afs_generate.specs.Generated.{acts_from}
use Rattle.afs_generate.proofs.Acts.{acts_end, goes_on_by}
use Rattle.afs_generate.proofs.generate.acts_of.Goals as goal

pub loop-left-preserved : goal.loop-left-preserved
loop-left-preserved c = record {
  all =
      ap (λ (y : ℕ). c.put_act.new.tasks ++ acts_from c.args.n (c.loop-left.left - 1) (c.loop-left.k + 1) y) c.in_ok-x.ensures.state
      ∙ goes_on_by _ _ _ _ c.loop-left.tasks c.put_act.new.tasks _ c.loop-left-test.true c.loop-left.invariant.all c.in_ok-x.ensures.tasks;
  few = omega (arith, c.loop-left.invariant.few, c.loop-left-test.true);
}

pub returns : goal.returns
returns c = acts_end _ _ _ _ _ _ (omega (arith, c.loop-left-test.false)) c.loop-left.invariant.all
