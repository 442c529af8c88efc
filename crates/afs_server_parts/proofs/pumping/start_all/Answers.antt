use Rattle.std.proofs.Common.{◌+◌, List, arith, drop, sym, ap, ◌∙◌}
use Rattle.spec_breaks.specs.declared.types.OwedBreak.{OwedBreak}
use Rattle.spec_rows.specs.Callbacks.{starts}
use Rattle.afs_server_parts.specs.Turning.{started_with}
use Rattle.afs_server_parts.proofs.Steps.{drop_step}
use Rattle.afs_server_parts.proofs.pumping.start_all.Goals as goal

pub loop-oldest-preserved : goal.loop-oldest-preserved
loop-oldest-preserved c = record {
  started = λ ls hs q.
      ap (starts c.args.stand.node c.args.stand.boot (drop (c.loop-oldest.oldest-index + 1) c.args.owed.now)) (c.in_ok-start_by.ensures.started ls hs q)
      ∙ (ap (λ (os : List OwedBreak). starts c.args.stand.node c.args.stand.boot os (started_with ls hs c.loop-oldest.calls)) (sym (drop_step c.loop-oldest.oldest-index (c.loop-oldest.oldest-index + 1) c.args.owed.now _ (omega arith) c.loop-oldest-test.true))
      ∙ c.loop-oldest.invariant.started ls hs q);
  good = λ h. c.in_ok-start_by.ensures.good (c.loop-oldest.invariant.good h);
  drawn = let step = c.in_ok-start_by.ensures.drawn in let so_far = c.loop-oldest.invariant.drawn in omega (arith, step, so_far);
}
