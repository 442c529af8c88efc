use Rattle.std.proofs.Common.{◌+◌, List, arith, drop, sym, ap, ◌∙◌}
use Rattle.spec_breaks.specs.declared.types.OwedBreak.{OwedBreak}
use Rattle.afs_server_parts.specs.Turning.{breaks_left}
use Rattle.afs_server_parts.proofs.Steps.{drop_step}
use Rattle.afs_server_parts.proofs.owed.end_breaks.Goals as goal

pub loop-one-preserved : goal.loop-one-preserved
loop-one-preserved c = record {
  left =
      ap (breaks_left (drop (c.loop-one.one-index + 1) c.args.breaks.now)) c.end_break.ensures.left
      ∙ (ap (λ (bs : List OwedBreak). breaks_left bs c.loop-one.owed.items) (sym (drop_step c.loop-one.one-index (c.loop-one.one-index + 1) c.args.breaks.now _ (omega arith) c.loop-one-test.true))
      ∙ c.loop-one.invariant.left);
  nodes = λ h. c.end_break.ensures.nodes (c.loop-one.invariant.nodes h);
}
