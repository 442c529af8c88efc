-- Each byte of the name goes behind those before it.
use Rattle.afs_text.proofs.Placed.{few_more, placed_more}
use Rattle.afs_text.proofs.bytes.NameShort.lay.Goals as goal

pub loop-b-preserved : goal.loop-b-preserved
loop-b-preserved c = record {
  laid = placed_more _ _ 0 _ _ _ _ _ _ c.loop-b-test.true c.loop-b.invariant.laid c.lay_name_byte-end.ensures;
  few = few_more _ _ 0 c.loop-b-test.true c.loop-b.invariant.few;
}
