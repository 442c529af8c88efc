-- A piece that was written goes on behind those before it.
use Rattle.std.proofs.Common.{rules}
use Rattle.afs_outside.proofs.Pieces.{appends_more}
use Rattle.afs_outside.proofs.buffered.put_front.Goals as goal

pub loop-written-preserved : goal.loop-written-preserved
loop-written-preserved g c = record {
  written = appends_more _ _ _ _ _ _ c.loop-written.invariant.written (rw (← c.split_at.ensures.back) c.in-Ok.ensures.bytes);
  within = search rules;
  quiet = search rules;
}
