-- A piece that was written goes on behind those before it.
use Rattle.std.proofs.Common.{rules}
use Rattle.afs_outside.proofs.Pieces.{appends_more}
use Rattle.afs_outside.proofs.outside.put_rest.Goals as goal

pub loop-at-preserved : goal.loop-at-preserved
loop-at-preserved g c = record {
  written = appends_more _ _ _ _ _ _ c.loop-at.invariant.written (rw (← c.split_at.ensures.back) c.in_ok-at.ensures.bytes);
  within = search rules;
  quiet = search rules;
}
