use Rattle.std.proofs.Common.{◌∙◌, sym}
use Rattle.afs_grammar.proofs.LineByLine.{line_by_line}
use Rattle.afs_grammar.proofs.reader.read_lines.Goals as goal

pub loop-line-preserved : goal.loop-line-preserved
loop-line-preserved g c = record {
  so_far = sym (line_by_line _ _ _ _ _ _ _ _ c.in-Some.ensures.0 c.in-Some.ensures.1 c.in_ok-read_line.ensures.value) ∙ c.loop-line.invariant.so_far;
  laid = c.in_ok-read_line.ensures.laid;
  grows = c.in_ok-read_line.ensures.grows;
  few = c.in_ok-read_line.ensures.few;
}
