use Rattle.std.proofs.Common.{◌≡◌, ◌≤◌, length}
use Rattle.afs_grammar.specs.Lines.{lines_read_from, nothing_read}
use Rattle.afs_grammar.proofs.reader.read_lines.Given as goal

abbrev pub invariant-loop-line : goal.invariant-loop-line
invariant-loop-line g l = record {
  so_far : lines_read_from l.form.level l.reading l.number l.room l.lines ≡ lines_read_from l.form.level nothing_read 0 16777216 l.fn.lines;
  laid : g.G.Ground.lays l.ground l.reading.volumes;
  grows : length l.reading.volumes ≤ l.number;
  few : l.number ≤ 200000;
}

abbrev pub decreases-loop-line : goal.decreases-loop-line
decreases-loop-line g l = length l.lines
