use Rattle.std.proofs.Common.{◌≡◌, ◌++◌, drop, map}
use Rattle.afs_grammar.specs.Lines.{lines_of_server}
use Rattle.afs_clients.proofs.setup.lines_at.Given as goal

abbrev pub invariant-loop-line : goal.invariant-loop-line
invariant-loop-line l = map (λ line. line.now) l.lines.items ++ lines_of_server l.server (drop l.line-index l.line-items) ≡ lines_of_server l.fn.server l.fn.script.volumes
