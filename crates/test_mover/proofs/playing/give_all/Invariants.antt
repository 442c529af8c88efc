use Rattle.std.specs.Prelude.{◌≤◌}
use Rattle.test_mover.proofs.playing.give_all.Given as goal

abbrev pub invariant-loop-row : goal.invariant-loop-row
invariant-loop-row l = l.mover.state.last ≤ l.steps
