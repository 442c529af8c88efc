use Rattle.test_node.specs.Hearing.{IsSound}
use Rattle.test_node.proofs.hostile.push_all.Given as goal

abbrev pub invariant-loop-bytes : goal.invariant-loop-bytes
invariant-loop-bytes l = IsSound l.life.base l.life.is_up
