use Rattle.std.proofs.Common.{◌≡◌, drop}
use Rattle.std.specs.List.{AllByRecursion}
use Rattle.spec_ideal.specs.Operations.{first_failing}
use Rattle.afs_reads.specs.Replying.{HasPassed}
use Rattle.afs_reads.proofs.checks.check_all.Given as goal

abbrev pub invariant-loop-test : goal.invariant-loop-test
invariant-loop-test l = record {
  rest : first_failing (drop l.test-index l.tests) ≡ first_failing l.tests;
  passed : AllByRecursion HasPassed (drop l.test-index l.tests) → AllByRecursion HasPassed l.tests;
}
