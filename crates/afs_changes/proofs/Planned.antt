-- What an operation is to do, before its limits and within them.
use Rattle.std.proofs.Common.{◌≡◌, ℕ, List, Option, Some, None, ap}
use Rattle.afs_num.specs.declared.calls.FsCall.{FsCall}
use Rattle.spec_ideal.specs.Operations.{Caller, Result, by_tests, changes, effect, first_failing, limited, limits, op, tests}
use Rattle.spec_ideal.specs.Volumes.{Edit, Volume}
use Rattle.afs_changes.specs.Planning.{planned}

limited_by : (t : Option ℕ) (id : ℕ) (v : Volume) (r : Result) (es : List Edit) (n : ℕ) → by_tests t r ≡ changes es n → by_tests t (limited id v r) ≡ by_tests (first_failing (limits id es v)) (changes es n)
limited_by None id v r es n e = ap (limited id v) e
limited_by (Some code) id v r es n e = absurd cc

pub op_limited : (id : ℕ) (caller : Caller) (call : FsCall) (v : Volume) (es : List Edit) (n : ℕ) → planned caller call v ≡ changes es n → op id caller call v ≡ by_tests (first_failing (limits id es v)) (changes es n)
op_limited id caller call v es n e = limited_by (first_failing (tests caller call v)) id v (effect caller call v) es n e
