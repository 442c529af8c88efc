-- The promises that a volume server withdraws.
use Rattle.std.specs.Prelude.{ℕ, List, [], Option, Some, None}
use Rattle.spec_breaks.specs.Promises.{by_fid, hits_on}
use Rattle.spec_breaks.specs.declared.types.Promise.{Promise}

-- those on this volume, or none
abbrev pub promises_on : Option ℕ → List Promise → List Promise
promises_on None ps = []
promises_on (Some volume) ps = by_fid (hits_on volume ps)
