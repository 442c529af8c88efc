-- The bytes that a script writes.
use Rattle.std.specs.Prelude.{ℕ, List, replicate}
use Rattle.spec_history.specs.declared.acts.Written.{Written}
use Rattle.spec_history.specs.declared.acts.Written.TheVariants.{Hex, Fill}

abbrev pub bytes_in : Written → List ℕ
bytes_in (Hex bytes) = bytes
bytes_in (Fill count byte) = replicate count byte
