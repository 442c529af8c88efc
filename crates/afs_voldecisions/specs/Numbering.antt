-- The transactions of a volume server.
use Rattle.std.specs.Prelude.{ℕ}
use Rattle.spec_ideal.specs.Tables.{Table}
use Rattle.spec_volrows.specs.VolStates.{Transaction}

-- by their numbers, with the last number of one
pub record Numbered : Type 0 where
  pub table : Table Transaction
  pub last : ℕ
