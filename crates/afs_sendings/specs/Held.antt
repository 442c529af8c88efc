-- Replies that wait for breaks.
use Rattle.std.specs.Prelude.{ℕ, List}
use Rattle.spec_rows.specs.States.{Held}

-- those that wait; for how many more there is room; and how many may go out, or wait on, without memory
pub record Waiting : Type 0 where
  pub held : List Held
  pub room : ℕ
  pub out : ℕ
  pub on : ℕ
