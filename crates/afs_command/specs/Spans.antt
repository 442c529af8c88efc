-- What stood before a call, and what stands after it.
use Rattle.std.specs.Prelude.{◌≡◌, ◌≤◌, ◌⊎◌, ℕ, ◌+◌}
use Rattle.afs_disk.specs.Fuses.{last_of_counter}

-- what stood there before the call, and what stands there after it
pub record Span (A : Type 0) : Type 0 where
  pub before : A
  pub after : A

abbrev pub span : {A : Type 0} → A → A → Span A
span {A} before after = record { before = before; after = after }

abbrev pub IsUnchanged : {A : Type 0} → Span A → Type 0
IsUnchanged {A} span = span.after ≡ span.before

-- The count rose by so many, or by more. One that stands at the last value of a counter counts as risen.
abbrev pub RoseBy : ℕ → Span ℕ → Type 0
RoseBy n count = (count.before + n ≤ count.after) ⊎ (last_of_counter ≤ count.after)
