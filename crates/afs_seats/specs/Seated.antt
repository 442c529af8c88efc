-- Items by ascending numbers, in memory.
use Rattle.std.specs.Prelude.{ℕ, Bool, Option, Some, None, false, nat_eq, nat_lt, map}
use Rattle.std.specs.List.{prefix_len}
use Rattle.spec_ideal.specs.Tables.{Table}

-- the items, and for how many more memory is there
pub record Seated (A : Type 0) : Type 0 where
  pub table : Table A
  pub room : ℕ

-- where the item of a number stands, or would stand
abbrev pub place_of : {A : Type 0} → ℕ → Table A → ℕ
place_of {A} n t = prefix_len (λ (p : ℕ × A). nat_lt p.0 n) t

abbrev pub has_number : {A : Type 0} → ℕ → Option (ℕ × A) → Bool
has_number {A} n None = false
has_number {A} n (Some p) = nat_eq p.0 n

-- each item as something else
abbrev pub seen_as : {A B : Type 0} → (A → B) → Table A → Table B
seen_as {A} {B} f t = map (λ (p : ℕ × A). (p.0, f p.1)) t

abbrev pub item_of : {A : Type 0} → Option (ℕ × A) → Option A
item_of {A} None = None
item_of {A} (Some p) = Some p.1
