-- Sources and sinks in memory, which fail where they are told to.
use Rattle.std.specs.Prelude.{◌≡◌, ◌⊎◌, ◌<◌, ◌≤◌, ℕ, min, List, [], ◌∷◌, Option, Some, Bool, true, false, ◌==◌}

-- the bytes that are left; which of the coming calls are to fail; how many calls have failed
pub record Supply : Type 0 where
  pub bytes : List ℕ
  pub failing : List ℕ
  pub faults : ℕ

-- the bytes that were written; how many more it takes, and how many of these without asking for memory; which of the
-- coming calls are to fail; how many have failed
pub record Store : Type 0 where
  pub bytes : List ℕ
  pub room : ℕ
  pub spare : ℕ
  pub failing : List ℕ
  pub faults : ℕ

-- the next call is to fail where the first byte of the plan is 1; behind its end none is
abbrev pub is_due : List ℕ → Bool
is_due [] = false
is_due (b ∷ bs) = b == 1

-- a write of so many bytes is refused: by the plan, or for want of room, or of memory
abbrev pub Refuses : Store → ℕ → Type 0
Refuses s n = (is_due s.failing ≡ true) ⊎ (s.room ≡ 0) ⊎ (s.spare < min n s.room)

-- none of them waits: what was written is where it belongs
abbrev pub passed_of : Store → Option (List ℕ)
passed_of s = Some s.bytes

-- room, and memory at hand
abbrev pub SameRoom : Store → Store → Type 0
SameRoom old new = (new.room ≡ old.room) × (old.spare ≤ new.spare)
