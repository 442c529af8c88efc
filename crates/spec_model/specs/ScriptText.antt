-- Scripts as they are written, and what holds of their reading.
use Rattle.std.specs.Prelude.{ℕ, Bool, List, [], ◌∷◌, ◌++◌, ◌+◌, ◌-◌, not, nat_eq, length}
use Rattle.std.specs.List.{list_all}

-- no byte of the part is the cut
abbrev pub is_part : ℕ → List ℕ → Bool
is_part cut part = list_all (λ b. not (nat_eq b cut)) part

-- lines, each with its newline
abbrev pub closed : List (List ℕ) → List ℕ
closed [] = []
closed (line ∷ lines) = line ++ 10 ∷ closed lines

-- the bytes that the script may still have behind them
abbrev pub room_behind : ℕ → List (List ℕ) → ℕ
room_behind room [] = room
room_behind room (line ∷ lines) = room_behind (room - (length line + 1)) lines
