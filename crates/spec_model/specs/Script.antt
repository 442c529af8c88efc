-- Which bytes are a script, and which; or the first bad line, counted from 1, and why it is bad.
use Rattle.std.specs.Prelude.{ℕ, Bool, true, List, [], ◌∷◌, nat_eq, Result, Ok, Err}
use Rattle.afs_num.specs.declared.scripts.Reason.{Reason}

-- empty lines and comments say nothing
abbrev pub is_silent : List ℕ → Bool
is_silent [] = true
is_silent (b ∷ bs) = nat_eq b 35

-- a refusal with its line's number
abbrev pub at_line : {A : Type 0} → ℕ → Result A Reason → Result A (ℕ × Reason)
at_line number (Ok x) = Ok x
at_line number (Err reason) = Err (number, reason)
