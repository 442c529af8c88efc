-- The callers of a server: whose call is to run, and which kept reply is the answer to it.
use Rattle.std.specs.Prelude.{◌≡◌, ℕ, List, Bool, false, ◌&&◌, Option, Some, None, nat_eq}
use Rattle.std.specs.Borrow.{Bor}
use Rattle.afs_num.specs.declared.types.Head.{Head}
use Rattle.afs_num.specs.declared.types.Key.{Key}
use Rattle.spec_model.specs.Calls.{call_seat, paired, runs}
use Rattle.spec_rows.specs.States.{Seat}

-- the pair of the call of this header is to run
abbrev pub IsToRun : Head → List Seat → Type 0
IsToRun head seats = paired head.epoch head.number (call_seat head.from seats) ≡ runs

-- what a store keeps for a caller is the reply to the same call as that of this header
abbrev pub is_answer_to : Head → Option (Key × Bor (List ℕ)) → Bool
is_answer_to head None = false
is_answer_to head (Some k) = nat_eq head.epoch k.0.epoch && nat_eq head.number k.0.number
