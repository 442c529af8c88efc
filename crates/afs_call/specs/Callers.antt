-- What a caller does where its call has waited too long.
use Rattle.std.specs.Prelude.{◌≡◌, ℕ, ◌+◌, true, false}
use Rattle.spec_model.specs.Calls.{is_sent_again}
use Rattle.afs_call.specs.declared.caller.Timeout.{Timeout}
use Rattle.afs_call.specs.declared.caller.Timeout.TheVariants.{Again, Dead}

-- By the timeouts that the call had before: it is sent again, and this timeout is the next; or it is given up.
abbrev pub Follows : ℕ → Timeout → Type 0
Follows tries (Again count) = (is_sent_again tries ≡ true) × (count ≡ tries + 1)
Follows tries Dead = is_sent_again tries ≡ false
