-- Room for a reply that waits.
use Rattle.std.proofs.Common.{◌≡◌, ◌≤◌, ◌<◌, ◌+◌, ◌++◌, ℕ, length, min, Option, Some, None, ap, ◌∙◌, arith}
use Rattle.std.proofs.Math.Nat.{le-min, min-le_left, min-le_right}
use Rattle.std.proofs.lemmas.List.{length-append}
use Rattle.spec_rows.specs.States.{Held}
use Rattle.afs_sendings.specs.Held.{Waiting}
use Rattle.afs_volserv.specs.Saving.{held_or_none}

-- for how many replies there is room, to wait, to go out and to wait on
abbrev pub room_of : Waiting → ℕ
room_of w = min (length w.held + w.room) (min w.out w.on)

one_at_most : (o : Option Held) → length (held_or_none o) ≤ 1
one_at_most None = omega arith
one_at_most (Some h) = omega arith

pub can_wait : (w : Waiting) → length w.held < room_of w → 0 < w.room
can_wait w room = let within = min-le_left (length w.held + w.room) (min w.out w.on) in omega (arith, within, room)

-- one more waits, and then all can go out
pub still_released : (w v : Waiting) (o : Option Held) → v.held ≡ w.held ++ held_or_none o → v.out ≡ w.out → v.on ≡ w.on → length w.held < room_of w → length v.held ≤ room_of v
still_released w v o held out on room =
    let both = min-le_right (length w.held + w.room) (min w.out w.on) in
    let to_out = min-le_left w.out w.on in
    let to_on = min-le_right w.out w.on in
    let long = ap length held ∙ length-append w.held (held_or_none o) in
    let one = one_at_most o in
    le-min (omega arith) (le-min (omega (arith, both, to_out, long, one, out, room)) (omega (arith, both, to_on, long, one, on, room)))
