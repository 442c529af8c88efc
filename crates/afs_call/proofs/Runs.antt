-- A call that is admitted to run is above its caller's last one.
use Rattle.std.proofs.Common.{◌≡◌, ◌≤◌, ℕ, Bool, true, false, cond, List, Option, Some, None, arith}
use Rattle.std.specs.Prelude.{nat_eq}
use Rattle.afs_num.specs.Keyed.{HasRoom}
use Rattle.afs_num.specs.declared.types.Head.{Head}
use Rattle.spec_model.specs.Calls.{admitted, call_seat, paired, runs, wrong_boot, Admitted, CallSeat}

runs_by : {R : Type 0} (b : Bool) (a : Admitted R) (boot : ℕ) → cond b a (wrong_boot boot) ≡ runs → a ≡ runs
runs_by {R} true a boot e = e
runs_by {R} false a boot e = absurd cc

pub paired_runs : {R : Type 0} (boot : ℕ) (seats : List (CallSeat R)) (head : Head) → admitted boot seats head ≡ runs → paired head.epoch head.number (call_seat head.from seats) ≡ runs
paired_runs {R} boot seats head e = runs_by (nat_eq head.boot boot) (paired head.epoch head.number (call_seat head.from seats)) boot e

pub room_for : {T : Type 0} (o : Option T) (room : ℕ) → 1 ≤ room → HasRoom o room
room_for {T} None room le = omega (arith, le)
room_for {T} (Some x) room le = tt
