-- What is decided on a call is what its row decides.
use Rattle.std.proofs.Common.{◌≡◌, ℕ, Option, Some, None, sym, ap, ◌∙◌}
use Rattle.afs_num.specs.declared.location_calls.LocCall.{LocCall}
use Rattle.spec_records.specs.LocDurable.{LocDurable}
use Rattle.spec_rows.specs.LocRow.{changes, loc_op, LocChange, LocState}
use Rattle.afs_locstore.specs.States.{loc_on_disk, parts_of}
use Rattle.afs_locstore.specs.declared.memory.State.{State}
use Rattle.afs_locdb.specs.Deciding.{change_decided, change_in, lasting_seen, outcome_of, IsMadeIn}
use Rattle.afs_locdb.specs.Seen.{lasting_of}
use Rattle.afs_locdb.specs.declared.decided.Decided.{Decided}
use Rattle.afs_locdb.specs.declared.decided.Decided.TheVariants as decided
use Rattle.afs_locdb.specs.declared.operations.Outcome.{Outcome}
use Rattle.afs_locdb.specs.declared.operations.Outcome.TheVariants as outcomes
use Rattle.afs_locdb.proofs.Saved.{op_same}
use Rattle.std.specs.Prelude.{map}
use Rattle.afs_saving.specs.Kept.{seat_kept}

-- a call does the same over what is in memory and over what is on the disk
pub op_here : (stamp : ℕ) (call : LocCall) (st : State) (journal capacity : ℕ) (d : LocDurable) → d ≡ loc_on_disk journal capacity (parts_of st) → loc_op stamp call (lasting_seen st) ≡ loc_op stamp call (lasting_of d)
op_here stamp call st journal capacity d is =
    sym (op_same stamp call (lasting_seen st) (parts_of st).boot (map seat_kept (parts_of st).kept) journal capacity) ∙ ap (λ (e : LocDurable). loc_op stamp call (lasting_of e)) (sym is)

some_is : (x y : LocChange) → ◌≡◌ {A = Option LocChange} (Some x) (Some y) → x ≡ y
some_is x y e = cc

-- the change that is decided on is the call's
pub made_in : (s : LocState) (stamp : ℕ) (call : LocCall) (x : Decided) (o : Outcome) → change_decided x ≡ change_in o → outcome_of o ≡ loc_op stamp call s.lasting → IsMadeIn s x
made_in s stamp call decided.Drops o same is = tt
made_in s stamp call decided.TellsBoot o same is = tt
made_in s stamp call (decided.Repeats reply) o same is = tt
made_in s stamp call (decided.Refuses code) o same is = tt
made_in s stamp call (decided.Shows reply) o same is = tt
made_in s stamp call (decided.Saves c) (outcomes.Changes k) same is = (stamp, (call, sym is ∙ ap changes (sym (some_is c k same))))
made_in s stamp call (decided.Saves c) (outcomes.Refused code) same is = absurd cc
made_in s stamp call (decided.Saves c) (outcomes.Reads reply) same is = absurd cc
