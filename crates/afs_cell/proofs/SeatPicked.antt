-- What a crash of a server leaves of its disk, where it was taken from its place and put back.
use Rattle.std.proofs.Common.{refl, ap, sym, subst, ◌∙◌, ◌≡◌, ◌-◌, ℕ, List, Option}
use Rattle.std.specs.List.{insert}
use Rattle.afs_num.specs.Places.{at_place}
use Rattle.afs_cell.specs.SeatPicks.{LeavesPick, OneLeavesPick}
use Rattle.afs_clients.specs.Places.{IsLifted, Room}
use Rattle.afs_serverhost.specs.Seated.{ServerSeat}
use Rattle.afs_clients.specs.declared.happening.Happened.{Happened}
use Rattle.afs_clients.specs.declared.happening.Happened.TheVariants as happened
use Rattle.afs_clients.specs.declared.happening.ServerInput.{ServerInput}
use Rattle.afs_clients.specs.declared.happening.ServerInput.TheVariants as server
use Rattle.afs_clients.proofs.Numbers.{at_here, some_is}

module _ {D : Type 0} (seen : D → Option (List ℕ)) (left_by : D → ℕ → Option (List ℕ)) where
  -- nothing is said of what is no crash
  pub not_a_crash : (what : Happened) (input : ServerInput) (old new : ServerSeat D) → ((pick : ℕ) → input ≡ server.Crash pick → ⊥) → LeavesPick seen left_by what input old new
  not_a_crash happened.Nothing input old new apart = tt
  not_a_crash (happened.Step outs) (server.TimeOut callee) old new apart = tt
  not_a_crash (happened.Step outs) server.Wake old new apart = tt
  not_a_crash (happened.Step outs) (server.Crash pick) old new apart = absurd (apart pick refl)
  not_a_crash (happened.Step outs) server.Restart old new apart = tt
  not_a_crash (happened.Step outs) (server.Stop calls pick) old new apart = tt
  not_a_crash (happened.Step outs) (server.Fail call) old new apart = tt
  not_a_crash happened.Unchanged input old new apart = tt
  not_a_crash happened.Lost input old new apart = tt

  -- the server was taken from its place, and put back
  pub pick_put : (i : ℕ) (input : ServerInput) (what : Happened) (old mid : Room (ServerSeat D)) (new : List (ServerSeat D)) (was now : ServerSeat D) → IsLifted i old mid was → new ≡ insert mid.items (i - 1) now → LeavesPick seen left_by what input was now
      → OneLeavesPick seen left_by i what input old.items new
  pick_put i input what old mid new was now lifted is h was1 now1 at1 at2 =
      let one : was ≡ was1 = some_is was was1 (sym lifted.found ∙ at1) in
      let two : now ≡ now1 = some_is now now1 (sym (at_here i now was old.items lifted.found) ∙ (ap (λ (ss : List (ServerSeat D)). at_place ss i) (sym (is ∙ lifted.back now)) ∙ at2)) in
      subst (λ (s : ServerSeat D). LeavesPick seen left_by what input s now1) one (subst (λ (s : ServerSeat D). LeavesPick seen left_by what input was s) two h)
