-- What a crash of the location database leaves of its disk, in the world.
use Rattle.std.proofs.Common.{refl, ap, sym, subst, ◌∙◌, ◌≡◌, ℕ, List, [], Option, Some, None, Result, Ok, Err}
use Rattle.afs_num.specs.declared.types.Node.TheVariants.{Loc}
use Rattle.spec_rows.specs.LocSteps.{LocHost}
use Rattle.afs_locdb.specs.Seen.{loc_seen}
use Rattle.afs_host.specs.LocSeated.{loc_seat_disk, DatabaseSeat, IsLocHost}
use Rattle.afs_host.specs.LocSeats.{loc_disk_of, DatabaseRunning}
use Rattle.afs_host.specs.declared.seats.Seat.TheVariants.{Up}
use Rattle.afs_clients.specs.declared.events.Given.{Given}
use Rattle.afs_clients.specs.declared.events.Given.TheVariants as given
use Rattle.afs_clients.specs.declared.happening.DatabaseInput.{DatabaseInput}
use Rattle.afs_clients.specs.declared.happening.DatabaseInput.TheVariants as database
use Rattle.afs_clients.specs.declared.happening.Happened.{Happened}
use Rattle.afs_clients.specs.declared.happening.Happened.TheVariants as happened
use Rattle.afs_cell.specs.DatabaseHearing.{IsPickedAtLoc, LocLeavesPick}
use Rattle.afs_cell.specs.DatabaseSteps.{HasLocStep, IsVoidAtLoc, LocTakes}
use Rattle.afs_cell.specs.Happening.{Settles}
use Rattle.afs_cell.specs.Worlds.{WorldState}
use Rattle.afs_cell.specs.declared.faults.WorldFault.{WorldFault}
use Rattle.afs_clients.proofs.Numbers.{none_some}

module _ {D : Type 0} (seen : D → Option (List ℕ)) (left_by : D → ℕ → Option (List ℕ)) (may_leave : D → List ℕ → Type 0) (faults limit : D → ℕ) where
  abbrev Took : ℕ → DatabaseSeat D → DatabaseSeat D → Happened → Type 0
  Took pick old new what = LocTakes seen may_leave faults limit [] (IsVoidAtLoc (database.Crash pick)) (HasLocStep 0 0 (database.Crash pick)) old new what

  -- a database that is up crashes
  not_void : (pick : ℕ) (r : DatabaseRunning D) (old new : DatabaseSeat D) → old ≡ Up r → Took pick old new happened.Nothing → ⊥
  not_void pick r old new is takes =
      let h : LocHost = record { state = loc_seen r.store; armed = r.armed; down = None } in
      let void = takes.happens.1 h (subst (λ (s : DatabaseSeat D). IsLocHost seen may_leave limit s h) (sym is) (record { state = refl; down = refl; armed = refl })) in
      none_some void.0 void.1

  picked_by : (pick : ℕ) (parts new : WorldState D) (now : DatabaseSeat D) (what : Happened) (result : Result (Unit {0}) WorldFault) → Took pick parts.database now what → LocLeavesPick seen left_by what (database.Crash pick) parts.database now
      → Settles Loc None what (record parts { database = now }) new result → IsPickedAtLoc seen left_by pick parts.database new.database result
  picked_by pick parts new now happened.Nothing (Ok done) takes leaves settles = λ r is. absurd (not_void pick r parts.database now is takes)
  picked_by pick parts new now (happened.Step outs) (Ok done) takes leaves settles = λ r is.
      ap (λ (w : WorldState D). seen (loc_seat_disk w.database)) settles ∙ (leaves ∙ ap (λ (s : DatabaseSeat D). left_by (loc_seat_disk s) pick) is)
  picked_by pick parts new now happened.Unchanged (Ok done) takes leaves settles = absurd settles
  picked_by pick parts new now happened.Lost (Ok done) takes leaves settles = absurd settles
  picked_by pick parts new now happened.Nothing (Err e) takes leaves settles = tt
  picked_by pick parts new now (happened.Step outs) (Err e) takes leaves settles = tt
  picked_by pick parts new now happened.Unchanged (Err e) takes leaves settles = tt
  picked_by pick parts new now happened.Lost (Err e) takes leaves settles = tt

  -- the world's step, by its parts
  pub loc_picked : (pick : ℕ) (input : DatabaseInput) (parts w new : WorldState D) (now : DatabaseSeat D) (what : Happened) (result : Result (Unit {0}) WorldFault) → parts ≡ w → input ≡ database.Crash pick
      → ((clock count : ℕ) → LocTakes seen may_leave faults limit [] (IsVoidAtLoc input) (HasLocStep clock count input) parts.database now what) → LocLeavesPick seen left_by what input parts.database now
      → Settles Loc None what (record parts { database = now }) new result → IsPickedAtLoc seen left_by pick w.database new.database result
  loc_picked pick input parts w new now what result same crash takes leaves settles =
      subst (λ (v : WorldState D). IsPickedAtLoc seen left_by pick v.database new.database result) same
      (picked_by pick parts new now what result
      (subst (λ (x : DatabaseInput). LocTakes seen may_leave faults limit [] (IsVoidAtLoc x) (HasLocStep 0 0 x) parts.database now what) crash (takes 0 0))
      (subst (λ (x : DatabaseInput). LocLeavesPick seen left_by what x parts.database now) crash leaves) settles)

-- which crash it is, by the event's meaning
pub loc_picked_as : {D : Type 0} (seen : D → Option (List ℕ)) (left_by : D → ℕ → Option (List ℕ)) (pick : ℕ) (what : DatabaseInput) (old new : DatabaseSeat D) (result : Result (Unit {0}) WorldFault) → given.Database what ≡ given.Database (database.Crash pick)
    → ((p : ℕ) → what ≡ database.Crash p → IsPickedAtLoc seen left_by p old new result) → IsPickedAtLoc seen left_by pick old new result
loc_picked_as {D} seen left_by pick what old new result e h =
    let crash : what ≡ database.Crash pick = cc in
    h pick crash
