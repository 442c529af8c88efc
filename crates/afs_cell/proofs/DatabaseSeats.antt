-- What the location database's calls tell, as what happened at its seat.
use Rattle.std.proofs.Common.{refl, ap, sym, subst, ◌∙◌, ◌≡◌, ◌≤◌, ℕ, List, [], ◌∷◌, ◌++◌, Option, Some, None}
use Rattle.std.specs.Prelude.{◌↔◌, IsSome}
use Rattle.afs_num.specs.declared.messages.Message.{Message}
use Rattle.afs_num.specs.declared.messages.Received.TheVariants.{Whole}
use Rattle.spec_history.specs.declared.lines.Line.{Line}
use Rattle.spec_history.specs.declared.lines.Line.TheVariants as lines
use Rattle.spec_history.specs.declared.lines.Outs.{Outs}
use Rattle.afs_disk.specs.Disk.{Rose}
use Rattle.afs_disk.specs.declared.disk.Disk.{Ghosts}
use Rattle.spec_model.specs.Messages.{messages_spelled, parcels_read, received}
use Rattle.spec_rows.specs.Hosts.{HostStep}
use Rattle.spec_rows.specs.LocRow.{LocState}
use Rattle.spec_rows.specs.LocSteps.{loc_kind, LocHost}
use Rattle.afs_host.specs.LocSeated.{DatabaseSeat}
use Rattle.afs_host.specs.LocSeats.{loc_disk_of, DatabaseRunning, IsLocDown, IsLocStepDown, IsLocStepUp, IsLocUp}
use Rattle.afs_host.specs.LocServing.{LocHasFallen}
use Rattle.afs_host.specs.Seats.{Resting}
use Rattle.afs_host.specs.Serving.{HasServed}
use Rattle.afs_host.specs.Starting.{HasStarted}
use Rattle.afs_host.specs.declared.seats.Seat.TheVariants.{Down, Up}
use Rattle.afs_clients.specs.Happening.{ClientTells}
use Rattle.afs_clients.specs.declared.happening.DatabaseInput.{DatabaseInput}
use Rattle.afs_clients.specs.declared.happening.DatabaseInput.TheVariants as input
use Rattle.afs_clients.specs.declared.happening.Happened.{Happened}
use Rattle.afs_clients.specs.declared.happening.Happened.TheVariants as happened
use Rattle.afs_cell.specs.DatabaseHearing.{IsLocUpSeat, LocLeavesPick, LocSeatBecomes, LocSeatFalls}
use Rattle.afs_cell.specs.DatabaseSteps.{database_seat, HasLocHeard, HasLocStep, IsLocFallen, IsVoidAtLoc, LocHappens, LocKeeps}
use Rattle.afs_cell.specs.SeatSteps.{IsStepOf}

module _ {D : Type 0} (w : Ghosts D) where
  step_up : (r : DatabaseRunning D) (before : List Line) (outs : Outs) (s : HostStep LocState) → IsLocStepUp r before outs s → IsStepOf (database_seat w.seen w.may_leave w.limit) (Up r) before outs s
  step_up r before outs s h = record { host = h.host; lines = h.lines; sent = h.sent }

  step_down : (r : Resting D) (front ls : List Line) (outs : Outs) (s : HostStep LocState) → outs.lines ≡ ls → outs.parcels ≡ [] → IsLocStepDown w.seen w.may_leave w.limit r (front ++ ls) s → IsStepOf (database_seat w.seen w.may_leave w.limit) (Down r) front outs s
  step_down r front ls outs s told none h = record {
    host = h.host;
    lines = ap (λ (x : List Line). front ++ x) told ∙ h.lines;
    sent = ap parcels_read none ∙ ap messages_spelled (sym h.sent);
  }

  -- ---- a message

  served_up : (h : LocHost) (clock place : ℕ) (m : Message) (r : DatabaseRunning D) (outs : Outs) (rose : Type 0) → HasServed loc_kind h clock place m (IsLocStepUp r (lines.Given place ∷ []) outs) rose
      → HasServed loc_kind h clock place m (IsStepOf (database_seat w.seen w.may_leave w.limit) (Up r) (lines.Given place ∷ []) outs) rose
  served_up h clock place m r outs rose s = record { luck = s.luck; is_luck = s.is_luck; is = step_up r (lines.Given place ∷ []) outs _ s.is; blame = s.blame }

  served_down : (h : LocHost) (clock place : ℕ) (m : Message) (r : Resting D) (line : Line) (outs : Outs) (rose : Type 0) → ClientTells line outs → HasServed loc_kind h clock place m (IsLocStepDown w.seen w.may_leave w.limit r (lines.Given place ∷ line ∷ [])) rose
      → HasServed loc_kind h clock place m (IsStepOf (database_seat w.seen w.may_leave w.limit) (Down r) (lines.Given place ∷ []) outs) rose
  served_down h clock place m r line outs rose tells s =
      record { luck = s.luck; is_luck = s.is_luck; is = step_down r (lines.Given place ∷ []) (line ∷ []) outs _ tells.lines tells.sent s.is; blame = s.blame }

  pub loc_heard_up : (clock place : ℕ) (bytes : List ℕ) (seat : DatabaseSeat D) (was r : DatabaseRunning D) (outs : Outs) → seat ≡ Up was
      → ((h : LocHost) → IsLocUp was h → (m : Message) → received bytes ≡ Whole m → (clock place : ℕ) → HasServed loc_kind h clock place m (IsLocStepUp r (lines.Given place ∷ []) outs) (Rose (w.faults (loc_disk_of was)) (w.faults (loc_disk_of r))))
      → LocHappens w.seen w.may_leave w.faults w.limit (lines.Given place ∷ []) IsLocFallen (HasLocHeard clock place bytes) seat (Up r) (happened.Step outs)
  loc_heard_up clock place bytes seat was r outs is served =
      subst (λ (s : DatabaseSeat D). LocHappens w.seen w.may_leave w.faults w.limit (lines.Given place ∷ []) IsLocFallen (HasLocHeard clock place bytes) s (Up r) (happened.Step outs)) (sym is)
      (λ tell h up. (up.down, λ m whole. served_up h clock place m r outs _ (served h up m whole clock place)))

  heard_down : (clock place : ℕ) (bytes : List ℕ) (seat : DatabaseSeat D) (was : DatabaseRunning D) (r : Resting D) (line : Line) (outs : Outs) → seat ≡ Up was → ClientTells line outs
      → ((h : LocHost) → IsLocUp was h → (m : Message) → received bytes ≡ Whole m → (clock place : ℕ) → HasServed loc_kind h clock place m (IsLocStepDown w.seen w.may_leave w.limit r (lines.Given place ∷ line ∷ [])) (Rose (w.faults (loc_disk_of was)) (w.faults r.disk)))
      → LocHappens w.seen w.may_leave w.faults w.limit (lines.Given place ∷ []) IsLocFallen (HasLocHeard clock place bytes) seat (Down r) (happened.Step outs)
  heard_down clock place bytes seat was r line outs is tells served =
      subst (λ (s : DatabaseSeat D). LocHappens w.seen w.may_leave w.faults w.limit (lines.Given place ∷ []) IsLocFallen (HasLocHeard clock place bytes) s (Down r) (happened.Step outs)) (sym is)
      (λ tell h up. (up.down, λ m whole. served_down h clock place m r line outs _ tells (served h up m whole clock place)))

  -- what is so of the database once it is down is so of what comes of its fall
  by_fall : (Is : DatabaseSeat D → Happened → Type 0) (r : DatabaseRunning D) → ((s : Resting D) (line : Line) → LocHasFallen w r s line → ((outs : Outs) → ClientTells line outs → Is (Down s) (happened.Step outs)) × Is (Down s) happened.Lost) → LocSeatBecomes w Is (Up r) None
  by_fall Is r each (Up x) what falls = absurd falls
  by_fall Is r each (Down s) happened.Nothing falls = absurd falls
  by_fall Is r each (Down s) (happened.Step outs) falls = (each s falls.0 falls.1.0).0 outs falls.1.1
  by_fall Is r each (Down s) happened.Unchanged falls = absurd falls
  by_fall Is r each (Down s) happened.Lost falls = (each s falls.0 falls.1).1

  pub loc_fell_happens : (clock place : ℕ) (bytes : List ℕ) (seat : DatabaseSeat D) (was r : DatabaseRunning D) → seat ≡ Up was
      → ((s : Resting D) (line : Line) → LocHasFallen w r s line → (h : LocHost) → IsLocUp was h → (m : Message) → received bytes ≡ Whole m → (clock place : ℕ) → HasServed loc_kind h clock place m (IsLocStepDown w.seen w.may_leave w.limit s (lines.Given place ∷ line ∷ [])) (Rose (w.faults (loc_disk_of was)) (w.faults s.disk)))
      → LocSeatBecomes w (λ s what. LocHappens w.seen w.may_leave w.faults w.limit (lines.Given place ∷ []) IsLocFallen (HasLocHeard clock place bytes) seat s what) (Up r) None
  loc_fell_happens clock place bytes seat was r is served =
      by_fall (λ s what. LocHappens w.seen w.may_leave w.faults w.limit (lines.Given place ∷ []) IsLocFallen (HasLocHeard clock place bytes) seat s what) r
      (λ s line has. ((λ outs tells. heard_down clock place bytes seat was s line outs is tells (served s line has)), tt))

  pub loc_fell_keeps : (seat : DatabaseSeat D) (was r : DatabaseRunning D) → seat ≡ Up was
      → ((s : Resting D) (line : Line) → LocHasFallen w r s line → IsSome (w.seen s.disk) ↔ IsSome (w.seen (loc_disk_of was)))
      → ((s : Resting D) (line : Line) → LocHasFallen w r s line → w.limit s.disk ≡ w.limit (loc_disk_of was))
      → ((s : Resting D) (line : Line) → LocHasFallen w r s line → w.faults (loc_disk_of was) ≤ w.faults s.disk)
      → LocSeatBecomes w (λ s what. LocKeeps w.seen w.faults w.limit seat s) (Up r) None
  loc_fell_keeps seat was r is told same few =
      let keeps : (s : Resting D) (line : Line) → LocHasFallen w r s line → LocKeeps w.seen w.faults w.limit seat (Down s) = λ s line has.
      subst (λ (old : DatabaseSeat D). LocKeeps w.seen w.faults w.limit old (Down s)) (sym is) (record { told = told s line has; same_limit = same s line has; no_fewer = few s line has }) in
      by_fall (λ s what. LocKeeps w.seen w.faults w.limit seat s) r (λ s line has. ((λ outs tells. keeps s line has), keeps s line has))

  -- ---- it began again

  pub loc_started_up : (clock count : ℕ) (old : Resting D) (r : DatabaseRunning D) (outs : Outs)
      → (IsSome (w.seen old.disk) → (h : LocHost) (was : IsLocDown w.seen w.may_leave w.limit old h) (clock count : ℕ) → HasStarted loc_kind h clock count was.fall (IsLocStepUp r [] outs) (Rose (w.faults old.disk) (w.faults (loc_disk_of r))))
      → LocHappens w.seen w.may_leave w.faults w.limit [] (IsVoidAtLoc input.Restart) (HasLocStep clock count input.Restart) (Down old) (Up r) (happened.Step outs)
  loc_started_up clock count old r outs started = λ tell h was.
      let s = started tell h was clock count in
      (was.fall, (was.down, record { after = s.after; may = s.may; outcome = s.outcome; is = step_up r [] outs _ s.is; blame = s.blame }))

  pub loc_started_down : (clock count : ℕ) (old r : Resting D) (ls : List Line) (outs : Outs) → outs.lines ≡ ls → outs.parcels ≡ []
      → (IsSome (w.seen old.disk) → (h : LocHost) (was : IsLocDown w.seen w.may_leave w.limit old h) (clock count : ℕ) → HasStarted loc_kind h clock count was.fall (IsLocStepDown w.seen w.may_leave w.limit r ls) (Rose (w.faults old.disk) (w.faults r.disk)))
      → LocHappens w.seen w.may_leave w.faults w.limit [] (IsVoidAtLoc input.Restart) (HasLocStep clock count input.Restart) (Down old) (Down r) (happened.Step outs)
  loc_started_down clock count old r ls outs told none started = λ tell h was.
      let s = started tell h was clock count in
      (was.fall, (was.down, record { after = s.after; may = s.may; outcome = s.outcome; is = step_down r [] ls outs _ told none s.is; blame = s.blame }))

-- ---- what a crash leaves

-- nothing is said of what is no crash
pub no_crash : {D : Type 0} (seen : D → Option (List ℕ)) (left_by : D → ℕ → Option (List ℕ)) (what : Happened) (given : DatabaseInput) (old new : DatabaseSeat D) → ((pick : ℕ) → given ≡ input.Crash pick → ⊥) → LocLeavesPick seen left_by what given old new
no_crash {D} seen left_by happened.Nothing given old new apart = tt
no_crash {D} seen left_by (happened.Step outs) (input.Crash pick) old new apart = absurd (apart pick refl)
no_crash {D} seen left_by (happened.Step outs) input.Restart old new apart = tt
no_crash {D} seen left_by (happened.Step outs) (input.Stop calls pick) old new apart = tt
no_crash {D} seen left_by (happened.Step outs) (input.Fail call) old new apart = tt
no_crash {D} seen left_by happened.Unchanged given old new apart = tt
no_crash {D} seen left_by happened.Lost given old new apart = tt
