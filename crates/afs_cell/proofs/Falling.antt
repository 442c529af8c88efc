-- A server that was given a message, whose step its disk may have ended.
use Rattle.std.proofs.Common.{refl, ap, sym, subst, ◌∙◌, ◌≡◌, ◌≤◌, ◌-◌, inr, zero, suc, ℕ, List, [], ◌∷◌, Option, Some, None}
use Rattle.std.specs.Prelude.{◌↔◌, IsSome}
use Rattle.std.specs.List.{insert}
use Rattle.afs_num.specs.Places.{at_place}
use Rattle.afs_num.specs.declared.messages.Message.{Message}
use Rattle.afs_num.specs.declared.messages.Received.TheVariants.{Whole}
use Rattle.afs_num.specs.declared.types.Node.{Node}
use Rattle.afs_num.specs.declared.types.Node.TheVariants.{Server}
use Rattle.spec_history.specs.declared.lines.Line.{Line}
use Rattle.spec_history.specs.declared.lines.Line.TheVariants as lines
use Rattle.spec_history.specs.declared.lines.Outs.{Outs}
use Rattle.afs_disk.specs.Disk.{Rose}
use Rattle.spec_model.specs.Messages.{received}
use Rattle.spec_rows.specs.Hosts.{HostStep}
use Rattle.spec_volrows.specs.NodeHosts.{node_kind, NodeHost}
use Rattle.spec_volrows.specs.VolStates.{NodeState}
use Rattle.afs_host.specs.Seats.{Resting}
use Rattle.afs_serverhost.specs.Seats.{disk_of, IsStepDown, IsUp, ServerRunning}
use Rattle.afs_serverhost.specs.Serving.{HasFallen}
use Rattle.afs_host.specs.Serving.{HasServed}
use Rattle.afs_host.specs.declared.seats.Seat.TheVariants.{Down, Up}
use Rattle.afs_clients.specs.Happening.{ClientTells}
use Rattle.afs_cell.specs.SeatSteps.{HasHeard, IsFallen, IsSeatOf, SeatGoes, SeatHappens, SeatKeeps, ServersHappened}
use Rattle.afs_cell.specs.Hearing.{IsUpAt, IsUpSeat, OneFalls, SeatBecomes, SeatFalls}
use Rattle.afs_clients.specs.Places.{put_place, IsLifted, Room}
use Rattle.afs_serverhost.specs.Seated.{ServerSeat}
use Rattle.afs_clients.specs.declared.happening.Happened.{Happened}
use Rattle.afs_clients.specs.declared.happening.Happened.TheVariants as happened
use Rattle.afs_clients.proofs.Numbers.{at_here, some_is}
use Rattle.afs_cell.proofs.Seats.{heard_down}

-- what is put twice at one number stands there as it was put last
pub put_twice : {A : Type 0} (n : ℕ) (x y : A) (xs : List A) → put_place n x (put_place n y xs) ≡ put_place n x xs
put_twice n x y [] = refl
put_twice zero x y (z ∷ zs) = refl
put_twice (suc zero) x y (z ∷ zs) = refl
put_twice (suc (suc n)) x y (z ∷ zs) = ap (λ ws. z ∷ ws) (put_twice (suc n) x y zs)

module _ {D : Type 0} (seen : D → Option (List ℕ)) (left_by : D → ℕ → Option (List ℕ)) (may_leave : D → List ℕ → Type 0) (faults limit : D → ℕ) where
  -- what is so of the server once it is down is so of what comes of its fall
  pub by_fall : (Is : ServerSeat D → Happened → Type 0) (r : ServerRunning D) → ((s : Resting D) (line : Line) → HasFallen seen left_by may_leave faults limit r s line → ((outs : Outs) → ClientTells line outs → Is (Down s) (happened.Step outs)) × Is (Down s) happened.Lost)
      → SeatBecomes seen left_by may_leave faults limit Is (Up r) None
  by_fall Is r each (Up x) what falls = absurd falls
  by_fall Is r each (Down s) happened.Nothing falls = absurd falls
  by_fall Is r each (Down s) (happened.Step outs) falls = (each s falls.0 falls.1.0).0 outs falls.1.1
  by_fall Is r each (Down s) happened.Unchanged falls = absurd falls
  by_fall Is r each (Down s) happened.Lost falls = (each s falls.0 falls.1).1

  pub fell_happens : (you : Node) (clock place : ℕ) (bytes : List ℕ) (seat : ServerSeat D) (was r : ServerRunning D) → seat ≡ Up was → IsSeatOf you seat
      → ((s : Resting D) (line : Line) → HasFallen seen left_by may_leave faults limit r s line → (h : NodeHost) → IsUp was h → (m : Message) → received bytes ≡ Whole m → (place : ℕ) → HasServed (node_kind was.store.node) h clock place m (IsStepDown seen may_leave limit was.store.node s (lines.Given place ∷ line ∷ [])) (Rose (faults (disk_of was)) (faults s.disk)))
      → SeatBecomes seen left_by may_leave faults limit (λ s what. SeatHappens seen may_leave faults limit you (lines.Given place ∷ []) IsFallen (HasHeard you clock place bytes) seat s what) (Up r) None
  fell_happens you clock place bytes seat was r is own served =
      by_fall (λ s what. SeatHappens seen may_leave faults limit you (lines.Given place ∷ []) IsFallen (HasHeard you clock place bytes) seat s what) r
      (λ s line has. ((λ outs tells. heard_down seen may_leave faults limit you clock place bytes seat was s line outs is own tells (served s line has)), tt))

  pub fell_keeps : (seat : ServerSeat D) (was r : ServerRunning D) → seat ≡ Up was
      → ((s : Resting D) (line : Line) → HasFallen seen left_by may_leave faults limit r s line → IsSome (seen s.disk) ↔ IsSome (seen (disk_of was)))
      → ((s : Resting D) (line : Line) → HasFallen seen left_by may_leave faults limit r s line → limit s.disk ≡ limit (disk_of was))
      → ((s : Resting D) (line : Line) → HasFallen seen left_by may_leave faults limit r s line → faults (disk_of was) ≤ faults s.disk)
      → SeatBecomes seen left_by may_leave faults limit (λ s what. SeatKeeps seen faults limit seat s) (Up r) None
  fell_keeps seat was r is told same few =
      let keeps : (s : Resting D) (line : Line) → HasFallen seen left_by may_leave faults limit r s line → SeatKeeps seen faults limit seat (Down s) = λ s line has.
      subst (λ (old : ServerSeat D). SeatKeeps seen faults limit old (Down s)) (sym is) (record { told = told s line has; same_limit = same s line has; no_fewer = few s line has }) in
      by_fall (λ s what. SeatKeeps seen faults limit seat s) r (λ s line has. ((λ outs tells. keeps s line has), keeps s line has))

module _ {D : Type 0} (seen : D → Option (List ℕ)) (left_by : D → ℕ → Option (List ℕ)) (may_leave : D → List ℕ → Type 0) (faults limit : D → ℕ) (i : ℕ) where
  -- it was taken from its place, fell, and was put back
  pub fallen_put : (old mid : Room (ServerSeat D)) (new : List (ServerSeat D)) (was fallen : ServerSeat D) (what : Happened) → IsLifted i old mid was → new ≡ insert mid.items (i - 1) fallen → SeatFalls seen left_by may_leave faults limit was fallen what
      → OneFalls seen left_by may_leave faults limit i old.items new what
  fallen_put old mid new was fallen what lifted is falls = record { was = was; fallen = fallen; found = lifted.found; put = is ∙ lifted.back fallen; falls = falls }

  pub up_there : (old : List (ServerSeat D)) (seat : ServerSeat D) → IsUpAt i old → at_place old i ≡ Some seat → IsUpSeat seat
  up_there old seat up found = subst (λ (s : ServerSeat D). IsUpSeat s) (some_is up.0 seat (sym up.1.0 ∙ found)) up.1.1

  pub up_at : (old : List (ServerSeat D)) (was seat : ServerSeat D) → at_place old i ≡ Some was → IsUpSeat seat → IsUpAt i (put_place i seat old)
  up_at old was seat found up = (seat, (at_here i seat was old found, up))

  -- what became of it in its place, and of what stands there once it has fallen
  module _ (front : List Line) (IsVoid : NodeHost → Type 0) (Has : NodeHost → (HostStep NodeState → Type 0) → Type 0 → Type 0) (old : List (ServerSeat D)) (was seat : ServerSeat D) (found : at_place old i ≡ Some was) where
    pub server_changed : (new : List (ServerSeat D)) (what : Happened) → new ≡ put_place i seat old → SeatHappens seen may_leave faults limit (Server i) front IsVoid Has was seat what → SeatGoes (Server i) was seat what → SeatKeeps seen faults limit was seat
        → ServersHappened seen may_leave faults limit i front IsVoid Has old new what
    server_changed new what put happens goes keeps = inr (record { was = was; now = seat; found = found; put = put; takes = record { happens = happens; goes = goes; keeps = keeps } })

    pub server_fell : (new : List (ServerSeat D)) (what : Happened) → OneFalls seen left_by may_leave faults limit i (put_place i seat old) new what
        → SeatBecomes seen left_by may_leave faults limit (λ s w. SeatHappens seen may_leave faults limit (Server i) front IsVoid Has was s w) seat None
        → SeatBecomes seen left_by may_leave faults limit (λ s w. SeatGoes (Server i) was s w) seat None
        → SeatBecomes seen left_by may_leave faults limit (λ s w. SeatKeeps seen faults limit was s) seat None
        → ServersHappened seen may_leave faults limit i front IsVoid Has old new what
    server_fell new what fell happens goes keeps =
        let same : fell.was ≡ seat = some_is fell.was seat (sym fell.found ∙ at_here i seat was old found) in
        let falls : SeatFalls seen left_by may_leave faults limit seat fell.fallen what = subst (λ (s : ServerSeat D). SeatFalls seen left_by may_leave faults limit s fell.fallen what) same fell.falls in
        inr (record {
          was = was;
          now = fell.fallen;
          found = found;
          put = fell.put ∙ put_twice i fell.fallen seat old;
          takes = record { happens = happens fell.fallen what falls; goes = goes fell.fallen what falls; keeps = keeps fell.fallen what falls };
        })
