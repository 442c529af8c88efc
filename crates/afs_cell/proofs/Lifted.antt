-- A node was taken from its place, was given something, and was put back.
use Rattle.std.proofs.Common.{refl, ◌∙◌, ◌≡◌, ◌-◌, inl, inr, ℕ, List, Option, None}
use Rattle.std.specs.List.{insert}
use Rattle.afs_num.specs.declared.types.Node.TheVariants.{Server}
use Rattle.afs_num.specs.Places.{at_place}
use Rattle.spec_history.specs.declared.lines.Line.{Line}
use Rattle.spec_rows.specs.Hosts.{HostStep}
use Rattle.spec_volrows.specs.NodeHosts.{NodeHost}
use Rattle.spec_volrows.specs.VolStates.{NodeState}
use Rattle.afs_cell.specs.SeatSteps.{SeatGoes, SeatHappens, SeatKeeps, ServersHappened}
use Rattle.afs_clients.specs.Places.{IsLifted, Room}
use Rattle.afs_serverhost.specs.Seated.{ServerSeat}
use Rattle.afs_clients.specs.declared.happening.Happened.{Happened}
use Rattle.afs_clients.specs.declared.happening.Happened.TheVariants as happened

pub server_put : {D : Type 0} (seen : D → Option (List ℕ)) (may_leave : D → List ℕ → Type 0) (faults limit : D → ℕ) (i : ℕ) (front : List Line) (IsVoid : NodeHost → Type 0) (Has : NodeHost → (HostStep NodeState → Type 0) → Type 0 → Type 0) (old mid : Room (ServerSeat D))
    (new : List (ServerSeat D)) (was now : ServerSeat D) (what : Happened) → IsLifted i old mid was → new ≡ insert mid.items (i - 1) now → SeatHappens seen may_leave faults limit (Server i) front IsVoid Has was now what → SeatGoes (Server i) was now what
    → SeatKeeps seen faults limit was now → ServersHappened seen may_leave faults limit i front IsVoid Has old.items new what
server_put {D} seen may_leave faults limit i front IsVoid Has old mid new was now what lifted is happens goes keeps =
    inr (record { was = was; now = now; found = lifted.found; put = is ∙ lifted.back now; takes = record { happens = happens; goes = goes; keeps = keeps } })

pub no_server : {D : Type 0} (seen : D → Option (List ℕ)) (may_leave : D → List ℕ → Type 0) (faults limit : D → ℕ) (i : ℕ) (front : List Line) (IsVoid : NodeHost → Type 0) (Has : NodeHost → (HostStep NodeState → Type 0) → Type 0 → Type 0) (old new : Room (ServerSeat D))
    → at_place old.items i ≡ None → new ≡ old → ServersHappened seen may_leave faults limit i front IsVoid Has old.items new.items happened.Nothing
no_server {D} seen may_leave faults limit i front IsVoid Has old new none same = inl (record { none = none; same = λ j. (same j).items; nothing = refl })
