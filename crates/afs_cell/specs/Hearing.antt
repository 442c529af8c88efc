-- What becomes of the seat of a server that is given a message.
use Rattle.std.specs.Prelude.{◌≡◌, ℕ, List, Option, Some, None}
use Rattle.afs_num.specs.Places.{at_place}
use Rattle.spec_history.specs.declared.lines.Line.{Line}
use Rattle.afs_serverhost.specs.Serving.{HasFallen}
use Rattle.afs_host.specs.declared.seats.Seat.TheVariants.{Up, Down}
use Rattle.afs_clients.specs.Happening.{ClientTells}
use Rattle.afs_clients.specs.Places.{put_place}
use Rattle.afs_serverhost.specs.Seated.{ServerSeat}
use Rattle.afs_clients.specs.declared.happening.Happened.{Happened}
use Rattle.afs_clients.specs.declared.happening.Happened.TheVariants as happened

abbrev pub IsUpSeat : {D : Type 0} → ServerSeat D → Type 0
IsUpSeat {D} (Up r) = Unit {0}
IsUpSeat {D} (Down s) = ⊥

-- the server, which was up, has fallen, and that was told; or memory was wanting for that
abbrev pub SeatFalls : {D : Type 0} → (D → Option (List ℕ)) → (D → ℕ → Option (List ℕ)) → (D → List ℕ → Type 0) → (D → ℕ) → (D → ℕ) → ServerSeat D → ServerSeat D → Happened → Type 0
SeatFalls {D} seen left_by may_leave faults limit (Up r) (Down s) (happened.Step outs) = (line : Line) × (HasFallen seen left_by may_leave faults limit r s line × ClientTells line outs)
SeatFalls {D} seen left_by may_leave faults limit (Up r) (Down s) happened.Lost = (line : Line) × HasFallen seen left_by may_leave faults limit r s line
SeatFalls {D} seen left_by may_leave faults limit old new what = ⊥

-- It is so of the seat and of what happened there; where its disk ended the step, of the seat once the server has fallen.
abbrev pub SeatBecomes : {D : Type 0} → (D → Option (List ℕ)) → (D → ℕ → Option (List ℕ)) → (D → List ℕ → Type 0) → (D → ℕ) → (D → ℕ) → (ServerSeat D → Happened → Type 0) → ServerSeat D → Option Happened → Type 0
SeatBecomes {D} seen left_by may_leave faults limit Is seat (Some what) = Is seat what
SeatBecomes {D} seen left_by may_leave faults limit Is seat None = (fallen : ServerSeat D) (what : Happened) → SeatFalls seen left_by may_leave faults limit seat fallen what → Is fallen what

-- ---- the servers

-- the server of this number is up
abbrev pub IsUpAt : {D : Type 0} → ℕ → List (ServerSeat D) → Type 0
IsUpAt {D} i servers = (seat : ServerSeat D) × ((at_place servers i ≡ Some seat) × IsUpSeat seat)

-- it has fallen
pub record OneFalls {D : Type 0} (seen : D → Option (List ℕ)) (left_by : D → ℕ → Option (List ℕ)) (may_leave : D → List ℕ → Type 0) (faults limit : D → ℕ) (i : ℕ) (old new : List (ServerSeat D)) (what : Happened) : Type 0 where
  pub was : ServerSeat D
  pub fallen : ServerSeat D
  pub found : at_place old i ≡ Some was
  pub put : new ≡ put_place i fallen old
  pub falls : SeatFalls seen left_by may_leave faults limit was fallen what
