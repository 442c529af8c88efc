-- What comes of an input at an administrator.
use Rattle.std.specs.Prelude.{◌≡◌, ◌≤◌, ◌+◌, ◌⊎◌, ℕ, List, [], ◌∷◌, ◌++◌, true, false, drop, slice_get, Option, Some, None}
use Rattle.afs_num.specs.Places.{at_place}
use Rattle.afs_num.specs.declared.messages.Message.{Message}
use Rattle.afs_num.specs.declared.messages.Received.TheVariants.{Whole}
use Rattle.afs_num.specs.declared.types.Node.{Node}
use Rattle.afs_num.specs.declared.types.Node.TheVariants.{Admin}
use Rattle.spec_history.specs.declared.lines.Line.{Line}
use Rattle.spec_history.specs.declared.lines.Line.TheVariants as lines
use Rattle.spec_history.specs.declared.lines.Outs.{Outs}
use Rattle.spec_history.specs.declared.scripts.AdminAct.{AdminAct}
use Rattle.spec_history.specs.declared.scripts.Script.{Script}
use Rattle.spec_model.specs.Messages.{messages_spelled, parcels_read, received}
use Rattle.spec_rows.specs.Steps.{Step}
use Rattle.spec_adminrows.specs.AdminRow.{admin_begin_row, admin_reborn, admin_row, admin_timeout_row, waiting_on, AdminState}
use Rattle.spec_adminrows.specs.declared.turns.Running.{Running}
use Rattle.afs_schedule.specs.Schedules.{admin_act, is_waiting_on}
use Rattle.afs_clients.specs.Happening.{ClientTells, NoneHappened, DisklessHappens}
use Rattle.afs_clients.specs.Places.{put_place}
use Rattle.afs_clients.specs.declared.happening.AdminInput.{AdminInput}
use Rattle.afs_clients.specs.declared.happening.AdminInput.TheVariants as admin
use Rattle.afs_clients.specs.declared.happening.Happened.{Happened}
use Rattle.afs_admins.specs.Seating.{IsSeated}
use Rattle.afs_admins.specs.declared.admins.AdminSeat.{AdminSeat}

-- the administrator made this step of its row, and gave this out behind these lines
pub record AdminMakes (front : List Line) (step : Step AdminState) (old new : AdminSeat) (outs : Outs) : Type 0 where
  pub up : old.is_away ≡ false
  pub stays_up : new.is_away ≡ false
  pub state : new.mover.state ≡ step.state
  pub lines : front ++ outs.lines ≡ step.lines
  pub sent : parcels_read outs.parcels ≡ messages_spelled step.sent

-- it begins the next act of its plan, while none runs
pub record HasBegun (n : ℕ) (old new : AdminSeat) (outs : Outs) : Type 0 where
  pub act : AdminAct
  pub next : admin_act (slice_get old.plan 0) ≡ Some act
  pub plan : new.plan ≡ drop 1 old.plan
  pub idle : old.mover.state.running ≡ None
  pub makes : AdminMakes [] (admin_begin_row (Admin n) old.mover.state act) old new outs

-- its unanswered call, which is to this node, is timed out
pub record HasTimedOut (n : ℕ) (callee : Node) (old new : AdminSeat) (outs : Outs) : Type 0 where
  pub act : Running
  pub runs : old.mover.state.running ≡ Some act
  pub callee_is : is_waiting_on callee (waiting_on old.mover.state) ≡ true
  pub makes : AdminMakes [] (admin_timeout_row (Admin n) old.mover.state act) old new outs
  pub plan : new.plan ≡ old.plan

-- it goes down: what it will begin with has kept nothing
pub record HasFallen (n : ℕ) (old new : AdminSeat) (outs : Outs) : Type 0 where
  pub up : old.is_away ≡ false
  pub away : new.is_away ≡ true
  pub state : new.mover.state ≡ admin_reborn old.mover.state
  pub plan : new.plan ≡ old.plan
  pub tells : ClientTells (lines.Crash (Admin n)) outs

pub record HasRisen (n : ℕ) (old new : AdminSeat) (outs : Outs) : Type 0 where
  pub away : old.is_away ≡ true
  pub up : new.is_away ≡ false
  pub state : new.mover.state ≡ old.mover.state
  pub plan : new.plan ≡ old.plan
  pub tells : ClientTells (lines.Restart (Admin n) old.mover.state.epoch) outs

-- it is given the message of this place, where the bytes are one
pub record AdminHears (n place : ℕ) (bytes : List ℕ) (old new : AdminSeat) (outs : Outs) : Type 0 where
  pub makes : (m : Message) → received bytes ≡ Whole m → AdminMakes (lines.Given place ∷ []) (admin_row (Admin n) old.mover.state place (Whole m)) old new outs
  pub plan : new.plan ≡ old.plan

abbrev pub AdminTakes : ℕ → AdminInput → AdminSeat → AdminSeat → Outs → Type 0
AdminTakes n admin.Act old new outs = HasBegun n old new outs
AdminTakes n (admin.TimeOut callee) old new outs = HasTimedOut n callee old new outs
AdminTakes n admin.Crash old new outs = HasFallen n old new outs
AdminTakes n admin.Restart old new outs = HasRisen n old new outs

-- nothing comes of this at the administrator
abbrev pub IsBusy : AdminState → Type 0
IsBusy a = (act : Running) × (a.running ≡ Some act)

abbrev pub IsVoidAdmin : AdminInput → AdminSeat → Type 0
IsVoidAdmin admin.Act seat = (seat.is_away ≡ true) ⊎ (IsBusy seat.mover.state ⊎ (admin_act (slice_get seat.plan 0) ≡ None))
IsVoidAdmin (admin.TimeOut callee) seat = (seat.is_away ≡ true) ⊎ (is_waiting_on callee (waiting_on seat.mover.state) ≡ false)
IsVoidAdmin admin.Crash seat = seat.is_away ≡ true
IsVoidAdmin admin.Restart seat = seat.is_away ≡ false

-- it stays the one that it was; its call and its epoch are the next ones at most
pub record AdminGoes (s : Script) (n : ℕ) (old new : AdminSeat) : Type 0 where
  pub seated : IsSeated s n new
  pub epoch : new.epoch ≤ old.epoch + 1
  pub last : new.mover.state.last ≤ old.mover.state.last + 1

pub record AdminHappened (s : Script) (n : ℕ) (IsVoid : AdminSeat → Type 0) (Takes : AdminSeat → AdminSeat → Outs → Type 0) (old new : List AdminSeat) (what : Happened) : Type 0 where
  pub was : AdminSeat
  pub now : AdminSeat
  pub found : at_place old n ≡ Some was
  pub put : new ≡ put_place n now old
  pub happens : DisklessHappens IsVoid Takes was now what
  pub goes : AdminGoes s n was now

-- the cell has none of this number, or this happened at it
abbrev pub AdminsHappened : Script → ℕ → (AdminSeat → Type 0) → (AdminSeat → AdminSeat → Outs → Type 0) → List AdminSeat → List AdminSeat → Happened → Type 0
AdminsHappened s n IsVoid Takes old new what = NoneHappened n old new what ⊎ AdminHappened s n IsVoid Takes old new what
