-- Which input of the definitions an input of the location database is, and when nothing comes of it.
use Rattle.std.proofs.Common.{refl, ap, sym, subst, ◌∙◌, ◌≡◌, ◌⊎◌, inl, inr, ℕ, zero, List, [], ◌∷◌, Bool, Option, Some, None}
use Rattle.afs_num.specs.Places.{at_place}
use Rattle.afs_num.specs.declared.messages.Message.{Message}
use Rattle.afs_num.specs.declared.types.Node.TheVariants.{Loc}
use Rattle.afs_num.specs.declared.types.Parcel.{Parcel}
use Rattle.spec_history.specs.declared.lines.Line.TheVariants as lines
use Rattle.spec_history.specs.declared.lines.Outs.{Outs}
use Rattle.spec_history.specs.declared.scripts.Event.TheVariants as events
use Rattle.afs_disk.specs.Disk.{Rose}
use Rattle.spec_rows.specs.Hosts.{comes_up, crashed, restarted, served, set_to_fail, set_to_stop, steady, Fall, Luck, MayBegin, Outcome}
use Rattle.spec_rows.specs.LocSteps.{loc_kind}
use Rattle.spec_rows.specs.Runs.{gives, message_at, sets_fail, sets_stop, starts_again, stops}
use Rattle.spec_runs.specs.NodeRuns.{given_at, given_to, loc_stepped, loc_restarted, loc_up, node_moved, usual, usually_moved, voided, NodeCell}
use Rattle.afs_schedule.specs.Schedules.{IsInput, ScheduleState}
use Rattle.afs_clients.specs.Happening.{IsGivenToLoc}
use Rattle.afs_clients.specs.declared.happening.DatabaseInput.{DatabaseInput}
use Rattle.afs_clients.specs.declared.happening.DatabaseInput.TheVariants as database
use Rattle.afs_cell.specs.DatabaseSteps.{database_seat, HasLocHeard, HasLocStep, IsLocFallen, IsVoidAtLoc}
use Rattle.afs_cell.specs.SeatSteps.{IsStepOf}
use Rattle.afs_cell.specs.Worlds.{IsCell, WorldState}
use Rattle.afs_host.specs.LocSeated.{loc_seat_disk, DatabaseSeat}
use Rattle.afs_cell.proofs.HostSteps.{DatabaseLinked}
use Rattle.afs_cell.proofs.Links.{luck_blames, luck_is, message_found, outcome_blames, some_begin, Voided}

-- ---- the cell

-- while it is up
loc_served : (c : NodeCell) (place : ℕ) (luck : Luck) (m : Message) → message_at c.sent place ≡ Some m → m.head.to ≡ Loc → c.loc.down ≡ None → node_moved c (usual (gives place luck)) ≡ loc_stepped c (served loc_kind c.loc c.clock place luck m)
unfolding usually_moved
loc_served c place luck m at to up = ap (given_at c place luck) at ∙ (ap (given_to c place luck m) to ∙ ap (loc_up c (served loc_kind c.loc c.clock place luck m)) up)

loc_crashed : (c : NodeCell) → c.loc.down ≡ None → node_moved c (usual (stops 0)) ≡ loc_stepped c (crashed loc_kind c.loc)
unfolding usually_moved
loc_crashed c up = ap (loc_up c (crashed loc_kind c.loc)) up

loc_set_to_stop : (c : NodeCell) (calls pick : ℕ) → c.loc.down ≡ None → node_moved c (usual (sets_stop 0 calls pick)) ≡ loc_stepped c (set_to_stop loc_kind c.loc calls pick)
unfolding usually_moved
loc_set_to_stop c calls pick up = ap (loc_up c (set_to_stop loc_kind c.loc calls pick)) up

loc_set_to_fail : (c : NodeCell) (call : ℕ) → c.loc.down ≡ None → node_moved c (usual (sets_fail 0 call)) ≡ loc_stepped c (set_to_fail loc_kind c.loc call)
unfolding usually_moved
loc_set_to_fail c call up = ap (loc_up c (set_to_fail loc_kind c.loc call)) up

-- while it is down
loc_begins : (c : NodeCell) (after : Bool) (outcome : Outcome) (fall : Fall) → c.loc.down ≡ Some fall → node_moved c (usual (starts_again 0 after outcome)) ≡ loc_stepped c (restarted loc_kind c.loc c.clock c.count after outcome fall)
unfolding usually_moved
loc_begins c after outcome fall down = ap (loc_restarted c after outcome) down

-- ---- an input

module _ {D : Type 0} (seen : D → Option (List ℕ)) (may_leave : D → List ℕ → Type 0) (faults limit : D → ℕ) (t : ScheduleState) (was now : DatabaseSeat D) (outs : Outs) where
  -- a message
  pub link_loc_message : (w : WorldState D) (place : ℕ) (p : Parcel) → IsCell seen may_leave limit w t.cell → at_place w.wire place ≡ Some p → p.head.to ≡ Loc
      → HasLocHeard t.cell.clock place p.bytes t.cell.loc (IsStepOf (database_seat seen may_leave limit) now (lines.Given place ∷ []) outs) (Rose (faults (loc_seat_disk was)) (faults (loc_seat_disk now)))
      → DatabaseLinked seen may_leave faults limit (IsInput t (events.Deliver place)) t was now (lines.Given place ∷ []) outs
  link_loc_message w place p cell at to heard =
      let f = message_found seen may_leave faults limit w t.cell place p cell at in
      let s = heard.1 f.message f.carries.bytes in
      record {
        input = usual (gives place s.luck);
        is_one = (s.luck, (refl, luck_is s.luck s.is_luck));
        step = served loc_kind t.cell.loc t.cell.clock place s.luck f.message;
        moves = loc_served t.cell place s.luck f.message f.at (sym (ap (λ h. h.to) f.carries.head) ∙ to) heard.0;
        left = refl;
        good = s.is;
        blames = luck_blames seen may_leave faults limit s.luck place (loc_seat_disk was) (loc_seat_disk now) s.blame;
      }

  -- what it is given else
  pub link_loc_input : (input : DatabaseInput) → HasLocStep t.cell.clock t.cell.count input t.cell.loc (IsStepOf (database_seat seen may_leave limit) now [] outs) (Rose (faults (loc_seat_disk was)) (faults (loc_seat_disk now)))
      → DatabaseLinked seen may_leave faults limit (IsGivenToLoc input t) t was now [] outs
  link_loc_input (database.Crash pick) h = record {
    input = usual (stops 0);
    is_one = refl;
    step = crashed loc_kind t.cell.loc;
    moves = loc_crashed t.cell h.0;
    left = refl;
    good = h.1;
    blames = inl refl;
  }
  link_loc_input database.Restart h = record {
    input = usual (starts_again 0 h.1.1.after h.1.1.outcome);
    is_one = (h.1.1.after, (h.1.1.outcome, (subst (λ (d : Option Fall). MayBegin d h.1.1.after) (sym h.1.0) h.1.1.may, refl)));
    step = restarted loc_kind t.cell.loc t.cell.clock t.cell.count h.1.1.after h.1.1.outcome h.0;
    moves = loc_begins t.cell h.1.1.after h.1.1.outcome h.0 h.1.0;
    left = refl;
    good = h.1.1.is;
    blames = outcome_blames seen may_leave faults limit 0 h.1.1.after h.1.1.outcome (loc_seat_disk was) (loc_seat_disk now) h.1.1.blame;
  }
  link_loc_input (database.Stop calls pick) h = record {
    input = usual (sets_stop 0 calls pick);
    is_one = refl;
    step = set_to_stop loc_kind t.cell.loc calls pick;
    moves = loc_set_to_stop t.cell calls pick h.0;
    left = refl;
    good = h.1;
    blames = inl refl;
  }
  link_loc_input (database.Fail call) h = record {
    input = usual (sets_fail 0 call);
    is_one = refl;
    step = set_to_fail loc_kind t.cell.loc call;
    moves = loc_set_to_fail t.cell call h.0;
    left = refl;
    good = h.1;
    blames = inl refl;
  }

-- ---- void

unheard : (c : NodeCell) (place : ℕ) (m : Message) → message_at c.sent place ≡ Some m → m.head.to ≡ Loc → IsLocFallen c.loc → node_moved c (usual (gives place steady)) ≡ voided c
unfolding usually_moved
unheard c place m at to fallen = ap (given_at c place steady) at ∙ (ap (given_to c place steady m) to ∙ ap (loc_up c (served loc_kind c.loc c.clock place steady m)) fallen.1)

pub void_loc_message : (t : ScheduleState) (place : ℕ) (m : Message) → message_at t.cell.sent place ≡ Some m → m.head.to ≡ Loc → IsLocFallen t.cell.loc → Voided (IsInput t (events.Deliver place)) t
void_loc_message t place m at to fallen = record { input = usual (gives place steady); is_one = (steady, (refl, tt)); moves = unheard t.cell place m at to fallen; left = refl; harmless = refl }

not_stopped : (c : NodeCell) → IsLocFallen c.loc → node_moved c (usual (stops 0)) ≡ voided c
unfolding usually_moved
not_stopped c fallen = ap (loc_up c (crashed loc_kind c.loc)) fallen.1

not_begun : (c : NodeCell) (after : Bool) → c.loc.down ≡ None → node_moved c (usual (starts_again 0 after comes_up)) ≡ voided c
unfolding usually_moved
not_begun c after up = ap (loc_restarted c after comes_up) up

not_set_to_stop : (c : NodeCell) (calls pick : ℕ) → IsLocFallen c.loc → node_moved c (usual (sets_stop 0 calls pick)) ≡ voided c
unfolding usually_moved
not_set_to_stop c calls pick fallen = ap (loc_up c (set_to_stop loc_kind c.loc calls pick)) fallen.1

not_set_to_fail : (c : NodeCell) (call : ℕ) → IsLocFallen c.loc → node_moved c (usual (sets_fail 0 call)) ≡ voided c
unfolding usually_moved
not_set_to_fail c call fallen = ap (loc_up c (set_to_fail loc_kind c.loc call)) fallen.1

pub void_loc_input : (t : ScheduleState) (input : DatabaseInput) → IsVoidAtLoc input t.cell.loc → Voided (IsGivenToLoc input t) t
void_loc_input t (database.Crash pick) fallen = record { input = usual (stops 0); is_one = refl; moves = not_stopped t.cell fallen; left = refl; harmless = refl }
void_loc_input t database.Restart up =
    let a = some_begin t.cell.loc.down in
    record { input = usual (starts_again 0 a.0 comes_up); is_one = (a.0, (comes_up, (a.1, refl))); moves = not_begun t.cell a.0 up; left = refl; harmless = refl }
void_loc_input t (database.Stop calls pick) fallen = record { input = usual (sets_stop 0 calls pick); is_one = refl; moves = not_set_to_stop t.cell calls pick fallen; left = refl; harmless = refl }
void_loc_input t (database.Fail call) fallen = record { input = usual (sets_fail 0 call); is_one = refl; moves = not_set_to_fail t.cell call fallen; left = refl; harmless = refl }
