-- What a step of the world is in its run.
use Rattle.std.proofs.Common.{refl, arith, ap, ap₂, sym, subst, length, ◌∙◌, ◌≡◌, ◌+◌, ◌⊎◌, inl, inr, ℕ, List, [], ◌∷◌, ◌++◌, true, false, Option, Some, None, Result, Ok, Err}
use Rattle.std.proofs.lemmas.List.{length-map, map-append}
use Rattle.afs_num.specs.Places.{at_place}
use Rattle.afs_num.specs.declared.types.Node.{Node}
use Rattle.afs_num.specs.declared.types.Node.TheVariants.{Admin, Client}
use Rattle.afs_num.specs.declared.types.Parcel.{Parcel}
use Rattle.spec_history.specs.declared.scripts.Task.{Task}
use Rattle.spec_history.specs.declared.scripts.Script.{Script}
use Rattle.spec_rows.specs.Runs.{Entry}
use Rattle.spec_runs.specs.NodeRuns.{bare_entry, node_moved, node_start, CellInput, NodeCell, NodeLeads}
use Rattle.afs_schedule.specs.Schedules.{ScheduleState}
use Rattle.afs_text.specs.Telling.{entries_as_told, AreRead}
use Rattle.afs_cell.specs.Steps.{IsAt, Plays, StandsStill, Stays, Stepped, TellsNothing}
use Rattle.afs_cell.specs.Worlds.{falls_at, own_falls, AllTell, Counts, HasRun, IsCell, IsWorld, Runs, WorldState}
use Rattle.afs_clients.specs.declared.clients.ClientSeat.{ClientSeat}
use Rattle.afs_admins.specs.declared.admins.AdminSeat.{AdminSeat}
use Rattle.afs_cell.specs.declared.faults.WorldFault.{WorldFault}
use Rattle.afs_cell.specs.declared.faults.WorldFault.TheVariants as faulty
use Rattle.afs_cell.proofs.Counts.{counts_as, falls_behind}
use Rattle.afs_cell.proofs.Parcels.{are_read}

-- one input more
leads_behind : (c : NodeCell) (xs : List CellInput) (es : List Entry) (end : NodeCell) (x : CellInput) → NodeLeads c xs es end → NodeLeads c (xs ++ x ∷ []) (es ++ (node_moved end x).entry ∷ []) (node_moved end x).cell
leads_behind c [] [] end x e = (ap (λ (k : NodeCell). (node_moved k x).entry) e, ap (λ (k : NodeCell). (node_moved k x).cell) e)
leads_behind c [] (f ∷ fs) end x h = absurd h
leads_behind c (y ∷ ys) [] end x h = absurd h
leads_behind c (y ∷ ys) (f ∷ fs) end x h = (h.0, leads_behind (node_moved c y).cell ys fs end x h.1)

leads_length : (c : NodeCell) (xs : List CellInput) (es : List Entry) (end : NodeCell) → NodeLeads c xs es end → length xs ≡ length es
leads_length c [] [] end h = refl
leads_length c [] (e ∷ es) end h = absurd h
leads_length c (x ∷ xs) [] end h = absurd h
leads_length c (x ∷ xs) (e ∷ es) end h = let more = leads_length (node_moved c x).cell xs es end h.1 in omega (arith, more)

-- the tasks that the seats have left
abbrev plan_or : Option ClientSeat → List Task
plan_or None = []
plan_or (Some s) = s.plan

abbrev orders_or : Option AdminSeat → List Task
orders_or None = []
orders_or (Some s) = s.plan

abbrev plans_of : List ClientSeat → List AdminSeat → Node → List Task
plans_of cs seats (Client n) = plan_or (at_place cs n)
plans_of cs seats (Admin n) = orders_or (at_place seats n)
plans_of cs seats n = []

true_false : true ≡ false → ⊥
true_false e = absurd cc

module _ {D : Type 0} (seen : D → Option (List ℕ)) (may_leave : D → List ℕ → Type 0) (faults limit : D → ℕ) (s : Script) where
  -- the world stands for the cell to which its inputs lead
  stands : (w : WorldState D) (inputs : List CellInput) (c : NodeCell) → Runs seen may_leave faults limit s w inputs c → w.is_lost ≡ false → IsAt seen may_leave limit w c (plans_of w.clients w.admins)
  stands w inputs c runs going = record { cell = runs.cell_is going; acts = λ n seat found. ap plan_or found; orders = λ n seat found. ap orders_or found }

  -- as many inputs as entries
  as_many : (w : WorldState D) (inputs : List CellInput) (c : NodeCell) → Runs seen may_leave faults limit s w inputs c → length inputs ≡ length (entries_as_told w.wire w.history)
  as_many w inputs c runs =
      let one = leads_length (node_start s) inputs runs.history c runs.leads in
      let two = length-map runs.history bare_entry in
      let same = ap (λ (h : List Entry). length h) runs.tells in
      omega (arith, one, two, same)

  -- it has run so once it has played one more
  pub runs_on : (is : CellInput → Type 0) (t : ScheduleState) (old new : WorldState D) (inputs : List CellInput) → Runs seen may_leave faults limit s old inputs t.cell → (p : Plays seen may_leave faults limit is t old new)
      → Runs seen may_leave faults limit s new (inputs ++ p.input ∷ []) (node_moved t.cell p.input).cell
  runs_on is t old new inputs runs p = record {
    history = runs.history ++ (node_moved t.cell p.input).entry ∷ [];
    leads = leads_behind (node_start s) inputs runs.history t.cell p.input runs.leads;
    tells = map-append bare_entry runs.history ((node_moved t.cell p.input).entry ∷ []) ∙ (ap (λ (h : List Entry). h ++ bare_entry (node_moved t.cell p.input).entry ∷ []) runs.tells ∙ sym p.history);
    read = are_read new.wire (node_moved t.cell p.input).cell.sent p.at.cell.sent;
    cell_is = λ going. p.at.cell;
    counts =
        counts_as faults (λ (i : ℕ). own_falls i inputs (entries_as_told old.wire old.history) + falls_at i p.input (node_moved t.cell p.input).entry) (λ (i : ℕ). own_falls i (inputs ++ p.input ∷ []) (entries_as_told new.wire new.history)) new
        (λ i. ap (own_falls i (inputs ++ p.input ∷ [])) p.history ∙ falls_behind i inputs (entries_as_told old.wire old.history) p.input (bare_entry (node_moved t.cell p.input).entry) (as_many old inputs t.cell runs))
        (p.counts (λ (i : ℕ). own_falls i inputs (entries_as_told old.wire old.history)) runs.counts);
  }

  same_told : (old new : WorldState D) → TellsNothing old new → entries_as_told new.wire new.history ≡ entries_as_told old.wire old.history
  same_told old new same = ap₂ (λ ps es. entries_as_told ps es) same.wire same.history

  stays_cell : (old new : WorldState D) (inputs : List CellInput) (c : NodeCell) → Runs seen may_leave faults limit s old inputs c → (new.is_lost ≡ true) ⊎ StandsStill seen may_leave limit old new → new.is_lost ≡ false → IsCell seen may_leave limit new c
  stays_cell old new inputs c runs (inl lost) going = absurd (true_false (sym lost ∙ going))
  stays_cell old new inputs c runs (inr still) going = (still.at c (plans_of old.clients old.admins) (stands old inputs c runs (sym still.lost_as ∙ going))).cell

  -- and where memory was wanting
  pub runs_still : (old new : WorldState D) (inputs : List CellInput) (c : NodeCell) → Runs seen may_leave faults limit s old inputs c → Stays seen may_leave limit old new faulty.OutOfMemory
      → ((own : ℕ → ℕ) → Counts faults own old → Counts faults own new) → Runs seen may_leave faults limit s new inputs c
  runs_still old new inputs c runs stays counts = record {
    history = runs.history;
    leads = runs.leads;
    tells = runs.tells ∙ sym (same_told old new stays.0);
    read = subst (λ (ps : List Parcel). AreRead ps) (sym stays.0.wire) runs.read;
    cell_is = stays_cell old new inputs c runs stays.1;
    counts =
        counts_as faults (λ (i : ℕ). own_falls i inputs (entries_as_told old.wire old.history)) (λ (i : ℕ). own_falls i inputs (entries_as_told new.wire new.history)) new (λ i. ap (own_falls i inputs) (same_told old new stays.0))
        (counts (λ (i : ℕ). own_falls i inputs (entries_as_told old.wire old.history)) runs.counts);
  }

  world_by : (is : ScheduleState → CellInput → Type 0) (old new : WorldState D) (result : Result (Unit {0}) WorldFault) → old.is_lost ≡ false → HasRun seen may_leave faults limit s old → AllTell seen old → Stepped seen may_leave faults limit s is old new result → HasRun seen may_leave faults limit s new
  world_by is old new (Ok done) going run tell stepped =
      let t : ScheduleState = record { cell = run.cell; left = plans_of old.clients old.admins; named = [] } in
      let p = stepped.steps.plays tell t (stands old run.inputs run.cell run.runs going) in
      record { inputs = run.inputs ++ p.input ∷ []; cell = (node_moved run.cell p.input).cell; runs = runs_on (is t) t old new run.inputs run.runs p }
  world_by is old new (Err faulty.OutOfMemory) going run tell stepped = record { inputs = run.inputs; cell = run.cell; runs = runs_still old new run.inputs run.cell run.runs stepped.steps stepped.counts }
  world_by is old new (Err faulty.Limit) going run tell stepped = subst (λ (w : WorldState D). HasRun seen may_leave faults limit s w) (sym stepped.steps.1) run

  -- a step of a world makes a world
  pub is_world : (is : ScheduleState → CellInput → Type 0) (old new : WorldState D) (result : Result (Unit {0}) WorldFault) → old.is_lost ≡ false → IsWorld seen may_leave faults limit s old → Stepped seen may_leave faults limit s is old new result → IsWorld seen may_leave faults limit s new
  is_world is old new result going world stepped = record {
    safe = stepped.safe;
    run = λ tell. world_by is old new result going (world.run (stepped.tells.1 tell)) (stepped.tells.1 tell) stepped;
  }
