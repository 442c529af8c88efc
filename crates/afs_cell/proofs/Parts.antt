-- What a step of the world is by its parts.
use Rattle.std.proofs.Common.{arith, sym, subst, ◌≡◌, ◌≤◌, ◌<◌, ℕ, zero, suc, List, [], ◌∷◌, length, true, false, Option, Some, None, Result}
use Rattle.afs_num.specs.Places.{at_place}
use Rattle.afs_num.specs.declared.types.Node.TheVariants.{Admin, Client, Loc, Server}
use Rattle.afs_num.specs.declared.types.Parcel.{Parcel}
use Rattle.spec_history.specs.declared.lines.Line.TheVariants as lines
use Rattle.spec_history.specs.declared.scripts.Event.TheVariants as events
use Rattle.afs_grammar.specs.CellScripts.{IsCellScript}
use Rattle.afs_schedule.specs.Schedules.{IsInput, ScheduleState}
use Rattle.afs_clients.specs.Happening.{ClientHears, ClientsHappened, ClientTakes, IsBegunOrGiven, IsAskedOfAdmin, IsGiven, IsGivenToLoc, IsVoidClient}
use Rattle.afs_admins.specs.Happening.{AdminHears, AdminsHappened, AdminTakes, IsVoidAdmin}
use Rattle.afs_admins.specs.Ready.{AllReadyAdmins}
use Rattle.afs_cell.specs.Happening.{NothingSettles, Settles}
use Rattle.afs_cell.specs.SeatSteps.{HasHeard, HasStep, IsFallen, IsVoidServer, ServersHappened}
use Rattle.afs_clients.specs.Ready.{AllReady}
use Rattle.afs_cell.specs.DatabaseSteps.{HasLocHeard, HasLocStep, IsLocFallen, IsVoidAtLoc, LocTakes}
use Rattle.afs_cell.specs.Ready.{AllCanStep, CanTakeAtLoc}
use Rattle.afs_cell.specs.Steps.{Stepped}
use Rattle.afs_host.specs.LocSeated.{DatabaseSeat}
use Rattle.afs_serverhost.specs.Seated.{ServerSeat}
use Rattle.afs_cell.specs.Worlds.{most_history_entries, IsSafe, WorldState}
use Rattle.afs_clients.specs.declared.clients.ClientSeat.{ClientSeat}
use Rattle.afs_admins.specs.declared.admins.AdminSeat.{AdminSeat}
use Rattle.afs_cell.specs.declared.faults.WorldFault.{WorldFault}
use Rattle.afs_clients.specs.declared.happening.AdminInput.{AdminInput}
use Rattle.afs_clients.specs.declared.happening.ClientInput.{ClientInput}
use Rattle.afs_clients.specs.declared.happening.DatabaseInput.{DatabaseInput}
use Rattle.afs_clients.specs.declared.happening.Happened.{Happened}
use Rattle.afs_clients.specs.declared.happening.ServerInput.{ServerInput}
use Rattle.afs_cell.proofs.Able.{admins_ready, all_can, all_ready, loc_can}
use Rattle.afs_cell.proofs.AdminsTold.{admin_heard_settles, ordered_settles}
use Rattle.afs_cell.proofs.ClientsTold.{asked_settles, heard_settles}
use Rattle.afs_cell.proofs.DatabaseTold.{loc_input_settles, loc_message_settles}
use Rattle.afs_cell.proofs.Eventful.{no_message, skip_as}
use Rattle.afs_cell.proofs.ServersTold.{input_settles, message_settles}

none_inside : {A : Type 0} (xs : List A) (n : ℕ) → at_place xs n ≡ None → 1 ≤ n → n ≤ length xs → ⊥
none_inside [] n e low high = absurd (omega (arith, low, high))
none_inside (x ∷ xs) zero e low high = absurd (omega (arith, low))
none_inside (x ∷ xs) (suc zero) e low high = absurd cc
none_inside (x ∷ xs) (suc (suc n)) e low high = none_inside xs (suc n) e (omega arith) (omega (arith, high))

-- these parts are those of the world
module _ {D : Type 0} (limit : D → ℕ) (parts w : WorldState D) (same : parts ≡ w) (safe : IsSafe limit w.script w) where
  safe_parts : IsSafe limit parts.script parts
  safe_parts = subst (λ (v : WorldState D). IsSafe limit v.script v) (sym same) safe

  pub cell_script : IsCellScript parts.script
  cell_script = safe_parts.cell_script

  pub few_clients : parts.script.clients ≤ 16
  few_clients = safe_parts.cell_script.clients

  pub soon : parts.clock ≤ 1000000000
  soon = safe_parts.ticks

  -- a client of these numbers is there
  pub inside_clients : (n : ℕ) → (1 ≤ n) × (n ≤ w.script.clients) → at_place parts.clients n ≡ None → ⊥
  inside_clients n inside none =
      let here : at_place w.clients n ≡ None = subst (λ (v : WorldState D). at_place v.clients n ≡ None) same none in
      none_inside w.clients n here inside.0 (omega (arith, inside.1, safe.client_count))

  -- and an administrator of these
  pub inside_admins : (n : ℕ) → (1 ≤ n) × (n ≤ w.script.admins) → at_place parts.admins n ≡ None → ⊥
  inside_admins n inside none =
      let here : at_place w.admins n ≡ None = subst (λ (v : WorldState D). at_place v.admins n ≡ None) same none in
      none_inside w.admins n here inside.0 (omega (arith, inside.1, safe.admin_count))

  pub can_all : w.is_lost ≡ false → length w.history < most_history_entries → AllCanStep limit parts.servers
  can_all going few = subst (λ (v : WorldState D). AllCanStep limit v.servers) (sym same) (all_can limit w.script w safe going few)

  pub can_manage : w.is_lost ≡ false → length w.history < most_history_entries → CanTakeAtLoc limit parts.database
  can_manage going few = subst (λ (v : WorldState D). CanTakeAtLoc limit v.database) (sym same) (loc_can limit w.script w safe going few)

  pub ready_all : w.is_lost ≡ false → length w.history < most_history_entries → AllReady parts.script parts.clients
  ready_all going few = subst (λ (v : WorldState D). AllReady v.script v.clients) (sym same) (all_ready limit w.script w safe going few)

  pub ready_admins : w.is_lost ≡ false → length w.history < most_history_entries → AllReadyAdmins parts.script parts.admins
  ready_admins going few = subst (λ (v : WorldState D). AllReadyAdmins v.script v.admins) (sym same) (admins_ready limit w.script w safe going few)

module _ {D : Type 0} (seen : D → Option (List ℕ)) (may_leave : D → List ℕ → Type 0) (faults limit : D → ℕ) (parts w : WorldState D) (same : parts ≡ w) (safe : IsSafe limit w.script w) (going : w.is_lost ≡ false) (few : length w.history < most_history_entries)
    (new : WorldState D) (result : Result (Unit {0}) WorldFault) where
  -- a server was given something that is no message
  pub served : (i : ℕ) (input : ServerInput) (servers : List (ServerSeat D)) (what : Happened)
      → ServersHappened seen may_leave faults limit i [] (IsVoidServer input) (HasStep (Server i) parts.clock parts.script.clients input) parts.servers servers what → Settles (Server i) None what (record parts { servers = servers }) new result
      → Stepped seen may_leave faults limit w.script (λ (t : ScheduleState). IsGiven i input t) w new result
  served i input servers what happened settled =
      subst (λ (v : WorldState D). IsSafe limit v.script v → v.is_lost ≡ false → length v.history < most_history_entries → Stepped seen may_leave faults limit v.script (λ (t : ScheduleState). IsGiven i input t) v new result) same
      (λ safe going few. input_settles seen may_leave faults limit parts.script parts i input servers what new result safe going few happened settled)
      safe going few

  -- the location database
  pub managed : (input : DatabaseInput) (database : DatabaseSeat D) (what : Happened)
      → ((clock count : ℕ) → LocTakes seen may_leave faults limit [] (IsVoidAtLoc input) (HasLocStep clock count input) parts.database database what) → Settles Loc None what (record parts { database = database }) new result
      → Stepped seen may_leave faults limit w.script (λ (t : ScheduleState). IsGivenToLoc input t) w new result
  managed input database what takes settled =
      subst (λ (v : WorldState D). IsSafe limit v.script v → v.is_lost ≡ false → length v.history < most_history_entries → Stepped seen may_leave faults limit v.script (λ (t : ScheduleState). IsGivenToLoc input t) v new result) same
      (λ safe going few. loc_input_settles seen may_leave faults limit parts.script parts input database what new result safe going few takes settled)
      safe going few

  -- a client
  pub asked : (n : ℕ) (input : ClientInput) (clients : List ClientSeat) (what : Happened) → (at_place parts.clients n ≡ None → ⊥)
      → ClientsHappened parts.script n (IsVoidClient input) (ClientTakes parts.script n parts.clock input) parts.clients clients what → Settles (Client n) None what (record parts { clients = clients }) new result
      → Stepped seen may_leave faults limit w.script (IsBegunOrGiven input n) w new result
  asked n input clients what inside happened settled =
      subst (λ (v : WorldState D). IsSafe limit v.script v → v.is_lost ≡ false → length v.history < most_history_entries → Stepped seen may_leave faults limit v.script (IsBegunOrGiven input n) v new result) same
      (λ safe going few. asked_settles seen may_leave faults limit parts.script parts n input clients what new result safe going few inside happened settled)
      safe going few

  -- an administrator
  pub ordered : (n : ℕ) (input : AdminInput) (admins : List AdminSeat) (what : Happened) → (at_place parts.admins n ≡ None → ⊥)
      → AdminsHappened parts.script n (IsVoidAdmin input) (AdminTakes n input) parts.admins admins what → Settles (Admin n) None what (record parts { admins = admins }) new result
      → Stepped seen may_leave faults limit w.script (IsAskedOfAdmin input n) w new result
  ordered n input admins what inside happened settled =
      subst (λ (v : WorldState D). IsSafe limit v.script v → v.is_lost ≡ false → length v.history < most_history_entries → Stepped seen may_leave faults limit v.script (IsAskedOfAdmin input n) v new result) same
      (λ safe going few. ordered_settles seen may_leave faults limit parts.script parts n input admins what new result safe going few inside happened settled)
      safe going few

  -- a server was given the message of this place
  pub message_served : (place : ℕ) (p : Parcel) (i : ℕ) (bytes : List ℕ) (servers : List (ServerSeat D)) (what : Happened) → at_place parts.wire place ≡ Some p → p.head.to ≡ Server i → bytes ≡ p.bytes
      → ServersHappened seen may_leave faults limit i (lines.Given place ∷ []) IsFallen (HasHeard (Server i) parts.clock place bytes) parts.servers servers what
      → Settles (Server i) (Some (lines.Given place)) what (record parts { servers = servers }) new result
      → Stepped seen may_leave faults limit w.script (λ (t : ScheduleState). IsInput t (events.Deliver place)) w new result
  message_served place p i bytes servers what found to spelled happened settled =
      subst (λ (v : WorldState D). IsSafe limit v.script v → v.is_lost ≡ false → length v.history < most_history_entries → Stepped seen may_leave faults limit v.script (λ (t : ScheduleState). IsInput t (events.Deliver place)) v new result) same
      (λ safe going few. message_settles seen may_leave faults limit parts.script parts i place p servers what new result safe going few found to
      (subst (λ (b : List ℕ). ServersHappened seen may_leave faults limit i (lines.Given place ∷ []) IsFallen (HasHeard (Server i) parts.clock place b) parts.servers servers what) spelled happened) settled)
      safe going few

  -- the location database
  pub message_managed : (place : ℕ) (p : Parcel) (bytes : List ℕ) (database : DatabaseSeat D) (what : Happened) → at_place parts.wire place ≡ Some p → p.head.to ≡ Loc → bytes ≡ p.bytes
      → ((clock : ℕ) → LocTakes seen may_leave faults limit (lines.Given place ∷ []) IsLocFallen (HasLocHeard clock place bytes) parts.database database what)
      → Settles Loc (Some (lines.Given place)) what (record parts { database = database }) new result
      → Stepped seen may_leave faults limit w.script (λ (t : ScheduleState). IsInput t (events.Deliver place)) w new result
  message_managed place p bytes database what found to spelled takes settled =
      subst (λ (v : WorldState D). IsSafe limit v.script v → v.is_lost ≡ false → length v.history < most_history_entries → Stepped seen may_leave faults limit v.script (λ (t : ScheduleState). IsInput t (events.Deliver place)) v new result) same
      (λ safe going few. loc_message_settles seen may_leave faults limit parts.script parts place p database what new result safe going few found to
      (λ clock. subst (λ (b : List ℕ). LocTakes seen may_leave faults limit (lines.Given place ∷ []) IsLocFallen (HasLocHeard clock place b) parts.database database what) spelled (takes clock)) settled)
      safe going few

  -- a client
  pub message_heard : (place : ℕ) (p : Parcel) (n : ℕ) (bytes : List ℕ) (clients : List ClientSeat) (what : Happened) → at_place parts.wire place ≡ Some p → p.head.to ≡ Client n → bytes ≡ p.bytes
      → ClientsHappened parts.script n (λ (seat : ClientSeat). seat.is_away ≡ true) (ClientHears n parts.clock place bytes) parts.clients clients what
      → Settles (Client n) (Some (lines.Given place)) what (record parts { clients = clients }) new result
      → Stepped seen may_leave faults limit w.script (λ (t : ScheduleState). IsInput t (events.Deliver place)) w new result
  message_heard place p n bytes clients what found to spelled happened settled =
      subst (λ (v : WorldState D). IsSafe limit v.script v → v.is_lost ≡ false → length v.history < most_history_entries → Stepped seen may_leave faults limit v.script (λ (t : ScheduleState). IsInput t (events.Deliver place)) v new result) same
      (λ safe going few. heard_settles seen may_leave faults limit parts.script parts n place p clients what new result safe going few found to
      (subst (λ (b : List ℕ). ClientsHappened parts.script n (λ (seat : ClientSeat). seat.is_away ≡ true) (ClientHears n parts.clock place b) parts.clients clients what) spelled happened) settled)
      safe going few

  -- an administrator
  pub admin_heard : (place : ℕ) (p : Parcel) (n : ℕ) (bytes : List ℕ) (admins : List AdminSeat) (what : Happened) → at_place parts.wire place ≡ Some p → p.head.to ≡ Admin n → bytes ≡ p.bytes
      → AdminsHappened parts.script n (λ (seat : AdminSeat). seat.is_away ≡ true) (AdminHears n place bytes) parts.admins admins what
      → Settles (Admin n) (Some (lines.Given place)) what (record parts { admins = admins }) new result
      → Stepped seen may_leave faults limit w.script (λ (t : ScheduleState). IsInput t (events.Deliver place)) w new result
  admin_heard place p n bytes admins what found to spelled happened settled =
      subst (λ (v : WorldState D). IsSafe limit v.script v → v.is_lost ≡ false → length v.history < most_history_entries → Stepped seen may_leave faults limit v.script (λ (t : ScheduleState). IsInput t (events.Deliver place)) v new result) same
      (λ safe going few. admin_heard_settles seen may_leave faults limit parts.script parts n place p admins what new result safe going few found to
      (subst (λ (b : List ℕ). AdminsHappened parts.script n (λ (seat : AdminSeat). seat.is_away ≡ true) (AdminHears n place b) parts.admins admins what) spelled happened) settled)
      safe going few

  -- no node was: nothing was sent there
  pub nobody_heard : (place : ℕ) → at_place parts.wire place ≡ None → NothingSettles w new result → Stepped seen may_leave faults limit w.script (λ (t : ScheduleState). IsInput t (events.Deliver place)) w new result
  nobody_heard place none settled =
      skip_as seen may_leave faults limit w.script (λ (t : ScheduleState). IsInput t (events.Deliver place)) w new result safe going few (λ tell t at. no_message seen may_leave faults limit w place t at (subst (λ (v : WorldState D). at_place v.wire place ≡ None) same none)) settled
