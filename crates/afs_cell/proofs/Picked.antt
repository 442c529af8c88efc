-- What a crash of a server leaves of its disk.
use Rattle.std.proofs.Common.{refl, ap, sym, subst, ◌∙◌, ◌≡◌, inl, inr, ℕ, List, [], Option, Some, None, Result, Ok, Err}
use Rattle.afs_num.specs.Places.{at_place}
use Rattle.afs_num.specs.declared.types.Node.TheVariants.{Server}
use Rattle.spec_volrows.specs.NodeHosts.{NodeHost}
use Rattle.afs_node.specs.Seen.{node_seen}
use Rattle.afs_serverhost.specs.Seats.{ServerRunning}
use Rattle.afs_host.specs.declared.seats.Seat.TheVariants.{Up}
use Rattle.afs_cell.specs.Happening.{Settles}
use Rattle.afs_cell.specs.SeatSteps.{HasStep, IsVoidServer, ServersHappened}
use Rattle.afs_cell.specs.SeatPicks.{OneLeavesPick}
use Rattle.afs_serverhost.specs.Seated.{IsHost, ServerSeat}
use Rattle.afs_cell.specs.Picks.{IsPicked}
use Rattle.afs_cell.specs.Worlds.{WorldState}
use Rattle.afs_clients.specs.declared.events.Given.TheVariants as given
use Rattle.afs_cell.specs.declared.faults.WorldFault.{WorldFault}
use Rattle.afs_clients.specs.declared.happening.Happened.{Happened}
use Rattle.afs_clients.specs.declared.happening.Happened.TheVariants as happened
use Rattle.afs_clients.specs.declared.happening.ServerInput.{ServerInput}
use Rattle.afs_clients.specs.declared.happening.ServerInput.TheVariants as server
use Rattle.afs_clients.proofs.Numbers.{none_some, some_is}

module _ {D : Type 0} (seen : D → Option (List ℕ)) (left_by : D → ℕ → Option (List ℕ)) where
  module _ (may_leave : D → List ℕ → Type 0) (faults limit : D → ℕ) where
    -- a server that is up isn't void for a crash
    up_not_void : (i pick : ℕ) (r : ServerRunning D) (old new : List (ServerSeat D)) (clock count : ℕ) → at_place old i ≡ Some (Up r)
        → ServersHappened seen may_leave faults limit i [] (IsVoidServer (server.Crash pick)) (HasStep (Server i) clock count (server.Crash pick)) old new happened.Nothing → ⊥
    up_not_void i pick r old new clock count at (inl none) = none_some (Up r) (sym none.none ∙ at)
    up_not_void i pick r old new clock count at (inr one) =
        let h : NodeHost = record { state = node_seen r.memory r.store; armed = r.armed; down = None } in
        let same : one.was ≡ Up r = some_is one.was (Up r) (sym one.found ∙ at) in
        let void = one.takes.happens.1 h (subst (λ (s : ServerSeat D). IsHost seen may_leave limit (Server i) s h) (sym same) (record { state = refl; down = refl; armed = refl })) in
        none_some void.0 void.1

    picked_by : (i pick : ℕ) (parts new : WorldState D) (servers : List (ServerSeat D)) (what : Happened) (result : Result (Unit {0}) WorldFault)
        → ServersHappened seen may_leave faults limit i [] (IsVoidServer (server.Crash pick)) (HasStep (Server i) parts.clock parts.script.clients (server.Crash pick)) parts.servers servers what → OneLeavesPick seen left_by i what (server.Crash pick) parts.servers servers
        → Settles (Server i) None what (record parts { servers = servers }) new result → IsPicked seen left_by i pick parts.servers new.servers result
    picked_by i pick parts new servers happened.Nothing (Ok done) happens leaves settles = λ r now at1 at2. absurd (up_not_void i pick r parts.servers servers parts.clock parts.script.clients at1 happens)
    picked_by i pick parts new servers (happened.Step outs) (Ok done) happens leaves settles = λ r now at1 at2. leaves (Up r) now at1 (ap (λ (w : WorldState D). at_place w.servers i) (sym settles) ∙ at2)
    picked_by i pick parts new servers happened.Unchanged (Ok done) happens leaves settles = absurd settles
    picked_by i pick parts new servers happened.Lost (Ok done) happens leaves settles = absurd settles
    picked_by i pick parts new servers happened.Nothing (Err e) happens leaves settles = tt
    picked_by i pick parts new servers (happened.Step outs) (Err e) happens leaves settles = tt
    picked_by i pick parts new servers happened.Unchanged (Err e) happens leaves settles = tt
    picked_by i pick parts new servers happened.Lost (Err e) happens leaves settles = tt

    -- the world's step, by its parts
    pub picked : (i pick : ℕ) (input : ServerInput) (parts w new : WorldState D) (servers : List (ServerSeat D)) (what : Happened) (result : Result (Unit {0}) WorldFault) → parts ≡ w → input ≡ server.Crash pick
        → ServersHappened seen may_leave faults limit i [] (IsVoidServer input) (HasStep (Server i) parts.clock parts.script.clients input) parts.servers servers what → OneLeavesPick seen left_by i what input parts.servers servers
        → Settles (Server i) None what (record parts { servers = servers }) new result → IsPicked seen left_by i pick w.servers new.servers result
    picked i pick input parts w new servers what result same crash happens leaves settles =
        subst (λ (v : WorldState D). IsPicked seen left_by i pick v.servers new.servers result) same
        (picked_by i pick parts new servers what result
        (subst (λ (x : ServerInput). ServersHappened seen may_leave faults limit i [] (IsVoidServer x) (HasStep (Server i) parts.clock parts.script.clients x) parts.servers servers what) crash happens)
        (subst (λ (x : ServerInput). OneLeavesPick seen left_by i what x parts.servers servers) crash leaves) settles)

  -- which server it is, by the event's meaning
  pub picked_as : (i pick n : ℕ) (what : ServerInput) (old new : List (ServerSeat D)) (result : Result (Unit {0}) WorldFault) → given.Server n what ≡ given.Server i (server.Crash pick)
      → ((p : ℕ) → what ≡ server.Crash p → IsPicked seen left_by n p old new result) → IsPicked seen left_by i pick old new result
  picked_as i pick n what old new result e h =
      let number : n ≡ i = cc in
      let crash : what ≡ server.Crash pick = cc in
      subst (λ (k : ℕ). IsPicked seen left_by k pick old new result) number (h pick crash)
