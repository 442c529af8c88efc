-- What the parts of a world's step are, whatever was let go before.
use Rattle.std.proofs.Common.{ap, ap₂, inl, inr, refl, sym, subst, ◌∙◌, ◌≡◌, ◌≤◌, ◌<◌, ◌+◌, ◌-◌, ◌⊎◌, ℕ, List, [], ◌∷◌, ◌++◌, drop, length, true, false, Option, Some, None, Result, Ok, Err}
use Rattle.std.proofs.lemmas.List.{append-nil}
use Rattle.afs_num.specs.Places.{at_place}
use Rattle.afs_num.specs.declared.histories.Actor.{Actor}
use Rattle.afs_num.specs.declared.histories.Actor.TheVariants as actors
use Rattle.afs_num.specs.declared.types.Node.{Node}
use Rattle.afs_num.specs.declared.types.Node.TheVariants.{Admin, Client, Loc, Server}
use Rattle.afs_num.specs.declared.types.Parcel.{Parcel}
use Rattle.spec_history.specs.declared.lines.Entry as kept
use Rattle.spec_history.specs.declared.lines.Line.{Line}
use Rattle.spec_history.specs.declared.lines.Line.TheVariants as lines
use Rattle.spec_history.specs.declared.scripts.Event.{Event}
use Rattle.spec_history.specs.declared.scripts.Event.TheVariants as events
use Rattle.afs_grammar.specs.CellScripts.{counts_of, FitsEvent}
use Rattle.afs_wire.specs.Sent as wire
use Rattle.afs_wire.specs.Sent.{Sent}
use Rattle.afs_schedule.specs.Schedules.{IsInput, ScheduleState}
use Rattle.afs_clients.specs.Happening.{ClientHears, ClientsHappened, ClientTakes, IsBegunOrGiven, IsAskedOfAdmin, IsGiven, IsGivenToLoc, IsVoidClient}
use Rattle.afs_admins.specs.Happening.{AdminHears, AdminsHappened, AdminTakes, IsVoidAdmin}
use Rattle.afs_admins.specs.Ready.{AllReadyAdmins}
use Rattle.afs_cell.specs.Happening.{NothingSettles, Settles}
use Rattle.afs_cell.specs.SeatSteps.{HasHeard, HasStep, IsFallen, IsVoidServer, ServersHappened}
use Rattle.afs_cell.specs.Noting.{Notes}
use Rattle.afs_clients.specs.Ready.{AllReady}
use Rattle.afs_cell.specs.DatabaseSteps.{HasLocHeard, HasLocStep, IsLocFallen, IsVoidAtLoc, LocTakes}
use Rattle.afs_cell.specs.Ready.{AllCanStep, CanTakeAtLoc}
use Rattle.afs_clients.specs.Meaning.{IsMeant}
use Rattle.afs_cell.specs.Since.{whole, DeliversKept, IsBefore, IsSafeSince, Keeps, LetsGo, SteppedSince}
use Rattle.afs_host.specs.LocSeated.{DatabaseSeat}
use Rattle.afs_serverhost.specs.Seated.{ServerSeat}
use Rattle.afs_cell.specs.Worlds.{most_history_entries, most_ticks, HistoryTold, LetGo, WorldState}
use Rattle.afs_clients.specs.declared.clients.ClientSeat.{ClientSeat}
use Rattle.afs_admins.specs.declared.admins.AdminSeat.{AdminSeat}
use Rattle.afs_clients.specs.declared.events.Given.TheVariants as given
use Rattle.afs_cell.specs.declared.faults.WorldFault.{WorldFault}
use Rattle.afs_clients.specs.declared.happening.AdminInput.{AdminInput}
use Rattle.afs_clients.specs.declared.happening.ClientInput.{ClientInput}
use Rattle.afs_clients.specs.declared.happening.DatabaseInput.{DatabaseInput}
use Rattle.afs_clients.specs.declared.happening.Happened.{Happened}
use Rattle.afs_clients.specs.declared.happening.Happened.TheVariants as happened
use Rattle.afs_clients.specs.declared.happening.ServerInput.{ServerInput}
use Rattle.afs_cell.proofs.Parts.{admin_heard, asked, can_all, can_manage, inside_admins, inside_clients, managed, message_heard, message_managed, message_served, nobody_heard, ordered, ready_admins, ready_all, served}
use Rattle.afs_cell.proofs.Meant.{as_nothing}
use Rattle.afs_cell.proofs.Ticked.{not_ticked, ticked}
use Rattle.afs_cell.proofs.Whole.{at_behind, few_whole, nothing_whole, notes_whole, settles_whole}

-- ---- nothing is let go

keeps_same : {D : Type 0} (w new : WorldState D) → new.script ≡ w.script → new.gone ≡ w.gone → new.wire ≡ w.wire → Keeps w new
keeps_same {D} w new script gone wire = record { script = script; gone = gone; sent = []; wire = wire ∙ sym (append-nil w.wire) }

-- by what it was, and what it is
keeps_is : {D : Type 0} (w now new : WorldState D) → new ≡ now → Keeps w now → Keeps w new
keeps_is {D} w now new is keeps = subst (λ (v : WorldState D). Keeps w v) (sym is) keeps

pub keeps_as : {D : Type 0} (parts w new : WorldState D) → parts ≡ w → Keeps parts new → Keeps w new
keeps_as {D} parts w new same keeps = subst (λ (v : WorldState D). Keeps v new) same keeps

pub keeps_itself : {D : Type 0} (w : WorldState D) → Keeps w w
keeps_itself {D} w = keeps_same w w refl refl refl

pub keeps_noted : {D : Type 0} (actor : Actor) (line : Line) (w new : WorldState D) (result : Result (Unit {0}) WorldFault) → Notes actor line w new result → Keeps w new
keeps_noted {D} actor line w new (Ok done) is = keeps_is w _ new is (keeps_same w _ refl refl refl)
keeps_noted {D} actor line w new (Err e) wants = keeps_is w _ new wants.1 (keeps_itself w)

pub keeps_ticked : {D : Type 0} (n : ℕ) (w noted new : WorldState D) → Notes actors.Clock (lines.Tick n) w noted (Ok tt) → new ≡ record noted { clock = noted.clock + n } → Keeps w new
keeps_ticked {D} n w noted new notes is =
    let keeps = keeps_noted actors.Clock (lines.Tick n) w noted (Ok tt) notes in
    keeps_is w _ new is (record { script = keeps.script; gone = keeps.gone; sent = keeps.sent; wire = keeps.wire })

pub keeps_skipped : {D : Type 0} (w new : WorldState D) (result : Result (Unit {0}) WorldFault) → NothingSettles w new result → Keeps w new
keeps_skipped {D} w new (Ok done) is = keeps_is w _ new is (keeps_same w _ refl refl refl)
keeps_skipped {D} w new (Err e) wants = keeps_is w _ new wants.1 (keeps_itself w)

pub keeps_settled : {D : Type 0} (node : Node) (front : Option Line) (what : Happened) (w new : WorldState D) (result : Result (Unit {0}) WorldFault) → Settles node front what w new result → Keeps w new
keeps_settled {D} node front happened.Nothing w new (Ok done) is = keeps_is w _ new is (keeps_same w _ refl refl refl)
keeps_settled {D} node front happened.Nothing w new (Err e) wants = keeps_is w _ new wants.1 (keeps_itself w)
keeps_settled {D} node front (happened.Step outs) w new (Ok done) is = keeps_is w _ new is (record { script = refl; gone = refl; sent = outs.parcels; wire = refl })
keeps_settled {D} node front (happened.Step outs) w new (Err e) wants = keeps_is w _ new wants.1 (keeps_same w _ refl refl refl)
keeps_settled {D} node front happened.Unchanged w new (Ok done) never = absurd never
keeps_settled {D} node front happened.Unchanged w new (Err e) wants = keeps_is w _ new wants.1 (keeps_itself w)
keeps_settled {D} node front happened.Lost w new (Ok done) never = absurd never
keeps_settled {D} node front happened.Lost w new (Err e) wants = keeps_is w _ new wants.1 (keeps_same w _ refl refl refl)

-- what is settled of a world whose nodes alone have changed
pub keeps_parts : {D : Type 0} (node : Node) (front : Option Line) (what : Happened) (w now : WorldState D) → now.script ≡ w.script → now.gone ≡ w.gone → now.wire ≡ w.wire → (new : WorldState D) (result : Result (Unit {0}) WorldFault) → Settles node front what now new result → Keeps w new
keeps_parts {D} node front what w now script gone wire new result settled =
    let keeps = keeps_settled node front what now new result settled in
    record { script = keeps.script ∙ script; gone = keeps.gone ∙ gone; sent = keeps.sent; wire = keeps.wire ∙ ap (λ (ps : List Parcel). ps ++ keeps.sent) wire }

pub keeps_served : {D : Type 0} (parts w new : WorldState D) (servers : List (ServerSeat D)) (node : Node) (front : Option Line) (what : Happened) (result : Result (Unit {0}) WorldFault) → parts ≡ w → Settles node front what (record parts { servers = servers }) new result → Keeps w new
keeps_served {D} parts w new servers node front what result same settled = keeps_as parts w new same (keeps_parts node front what parts (record parts { servers = servers }) refl refl refl new result settled)

pub keeps_managed : {D : Type 0} (parts w new : WorldState D) (database : DatabaseSeat D) (node : Node) (front : Option Line) (what : Happened) (result : Result (Unit {0}) WorldFault) → parts ≡ w → Settles node front what (record parts { database = database }) new result → Keeps w new
keeps_managed {D} parts w new database node front what result same settled = keeps_as parts w new same (keeps_parts node front what parts (record parts { database = database }) refl refl refl new result settled)

pub keeps_heard : {D : Type 0} (parts w new : WorldState D) (clients : List ClientSeat) (node : Node) (front : Option Line) (what : Happened) (result : Result (Unit {0}) WorldFault) → parts ≡ w → Settles node front what (record parts { clients = clients }) new result → Keeps w new
keeps_heard {D} parts w new clients node front what result same settled = keeps_as parts w new same (keeps_parts node front what parts (record parts { clients = clients }) refl refl refl new result settled)

pub keeps_ordered : {D : Type 0} (parts w new : WorldState D) (admins : List AdminSeat) (node : Node) (front : Option Line) (what : Happened) (result : Result (Unit {0}) WorldFault) → parts ≡ w → Settles node front what (record parts { admins = admins }) new result → Keeps w new
keeps_ordered {D} parts w new admins node front what result same settled = keeps_as parts w new same (keeps_parts node front what parts (record parts { admins = admins }) refl refl refl new result settled)

-- ---- these parts are those of the world

module _ {D : Type 0} (limit : D → ℕ) (parts w : WorldState D) (same : parts ≡ w) (safe : IsSafeSince limit w) where
  pub inside_since : (n : ℕ) → (1 ≤ n) × (n ≤ w.script.clients) → at_place parts.clients n ≡ None → ⊥
  inside_since = inside_clients limit (whole safe.before parts) (whole safe.before w) (ap (whole safe.before) same) safe.safe

  pub inside_admins_since : (n : ℕ) → (1 ≤ n) × (n ≤ w.script.admins) → at_place parts.admins n ≡ None → ⊥
  inside_admins_since = inside_admins limit (whole safe.before parts) (whole safe.before w) (ap (whole safe.before) same) safe.safe

  pub can_since : w.is_lost ≡ false → w.gone.entries + length w.history < most_history_entries → AllCanStep limit parts.servers
  can_since going few = can_all limit (whole safe.before parts) (whole safe.before w) (ap (whole safe.before) same) safe.safe going (few_whole safe.before w safe.is few)

  pub can_manage_since : w.is_lost ≡ false → w.gone.entries + length w.history < most_history_entries → CanTakeAtLoc limit parts.database
  can_manage_since going few = can_manage limit (whole safe.before parts) (whole safe.before w) (ap (whole safe.before) same) safe.safe going (few_whole safe.before w safe.is few)

  pub ready_since : w.is_lost ≡ false → w.gone.entries + length w.history < most_history_entries → AllReady parts.script parts.clients
  ready_since going few = ready_all limit (whole safe.before parts) (whole safe.before w) (ap (whole safe.before) same) safe.safe going (few_whole safe.before w safe.is few)

  pub admins_ready_since : w.is_lost ≡ false → w.gone.entries + length w.history < most_history_entries → AllReadyAdmins parts.script parts.admins
  admins_ready_since going few = ready_admins limit (whole safe.before parts) (whole safe.before w) (ap (whole safe.before) same) safe.safe going (few_whole safe.before w safe.is few)

-- the message at a place of the whole world is the one that is kept
found_whole : {D : Type 0} (b : HistoryTold) (parts w : WorldState D) (same : parts ≡ w) (place : ℕ) (o : Option Parcel) → IsBefore b w → w.gone.messages < place → o ≡ at_place parts.wire (place - parts.gone.messages) → at_place (b.wire ++ parts.wire) place ≡ o
found_whole {D} b parts w same place o before kept found =
    let gone : length b.wire ≡ parts.gone.messages = before.messages ∙ ap (λ (v : WorldState D). v.gone.messages) (sym same) in
    let kept_here : length b.wire < place = subst (λ (n : ℕ). n < place) (sym before.messages) kept in
    at_behind b.wire parts.wire place kept_here ∙ (ap (λ (n : ℕ). at_place parts.wire (place - n)) gone ∙ sym found)

module _ {D : Type 0} (seen : D → Option (List ℕ)) (may_leave : D → List ℕ → Type 0) (faults limit : D → ℕ) (parts w : WorldState D) (same : parts ≡ w) (going : w.is_lost ≡ false) (few : w.gone.entries + length w.history < most_history_entries)
    (new : WorldState D) (result : Result (Unit {0}) WorldFault) where
  pub served_since : (i : ℕ) (input : ServerInput) (servers : List (ServerSeat D)) (what : Happened)
      → ServersHappened seen may_leave faults limit i [] (IsVoidServer input) (HasStep (Server i) parts.clock parts.script.clients input) parts.servers servers what → Settles (Server i) None what (record parts { servers = servers }) new result
      → SteppedSince seen may_leave faults limit (λ (t : ScheduleState). IsGiven i input t) w new result
  served_since i input servers what happened settled b before safe =
      served seen may_leave faults limit (whole b parts) (whole b w) (ap (whole b) same) safe going (few_whole b w before few) (whole b new) result i input servers what happened
      (settles_whole b (Server i) None what (record parts { servers = servers }) new result settled)

  pub managed_since : (input : DatabaseInput) (database : DatabaseSeat D) (what : Happened)
      → ((clock count : ℕ) → LocTakes seen may_leave faults limit [] (IsVoidAtLoc input) (HasLocStep clock count input) parts.database database what) → Settles Loc None what (record parts { database = database }) new result
      → SteppedSince seen may_leave faults limit (λ (t : ScheduleState). IsGivenToLoc input t) w new result
  managed_since input database what takes settled b before safe =
      managed seen may_leave faults limit (whole b parts) (whole b w) (ap (whole b) same) safe going (few_whole b w before few) (whole b new) result input database what takes
      (settles_whole b Loc None what (record parts { database = database }) new result settled)

  pub asked_since : (n : ℕ) (input : ClientInput) (clients : List ClientSeat) (what : Happened) → (at_place parts.clients n ≡ None → ⊥)
      → ClientsHappened parts.script n (IsVoidClient input) (ClientTakes parts.script n parts.clock input) parts.clients clients what → Settles (Client n) None what (record parts { clients = clients }) new result
      → SteppedSince seen may_leave faults limit (IsBegunOrGiven input n) w new result
  asked_since n input clients what inside happened settled b before safe =
      asked seen may_leave faults limit (whole b parts) (whole b w) (ap (whole b) same) safe going (few_whole b w before few) (whole b new) result n input clients what inside happened
      (settles_whole b (Client n) None what (record parts { clients = clients }) new result settled)

  pub ordered_since : (n : ℕ) (input : AdminInput) (admins : List AdminSeat) (what : Happened) → (at_place parts.admins n ≡ None → ⊥)
      → AdminsHappened parts.script n (IsVoidAdmin input) (AdminTakes n input) parts.admins admins what → Settles (Admin n) None what (record parts { admins = admins }) new result
      → SteppedSince seen may_leave faults limit (IsAskedOfAdmin input n) w new result
  ordered_since n input admins what inside happened settled b before safe =
      ordered seen may_leave faults limit (whole b parts) (whole b w) (ap (whole b) same) safe going (few_whole b w before few) (whole b new) result n input admins what inside happened
      (settles_whole b (Admin n) None what (record parts { admins = admins }) new result settled)

  pub message_served_since : (place : ℕ) (p : Parcel) (i : ℕ) (bytes : List ℕ) (servers : List (ServerSeat D)) (what : Happened) → w.gone.messages < place → Some p ≡ at_place parts.wire (place - parts.gone.messages) → p.head.to ≡ Server i → bytes ≡ p.bytes
      → ServersHappened seen may_leave faults limit i (lines.Given place ∷ []) IsFallen (HasHeard (Server i) parts.clock place bytes) parts.servers servers what
      → Settles (Server i) (Some (lines.Given place)) what (record parts { servers = servers }) new result
      → SteppedSince seen may_leave faults limit (λ (t : ScheduleState). IsInput t (events.Deliver place)) w new result
  message_served_since place p i bytes servers what kept found to spelled happened settled b before safe =
      message_served seen may_leave faults limit (whole b parts) (whole b w) (ap (whole b) same) safe going (few_whole b w before few) (whole b new) result place p i bytes servers what
      (found_whole b parts w same place (Some p) before kept found) to spelled happened (settles_whole b (Server i) (Some (lines.Given place)) what (record parts { servers = servers }) new result settled)

  pub message_managed_since : (place : ℕ) (p : Parcel) (bytes : List ℕ) (database : DatabaseSeat D) (what : Happened) → w.gone.messages < place → Some p ≡ at_place parts.wire (place - parts.gone.messages) → p.head.to ≡ Loc → bytes ≡ p.bytes
      → ((clock : ℕ) → LocTakes seen may_leave faults limit (lines.Given place ∷ []) IsLocFallen (HasLocHeard clock place bytes) parts.database database what)
      → Settles Loc (Some (lines.Given place)) what (record parts { database = database }) new result
      → SteppedSince seen may_leave faults limit (λ (t : ScheduleState). IsInput t (events.Deliver place)) w new result
  message_managed_since place p bytes database what kept found to spelled takes settled b before safe =
      message_managed seen may_leave faults limit (whole b parts) (whole b w) (ap (whole b) same) safe going (few_whole b w before few) (whole b new) result place p bytes database what
      (found_whole b parts w same place (Some p) before kept found) to spelled takes (settles_whole b Loc (Some (lines.Given place)) what (record parts { database = database }) new result settled)

  pub message_heard_since : (place : ℕ) (p : Parcel) (n : ℕ) (bytes : List ℕ) (clients : List ClientSeat) (what : Happened) → w.gone.messages < place → Some p ≡ at_place parts.wire (place - parts.gone.messages) → p.head.to ≡ Client n → bytes ≡ p.bytes
      → ClientsHappened parts.script n (λ (seat : ClientSeat). seat.is_away ≡ true) (ClientHears n parts.clock place bytes) parts.clients clients what
      → Settles (Client n) (Some (lines.Given place)) what (record parts { clients = clients }) new result
      → SteppedSince seen may_leave faults limit (λ (t : ScheduleState). IsInput t (events.Deliver place)) w new result
  message_heard_since place p n bytes clients what kept found to spelled happened settled b before safe =
      message_heard seen may_leave faults limit (whole b parts) (whole b w) (ap (whole b) same) safe going (few_whole b w before few) (whole b new) result place p n bytes clients what
      (found_whole b parts w same place (Some p) before kept found) to spelled happened (settles_whole b (Client n) (Some (lines.Given place)) what (record parts { clients = clients }) new result settled)

  pub nobody_since : (place : ℕ) → w.gone.messages < place → None ≡ at_place parts.wire (place - parts.gone.messages) → NothingSettles w new result → SteppedSince seen may_leave faults limit (λ (t : ScheduleState). IsInput t (events.Deliver place)) w new result
  nobody_since place kept none settled b before safe =
      nobody_heard seen may_leave faults limit (whole b parts) (whole b w) (ap (whole b) same) safe going (few_whole b w before few) (whole b new) result place (found_whole b parts w same place None before kept none) (nothing_whole b w new result settled)

  pub admin_heard_since : (place : ℕ) (p : Parcel) (n : ℕ) (bytes : List ℕ) (admins : List AdminSeat) (what : Happened) → w.gone.messages < place → Some p ≡ at_place parts.wire (place - parts.gone.messages) → p.head.to ≡ Admin n → bytes ≡ p.bytes
      → AdminsHappened parts.script n (λ (seat : AdminSeat). seat.is_away ≡ true) (AdminHears n place bytes) parts.admins admins what
      → Settles (Admin n) (Some (lines.Given place)) what (record parts { admins = admins }) new result
      → SteppedSince seen may_leave faults limit (λ (t : ScheduleState). IsInput t (events.Deliver place)) w new result
  admin_heard_since place p n bytes admins what kept found to spelled happened settled b before safe =
      admin_heard seen may_leave faults limit (whole b parts) (whole b w) (ap (whole b) same) safe going (few_whole b w before few) (whole b new) result place p n bytes admins what
      (found_whole b parts w same place (Some p) before kept found) to spelled happened (settles_whole b (Admin n) (Some (lines.Given place)) what (record parts { admins = admins }) new result settled)

-- ---- the clock rises

module _ {D : Type 0} (seen : D → Option (List ℕ)) (may_leave : D → List ℕ → Type 0) (faults limit : D → ℕ) (n : ℕ) (w : WorldState D) where
  pub ticked_since : (noted : WorldState D) → Notes actors.Clock (lines.Tick n) w noted (Ok tt) → (new : WorldState D) → new ≡ record noted { clock = noted.clock + n } → 1 ≤ n → w.is_lost ≡ false → w.gone.entries + length w.history < most_history_entries → w.clock + n ≤ most_ticks
      → SteppedSince seen may_leave faults limit (λ (t : ScheduleState). IsInput t (events.Tick n)) w new (Ok tt)
  ticked_since noted notes new is some going few within b before safe =
      ticked seen may_leave faults limit n (whole b w) safe (whole b noted) (notes_whole b actors.Clock (lines.Tick n) w noted (Ok tt) notes) (whole b new) (ap (whole b) is) some going (few_whole b w before few) within

  pub not_ticked_since : (new : WorldState D) (e : WorldFault) → Notes actors.Clock (lines.Tick n) w new (Err e) → SteppedSince seen may_leave faults limit (λ (t : ScheduleState). IsInput t (events.Tick n)) w new (Err e)
  not_ticked_since new e notes b before safe = not_ticked seen may_leave faults limit n (whole b w) safe (whole b new) e (notes_whole b actors.Clock (lines.Tick n) w new (Err e) notes)

-- ---- one event

pub as_nothing_since : {D : Type 0} (seen : D → Option (List ℕ)) (may_leave : D → List ℕ → Type 0) (faults limit : D → ℕ) (w new : WorldState D) (result : Result (Unit {0}) WorldFault) (event : Event) → w.is_lost ≡ false → w.gone.entries + length w.history < most_history_entries → IsMeant event given.Nothing → NothingSettles w new result
    → SteppedSince seen may_leave faults limit (λ (t : ScheduleState). IsInput t event) w new result
as_nothing_since {D} seen may_leave faults limit w new result event going few meant settled b before safe =
    as_nothing seen may_leave faults limit (whole b w) (whole b new) result event safe going (few_whole b w before few) meant (nothing_whole b w new result settled)

pub kept_place : {D : Type 0} (w : WorldState D) (event : Event) (place : ℕ) → IsMeant event (given.Message place) → DeliversKept w event → w.gone.messages < place
kept_place {D} w event place meant kept = subst (λ (e : Event). DeliversKept w e) meant kept

-- ---- more is let go

one_behind : (places old_gone new_gone gone : ℕ) → old_gone ≡ gone → (new_gone ≡ old_gone) ⊎ (new_gone ≤ places) → (new_gone ≡ gone) ⊎ (new_gone ≤ places)
one_behind places old_gone new_gone gone same (inl still) = inl (still ∙ same)
one_behind places old_gone new_gone gone same (inr few) = inr few

pub lets_go : {D : Type 0} (places : ℕ) (parts w : WorldState D) → parts ≡ w → (long : ℕ) → long ≡ length parts.history → (sent : ℕ) → sent ≡ parts.gone.messages + length parts.wire → (es : List kept.Entry) → es ≡ [] → (old new : Sent) → old.gone ≡ parts.gone.messages → old.messages ≡ parts.wire → wire.LetsGo places old new
    → LetsGo places w (record parts { wire = new.messages; history = es; gone = record { entries = parts.gone.entries + long; sent = sent; messages = new.gone } })
lets_go {D} places parts w same long measured sent counted es none old new gone messages go =
    let entries = parts.gone.entries + long in
    let left = drop go.count parts.wire in
    subst (λ (v : WorldState D). LetsGo places v (record parts { wire = new.messages; history = es; gone = record { entries = entries; sent = sent; messages = new.gone } })) same
    (record {
      count = go.count;
      within = subst (λ (ps : List Parcel). go.count ≤ length ps) messages go.within;
      is =
          ap (λ (ps : List Parcel). record parts { wire = ps; history = es; gone = record { entries = entries; sent = sent; messages = new.gone } }) (go.messages ∙ ap (λ (ps : List Parcel). drop go.count ps) messages)
          ∙ (ap (λ (hs : List kept.Entry). record parts { wire = left; history = hs; gone = record { entries = entries; sent = sent; messages = new.gone } }) none
          ∙ (ap₂ (λ (a b : ℕ). record parts { wire = left; history = []; gone = record { entries = entries; sent = a; messages = b } }) counted (go.gone ∙ ap (λ (n : ℕ). n + go.count) gone)
          ∙ ap (λ (n : ℕ). record parts { wire = left; history = []; gone = record { entries = parts.gone.entries + n; sent = parts.gone.messages + length parts.wire; messages = parts.gone.messages + go.count } }) measured));
      none_behind = one_behind places old.gone new.gone parts.gone.messages gone go.none_behind;
      few_left = go.few_left;
    })
