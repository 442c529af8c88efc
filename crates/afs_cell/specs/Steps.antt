-- What the calls of a world promise.
use Rattle.std.specs.Prelude.{◌≡◌, ◌+◌, ◌⊎◌, ◌↔◌, ℕ, List, [], ◌∷◌, ◌++◌, length, Bool, true, false, Option, Some, None, Result, Ok, Err, IsSome}
use Rattle.spec_history.specs.declared.scripts.Task.{Task}
use Rattle.spec_history.specs.declared.scripts.Script.{Script}
use Rattle.afs_disk.specs.declared.disks.Lent.{Lent}
use Rattle.afs_num.specs.declared.types.Node.{Node}
use Rattle.afs_num.specs.declared.types.Node.TheVariants.{Admin, Client, Server}
use Rattle.spec_runs.specs.NodeRuns.{bare_entry, node_moved, node_start, CellInput, NodeCell}
use Rattle.spec_rows.specs.Hosts.{begun_from, Fall, MayBegin}
use Rattle.spec_rows.specs.LocRow.{LocState}
use Rattle.spec_volrows.specs.NodeHosts.{node_kind}
use Rattle.spec_volrows.specs.VolStates.{NodeState}
use Rattle.afs_server.specs.Seen.{lasting_of}
use Rattle.afs_journal.specs.Records.{whole_records}
use Rattle.afs_locdb.specs.Seen as loc
use Rattle.spec_records.specs.Durable.{Durable}
use Rattle.spec_records.specs.LocDurable.{LocDurable, LocStandFor}
use Rattle.afs_host.specs.LocStanding.{loc_begun_by_disk}
use Rattle.afs_volstore.specs.Stands.{StandsForVolumes}
use Rattle.afs_schedule.specs.Schedules.{events_of, first_turn, left_by, tasks_of, AreFirst, AreInputs, ScheduleState}
use Rattle.afs_clients.specs.Places.{Each}
use Rattle.afs_text.specs.Telling.{entries_as_told}
use Rattle.afs_cell.specs.Worlds.{falls_at, most_history_entries, none_gone, AllTell, Counts, IsCell, IsSafe, Runs, WorldState}
use Rattle.afs_serverhost.specs.Seated.{seat_disk, ServerSeat}
use Rattle.afs_clients.specs.declared.clients.ClientSeat.{ClientSeat}
use Rattle.afs_admins.specs.declared.admins.AdminSeat.{AdminSeat}
use Rattle.afs_cell.specs.declared.faults.WorldFault.{WorldFault}
use Rattle.afs_cell.specs.declared.faults.WorldFault.TheVariants as faults

-- ---- set-up

-- the world at set-up: nothing has happened, and it stands for the script's first cell
pub record IsFirst {D : Type 0} (seen : D → Option (List ℕ)) (may_leave : D → List ℕ → Type 0) (limit : D → ℕ) (s : Script) (w : WorldState D) : Type 0 where
  pub history : w.history ≡ []
  pub wire : w.wire ≡ []
  pub gone : w.gone ≡ none_gone
  pub clock : w.clock ≡ 0
  pub going : w.is_lost ≡ false
  pub acts : Each (λ (n : ℕ) (seat : ClientSeat). tasks_of (Client n) s.tasks ≡ seat.plan) w.clients
  pub orders : Each (λ (n : ℕ) (seat : AdminSeat). tasks_of (Admin n) s.tasks ≡ seat.plan) w.admins
  pub cell : AllTell seen w → IsCell seen may_leave limit w (node_start s)

-- ---- one event

-- the world stands for this cell, and these tasks of its nodes are left
pub record IsAt {D : Type 0} (seen : D → Option (List ℕ)) (may_leave : D → List ℕ → Type 0) (limit : D → ℕ) (w : WorldState D) (c : NodeCell) (left : Node → List Task) : Type 0 where
  pub cell : IsCell seen may_leave limit w c
  pub acts : Each (λ (n : ℕ) (s : ClientSeat). left (Client n) ≡ s.plan) w.clients
  pub orders : Each (λ (n : ℕ) (s : AdminSeat). left (Admin n) ≡ s.plan) w.admins

-- One entry more, that of such an input; the world stands for what comes of it. Where a disk fails by itself, that disk counts it.
pub record Plays {D : Type 0} (seen : D → Option (List ℕ)) (may_leave : D → List ℕ → Type 0) (faults limit : D → ℕ) (is : CellInput → Type 0) (t : ScheduleState) (old new : WorldState D) : Type 0 where
  pub input : CellInput
  pub is_one : is input
  pub history : entries_as_told new.wire new.history ≡ entries_as_told old.wire old.history ++ bare_entry (node_moved t.cell input).entry ∷ []
  pub at : IsAt seen may_leave limit new (node_moved t.cell input).cell (left_by input t.left)
  pub counts : (own : ℕ → ℕ) → Counts faults own old → Counts faults (λ (i : ℕ). own i + falls_at i input (node_moved t.cell input).entry) new

-- So it is for each cell and the acts for which the world stands, while its disks tell.
pub record PlaysOne {D : Type 0} (seen : D → Option (List ℕ)) (may_leave : D → List ℕ → Type 0) (faults limit : D → ℕ) (is : ScheduleState → CellInput → Type 0) (old new : WorldState D) : Type 0 where
  pub count : length new.history ≡ length old.history + 1
  pub going : new.is_lost ≡ false
  pub plays : AllTell seen old → (t : ScheduleState) → IsAt seen may_leave limit old t.cell t.left → Plays seen may_leave faults limit (is t) t old new

-- nothing was told and nothing was sent
pub record TellsNothing {D : Type 0} (old new : WorldState D) : Type 0 where
  pub script : new.script ≡ old.script
  pub history : new.history ≡ old.history
  pub wire : new.wire ≡ old.wire
  pub clock : new.clock ≡ old.clock

-- the world stands for each cell for which it stood
pub record StandsStill {D : Type 0} (seen : D → Option (List ℕ)) (may_leave : D → List ℕ → Type 0) (limit : D → ℕ) (old new : WorldState D) : Type 0 where
  pub lost_as : new.is_lost ≡ old.is_lost
  pub clients : new.clients ≡ old.clients
  pub admins : new.admins ≡ old.admins
  pub at : (c : NodeCell) (left : Node → List Task) → IsAt seen may_leave limit old c left → IsAt seen may_leave limit new c left

-- Memory was wanting: the world can't go on, or is what it was. Its last entry was made: nothing changes.
abbrev pub Stays : {D : Type 0} → (D → Option (List ℕ)) → (D → List ℕ → Type 0) → (D → ℕ) → WorldState D → WorldState D → WorldFault → Type 0
Stays {D} seen may_leave limit old new faults.OutOfMemory = TellsNothing old new × ((new.is_lost ≡ true) ⊎ StandsStill seen may_leave limit old new)
Stays {D} seen may_leave limit old new faults.Limit = (length old.history ≡ most_history_entries) × (new ≡ old)

-- such an input was played, or nothing was told
abbrev pub Steps : {D : Type 0} → (D → Option (List ℕ)) → (D → List ℕ → Type 0) → (D → ℕ) → (D → ℕ) → (ScheduleState → CellInput → Type 0) → WorldState D → WorldState D → Result (Unit {0}) WorldFault → Type 0
Steps {D} seen may_leave faults limit is old new (Ok done) = PlaysOne seen may_leave faults limit is old new
Steps {D} seen may_leave faults limit is old new (Err fault) = Stays seen may_leave limit old new fault

-- A step of a world of this script, whatever came of it: it is safe, its disks tell as before, and no count of faults fell.
pub record Stepped {D : Type 0} (seen : D → Option (List ℕ)) (may_leave : D → List ℕ → Type 0) (faults limit : D → ℕ) (s : Script) (is : ScheduleState → CellInput → Type 0) (w new : WorldState D) (result : Result (Unit {0}) WorldFault) : Type 0 where
  pub steps : Steps seen may_leave faults limit is w new result
  pub safe : IsSafe limit s new
  pub tells : AllTell seen w ↔ AllTell seen new
  pub counts : (own : ℕ → ℕ) → Counts faults own w → Counts faults own new

-- ---- the disks that are given back

-- What is read from this part is what the server keeps after the interrupted step, while it is down.
abbrev pub IsReadAfter : Node → NodeState → Option Fall → Durable → Type 0
IsReadAfter me s None d = lasting_of d ≡ s.file.lasting
IsReadAfter me s (Some fall) d = lasting_of d ≡ (begun_from (node_kind me) s true fall).state.file.lasting

-- before that step, or after it
abbrev pub IsReadAs : Node → NodeState → Option Fall → Bool → Durable → Type 0
IsReadAs me s down false d = lasting_of d ≡ s.file.lasting
IsReadAs me s down true d = IsReadAfter me s down d

-- A server reads from this part what it keeps in the cell; or, while it is down, what it keeps there before the interrupted step or after
-- it, as a restart might begin.
abbrev pub MayBeRead : NodeCell → ℕ → Durable → Type 0
MayBeRead c i d = (after : Bool) × (MayBegin (c.hosts i).down after × IsReadAs (Server i) (c.hosts i).state (c.hosts i).down after d)

-- so it is of the location database
abbrev pub IsReadAfterAtLoc : LocState → Option Fall → LocDurable → Type 0
IsReadAfterAtLoc s None d = loc.lasting_of d ≡ s.lasting
IsReadAfterAtLoc s (Some fall) d = loc.lasting_of d ≡ (loc_begun_by_disk s true fall).state.lasting

abbrev pub IsReadAsAtLoc : LocState → Option Fall → Bool → LocDurable → Type 0
IsReadAsAtLoc s down false d = loc.lasting_of d ≡ s.lasting
IsReadAsAtLoc s down true d = IsReadAfterAtLoc s down d

abbrev pub MayBeReadAtLoc : NodeCell → LocDurable → Type 0
MayBeReadAtLoc c d = (after : Bool) × (MayBegin c.loc.down after × IsReadAsAtLoc c.loc.state c.loc.down after d)

-- the whole records of these bytes are those of this durable part of the database
abbrev pub LocStands : List ℕ → LocDurable → Type 0
LocStands bytes d = LocStandFor (whole_records bytes) d

-- the disk of the server of this number stands for such a part, of the capacity that the disk has; and so does the database's
abbrev pub IsStanding : {D : Type 0} → (D → Option (List ℕ)) → (D → ℕ) → NodeCell → ℕ → D → Type 0
IsStanding {D} seen limit c i disk = (bytes : List ℕ) → seen disk ≡ Some bytes → (d : Durable) × (MayBeRead c i d × (StandsForVolumes bytes d × (d.capacity ≡ limit disk)))

abbrev pub IsStandingAtLoc : {D : Type 0} → (D → Option (List ℕ)) → (D → ℕ) → NodeCell → D → Type 0
IsStandingAtLoc {D} seen limit c disk = (bytes : List ℕ) → seen disk ≡ Some bytes → (d : LocDurable) × (MayBeReadAtLoc c d × (LocStands bytes d × (d.capacity ≡ limit disk)))

-- so it is of all disks of a cell: the first is the database's, and the others are the servers', in order of number
abbrev pub AreStanding : {D : Type 0} → (D → Option (List ℕ)) → (D → ℕ) → NodeCell → List (Lent D) → Type 0
AreStanding {D} seen limit c [] = ⊥
AreStanding {D} seen limit c (l ∷ ls) = IsStandingAtLoc seen limit c l.disk × Each (λ (i : ℕ) (k : Lent D). IsStanding seen limit c i k.disk) ls

-- ---- a whole schedule

-- the world has played the events of the script, as far as these inputs go
pub record HasPlayed {D : Type 0} (seen : D → Option (List ℕ)) (may_leave : D → List ℕ → Type 0) (faults limit : D → ℕ) (IsPlayed : List CellInput → Type 0) (s : Script) (w : WorldState D) : Type 0 where
  pub inputs : List CellInput
  pub cell : NodeCell
  pub runs : Runs seen may_leave faults limit s w inputs cell
  pub played : IsPlayed inputs

-- all of them, or the first as many as a history may have
abbrev pub HasPlayedAll : {D : Type 0} → (D → Option (List ℕ)) → (D → List ℕ → Type 0) → (D → ℕ) → (D → ℕ) → Script → WorldState D → Type 0
HasPlayedAll {D} seen may_leave faults limit s w = HasPlayed seen may_leave faults limit (AreInputs (first_turn s) (events_of s)) s w

abbrev pub HasPlayedFirst : {D : Type 0} → (D → Option (List ℕ)) → (D → List ℕ → Type 0) → (D → ℕ) → (D → ℕ) → Script → WorldState D → Type 0
HasPlayedFirst {D} seen may_leave faults limit s w = HasPlayed seen may_leave faults limit (AreFirst (first_turn s) (events_of s)) s w × (length w.history ≡ most_history_entries)

-- the first of them, however many
abbrev pub HasPlayedSome : {D : Type 0} → (D → Option (List ℕ)) → (D → List ℕ → Type 0) → (D → ℕ) → (D → ℕ) → Script → WorldState D → Type 0
HasPlayedSome {D} seen may_leave faults limit s w = HasPlayed seen may_leave faults limit (λ (xs : List CellInput). AreInputs (first_turn s) (events_of s) xs ⊎ AreFirst (first_turn s) (events_of s) xs) s w
