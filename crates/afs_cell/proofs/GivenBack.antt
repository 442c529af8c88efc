-- The disks at the end of a cell's run.
use Rattle.afs_lending.specs.Lending.{AreLent}
use Rattle.std.proofs.Common.{refl, ap, sym, subst, ◌∙◌, ◌≡◌, ◌+◌, ℕ, zero, suc, List, [], ◌∷◌, ◌++◌, length, true, false, Option, Some}
use Rattle.std.specs.Prelude.{Bool}
use Rattle.afs_num.specs.Places.{at_place}
use Rattle.afs_num.specs.declared.types.Node.TheVariants.{Server}
use Rattle.spec_history.specs.declared.scripts.Script.{Script}
use Rattle.afs_disk.specs.declared.disks.Lent.{Lent}
use Rattle.afs_journal.specs.Records.{whole_records}
use Rattle.spec_records.specs.Durable.{Durable}
use Rattle.spec_records.specs.LocDurable.{LocDurable}
use Rattle.afs_volstore.specs.Stands.{StandsForVolumes}
use Rattle.spec_runs.specs.NodeRuns.{NodeCell}
use Rattle.spec_rows.specs.LocRow.{LocLasting, LocState}
use Rattle.spec_rows.specs.Hosts.{Fall, MayBegin, MayFind}
use Rattle.spec_rows.specs.States.{Lasting}
use Rattle.spec_volrows.specs.VolStates.{NodeState}
use Rattle.afs_host.specs.Seats.{Resting}
use Rattle.afs_serverhost.specs.Seats.{IsDown}
use Rattle.afs_host.proofs.LocRising.{loc_fits}
use Rattle.afs_serverhost.proofs.Rising.{server_fits}
use Rattle.afs_serverhost.specs.Standing.{LiesAs}
use Rattle.afs_host.specs.declared.seats.Seat.TheVariants.{Down, Up}
use Rattle.afs_cell.specs.FirstSeats.{AreKeptSeats, IsKeptSeat, IsLocKeptSeat}
use Rattle.afs_cell.specs.Steps.{AreStanding, IsReadAfter, IsReadAfterAtLoc, LocStands, MayBeRead, MayBeReadAtLoc}
use Rattle.afs_cell.specs.Lends.{disks_of, lent_from}
use Rattle.afs_host.specs.LocSeated.{loc_seat_disk, DatabaseSeat, IsLocHost, IsLocReadySeat}
use Rattle.afs_host.specs.LocSeats.{IsLocDown}
use Rattle.afs_host.specs.LocStanding.{LocLiesAs}
use Rattle.afs_serverhost.specs.Seated.{seat_disk, IsHost, IsReadySeat, ServerSeat}
use Rattle.afs_clients.specs.Places.{Each}
use Rattle.afs_cell.specs.Worlds.{AllHold, IsCell, IsSafe, WorldState}
use Rattle.afs_clients.proofs.Numbers.{none_some, some_is}

each_tail : {A : Type 0} (P : A → Type 0) (x : A) (xs : List A) → ((n : ℕ) (y : A) → at_place (x ∷ xs) n ≡ Some y → P y) → (n : ℕ) (y : A) → at_place xs n ≡ Some y → P y
each_tail P x [] h n y e = absurd (none_some y e)
each_tail P x (z ∷ zs) h zero y e = absurd (none_some y e)
each_tail P x (z ∷ zs) h (suc n) y e = h (suc (suc n)) y e

module _ {D : Type 0} (seen : D → Option (List ℕ)) (may_leave : D → List ℕ → Type 0) (limit : D → ℕ) where
  servers_lent : (capacity i : ℕ) (ss : List (ServerSeat D)) → Each (λ (j : ℕ) (s : ServerSeat D). limit (seat_disk s) ≡ capacity) ss → AreLent limit capacity i (lent_from i ss)
  servers_lent capacity i [] h = tt
  servers_lent capacity i (s ∷ ss) h = (refl, (h 1 s refl, servers_lent capacity (i + 1) ss (each_tail (λ (x : ServerSeat D). limit (seat_disk x) ≡ capacity) s ss h)))

  pub lent_all : (capacity : ℕ) (w : WorldState D) → AllHold limit capacity w → AreLent limit capacity 0 (disks_of w)
  lent_all capacity w h = (refl, (h.0, servers_lent capacity 1 w.servers h.1))

  -- the place of the disk that stands at a number
  pub record HasSeat (ss : List (ServerSeat D)) (n : ℕ) (l : Lent D) : Type 0 where
    pub seat : ServerSeat D
    pub found : at_place ss n ≡ Some seat
    pub kept : IsKeptSeat seen may_leave limit seat
    pub is : l.disk ≡ seat_disk seat

  seat_of : (i : ℕ) (ss : List (ServerSeat D)) → AreKeptSeats seen may_leave limit ss → (n : ℕ) (l : Lent D) → at_place (lent_from i ss) n ≡ Some l → HasSeat ss n l
  seat_of i [] kept n l e = absurd (none_some l e)
  seat_of i (s ∷ ss) kept zero l e = absurd (none_some l e)
  seat_of i (s ∷ ss) kept (suc zero) l e = record { seat = s; found = refl; kept = kept.0; is = sym (ap (λ (x : Lent D). x.disk) (some_is (record { node = i; disk = seat_disk s }) l e)) }
  seat_of i (s ∷ ss) kept (suc (suc n)) l e =
      let more = seat_of (i + 1) ss kept.1 (suc n) l e in
      record { seat = more.seat; found = more.found; kept = more.kept; is = more.is }

  -- ---- what a disk stands for

  abbrev StandsFor : NodeCell → ℕ → D → List ℕ → Type 0
  StandsFor c i disk bytes = (d : Durable) × (MayBeRead c i d × (StandsForVolumes bytes d × (d.capacity ≡ limit disk)))

  may_begin : (c : NodeCell) (i : ℕ) (x : Resting D) (down : IsDown seen may_leave limit (Server i) x (c.hosts i)) (after : Bool) → MayFind down.fall after → MayBegin (c.hosts i).down after
  may_begin c i x down after may = subst (λ (o : Option Fall). MayBegin o after) (sym down.down) may

  lies_so : (c : NodeCell) (i : ℕ) (x : Resting D) (down : IsDown seen may_leave limit (Server i) x (c.hosts i)) (bytes : List ℕ) (after : Bool) → MayFind down.fall after → LiesAs (Server i) (c.hosts i).state down.fall x.mark after (whole_records bytes) → StandsFor c i x.disk bytes
  lies_so c i x down bytes false may before =
      let d = before.before.durable in
      (d, ((false, (may_begin c i x down false may, before.before.read)), (before.before.stands, ap (λ (l : Lasting). l.capacity) before.before.read ∙ down.capacity)))
  lies_so c i x down bytes true may after =
      let d = after.after.durable in (
        d,
        (
          (true, (may_begin c i x down true may, subst (λ (o : Option Fall). IsReadAfter (Server i) (c.hosts i).state o d) (sym down.down) after.after.read)),
          (after.after.stands, ap (λ (l : Lasting). l.capacity) after.after.read ∙ ((server_fits (Server i)).same_capacity (c.hosts i).state down.fall ∙ down.capacity)),
        ),
      )

  seat_stands : (c : NodeCell) (i entries : ℕ) (seat : ServerSeat D) → IsHost seen may_leave limit (Server i) seat (c.hosts i) → IsReadySeat (Server i) entries seat → IsKeptSeat seen may_leave limit seat → (bytes : List ℕ) → seen (seat_disk seat) ≡ Some bytes → StandsFor c i (seat_disk seat) bytes
  seat_stands c i entries (Up r) up ready kept bytes e =
      let stands = kept.0 ready.can_run.up in
      (r.store.durable, ((false, (subst (λ (o : Option Fall). MayBegin o false) (sym up.down) tt, sym (ap (λ (x : NodeState). x.file.lasting) up.state))), (stands.stands bytes e, kept.1)))
  seat_stands c i entries (Down x) down ready kept bytes e =
      let found = down.found bytes e in
      lies_so c i x down bytes found.0 found.1.0 found.1.1

  -- ---- what the location database's disk stands for

  abbrev StandsAtLoc : NodeCell → D → List ℕ → Type 0
  StandsAtLoc c disk bytes = (d : LocDurable) × (MayBeReadAtLoc c d × (LocStands bytes d × (d.capacity ≡ limit disk)))

  loc_may_begin : (c : NodeCell) (x : Resting D) (down : IsLocDown seen may_leave limit x c.loc) (after : Bool) → MayFind down.fall after → MayBegin c.loc.down after
  loc_may_begin c x down after may = subst (λ (o : Option Fall). MayBegin o after) (sym down.down) may

  loc_lies_so : (c : NodeCell) (x : Resting D) (down : IsLocDown seen may_leave limit x c.loc) (bytes : List ℕ) (after : Bool) → MayFind down.fall after → LocLiesAs c.loc.state down.fall x.mark after (whole_records bytes) → StandsAtLoc c x.disk bytes
  loc_lies_so c x down bytes false may before =
      let d = before.before.durable in
      (d, ((false, (loc_may_begin c x down false may, before.before.read)), (before.before.stands, ap (λ (l : LocLasting). l.capacity) before.before.read ∙ down.capacity)))
  loc_lies_so c x down bytes true may after =
      let d = after.after.durable in (
        d,
        (
          (true, (loc_may_begin c x down true may, subst (λ (o : Option Fall). IsReadAfterAtLoc c.loc.state o d) (sym down.down) after.after.read)),
          (after.after.stands, ap (λ (l : LocLasting). l.capacity) after.after.read ∙ (loc_fits.same_capacity c.loc.state down.fall ∙ down.capacity)),
        ),
      )

  loc_seat_stands : (c : NodeCell) (entries : ℕ) (seat : DatabaseSeat D) → IsLocHost seen may_leave limit seat c.loc → IsLocReadySeat entries seat → IsLocKeptSeat seen may_leave limit seat → (bytes : List ℕ) → seen (loc_seat_disk seat) ≡ Some bytes → StandsAtLoc c (loc_seat_disk seat) bytes
  loc_seat_stands c entries (Up r) up ready kept bytes e =
      let stands = kept.0 ready.can_run.up in
      (r.store.store.durable, ((false, (subst (λ (o : Option Fall). MayBegin o false) (sym up.down) tt, sym (ap (λ (x : LocState). x.lasting) up.state))), (stands.stands bytes e, kept.1)))
  loc_seat_stands c entries (Down x) down ready kept bytes e =
      let found = down.found bytes e in
      loc_lies_so c x down bytes found.0 found.1.0 found.1.1

  pub standing : (s : Script) (w : WorldState D) → IsSafe limit s w → w.is_lost ≡ false → IsLocKeptSeat seen may_leave limit w.database → AreKeptSeats seen may_leave limit w.servers → (c : NodeCell) → IsCell seen may_leave limit w c → AreStanding seen limit c (disks_of w)
  standing s w safe going loc_kept kept c cell = (
    loc_seat_stands c (length w.history) w.database cell.loc (safe.database going) loc_kept,
    λ n l found bytes e.
        let at = seat_of 1 w.servers kept n l found in
        subst (λ (disk : D). seen disk ≡ Some bytes → StandsFor c n disk bytes) (sym at.is)
        (seat_stands c n (length w.history) at.seat (cell.hosts n at.seat at.found) (safe.servers going n at.seat at.found) at.kept bytes) e,
  )
