-- The clock where what happened is told.
use Rattle.std.proofs.Common.{ap, ◌∙◌, ◌≡◌, ℕ, List, Option, Result, Ok, Err}
use Rattle.afs_num.specs.declared.types.Node.{Node}
use Rattle.spec_history.specs.declared.lines.Line.{Line}
use Rattle.afs_host.specs.LocSeated.{DatabaseSeat}
use Rattle.afs_serverhost.specs.Seated.{ServerSeat}
use Rattle.afs_clients.specs.declared.clients.ClientSeat.{ClientSeat}
use Rattle.afs_admins.specs.declared.admins.AdminSeat.{AdminSeat}
use Rattle.afs_cell.specs.Happening.{NothingSettles, Settles}
use Rattle.afs_cell.specs.Worlds.{WorldState}
use Rattle.afs_cell.specs.declared.faults.WorldFault.{WorldFault}
use Rattle.afs_clients.specs.declared.happening.Happened.{Happened}
use Rattle.afs_clients.specs.declared.happening.Happened.TheVariants as happened

abbrev clock_in : {D : Type 0} → WorldState D → ℕ
clock_in {D} w = w.clock

module _ {D : Type 0} (old new : WorldState D) where
  pub nothing_clock : (result : Result (Unit {0}) WorldFault) → NothingSettles old new result → new.clock ≡ old.clock
  nothing_clock (Ok done) h = ap clock_in h
  nothing_clock (Err e) h = ap clock_in h.1

  pub settles_clock : (node : Node) (front : Option Line) (what : Happened) (result : Result (Unit {0}) WorldFault) → Settles node front what old new result → new.clock ≡ old.clock
  settles_clock node front happened.Nothing (Ok done) h = ap clock_in h
  settles_clock node front happened.Nothing (Err e) h = ap clock_in h.1
  settles_clock node front (happened.Step outs) (Ok done) h = ap clock_in h
  settles_clock node front (happened.Step outs) (Err e) h = ap clock_in h.1
  settles_clock node front happened.Unchanged (Ok done) h = absurd h
  settles_clock node front happened.Unchanged (Err e) h = ap clock_in h.1
  settles_clock node front happened.Lost (Ok done) h = absurd h
  settles_clock node front happened.Lost (Err e) h = ap clock_in h.1

-- so it is of a world whose servers have changed, or its database, its clients or its administrators
pub clock_served : {D : Type 0} (parts w new : WorldState D) (servers : List (ServerSeat D)) (node : Node) (front : Option Line) (what : Happened) (result : Result (Unit {0}) WorldFault) → parts ≡ w → Settles node front what (record parts { servers = servers }) new result → new.clock ≡ w.clock
clock_served {D} parts w new servers node front what result same settled = settles_clock (record parts { servers = servers }) new node front what result settled ∙ ap clock_in same

pub clock_managed : {D : Type 0} (parts w new : WorldState D) (database : DatabaseSeat D) (node : Node) (front : Option Line) (what : Happened) (result : Result (Unit {0}) WorldFault) → parts ≡ w → Settles node front what (record parts { database = database }) new result → new.clock ≡ w.clock
clock_managed {D} parts w new database node front what result same settled = settles_clock (record parts { database = database }) new node front what result settled ∙ ap clock_in same

pub clock_heard : {D : Type 0} (parts w new : WorldState D) (clients : List ClientSeat) (node : Node) (front : Option Line) (what : Happened) (result : Result (Unit {0}) WorldFault) → parts ≡ w → Settles node front what (record parts { clients = clients }) new result → new.clock ≡ w.clock
clock_heard {D} parts w new clients node front what result same settled = settles_clock (record parts { clients = clients }) new node front what result settled ∙ ap clock_in same

pub clock_ordered : {D : Type 0} (parts w new : WorldState D) (admins : List AdminSeat) (node : Node) (front : Option Line) (what : Happened) (result : Result (Unit {0}) WorldFault) → parts ≡ w → Settles node front what (record parts { admins = admins }) new result → new.clock ≡ w.clock
clock_ordered {D} parts w new admins node front what result same settled = settles_clock (record parts { admins = admins }) new node front what result settled ∙ ap clock_in same
