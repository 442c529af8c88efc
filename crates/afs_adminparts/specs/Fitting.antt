-- Where acts stand so that what they ask can be spelled: servers are 1 to 8, names have room for the ends of copies, entries have at most
-- 8 sites, and a dump has fewer bytes than a word counts. Each place that fits leads to places that fit, whatever reply comes.
use Rattle.std.specs.Prelude.{◌≤◌, ◌<◌, ◌^◌, ℕ, List, Option, Some, None, length}
use Rattle.std.specs.List.{AllByRecursion}
use Rattle.spec_history.specs.declared.scripts.AdminAct.{AdminAct}
use Rattle.spec_history.specs.declared.scripts.AdminAct.TheVariants as acts
use Rattle.afs_num.specs.Nodes.{IsNode}
use Rattle.spec_model.specs.CellRows.{cell_calls}
use Rattle.spec_rows.specs.LocRow.{most_listed_sites}
use Rattle.spec_shape.specs.Items.{volume_name_limit}
use Rattle.spec_shape.specs.Rows.{IsWithin}
use Rattle.spec_shape.specs.Tables.{IsEntry, IsServer}
use Rattle.spec_adminrows.specs.Asks.{home, name_in_act}
use Rattle.spec_adminrows.specs.declared.places.Fresh.{Fresh}
use Rattle.spec_adminrows.specs.declared.places.Hold.{Hold}
use Rattle.spec_adminrows.specs.declared.places.Mend.{Mend}
use Rattle.spec_adminrows.specs.declared.places.Mending.{Mending}
use Rattle.spec_adminrows.specs.declared.places.Mending.TheVariants as mending
use Rattle.spec_adminrows.specs.declared.places.Place.{Place}
use Rattle.spec_adminrows.specs.declared.places.Place.TheVariants as places
use Rattle.spec_adminrows.specs.declared.places.Purpose.{Purpose}
use Rattle.spec_adminrows.specs.declared.places.Purpose.TheVariants as purposes
use Rattle.spec_adminrows.specs.declared.places.Saving.{Saving}
use Rattle.spec_adminrows.specs.declared.places.Seen.{Seen}
use Rattle.spec_adminrows.specs.declared.places.Spot.{Spot}
use Rattle.spec_adminrows.specs.declared.places.Tour.{Tour}
use Rattle.spec_adminrows.specs.declared.places.Trip.{Trip}
use Rattle.spec_adminrows.specs.declared.turns.Ask.{Ask}
use Rattle.spec_adminrows.specs.declared.turns.HeldDump.{HeldDump}
use Rattle.spec_adminrows.specs.declared.turns.Turn.{Turn}
use Rattle.spec_adminrows.specs.declared.turns.Turn.TheVariants as turns

-- ---- what is asked

-- of a node of the cell, and within the limits of its row: so it can be spelled as a message
pub record IsSpelledAsk (q : Ask) : Type 0 where
  pub callee : IsNode q.callee
  pub call : IsWithin cell_calls q.call

-- ---- acts

-- the server that an act names
abbrev pub NamesServer : AdminAct → Type 0
NamesServer (acts.Create name server quota) = IsServer server
NamesServer (acts.Restore name server label) = IsServer server
NamesServer (acts.AddSite name server) = IsServer server
NamesServer (acts.Move name server) = IsServer server
NamesServer act = Unit {0}

-- an act within its limits
pub record IsShortAdminAct (act : AdminAct) : Type 0 where
  pub name : length (name_in_act act) ≤ volume_name_limit
  pub server : NamesServer act

-- with at most so many bytes the names of a volume's copies are within the limit too: an end has 9
abbrev pub most_named : ℕ
most_named = 22

abbrev pub NamesCopies : AdminAct → Type 0
NamesCopies act = length (name_in_act act) ≤ most_named

-- ---- what places carry

abbrev pub AreServers : List ℕ → Type 0
AreServers servers = AllByRecursion IsServer servers

-- the entry is one of the database's, and names the server of the volume
pub record FitsHold (h : Hold) : Type 0 where
  pub entry : IsEntry h.entry
  pub few : length h.entry.sites ≤ most_listed_sites
  pub home : IsServer (home h)

-- an offset in it is a word
abbrev pub FitsDump : List ℕ → Type 0
FitsDump bytes = length bytes < 2 ^ 32

abbrev pub FitsDumpIfAny : Option (List ℕ) → Type 0
FitsDumpIfAny None = Unit {0}
FitsDumpIfAny (Some bytes) = FitsDump bytes

-- the dumps that an administrator holds
abbrev pub FitDumps : List HeldDump → Type 0
FitDumps dumps = AllByRecursion (λ (d : HeldDump). FitsDump d.bytes) dumps

pub record FitsFresh (f : Fresh) : Type 0 where
  pub server : IsServer f.server
  pub dump : FitsDumpIfAny f.dump

pub record FitsSaving (s : Saving) : Type 0 where
  pub hold : FitsHold s.hold
  pub bytes : FitsDump s.bytes

pub record FitsTour (r : Tour) : Type 0 where
  pub hold : FitsHold r.hold
  pub left : AreServers r.left

pub record FitsTrip (m : Trip) : Type 0 where
  pub hold : FitsHold m.hold
  pub target : IsServer m.target

abbrev pub FitsSeen : Seen → Type 0
FitsSeen x = IsServer x.server

abbrev pub FitAllSeen : List Seen → Type 0
FitAllSeen seen = AllByRecursion FitsSeen seen

abbrev pub FitsSpot : Spot → Type 0
FitsSpot spot = IsServer spot.server

abbrev pub FitSpots : List Spot → Type 0
FitSpots spots = AllByRecursion FitsSpot spots

pub record FitsMend (m : Mend) : Type 0 where
  pub named : IsServer m.named
  pub copies : AreServers m.copies
  pub others : FitSpots m.others

abbrev pub FitsPurpose : Purpose → Type 0
FitsPurpose (purposes.Moves target) = IsServer target
FitsPurpose purposes.Removes = Unit {0}
FitsPurpose (purposes.Mends cause) = Unit {0}

-- ---- the machines whose steps name a server

pub record FitsSurvey (h : Hold) (purpose : Purpose) (s : ℕ) (more : List ℕ) (all : List Seen) : Type 0 where
  pub hold : FitsHold h
  pub why : FitsPurpose purpose
  pub server : IsServer s
  pub left : AreServers more
  pub seen : FitAllSeen all

abbrev pub FitsMending : Mending → Type 0
FitsMending (mending.Takes server) = IsServer server
FitsMending (mending.Points server transaction) = IsServer server
FitsMending (mending.Deletes server transaction) = IsServer server
FitsMending (mending.Drops spot) = FitsSpot spot
FitsMending (mending.Dropped spot transaction) = FitsSpot spot
FitsMending step = Unit {0}

-- ---- where an act stands

abbrev pub FitsPlace : AdminAct → Place → Type 0
FitsPlace act (places.Seeks c) = Unit {0}
FitsPlace act (places.Locks c v) = Unit {0}
FitsPlace act (places.Frees h code first) = Unit {0}
FitsPlace act (places.Creates f step) = FitsFresh f
FitsPlace act (places.Adds h server) = FitsHold h × IsServer server
FitsPlace act (places.Backs h step) = NamesCopies act × FitsHold h
FitsPlace act (places.Dumps s step) = FitsSaving s
FitsPlace act (places.Releases h step) = NamesCopies act × FitsHold h
FitsPlace act (places.Tours r step) = NamesCopies act × FitsTour r
FitsPlace act (places.Visits r s step) = NamesCopies act × FitsTour r × IsServer s
FitsPlace act (places.Surveys h why s left seen) = FitsSurvey h why s left seen
FitsPlace act (places.Plans h target) = FitsHold h × IsServer target
FitsPlace act (places.Moves m step) = FitsTrip m
FitsPlace act (places.Removes h seen step) = FitsHold h × FitAllSeen seen
FitsPlace act (places.Sweeps h spot left step) = FitsSpot spot × FitSpots left
FitsPlace act (places.Asks c h seen) = FitAllSeen seen
FitsPlace act (places.Mends m step) = FitsMend m × FitsMending step

-- and where it goes
abbrev pub FitsTurn : AdminAct → Turn → Type 0
FitsTurn act (turns.Goes p) = FitsPlace act p
FitsTurn act (turns.Keeps label bytes p) = FitsDump bytes × FitsPlace act p
FitsTurn act (turns.Ends code) = Unit {0}
FitsTurn act (turns.Sticks code) = Unit {0}
FitsTurn act turns.Passes = Unit {0}
