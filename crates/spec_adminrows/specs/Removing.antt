-- A removal, behind the survey: the volume itself, and then each other volume of the family that was seen.
use Rattle.std.specs.Prelude.{List, [], ◌∷◌, Bool, not, ◌&&◌, nat_eq, map, filter}
use Rattle.afs_num.specs.declared.location_calls.LocCall.TheVariants as loc
use Rattle.afs_num.specs.declared.location_calls.LocReply.TheVariants as entries
use Rattle.afs_num.specs.declared.messages.Reply.{Reply}
use Rattle.afs_num.specs.declared.messages.Reply.TheVariants as tell
use Rattle.afs_num.specs.declared.volume_calls.VolCall.TheVariants as vol
use Rattle.afs_num.specs.declared.volume_calls.VolReply.TheVariants as volumes
use Rattle.spec_adminrows.specs.Asks.{at_home, closed, family, held_at, held_at_loc, home, offline}
use Rattle.spec_adminrows.specs.Turns.{fine}
use Rattle.spec_adminrows.specs.declared.places.Hold.{Hold}
use Rattle.spec_adminrows.specs.declared.places.Place.TheVariants as places
use Rattle.spec_adminrows.specs.declared.places.Removing.{Removing}
use Rattle.spec_adminrows.specs.declared.places.Removing.TheVariants as at
use Rattle.spec_adminrows.specs.declared.places.Seen.{Seen}
use Rattle.spec_adminrows.specs.declared.places.Spot.{Spot}
use Rattle.spec_adminrows.specs.declared.places.Sweeping.{Sweeping}
use Rattle.spec_adminrows.specs.declared.places.Sweeping.TheVariants as sweeping
use Rattle.spec_adminrows.specs.declared.turns.Ask.{Ask}
use Rattle.spec_adminrows.specs.declared.turns.Turn.{Turn}
use Rattle.spec_adminrows.specs.declared.turns.Turn.TheVariants as turns

-- ---- what it asks

abbrev pub remove_asks : Hold → Removing → Ask
remove_asks h at.Begins = at_home h (vol.TransCreate (family h) (family h) offline)
remove_asks h (at.Fences t) = at_home h (vol.SetFlags (family h) t closed)
remove_asks h (at.Decides t) = held_at_loc h (loc.DeleteEntry (family h))
remove_asks h (at.Deletes t) = at_home h (vol.DeleteVolume (family h) t)

abbrev pub sweep_asks : Hold → Spot → Sweeping → Ask
sweep_asks h spot sweeping.Begins = held_at h spot.server (vol.TransCreate (family h) spot.volume offline)
sweep_asks h spot (sweeping.Deletes t) = held_at h spot.server (vol.DeleteVolume (family h) t)

-- ---- where replies lead

abbrev pub removes : Hold → List Seen → Removing → Turn
removes h seen step = turns.Goes (places.Removes h seen step)

abbrev pub spot_of : Seen → Spot
spot_of x = record { server = x.server; volume = x.volume.volume }

abbrev pub is_itself : Hold → Seen → Bool
is_itself h x = nat_eq x.server (home h) && nat_eq x.volume.volume (family h)

abbrev pub is_other_copy : Hold → Seen → Bool
is_other_copy h x = not (is_itself h x)

-- by server and number, as they were listed
abbrev pub others_of : Hold → List Seen → List Spot
others_of h seen = map spot_of (filter (is_other_copy h) seen)

-- the entry went, and its lock with it: none is released
abbrev pub sweeps : Hold → List Spot → Turn
sweeps h [] = turns.Ends fine
sweeps h (spot ∷ left) = turns.Goes (places.Sweeps h spot left sweeping.Begins)

abbrev pub remove_answered : Hold → List Seen → Removing → Reply → Turn
remove_answered h seen at.Begins (tell.Volume (volumes.TransCreate t)) = removes h seen (at.Fences t)
remove_answered h seen (at.Fences t) (tell.Volume volumes.SetFlags) = removes h seen (at.Decides t)
remove_answered h seen (at.Decides t) (tell.Location entries.DeleteEntry) = removes h seen (at.Deletes t)
remove_answered h seen (at.Deletes t) (tell.Volume volumes.DeleteVolume) = sweeps h (others_of h seen)
remove_answered h seen step reply = turns.Passes

abbrev pub sweep_answered : Hold → Spot → List Spot → Sweeping → Reply → Turn
sweep_answered h spot left sweeping.Begins (tell.Volume (volumes.TransCreate t)) = turns.Goes (places.Sweeps h spot left (sweeping.Deletes t))
sweep_answered h spot left (sweeping.Deletes t) (tell.Volume volumes.DeleteVolume) = sweeps h left
sweep_answered h spot left step reply = turns.Passes
