-- A move, behind the survey.
use Rattle.std.specs.Prelude.{ℕ, List, nat_eq, if◌then◌else◌}
use Rattle.afs_num.specs.declared.location_calls.LocCall.TheVariants as loc
use Rattle.afs_num.specs.declared.location_calls.LocReply.TheVariants as entries
use Rattle.afs_num.specs.declared.messages.Reply.{Reply}
use Rattle.afs_num.specs.declared.messages.Reply.TheVariants as tell
use Rattle.afs_num.specs.declared.volume_calls.VolCall.TheVariants as vol
use Rattle.afs_num.specs.declared.volume_calls.VolReply.TheVariants as volumes
use Rattle.spec_adminrows.specs.Entries.{entry_moved}
use Rattle.spec_adminrows.specs.Asks.{at_home, busy_flag, closed, family, held_at, held_at_loc, home, offline, read_only, read_write, unfilled}
use Rattle.spec_adminrows.specs.Surveying.{surveys_all}
use Rattle.spec_adminrows.specs.Turns.{fine, frees, same_place}
use Rattle.spec_adminrows.specs.declared.places.Hold.{Hold}
use Rattle.spec_adminrows.specs.declared.places.Moving.{Moving}
use Rattle.spec_adminrows.specs.declared.places.Moving.TheVariants as at
use Rattle.spec_adminrows.specs.declared.places.Place.TheVariants as places
use Rattle.spec_adminrows.specs.declared.places.Purpose.TheVariants as purposes
use Rattle.spec_adminrows.specs.declared.places.Trip.{Trip}
use Rattle.spec_adminrows.specs.declared.turns.Ask.{Ask}
use Rattle.spec_adminrows.specs.declared.turns.Errand.{Errand}
use Rattle.spec_adminrows.specs.declared.turns.Turn.{Turn}
use Rattle.spec_adminrows.specs.declared.turns.Turn.TheVariants as turns

-- ---- what it asks

abbrev pub plan_asks : Hold → Ask
plan_asks h = held_at_loc h loc.GetNewVolumeId

abbrev pub move_asks : List ℕ → Trip → Moving → Ask
move_asks name m at.Begins = at_home m.hold (vol.TransCreate (family m.hold) (family m.hold) busy_flag)
move_asks name m (at.Clones t) = at_home m.hold (vol.Clone (family m.hold) t m.clone name read_only)
move_asks name m (at.Cloned counter t) = at_home m.hold (vol.EndTrans (family m.hold) t)
move_asks name m (at.Makes counter) = held_at m.hold m.target (vol.CreateVolume (family m.hold) (family m.hold) name read_write unfilled 1)
move_asks name m (at.Opens counter new) = at_home m.hold (vol.TransCreate (family m.hold) m.clone busy_flag)
move_asks name m (at.Sends counter new t) = at_home m.hold (vol.Forward (family m.hold) t 0 m.target new)
move_asks name m (at.Sent counter new t) = at_home m.hold (vol.EndTrans (family m.hold) t)
move_asks name m (at.Holds counter new) = at_home m.hold (vol.TransCreate (family m.hold) (family m.hold) offline)
move_asks name m (at.Fences counter new old) = at_home m.hold (vol.SetFlags (family m.hold) old closed)
move_asks name m (at.Fills counter new old) = at_home m.hold (vol.Forward (family m.hold) old counter m.target new)
move_asks name m (at.Clears new old) = held_at m.hold m.target (vol.SetFlags (family m.hold) new closed)
move_asks name m (at.Decides new old) = held_at_loc m.hold (loc.ReplaceEntry (family m.hold) (entry_moved m.target m.hold.entry))
move_asks name m (at.Starts new old) = held_at m.hold m.target (vol.SetFlags (family m.hold) new 0)
move_asks name m (at.Started new old) = held_at m.hold m.target (vol.EndTrans (family m.hold) new)
move_asks name m (at.Points old) = at_home m.hold (vol.SetForwarding (family m.hold) old m.target)
move_asks name m (at.Deletes old) = at_home m.hold (vol.DeleteVolume (family m.hold) old)
move_asks name m at.Drops = at_home m.hold (vol.TransCreate (family m.hold) m.clone offline)
move_asks name m (at.Dropped t) = at_home m.hold (vol.DeleteVolume (family m.hold) t)
move_asks name m at.DropsBackup = at_home m.hold (vol.TransCreate (family m.hold) m.hold.entry.backup offline)
move_asks name m (at.DroppedBackup t) = at_home m.hold (vol.DeleteVolume (family m.hold) t)

-- ---- where replies lead

-- to the server where the volume is, nothing moves
abbrev pub moves_to : Errand → Hold → ℕ → Turn
moves_to e h target = if nat_eq target (home h) then frees h same_place else surveys_all e h (purposes.Moves target)

abbrev pub moves : Trip → Moving → Turn
moves m step = turns.Goes (places.Moves m step)

abbrev pub trip_of : Hold → ℕ → ℕ → Trip
trip_of h target x = record { hold = h; target = target; clone = x }

abbrev pub plan_answered : Hold → ℕ → Reply → Turn
plan_answered h target (tell.Location (entries.GetNewVolumeId x)) = moves (trip_of h target x) at.Begins
plan_answered h target reply = turns.Passes

-- a backup goes too: it was one of the volume at the old server
abbrev pub moved_off : Trip → ℕ → Turn
moved_off m backup = if nat_eq backup 0 then frees m.hold fine else moves m at.DropsBackup

abbrev pub move_answered : Trip → Moving → Reply → Turn
move_answered m at.Begins (tell.Volume (volumes.TransCreate t)) = moves m (at.Clones t)
move_answered m (at.Clones t) (tell.Volume (volumes.Clone counter release)) = moves m (at.Cloned counter t)
move_answered m (at.Cloned counter t) (tell.Volume volumes.EndTrans) = moves m (at.Makes counter)
move_answered m (at.Makes counter) (tell.Volume (volumes.CreateVolume new)) = moves m (at.Opens counter new)
move_answered m (at.Opens counter new) (tell.Volume (volumes.TransCreate t)) = moves m (at.Sends counter new t)
move_answered m (at.Sends counter new t) (tell.Volume volumes.Forward) = moves m (at.Sent counter new t)
move_answered m (at.Sent counter new t) (tell.Volume volumes.EndTrans) = moves m (at.Holds counter new)
move_answered m (at.Holds counter new) (tell.Volume (volumes.TransCreate old)) = moves m (at.Fences counter new old)
move_answered m (at.Fences counter new old) (tell.Volume volumes.SetFlags) = moves m (at.Fills counter new old)
move_answered m (at.Fills counter new old) (tell.Volume volumes.Forward) = moves m (at.Clears new old)
move_answered m (at.Clears new old) (tell.Volume volumes.SetFlags) = moves m (at.Decides new old)
move_answered m (at.Decides new old) (tell.Location entries.ReplaceEntry) = moves m (at.Starts new old)
move_answered m (at.Starts new old) (tell.Volume volumes.SetFlags) = moves m (at.Started new old)
move_answered m (at.Started new old) (tell.Volume volumes.EndTrans) = moves m (at.Points old)
move_answered m (at.Points old) (tell.Volume volumes.SetForwarding) = moves m (at.Deletes old)
move_answered m (at.Deletes old) (tell.Volume volumes.DeleteVolume) = moves m at.Drops
move_answered m at.Drops (tell.Volume (volumes.TransCreate t)) = moves m (at.Dropped t)
move_answered m (at.Dropped t) (tell.Volume volumes.DeleteVolume) = moved_off m m.hold.entry.backup
move_answered m at.DropsBackup (tell.Volume (volumes.TransCreate t)) = moves m (at.DroppedBackup t)
move_answered m (at.DroppedBackup t) (tell.Volume volumes.DeleteVolume) = frees m.hold fine
move_answered m step reply = turns.Passes
