-- A recovery, behind the survey. What is to be done is settled once, by what the servers listed and by the entry as the database has it
-- then. Where another has taken the lock since, that entry may be newer than the lists. Then the volume was moved away from a server that
-- listed it. That server has a newer stamp by now, so it refuses the first call there, which ends the act. So it comes last, behind all
-- other calls, that the named server hasn't the volume.
use Rattle.std.specs.Prelude.{ℕ, zero, suc, List, [], ◌∷◌, Bool, not, ◌&&◌, ◌||◌, Option, Some, None, nat_eq, map, filter, find, if◌then◌else◌}
use Rattle.std.specs.List.{list_any}
use Rattle.std.specs.Option.{option_map}
use Rattle.afs_num.specs.declared.location_calls.LocCall.TheVariants as loc
use Rattle.afs_num.specs.declared.location_calls.LocEntry.{LocEntry}
use Rattle.afs_num.specs.declared.location_calls.LocReply.TheVariants as entries
use Rattle.afs_num.specs.declared.messages.Reply.{Reply}
use Rattle.afs_num.specs.declared.messages.Reply.TheVariants as tell
use Rattle.afs_num.specs.declared.volume_calls.VolCall.TheVariants as vol
use Rattle.afs_num.specs.declared.volume_calls.VolReply.TheVariants as volumes
use Rattle.spec_adminrows.specs.Entries.{has_read_only_at, home_in, is_usable}
use Rattle.spec_adminrows.specs.Asks.{all_servers, at_loc, at_server, family, held_at_loc, offline}
use Rattle.spec_adminrows.specs.Removing.{spot_of}
use Rattle.spec_adminrows.specs.Turns.{fine, mend_fails, not_there}
use Rattle.spec_adminrows.specs.declared.places.Cause.{Cause}
use Rattle.spec_adminrows.specs.declared.places.Cause.TheVariants as causes
use Rattle.spec_adminrows.specs.declared.places.Hold.{Hold}
use Rattle.spec_adminrows.specs.declared.places.Mend.{Mend}
use Rattle.spec_adminrows.specs.declared.places.Mending.{Mending}
use Rattle.spec_adminrows.specs.declared.places.Mending.TheVariants as at
use Rattle.spec_adminrows.specs.declared.places.Place.TheVariants as places
use Rattle.spec_adminrows.specs.declared.places.Seen.{Seen}
use Rattle.spec_adminrows.specs.declared.places.Spot.{Spot}
use Rattle.spec_adminrows.specs.declared.turns.Ask.{Ask}
use Rattle.spec_adminrows.specs.declared.turns.Errand.{Errand}
use Rattle.spec_adminrows.specs.declared.turns.Turn.{Turn}
use Rattle.spec_adminrows.specs.declared.turns.Turn.TheVariants as turns

-- ---- what it asks

abbrev pub entry_asks : Hold → Ask
entry_asks h = held_at_loc h (loc.GetEntryById (family h))

abbrev pub mend_asks : Mend → Mending → Ask
mend_asks m (at.Takes s) = at_server m.stamp s (vol.TransCreate m.volume m.volume offline)
mend_asks m (at.Points s t) = at_server m.stamp s (vol.SetForwarding m.volume t m.named)
mend_asks m (at.Deletes s t) = at_server m.stamp s (vol.DeleteVolume m.volume t)
mend_asks m (at.Drops spot) = at_server m.stamp spot.server (vol.TransCreate m.volume spot.volume offline)
mend_asks m (at.Dropped spot t) = at_server m.stamp spot.server (vol.DeleteVolume m.volume t)
mend_asks m at.Begins = at_server m.stamp m.named (vol.TransCreate m.volume m.volume offline)
mend_asks m (at.Opens t) = at_server m.stamp m.named (vol.SetFlags m.volume t 0)
mend_asks m (at.Ends t) = at_server m.stamp m.named (vol.EndTrans m.volume t)
mend_asks m at.Frees = at_loc m.stamp (loc.ReleaseLock m.volume)

-- ---- what is to be done: of volume `v`, by what was seen and by the entry

abbrev pub is_listed_at : ℕ → ℕ → Seen → Bool
is_listed_at s v x = nat_eq x.server s && nat_eq x.volume.volume v

-- a copy of the volume at a server that the entry doesn't name
abbrev pub has_copy : ℕ → ℕ → List Seen → ℕ → Bool
has_copy v named seen s = not (nat_eq s named) && list_any (is_listed_at s v) seen

abbrev pub copies_of : Errand → ℕ → ℕ → List Seen → List ℕ
copies_of e v named seen = filter (has_copy v named seen) (all_servers e)

-- other volumes stay where they should be: the read-only one at its sites, the backup at the named server
abbrev pub is_kept_read_only : LocEntry → Seen → Bool
is_kept_read_only n x = nat_eq x.volume.volume n.read_only && has_read_only_at x.server n

abbrev pub is_kept_backup : LocEntry → Seen → Bool
is_kept_backup n x = nat_eq x.volume.volume n.backup && nat_eq x.server (home_in n)

abbrev pub must_go : ℕ → LocEntry → Seen → Bool
must_go v n x = not (nat_eq x.volume.volume v || (is_kept_read_only n x || is_kept_backup n x))

abbrev pub flags_at : ℕ → ℕ → List Seen → Option ℕ
flags_at s v seen = option_map (λ (x : Seen). x.volume.flags) (find (is_listed_at s v) seen)

abbrev pub mend_of : Errand → Cause → Hold → List Seen → LocEntry → Mend
mend_of e c h seen n = record {
  cause = c;
  stamp = h.stamp;
  volume = family h;
  named = home_in n;
  copies = copies_of e (family h) (home_in n) seen;
  others = map spot_of (filter (must_go (family h) n) seen);
  flags = flags_at (home_in n) (family h) seen;
}

-- ---- where replies lead

abbrev pub mends : Mend → Mending → Turn
mends m step = turns.Goes (places.Mends m step)

-- the volume comes into service, where it isn't; without it the recovery is stuck
abbrev pub opens_or_frees : Mend → Option ℕ → Turn
opens_or_frees m None = mend_fails m.cause not_there
opens_or_frees m (Some zero) = mends m at.Frees
opens_or_frees m (Some (suc n)) = mends m at.Begins

abbrev pub drops_others : Mend → List Spot → Turn
drops_others m [] = opens_or_frees m m.flags
drops_others m (spot ∷ left) = mends (record m { others = left }) (at.Drops spot)

abbrev pub takes_copies : Mend → List ℕ → Turn
takes_copies m [] = drops_others m m.others
takes_copies m (s ∷ left) = mends (record m { copies = left }) (at.Takes s)

abbrev pub mends_on : Mend → Turn
mends_on m = takes_copies m m.copies

abbrev pub entry_answered : Errand → Cause → Hold → List Seen → Reply → Turn
entry_answered e c h seen (tell.Location (entries.GetEntryById n)) = if is_usable n then mends_on (mend_of e c h seen n) else turns.Passes
entry_answered e c h seen reply = turns.Passes

-- behind a failure its code is the answer
abbrev pub mended : Cause → Turn
mended causes.Asked = turns.Ends fine
mended (causes.After code) = turns.Ends code

abbrev pub mend_answered : Mend → Mending → Reply → Turn
mend_answered m (at.Takes s) (tell.Volume (volumes.TransCreate t)) = mends m (at.Points s t)
mend_answered m (at.Points s t) (tell.Volume volumes.SetForwarding) = mends m (at.Deletes s t)
mend_answered m (at.Deletes s t) (tell.Volume volumes.DeleteVolume) = mends_on m
mend_answered m (at.Drops spot) (tell.Volume (volumes.TransCreate t)) = mends m (at.Dropped spot t)
mend_answered m (at.Dropped spot t) (tell.Volume volumes.DeleteVolume) = mends_on m
mend_answered m at.Begins (tell.Volume (volumes.TransCreate t)) = mends m (at.Opens t)
mend_answered m (at.Opens t) (tell.Volume volumes.SetFlags) = mends m (at.Ends t)
mend_answered m (at.Ends t) (tell.Volume volumes.EndTrans) = mends m at.Frees
mend_answered m at.Frees (tell.Location entries.ReleaseLock) = mended m.cause
mend_answered m step reply = turns.Passes
