-- A further site of the read-only volume; a backup; a dump.
use Rattle.std.specs.Prelude.{ℕ, ◌+◌, ◌^◌, List, ◌++◌, Bool, nat_eq, nat_lt, length, if◌then◌else◌}
use Rattle.afs_num.specs.declared.location_calls.LocCall.TheVariants as loc
use Rattle.afs_num.specs.declared.location_calls.LocReply.TheVariants as entries
use Rattle.afs_num.specs.declared.messages.Reply.{Reply}
use Rattle.afs_num.specs.declared.messages.Reply.TheVariants as tell
use Rattle.afs_num.specs.declared.volume_calls.VolCall.TheVariants as vol
use Rattle.afs_num.specs.declared.volume_calls.VolReply.TheVariants as volumes
use Rattle.spec_rows.specs.Going.{backup_end}
use Rattle.spec_adminrows.specs.Entries.{entry_added, entry_backed, has_read_only_at}
use Rattle.spec_adminrows.specs.Asks.{at_home, backup, busy_flag, family, held_at_loc}
use Rattle.spec_adminrows.specs.Turns.{fine, frees, same_place}
use Rattle.spec_adminrows.specs.declared.places.Backing.{Backing}
use Rattle.spec_adminrows.specs.declared.places.Backing.TheVariants as at
use Rattle.spec_adminrows.specs.declared.places.Dumping.{Dumping}
use Rattle.spec_adminrows.specs.declared.places.Dumping.TheVariants as dumping
use Rattle.spec_adminrows.specs.declared.places.Hold.{Hold}
use Rattle.spec_adminrows.specs.declared.places.Place.TheVariants as places
use Rattle.spec_adminrows.specs.declared.places.Saving.{Saving}
use Rattle.spec_adminrows.specs.declared.turns.Ask.{Ask}
use Rattle.spec_adminrows.specs.declared.turns.Turn.{Turn}
use Rattle.spec_adminrows.specs.declared.turns.Turn.TheVariants as turns

-- ---- a site

abbrev pub add_asks : Hold → ℕ → Ask
add_asks h server = held_at_loc h (loc.ReplaceEntry (family h) (entry_added server h.entry))

-- where the read-only volume has that site already, nothing is written
abbrev pub adds : Hold → ℕ → Turn
adds h server = if has_read_only_at server h.entry then frees h same_place else turns.Goes (places.Adds h server)

abbrev pub add_answered : Hold → Reply → Turn
add_answered h (tell.Location entries.ReplaceEntry) = frees h fine
add_answered h r = turns.Passes

-- ---- a backup

abbrev pub backup_asks : List ℕ → Hold → Backing → Ask
backup_asks name h at.Stamps = at_home h (vol.ListVols (family h))
backup_asks name h at.Begins = at_home h (vol.TransCreate (family h) (family h) busy_flag)
backup_asks name h (at.Numbers t) = held_at_loc h loc.GetNewVolumeId
backup_asks name h (at.Clones t id) = at_home h (vol.Clone (family h) t id (name ++ backup_end) backup)
backup_asks name h (at.Renews t id) = at_home h (vol.ReClone (family h) t id)
backup_asks name h (at.Ends t id) = at_home h (vol.EndTrans (family h) t)
backup_asks name h (at.Writes id) = held_at_loc h (loc.ReplaceEntry (family h) (entry_backed id h.entry))

abbrev pub backs : Hold → Backing → Turn
backs h step = turns.Goes (places.Backs h step)

-- the one that is there is made anew
abbrev pub clones_or_renews : Hold → ℕ → ℕ → Turn
clones_or_renews h t id = if nat_eq id 0 then backs h (at.Numbers t) else backs h (at.Renews t id)

abbrev pub backup_answered : Hold → Backing → Reply → Turn
backup_answered h at.Stamps (tell.Volume (volumes.ListVols ls)) = backs h at.Begins
backup_answered h at.Begins (tell.Volume (volumes.TransCreate t)) = clones_or_renews h t h.entry.backup
backup_answered h (at.Numbers t) (tell.Location (entries.GetNewVolumeId id)) = backs h (at.Clones t id)
backup_answered h (at.Clones t id) (tell.Volume (volumes.Clone counter release)) = backs h (at.Ends t id)
backup_answered h (at.Renews t id) (tell.Volume (volumes.ReClone counter release)) = backs h (at.Ends t id)
backup_answered h (at.Ends t id) (tell.Volume volumes.EndTrans) = backs h (at.Writes id)
backup_answered h (at.Writes id) (tell.Location entries.ReplaceEntry) = frees h fine
backup_answered h step r = turns.Passes

-- ---- a dump

abbrev pub dump_asks : Saving → Dumping → Ask
dump_asks s dumping.Stamps = at_home s.hold (vol.ListVols (family s.hold))
dump_asks s dumping.Begins = at_home s.hold (vol.TransCreate (family s.hold) (family s.hold) busy_flag)
dump_asks s (dumping.Reads t) = at_home s.hold (vol.Dump (family s.hold) t s.from (length s.bytes))
dump_asks s (dumping.Ends t) = at_home s.hold (vol.EndTrans (family s.hold) t)

abbrev pub dumps : Saving → Dumping → Turn
dumps s step = turns.Goes (places.Dumps s step)

-- behind the last piece it is held
abbrev pub dumps_on : Saving → ℕ → ℕ → Turn
dumps_on s t last = if nat_eq last 0 then dumps s (dumping.Reads t) else turns.Keeps s.label s.bytes (places.Dumps s (dumping.Ends t))

-- A piece with which it would have 2^32 bytes or more is none to the call: the next offset would be no word. No volume has so much.
abbrev pub has_offset : Saving → List ℕ → Bool
has_offset s piece = nat_lt (length s.bytes + length piece) (2 ^ 32)

abbrev pub dump_answered : Saving → Dumping → Reply → Turn
dump_answered s dumping.Stamps (tell.Volume (volumes.ListVols ls)) = dumps s dumping.Begins
dump_answered s dumping.Begins (tell.Volume (volumes.TransCreate t)) = dumps s (dumping.Reads t)
dump_answered s (dumping.Reads t) (tell.Volume (volumes.Dump last piece)) = if has_offset s piece then dumps_on (record s { bytes = s.bytes ++ piece }) t last else turns.Passes
dump_answered s (dumping.Ends t) (tell.Volume volumes.EndTrans) = frees s.hold fine
dump_answered s step r = turns.Passes
