-- A new volume, empty or from a dump.
use Rattle.std.specs.Prelude.{ℕ, ◌+◌, List, [], Option, Some, None, if◌then◌else◌}
use Rattle.afs_num.specs.declared.location_calls.LocCall.TheVariants as loc
use Rattle.afs_num.specs.declared.location_calls.LocReply.TheVariants as entries
use Rattle.afs_num.specs.declared.messages.Reply.{Reply}
use Rattle.afs_num.specs.declared.messages.Reply.TheVariants as tell
use Rattle.afs_num.specs.declared.types.Code.{Code}
use Rattle.afs_num.specs.declared.volume_calls.VolCall.TheVariants as vol
use Rattle.afs_num.specs.declared.volume_calls.VolReply.TheVariants as volumes
use Rattle.spec_dumps.specs.Streams.{is_last_at, piece_at}
use Rattle.spec_volrows.specs.VolRow.{last_word, most_piece}
use Rattle.spec_adminrows.specs.Entries.{new_entry}
use Rattle.spec_adminrows.specs.Asks.{at_loc, at_server, closed, offline, read_write, unfilled}
use Rattle.spec_adminrows.specs.Turns.{fails, fine, is_dead, is_unlisted}
use Rattle.spec_adminrows.specs.declared.places.Creating.{Creating}
use Rattle.spec_adminrows.specs.declared.places.Creating.TheVariants as at
use Rattle.spec_adminrows.specs.declared.places.Fresh.{Fresh}
use Rattle.spec_adminrows.specs.declared.places.Place.TheVariants as places
use Rattle.spec_adminrows.specs.declared.turns.Ask.{Ask}
use Rattle.spec_adminrows.specs.declared.turns.Turn.{Turn}
use Rattle.spec_adminrows.specs.declared.turns.Turn.TheVariants as turns

abbrev pub bytes_or_none : Option (List ℕ) → List ℕ
bytes_or_none None = []
bytes_or_none (Some bytes) = bytes

-- the dump that it is made from
abbrev pub dump_in : Fresh → List ℕ
dump_in f = bytes_or_none f.dump

-- The entry has no lock before it is there, so the calls before that have stamp 0.
abbrev pub create_asks : List ℕ → Fresh → Creating → Ask
create_asks name f at.Numbers = at_loc 0 loc.GetNewVolumeId
create_asks name f (at.Makes v) = at_server 0 f.server (vol.CreateVolume v v name read_write unfilled f.quota)
create_asks name f (at.Fills v t offset) = at_server 0 f.server (vol.Restore v t offset (last_word offset (dump_in f)) (piece_at most_piece offset (dump_in f)))
create_asks name f (at.Closes v t) = at_server 0 f.server (vol.SetFlags v t closed)
create_asks name f (at.Ends v t) = at_server 0 f.server (vol.EndTrans v t)
create_asks name f (at.Enters v) = at_loc 0 (loc.CreateEntry (new_entry name v f.server))
create_asks name f (at.Checks v code) = at_loc 0 (loc.GetEntryById v)
create_asks name f (at.Scraps v code) = at_server 0 f.server (vol.TransCreate v v offline)
create_asks name f (at.Scrapped v code t) = at_server 0 f.server (vol.DeleteVolume v t)
create_asks name f (at.Begins v stamp) = at_server stamp f.server (vol.TransCreate v v offline)
create_asks name f (at.Opens v stamp t) = at_server stamp f.server (vol.SetFlags v t 0)
create_asks name f (at.Opened v stamp t) = at_server stamp f.server (vol.EndTrans v t)
create_asks name f (at.Frees v stamp) = at_loc stamp (loc.ReleaseLock v)

abbrev pub creates : Fresh → Creating → Turn
creates f step = turns.Goes (places.Creates f step)

-- it is filled, where it is made from a dump
abbrev pub fills_or_closes : Fresh → ℕ → ℕ → Option (List ℕ) → Turn
fills_or_closes f v t None = creates f (at.Closes v t)
fills_or_closes f v t (Some bytes) = creates f (at.Fills v t 0)

abbrev pub fills_on : Fresh → ℕ → ℕ → ℕ → Turn
fills_on f v t offset = if is_last_at most_piece offset (dump_in f) then creates f (at.Closes v t) else creates f (at.Fills v t (offset + most_piece))

abbrev pub create_answered : Fresh → Creating → Reply → Turn
create_answered f at.Numbers (tell.Location (entries.GetNewVolumeId v)) = creates f (at.Makes v)
create_answered f (at.Makes v) (tell.Volume (volumes.CreateVolume t)) = fills_or_closes f v t f.dump
create_answered f (at.Fills v t offset) (tell.Volume volumes.Restore) = fills_on f v t offset
create_answered f (at.Closes v t) (tell.Volume volumes.SetFlags) = creates f (at.Ends v t)
create_answered f (at.Ends v t) (tell.Volume volumes.EndTrans) = creates f (at.Enters v)
create_answered f (at.Enters v) (tell.Location (entries.CreateEntry stamp)) = creates f (at.Begins v stamp)
create_answered f (at.Checks v code) (tell.Location (entries.GetEntryById n)) = turns.Ends code
create_answered f (at.Scraps v code) (tell.Volume (volumes.TransCreate t)) = creates f (at.Scrapped v code t)
create_answered f (at.Scrapped v code t) (tell.Volume volumes.DeleteVolume) = turns.Ends code
create_answered f (at.Begins v stamp) (tell.Volume (volumes.TransCreate t)) = creates f (at.Opens v stamp t)
create_answered f (at.Opens v stamp t) (tell.Volume volumes.SetFlags) = creates f (at.Opened v stamp t)
create_answered f (at.Opened v stamp t) (tell.Volume volumes.EndTrans) = creates f (at.Frees v stamp)
create_answered f (at.Frees v stamp) (tell.Location entries.ReleaseLock) = turns.Ends fine
create_answered f step r = turns.Passes

-- Its entry was refused. A call that was given up may still be served, so nothing more is done. Behind a refusal it is asked whether the
-- entry is there all the same. The call may have been sent twice, and the database keeps no refusal over a restart: it may have refused the
-- one and served the other. The answer is the refusal.
abbrev pub enters_not : Fresh → ℕ → Code → Turn
enters_not f v code = if is_dead code then turns.Ends code else creates f (at.Checks v code)

abbrev pub scraps_by : Fresh → ℕ → Code → Code → Turn
scraps_by f v first code = if is_unlisted code then creates f (at.Scraps v first) else turns.Ends first

-- Before the entry a refusal is the answer: what is left of the volume is out of service. Behind it a recovery follows.
abbrev pub create_refused : Fresh → Creating → Code → Turn
create_refused f (at.Enters v) code = enters_not f v code
create_refused f (at.Checks v first) code = scraps_by f v first code
create_refused f (at.Scraps v first) code = turns.Ends first
create_refused f (at.Scrapped v first t) code = turns.Ends first
create_refused f (at.Begins v stamp) code = fails None code
create_refused f (at.Opens v stamp t) code = fails None code
create_refused f (at.Opened v stamp t) code = fails None code
create_refused f (at.Frees v stamp) code = fails None code
create_refused f step code = turns.Ends code
