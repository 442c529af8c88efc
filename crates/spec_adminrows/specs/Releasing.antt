-- A release: a clone of the volume goes to each site of the read-only volume.
use Rattle.std.specs.Prelude.{ℕ, List, [], ◌∷◌, ◌++◌, Bool, Some, None, nat_eq, map, filter, if◌then◌else◌}
use Rattle.std.specs.List.{list_any}
use Rattle.afs_num.specs.declared.location_calls.LocCall.TheVariants as loc
use Rattle.afs_num.specs.declared.location_calls.LocReply.TheVariants as entries
use Rattle.afs_num.specs.declared.location_calls.LocSite.{LocSite}
use Rattle.afs_num.specs.declared.messages.Reply.{Reply}
use Rattle.afs_num.specs.declared.messages.Reply.TheVariants as tell
use Rattle.afs_num.specs.declared.types.Code.{Code}
use Rattle.afs_num.specs.declared.volume_calls.ListedVolume.{ListedVolume}
use Rattle.afs_num.specs.declared.volume_calls.VolCall.TheVariants as vol
use Rattle.afs_num.specs.declared.volume_calls.VolReply.TheVariants as volumes
use Rattle.spec_rows.specs.Going.{readonly_end}
use Rattle.spec_adminrows.specs.Entries.{entry_released, is_read_only_site}
use Rattle.spec_adminrows.specs.Asks.{at_home, busy_flag, family, held_at, held_at_loc, offline, read_only, unfilled}
use Rattle.spec_adminrows.specs.Turns.{code_or, fails, fine, is_superseded}
use Rattle.spec_adminrows.specs.declared.places.Hold.{Hold}
use Rattle.spec_adminrows.specs.declared.places.Place.TheVariants as places
use Rattle.spec_adminrows.specs.declared.places.Releasing.{Releasing}
use Rattle.spec_adminrows.specs.declared.places.Releasing.TheVariants as releasing
use Rattle.spec_adminrows.specs.declared.places.Tour.{Tour}
use Rattle.spec_adminrows.specs.declared.places.Touring.{Touring}
use Rattle.spec_adminrows.specs.declared.places.Touring.TheVariants as touring
use Rattle.spec_adminrows.specs.declared.places.Visiting.{Visiting}
use Rattle.spec_adminrows.specs.declared.places.Visiting.TheVariants as at
use Rattle.spec_adminrows.specs.declared.turns.Ask.{Ask}
use Rattle.spec_adminrows.specs.declared.turns.Turn.{Turn}
use Rattle.spec_adminrows.specs.declared.turns.Turn.TheVariants as turns

-- ---- what it asks

abbrev pub release_asks : Hold → Releasing → Ask
release_asks h releasing.Stamps = at_home h (vol.ListVols (family h))
release_asks h releasing.Numbers = held_at_loc h loc.GetNewVolumeId
release_asks h (releasing.NumbersClone ro) = held_at_loc h loc.GetNewVolumeId

abbrev pub tour_asks : List ℕ → Tour → Touring → Ask
tour_asks name r touring.Begins = at_home r.hold (vol.TransCreate (family r.hold) (family r.hold) busy_flag)
tour_asks name r (touring.Clones t) = at_home r.hold (vol.Clone (family r.hold) t r.clone name read_only)
tour_asks name r (touring.Cloned t) = at_home r.hold (vol.EndTrans (family r.hold) t)
tour_asks name r touring.Drops = at_home r.hold (vol.TransCreate (family r.hold) r.clone offline)
tour_asks name r (touring.Dropped t) = at_home r.hold (vol.DeleteVolume (family r.hold) t)
tour_asks name r touring.Writes = held_at_loc r.hold (loc.ReplaceEntry (family r.hold) (entry_released r.read_only r.reached r.hold.entry))

-- at site `s`
abbrev pub visit_asks : List ℕ → Tour → ℕ → Visiting → Ask
visit_asks name r s at.Stamps = held_at r.hold s (vol.ListVols (family r.hold))
visit_asks name r s at.Takes = held_at r.hold s (vol.TransCreate (family r.hold) r.read_only offline)
visit_asks name r s at.Makes = held_at r.hold s (vol.CreateVolume (family r.hold) r.read_only (name ++ readonly_end) read_only unfilled 1)
visit_asks name r s (at.Opens t) = at_home r.hold (vol.TransCreate (family r.hold) r.clone busy_flag)
visit_asks name r s (at.Sends t x) = at_home r.hold (vol.Forward (family r.hold) x 0 s t)
visit_asks name r s (at.Closes t x) = at_home r.hold (vol.EndTrans (family r.hold) x)
visit_asks name r s (at.Sets t) = held_at r.hold s (vol.SetFlags (family r.hold) t 0)
visit_asks name r s (at.Ends t) = held_at r.hold s (vol.EndTrans (family r.hold) t)
visit_asks name r s (at.Leaves code x) = at_home r.hold (vol.EndTrans (family r.hold) x)

-- ---- where replies lead

abbrev pub releases : Hold → Releasing → Turn
releases h step = turns.Goes (places.Releases h step)

abbrev pub tours : Tour → Touring → Turn
tours r step = turns.Goes (places.Tours r step)

abbrev pub visits : Tour → ℕ → Visiting → Turn
visits r s step = turns.Goes (places.Visits r s step)

-- the servers of its read-only sites, in the entry's order
abbrev pub server_of : LocSite → ℕ
server_of s = s.server

abbrev pub sites_of : Hold → List ℕ
sites_of h = map server_of (filter is_read_only_site h.entry.sites)

abbrev pub tour_of : Hold → ℕ → ℕ → Tour
tour_of h ro x = record { hold = h; read_only = ro; clone = x; first = None; reached = []; left = sites_of h }

-- the entry may have a number for the read-only volume already
abbrev pub numbers_clone : Hold → ℕ → Turn
numbers_clone h ro = if nat_eq ro 0 then releases h releasing.Numbers else releases h (releasing.NumbersClone ro)

abbrev pub release_answered : Hold → Releasing → Reply → Turn
release_answered h releasing.Stamps (tell.Volume (volumes.ListVols ls)) = numbers_clone h h.entry.read_only
release_answered h releasing.Numbers (tell.Location (entries.GetNewVolumeId ro)) = releases h (releasing.NumbersClone ro)
release_answered h (releasing.NumbersClone ro) (tell.Location (entries.GetNewVolumeId x)) = tours (tour_of h ro x) touring.Begins
release_answered h step r = turns.Passes

-- the next site, or the end of the tour
abbrev pub goes_to : Tour → List ℕ → Turn
goes_to r [] = tours r touring.Drops
goes_to r (s ∷ left) = visits (record r { left = left }) s at.Stamps

abbrev pub tours_on : Tour → Turn
tours_on r = goes_to r r.left

-- the answer is the first code with which a site was skipped
abbrev pub releases_lock : Tour → Turn
releases_lock r = turns.Goes (places.Frees r.hold (code_or fine r.first) r.first)

abbrev pub tour_answered : Tour → Touring → Reply → Turn
tour_answered r touring.Begins (tell.Volume (volumes.TransCreate t)) = tours r (touring.Clones t)
tour_answered r (touring.Clones t) (tell.Volume (volumes.Clone counter release)) = tours r (touring.Cloned t)
tour_answered r (touring.Cloned t) (tell.Volume volumes.EndTrans) = tours_on r
tour_answered r touring.Drops (tell.Volume (volumes.TransCreate t)) = tours r (touring.Dropped t)
tour_answered r (touring.Dropped t) (tell.Volume volumes.DeleteVolume) = tours r touring.Writes
tour_answered r touring.Writes (tell.Location entries.ReplaceEntry) = releases_lock r
tour_answered r step reply = turns.Passes

abbrev pub reaches : Tour → ℕ → Turn
reaches r s = tours_on (record r { reached = r.reached ++ s ∷ [] })

abbrev pub skips : Tour → Code → Turn
skips r code = tours_on (record r { first = Some (code_or code r.first) })

abbrev pub is_listed : ℕ → ListedVolume → Bool
is_listed id l = nat_eq l.volume id

abbrev pub takes_or_makes : Tour → ℕ → List ListedVolume → Turn
takes_or_makes r s ls = if list_any (is_listed r.read_only) ls then visits r s at.Takes else visits r s at.Makes

abbrev pub visit_answered : Tour → ℕ → Visiting → Reply → Turn
visit_answered r s at.Stamps (tell.Volume (volumes.ListVols ls)) = takes_or_makes r s ls
visit_answered r s at.Takes (tell.Volume (volumes.TransCreate t)) = visits r s (at.Opens t)
visit_answered r s at.Makes (tell.Volume (volumes.CreateVolume t)) = visits r s (at.Opens t)
visit_answered r s (at.Opens t) (tell.Volume (volumes.TransCreate x)) = visits r s (at.Sends t x)
visit_answered r s (at.Sends t x) (tell.Volume volumes.Forward) = visits r s (at.Closes t x)
visit_answered r s (at.Closes t x) (tell.Volume volumes.EndTrans) = visits r s (at.Sets t)
visit_answered r s (at.Sets t) (tell.Volume volumes.SetFlags) = visits r s (at.Ends t)
visit_answered r s (at.Ends t) (tell.Volume volumes.EndTrans) = reaches r s
visit_answered r s (at.Leaves code x) (tell.Volume volumes.EndTrans) = skips r code
visit_answered r s step reply = turns.Passes

-- ---- where refusals lead

-- Before the first site and behind the last one a recovery follows. The answer is the code with which a site was skipped first, or else this
-- one.
abbrev pub tour_refused : Tour → Code → Turn
tour_refused r code = fails r.first code

-- A refusal skips the rest of the site. A transaction of the clone that stands open is ended first; that this fails isn't looked at, but
-- where another has the entry.
abbrev pub site_fails : Tour → Code → Code → Turn
site_fails r code late = if is_superseded late then turns.Ends late else skips r code

abbrev pub site_fails_open : Tour → ℕ → ℕ → Code → Turn
site_fails_open r s x code = if is_superseded code then turns.Ends code else visits r s (at.Leaves code x)

abbrev pub visit_refused : Tour → ℕ → Visiting → Code → Turn
visit_refused r s (at.Sends t x) code = site_fails_open r s x code
visit_refused r s (at.Leaves first x) code = site_fails r first code
visit_refused r s step code = site_fails r code code
