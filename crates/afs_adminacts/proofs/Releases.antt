-- Releases: what is asked can be spelled, and an answer leads to what fits.
use Rattle.std.proofs.Common.{◌≡◌, ◌≤◌, ℕ, ◌+◌, ◌++◌, Bool, true, false, cond, List, [], ◌∷◌, length, map, filter, Option, Some, None, nat_eq, refl, arith, length-append}
use Rattle.std.specs.List.{AllByRecursion, list_any}
use Rattle.spec_history.specs.declared.scripts.AdminAct.{AdminAct}
use Rattle.afs_num.specs.declared.location_calls.LocReply.TheVariants as entries
use Rattle.afs_num.specs.declared.location_calls.LocSite.{LocSite}
use Rattle.afs_num.specs.declared.messages.Reply.{Reply}
use Rattle.afs_num.specs.declared.messages.Reply.TheVariants as tell
use Rattle.afs_num.specs.declared.types.Code.{Code}
use Rattle.afs_num.specs.declared.volume_calls.VolReply.TheVariants as volumes
use Rattle.spec_rows.specs.Going.{readonly_end}
use Rattle.spec_shape.specs.Items.{volume_name_limit}
use Rattle.spec_shape.specs.Tables.{IsServer, IsSite}
use Rattle.spec_adminrows.specs.Entries.{is_read_only_site}
use Rattle.spec_adminrows.specs.Releasing.{goes_to, is_listed, numbers_clone, release_answered, release_asks, server_of, site_fails, site_fails_open, skips, takes_or_makes, tour_answered, tour_asks, tour_refused, visit_answered, visit_asks, visit_refused}
use Rattle.spec_adminrows.specs.Turns.{is_superseded}
use Rattle.spec_adminrows.specs.declared.places.Hold.{Hold}
use Rattle.spec_adminrows.specs.declared.places.Releasing.{Releasing}
use Rattle.spec_adminrows.specs.declared.places.Releasing.TheVariants as releasing
use Rattle.spec_adminrows.specs.declared.places.Tour.{Tour}
use Rattle.spec_adminrows.specs.declared.places.Touring.{Touring}
use Rattle.spec_adminrows.specs.declared.places.Touring.TheVariants as touring
use Rattle.spec_adminrows.specs.declared.places.Visiting.{Visiting}
use Rattle.spec_adminrows.specs.declared.places.Visiting.TheVariants as at
use Rattle.afs_adminparts.specs.Fitting.{AreServers, FitsHold, FitsTour, FitsTurn, IsSpelledAsk, NamesCopies, most_named}
use Rattle.afs_adminparts.proofs.Kept.{either_fits}
use Rattle.afs_adminparts.proofs.Spelled.{home_node, name_counted, released_is_entry, server_node}

-- ---- what is asked

pub release_spelled : (h : Hold) (step : Releasing) → FitsHold h → IsSpelledAsk (release_asks h step)
release_spelled h releasing.Stamps fits = record { callee = home_node h fits; call = (tt, tt) }
release_spelled h releasing.Numbers fits = record { callee = refl; call = tt }
release_spelled h (releasing.NumbersClone read_only) fits = record { callee = refl; call = tt }

short_name : (name : List ℕ) → length name ≤ most_named → length name ≤ volume_name_limit
short_name name few = omega (arith, few)

pub tour_spelled : (name : List ℕ) (r : Tour) (step : Touring) → length name ≤ most_named → FitsTour r → IsSpelledAsk (tour_asks name r step)
tour_spelled name r touring.Begins few fits = record { callee = home_node r.hold fits.hold; call = (tt, (tt, (tt, tt))) }
tour_spelled name r (touring.Clones t) few fits = record { callee = home_node r.hold fits.hold; call = (tt, (tt, (tt, (name_counted name (short_name name few), (omega arith, tt))))) }
tour_spelled name r (touring.Cloned t) few fits = record { callee = home_node r.hold fits.hold; call = (tt, (tt, tt)) }
tour_spelled name r touring.Drops few fits = record { callee = home_node r.hold fits.hold; call = (tt, (tt, (tt, tt))) }
tour_spelled name r (touring.Dropped t) few fits = record { callee = home_node r.hold fits.hold; call = (tt, (tt, tt)) }
tour_spelled name r touring.Writes few fits = record { callee = refl; call = (tt, (released_is_entry r.read_only r.reached r.hold.entry fits.hold.entry, tt)) }

-- the name of a read-only volume
named_short : (name : List ℕ) → length name ≤ most_named → length (name ++ readonly_end) ≤ volume_name_limit
named_short name few = omega (arith, few, length-append name readonly_end)

pub visit_spelled : (name : List ℕ) (r : Tour) (s : ℕ) (step : Visiting) → length name ≤ most_named → FitsTour r → IsServer s → IsSpelledAsk (visit_asks name r s step)
visit_spelled name r s at.Stamps few fits site = record { callee = server_node s site; call = (tt, tt) }
visit_spelled name r s at.Takes few fits site = record { callee = server_node s site; call = (tt, (tt, (tt, tt))) }
visit_spelled name r s at.Makes few fits site = record { callee = server_node s site; call = (tt, (tt, (name_counted (name ++ readonly_end) (named_short name few), (omega arith, (tt, (tt, tt)))))) }
visit_spelled name r s (at.Opens t) few fits site = record { callee = home_node r.hold fits.hold; call = (tt, (tt, (tt, tt))) }
visit_spelled name r s (at.Sends t x) few fits site = record { callee = home_node r.hold fits.hold; call = (tt, (tt, (tt, (site, (tt, tt))))) }
visit_spelled name r s (at.Closes t x) few fits site = record { callee = home_node r.hold fits.hold; call = (tt, (tt, tt)) }
visit_spelled name r s (at.Sets t) few fits site = record { callee = server_node s site; call = (tt, (tt, (tt, tt))) }
visit_spelled name r s (at.Ends t) few fits site = record { callee = server_node s site; call = (tt, (tt, tt)) }
visit_spelled name r s (at.Leaves code x) few fits site = record { callee = home_node r.hold fits.hold; call = (tt, (tt, tt)) }

-- ---- where a reply leads

site_kept : (b : Bool) (s : LocSite) (more : List LocSite) → IsSite s → AreServers (map server_of more) → AreServers (map server_of (cond b (s ∷ more) more))
site_kept true s more first rest = (first, rest)
site_kept false s more first rest = rest

sites_kept : (sites : List LocSite) → AllByRecursion IsSite sites → AreServers (map server_of (filter is_read_only_site sites))
sites_kept [] all = tt
sites_kept (s ∷ sites) all = site_kept (is_read_only_site s) s (filter is_read_only_site sites) all.0 (sites_kept sites all.1)

numbers_kept : (act : AdminAct) (h : Hold) (read_only : ℕ) → NamesCopies act → FitsHold h → FitsTurn act (numbers_clone h read_only)
numbers_kept act h read_only few fits = either_fits act (nat_eq read_only 0) _ _ (few, fits) (few, fits)

pub release_kept : (act : AdminAct) (h : Hold) (step : Releasing) (reply : Reply) → NamesCopies act → FitsHold h → FitsTurn act (release_answered h step reply)
release_kept act h releasing.Stamps (tell.Volume (volumes.ListVols listed)) few fits = numbers_kept act h h.entry.read_only few fits
release_kept act h releasing.Numbers (tell.Location (entries.GetNewVolumeId read_only)) few fits = (few, fits)
release_kept act h (releasing.NumbersClone read_only) (tell.Location (entries.GetNewVolumeId x)) few fits = (few, record { hold = fits; left = sites_kept h.entry.sites fits.entry.sites })
release_kept act h step reply few fits = tt

-- the next site, of a tour that has these left
goes_kept : (act : AdminAct) (r : Tour) (left : List ℕ) → NamesCopies act → FitsHold r.hold → AreServers left → AreServers r.left → FitsTurn act (goes_to r left)
goes_kept act r [] few hold all mine = (few, record { hold = hold; left = mine })
goes_kept act r (s ∷ left) few hold all mine = (few, record { hold = hold; left = all.1 }, all.0)

pub tour_kept : (act : AdminAct) (r : Tour) (step : Touring) (reply : Reply) → NamesCopies act → FitsTour r → FitsTurn act (tour_answered r step reply)
tour_kept act r touring.Begins (tell.Volume (volumes.TransCreate t)) few fits = (few, fits)
tour_kept act r (touring.Clones t) (tell.Volume (volumes.Clone counter release)) few fits = (few, fits)
tour_kept act r (touring.Cloned t) (tell.Volume volumes.EndTrans) few fits = goes_kept act r r.left few fits.hold fits.left fits.left
tour_kept act r touring.Drops (tell.Volume (volumes.TransCreate t)) few fits = (few, fits)
tour_kept act r (touring.Dropped t) (tell.Volume volumes.DeleteVolume) few fits = (few, fits)
tour_kept act r touring.Writes (tell.Location entries.ReplaceEntry) few fits = tt
tour_kept act r step reply few fits = tt

skips_kept : (act : AdminAct) (r : Tour) (code : Code) → NamesCopies act → FitsTour r → FitsTurn act (skips r code)
skips_kept act r code few fits = goes_kept act _ r.left few fits.hold fits.left fits.left

pub visit_kept : (act : AdminAct) (r : Tour) (s : ℕ) (step : Visiting) (reply : Reply) → NamesCopies act → FitsTour r → IsServer s → FitsTurn act (visit_answered r s step reply)
visit_kept act r s at.Stamps (tell.Volume (volumes.ListVols listed)) few fits site = either_fits act (list_any (is_listed r.read_only) listed) _ _ (few, fits, site) (few, fits, site)
visit_kept act r s at.Takes (tell.Volume (volumes.TransCreate t)) few fits site = (few, fits, site)
visit_kept act r s at.Makes (tell.Volume (volumes.CreateVolume t)) few fits site = (few, fits, site)
visit_kept act r s (at.Opens t) (tell.Volume (volumes.TransCreate x)) few fits site = (few, fits, site)
visit_kept act r s (at.Sends t x) (tell.Volume volumes.Forward) few fits site = (few, fits, site)
visit_kept act r s (at.Closes t x) (tell.Volume volumes.EndTrans) few fits site = (few, fits, site)
visit_kept act r s (at.Sets t) (tell.Volume volumes.SetFlags) few fits site = (few, fits, site)
visit_kept act r s (at.Ends t) (tell.Volume volumes.EndTrans) few fits site = goes_kept act _ r.left few fits.hold fits.left fits.left
visit_kept act r s (at.Leaves code x) (tell.Volume volumes.EndTrans) few fits site = skips_kept act r code few fits
visit_kept act r s step reply few fits site = tt

-- ---- where a refusal leads

pub tour_refusal_kept : (act : AdminAct) (r : Tour) (code : Code) → FitsTurn act (tour_refused r code)
tour_refusal_kept act r code = either_fits act (is_superseded code) _ _ tt tt

fails_kept : (act : AdminAct) (r : Tour) (code late : Code) → NamesCopies act → FitsTour r → FitsTurn act (site_fails r code late)
fails_kept act r code late few fits = either_fits act (is_superseded late) _ _ tt (skips_kept act r code few fits)

pub visit_refusal_kept : (act : AdminAct) (r : Tour) (s : ℕ) (step : Visiting) (code : Code) → NamesCopies act → FitsTour r → IsServer s → FitsTurn act (visit_refused r s step code)
visit_refusal_kept act r s (at.Sends t x) code few fits site = either_fits act (is_superseded code) _ _ tt (few, fits, site)
visit_refusal_kept act r s (at.Leaves first x) code few fits site = fails_kept act r first code few fits
visit_refusal_kept act r s step code few fits site = fails_kept act r code code few fits
