-- Recoveries: what is asked can be spelled, and a reply leads to what fits.
use Rattle.std.proofs.Common.{◌≡◌, ◌≤◌, ℕ, zero, suc, Bool, true, false, cond, List, [], ◌∷◌, map, filter, Option, Some, None, refl}
use Rattle.std.specs.List.{AllByRecursion}
use Rattle.spec_history.specs.declared.scripts.AdminAct.{AdminAct}
use Rattle.spec_model.specs.CellRows.{cell_replies}
use Rattle.afs_num.specs.declared.location_calls.LocEntry.{LocEntry}
use Rattle.afs_num.specs.declared.location_calls.LocReply.TheVariants as entries
use Rattle.afs_num.specs.declared.messages.Reply.{Reply}
use Rattle.afs_num.specs.declared.messages.Reply.TheVariants as tell
use Rattle.afs_num.specs.declared.volume_calls.VolReply.TheVariants as volumes
use Rattle.spec_shape.specs.Rows.{IsWithin}
use Rattle.spec_shape.specs.Tables.{IsEntry, IsServer}
use Rattle.spec_adminrows.specs.Asks.{all_servers, family}
use Rattle.spec_adminrows.specs.Entries.{home_in, is_usable}
use Rattle.spec_adminrows.specs.Recovering.{drops_others, entry_answered, entry_asks, has_copy, mend_answered, mend_asks, mend_of, mended, mends_on, must_go, opens_or_frees, takes_copies}
use Rattle.spec_adminrows.specs.Turns.{is_superseded}
use Rattle.spec_adminrows.specs.declared.places.Cause.{Cause}
use Rattle.spec_adminrows.specs.declared.places.Cause.TheVariants as causes
use Rattle.spec_adminrows.specs.declared.places.Hold.{Hold}
use Rattle.spec_adminrows.specs.declared.places.Mend.{Mend}
use Rattle.spec_adminrows.specs.declared.places.Mending.{Mending}
use Rattle.spec_adminrows.specs.declared.places.Mending.TheVariants as at
use Rattle.spec_adminrows.specs.declared.places.Seen.{Seen}
use Rattle.spec_adminrows.specs.declared.places.Spot.{Spot}
use Rattle.spec_adminrows.specs.declared.turns.Errand.{Errand}
use Rattle.afs_adminparts.specs.Fitting.{AreServers, FitAllSeen, FitSpots, FitsHold, FitsMend, FitsMending, FitsTurn, IsSpelledAsk}
use Rattle.afs_adminparts.proofs.Kept.{either_fits, guarded_fits, usable_home}
use Rattle.afs_adminvolumes.proofs.Removes.{spots_fit}
use Rattle.afs_adminparts.proofs.Spelled.{server_node}
use Rattle.afs_adminparts.proofs.Surveys.{cell_servers}

-- ---- what is asked

pub entry_spelled : (h : Hold) → IsSpelledAsk (entry_asks h)
entry_spelled h = record { callee = refl; call = (tt, tt) }

pub mend_spelled : (m : Mend) (step : Mending) → FitsMend m → FitsMending step → IsSpelledAsk (mend_asks m step)
mend_spelled m (at.Takes s) fits at_server = record { callee = server_node s at_server; call = (tt, (tt, (tt, tt))) }
mend_spelled m (at.Points s t) fits at_server = record { callee = server_node s at_server; call = (tt, (tt, (fits.named, tt))) }
mend_spelled m (at.Deletes s t) fits at_server = record { callee = server_node s at_server; call = (tt, (tt, tt)) }
mend_spelled m (at.Drops spot) fits at_server = record { callee = server_node spot.server at_server; call = (tt, (tt, (tt, tt))) }
mend_spelled m (at.Dropped spot t) fits at_server = record { callee = server_node spot.server at_server; call = (tt, (tt, tt)) }
mend_spelled m at.Begins fits at_server = record { callee = server_node m.named fits.named; call = (tt, (tt, (tt, tt))) }
mend_spelled m (at.Opens t) fits at_server = record { callee = server_node m.named fits.named; call = (tt, (tt, (tt, tt))) }
mend_spelled m (at.Ends t) fits at_server = record { callee = server_node m.named fits.named; call = (tt, (tt, tt)) }
mend_spelled m at.Frees fits at_server = record { callee = refl; call = (tt, tt) }

-- ---- where a reply leads

opens_kept : (act : AdminAct) (m : Mend) (flags : Option ℕ) → FitsMend m → FitsTurn act (opens_or_frees m flags)
opens_kept act m None fits = tt
opens_kept act m (Some zero) fits = (fits, tt)
opens_kept act m (Some (suc n)) fits = (fits, tt)

drops_kept : (act : AdminAct) (m : Mend) (left : List Spot) → FitsMend m → FitSpots left → FitsTurn act (drops_others m left)
drops_kept act m [] fits all = opens_kept act m m.flags fits
drops_kept act m (spot ∷ left) fits all = (record { named = fits.named; copies = fits.copies; others = all.1 }, all.0)

takes_kept : (act : AdminAct) (m : Mend) (left : List ℕ) → FitsMend m → AreServers left → FitsTurn act (takes_copies m left)
takes_kept act m [] fits all = drops_kept act m m.others fits fits.others
takes_kept act m (s ∷ left) fits all = (record { named = fits.named; copies = all.1; others = fits.others }, all.0)

mends_on_kept : (act : AdminAct) (m : Mend) → FitsMend m → FitsTurn act (mends_on m)
mends_on_kept act m fits = takes_kept act m m.copies fits fits.copies

copy_kept : (b : Bool) (s : ℕ) (more : List ℕ) → IsServer s → AreServers more → AreServers (cond b (s ∷ more) more)
copy_kept true s more first rest = (first, rest)
copy_kept false s more first rest = rest

copies_fit : (test : ℕ → Bool) (servers : List ℕ) → AreServers servers → AreServers (filter test servers)
copies_fit test [] all = tt
copies_fit test (s ∷ servers) all = copy_kept (test s) s (filter test servers) all.0 (copies_fit test servers all.1)

mend_fits_entry : (e : Errand) (c : Cause) (h : Hold) (seen : List Seen) (n : LocEntry) → e.servers ≤ 8 → FitAllSeen seen → IsEntry n → is_usable n ≡ true → FitsMend (mend_of e c h seen n)
mend_fits_entry e c h seen n few all is usable = record {
  named = usable_home n is usable;
  copies = copies_fit (has_copy (family h) (home_in n) seen) (all_servers e) (cell_servers e few);
  others = spots_fit (must_go (family h) n) seen all;
}

pub entry_kept : (e : Errand) (c : Cause) (h : Hold) (seen : List Seen) (reply : Reply) → e.servers ≤ 8 → FitAllSeen seen → IsWithin cell_replies reply → FitsTurn e.act (entry_answered e c h seen reply)
entry_kept e c h seen (tell.Location (entries.GetEntryById n)) few all within =
    guarded_fits e.act (is_usable n) _ _ (λ usable. mends_on_kept e.act (mend_of e c h seen n) (mend_fits_entry e c h seen n few all within.0 usable)) tt
entry_kept e c h seen reply few all within = tt

mended_kept : (act : AdminAct) (c : Cause) → FitsTurn act (mended c)
mended_kept act causes.Asked = tt
mended_kept act (causes.After code) = tt

pub mend_kept : (act : AdminAct) (m : Mend) (step : Mending) (reply : Reply) → FitsMend m → FitsMending step → FitsTurn act (mend_answered m step reply)
mend_kept act m (at.Takes s) (tell.Volume (volumes.TransCreate t)) fits at_server = (fits, at_server)
mend_kept act m (at.Points s t) (tell.Volume volumes.SetForwarding) fits at_server = (fits, at_server)
mend_kept act m (at.Deletes s t) (tell.Volume volumes.DeleteVolume) fits at_server = mends_on_kept act m fits
mend_kept act m (at.Drops spot) (tell.Volume (volumes.TransCreate t)) fits at_server = (fits, at_server)
mend_kept act m (at.Dropped spot t) (tell.Volume volumes.DeleteVolume) fits at_server = mends_on_kept act m fits
mend_kept act m at.Begins (tell.Volume (volumes.TransCreate t)) fits at_server = (fits, tt)
mend_kept act m (at.Opens t) (tell.Volume volumes.SetFlags) fits at_server = (fits, tt)
mend_kept act m (at.Ends t) (tell.Volume volumes.EndTrans) fits at_server = (fits, tt)
mend_kept act m at.Frees (tell.Location entries.ReleaseLock) fits at_server = mended_kept act m.cause
mend_kept act m step reply fits at_server = tt
