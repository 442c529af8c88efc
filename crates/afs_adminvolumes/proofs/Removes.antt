-- Removals: what is asked can be spelled, and a reply leads to what fits.
use Rattle.std.proofs.Common.{◌≡◌, ℕ, Bool, true, false, cond, List, [], ◌∷◌, map, filter, refl}
use Rattle.std.specs.List.{AllByRecursion}
use Rattle.spec_history.specs.declared.scripts.AdminAct.{AdminAct}
use Rattle.afs_num.specs.declared.location_calls.LocReply.TheVariants as entries
use Rattle.afs_num.specs.declared.messages.Reply.{Reply}
use Rattle.afs_num.specs.declared.messages.Reply.TheVariants as tell
use Rattle.afs_num.specs.declared.volume_calls.VolReply.TheVariants as volumes
use Rattle.spec_adminrows.specs.Removing.{is_other_copy, others_of, remove_answered, remove_asks, spot_of, sweep_answered, sweep_asks, sweeps}
use Rattle.spec_adminrows.specs.declared.places.Hold.{Hold}
use Rattle.spec_adminrows.specs.declared.places.Removing.{Removing}
use Rattle.spec_adminrows.specs.declared.places.Removing.TheVariants as at
use Rattle.spec_adminrows.specs.declared.places.Seen.{Seen}
use Rattle.spec_adminrows.specs.declared.places.Spot.{Spot}
use Rattle.spec_adminrows.specs.declared.places.Sweeping.{Sweeping}
use Rattle.spec_adminrows.specs.declared.places.Sweeping.TheVariants as sweeping
use Rattle.afs_adminparts.specs.Fitting.{FitAllSeen, FitSpots, FitsHold, FitsSeen, FitsSpot, FitsTurn, IsSpelledAsk}
use Rattle.afs_adminparts.proofs.Spelled.{home_node, server_node}

-- ---- what is asked

pub remove_spelled : (h : Hold) (step : Removing) → FitsHold h → IsSpelledAsk (remove_asks h step)
remove_spelled h at.Begins fits = record { callee = home_node h fits; call = (tt, (tt, (tt, tt))) }
remove_spelled h (at.Fences t) fits = record { callee = home_node h fits; call = (tt, (tt, (tt, tt))) }
remove_spelled h (at.Decides t) fits = record { callee = refl; call = (tt, tt) }
remove_spelled h (at.Deletes t) fits = record { callee = home_node h fits; call = (tt, (tt, tt)) }

pub sweep_spelled : (h : Hold) (spot : Spot) (step : Sweeping) → FitsSpot spot → IsSpelledAsk (sweep_asks h spot step)
sweep_spelled h spot sweeping.Begins fits = record { callee = server_node spot.server fits; call = (tt, (tt, (tt, tt))) }
sweep_spelled h spot (sweeping.Deletes t) fits = record { callee = server_node spot.server fits; call = (tt, (tt, tt)) }

-- ---- where a reply leads

spot_kept : (b : Bool) (x : Seen) (more : List Seen) → FitsSeen x → FitSpots (map spot_of more) → FitSpots (map spot_of (cond b (x ∷ more) more))
spot_kept true x more first rest = (first, rest)
spot_kept false x more first rest = rest

-- the spots of those that were seen and meet a test
pub spots_fit : (test : Seen → Bool) (seen : List Seen) → FitAllSeen seen → FitSpots (map spot_of (filter test seen))
spots_fit test [] all = tt
spots_fit test (x ∷ seen) all = spot_kept (test x) x (filter test seen) all.0 (spots_fit test seen all.1)

sweeps_kept : (act : AdminAct) (h : Hold) (left : List Spot) → FitSpots left → FitsTurn act (sweeps h left)
sweeps_kept act h [] all = tt
sweeps_kept act h (spot ∷ left) all = all

pub remove_kept : (act : AdminAct) (h : Hold) (seen : List Seen) (step : Removing) (reply : Reply) → FitsHold h → FitAllSeen seen → FitsTurn act (remove_answered h seen step reply)
remove_kept act h seen at.Begins (tell.Volume (volumes.TransCreate t)) fits all = (fits, all)
remove_kept act h seen (at.Fences t) (tell.Volume volumes.SetFlags) fits all = (fits, all)
remove_kept act h seen (at.Decides t) (tell.Location entries.DeleteEntry) fits all = (fits, all)
remove_kept act h seen (at.Deletes t) (tell.Volume volumes.DeleteVolume) fits all = sweeps_kept act h (others_of h seen) (spots_fit (is_other_copy h) seen all)
remove_kept act h seen step reply fits all = tt

pub sweep_kept : (act : AdminAct) (h : Hold) (spot : Spot) (left : List Spot) (step : Sweeping) (reply : Reply) → FitsSpot spot → FitSpots left → FitsTurn act (sweep_answered h spot left step reply)
sweep_kept act h spot left sweeping.Begins (tell.Volume (volumes.TransCreate t)) fits all = (fits, all)
sweep_kept act h spot left (sweeping.Deletes t) (tell.Volume volumes.DeleteVolume) fits all = sweeps_kept act h left all
sweep_kept act h spot left step reply fits all = tt
