-- Moves: what is asked can be spelled, and a reply leads to what fits.
use Rattle.std.proofs.Common.{◌≡◌, ◌≤◌, ℕ, Bool, true, false, cond, List, length, map, nat_eq, refl, arith}
use Rattle.spec_history.specs.declared.scripts.AdminAct.{AdminAct}
use Rattle.afs_num.specs.declared.location_calls.LocReply.TheVariants as entries
use Rattle.afs_num.specs.declared.messages.Reply.{Reply}
use Rattle.afs_num.specs.declared.messages.Reply.TheVariants as tell
use Rattle.afs_num.specs.declared.volume_calls.VolReply.TheVariants as volumes
use Rattle.spec_shape.specs.Items.{volume_name_limit}
use Rattle.spec_shape.specs.Tables.{IsServer}
use Rattle.spec_adminrows.specs.Moving.{move_answered, move_asks, moved_off, plan_answered, plan_asks}
use Rattle.spec_adminrows.specs.declared.places.Hold.{Hold}
use Rattle.spec_adminrows.specs.declared.places.Moving.{Moving}
use Rattle.spec_adminrows.specs.declared.places.Moving.TheVariants as at
use Rattle.spec_adminrows.specs.declared.places.Trip.{Trip}
use Rattle.afs_adminparts.specs.Fitting.{FitsHold, FitsTrip, FitsTurn, IsSpelledAsk}
use Rattle.afs_adminparts.proofs.Kept.{either_fits}
use Rattle.afs_adminparts.proofs.Spelled.{home_node, moved_is_entry, name_counted, server_node}

-- ---- what is asked

pub plan_spelled : (h : Hold) → IsSpelledAsk (plan_asks h)
plan_spelled h = record { callee = refl; call = tt }

pub move_spelled : (name : List ℕ) (m : Trip) (step : Moving) → length name ≤ volume_name_limit → FitsTrip m → IsSpelledAsk (move_asks name m step)
move_spelled name m at.Begins few fits = record { callee = home_node m.hold fits.hold; call = (tt, (tt, (tt, tt))) }
move_spelled name m (at.Clones t) few fits = record { callee = home_node m.hold fits.hold; call = (tt, (tt, (tt, (name_counted name few, (omega arith, tt))))) }
move_spelled name m (at.Cloned counter t) few fits = record { callee = home_node m.hold fits.hold; call = (tt, (tt, tt)) }
move_spelled name m (at.Makes counter) few fits = record { callee = server_node m.target fits.target; call = (tt, (tt, (name_counted name few, (omega arith, (tt, (tt, tt)))))) }
move_spelled name m (at.Opens counter new) few fits = record { callee = home_node m.hold fits.hold; call = (tt, (tt, (tt, tt))) }
move_spelled name m (at.Sends counter new t) few fits = record { callee = home_node m.hold fits.hold; call = (tt, (tt, (tt, (fits.target, (tt, tt))))) }
move_spelled name m (at.Sent counter new t) few fits = record { callee = home_node m.hold fits.hold; call = (tt, (tt, tt)) }
move_spelled name m (at.Holds counter new) few fits = record { callee = home_node m.hold fits.hold; call = (tt, (tt, (tt, tt))) }
move_spelled name m (at.Fences counter new old) few fits = record { callee = home_node m.hold fits.hold; call = (tt, (tt, (tt, tt))) }
move_spelled name m (at.Fills counter new old) few fits = record { callee = home_node m.hold fits.hold; call = (tt, (tt, (tt, (fits.target, (tt, tt))))) }
move_spelled name m (at.Clears new old) few fits = record { callee = server_node m.target fits.target; call = (tt, (tt, (tt, tt))) }
move_spelled name m (at.Decides new old) few fits = record { callee = refl; call = (tt, (moved_is_entry m.target m.hold.entry fits.target fits.hold.entry, tt)) }
move_spelled name m (at.Starts new old) few fits = record { callee = server_node m.target fits.target; call = (tt, (tt, (tt, tt))) }
move_spelled name m (at.Started new old) few fits = record { callee = server_node m.target fits.target; call = (tt, (tt, tt)) }
move_spelled name m (at.Points old) few fits = record { callee = home_node m.hold fits.hold; call = (tt, (tt, (fits.target, tt))) }
move_spelled name m (at.Deletes old) few fits = record { callee = home_node m.hold fits.hold; call = (tt, (tt, tt)) }
move_spelled name m at.Drops few fits = record { callee = home_node m.hold fits.hold; call = (tt, (tt, (tt, tt))) }
move_spelled name m (at.Dropped t) few fits = record { callee = home_node m.hold fits.hold; call = (tt, (tt, tt)) }
move_spelled name m at.DropsBackup few fits = record { callee = home_node m.hold fits.hold; call = (tt, (tt, (tt, tt))) }
move_spelled name m (at.DroppedBackup t) few fits = record { callee = home_node m.hold fits.hold; call = (tt, (tt, tt)) }

-- ---- where a reply leads

pub plan_kept : (act : AdminAct) (h : Hold) (target : ℕ) (reply : Reply) → FitsHold h → IsServer target → FitsTurn act (plan_answered h target reply)
plan_kept act h target (tell.Location (entries.GetNewVolumeId x)) fits at_target = record { hold = fits; target = at_target }
plan_kept act h target reply fits at_target = tt

off_kept : (act : AdminAct) (m : Trip) (backup : ℕ) → FitsTrip m → FitsTurn act (moved_off m backup)
off_kept act m backup fits = either_fits act (nat_eq backup 0) _ _ tt fits

pub move_kept : (act : AdminAct) (m : Trip) (step : Moving) (reply : Reply) → FitsTrip m → FitsTurn act (move_answered m step reply)
move_kept act m at.Begins (tell.Volume (volumes.TransCreate t)) fits = fits
move_kept act m (at.Clones t) (tell.Volume (volumes.Clone counter release)) fits = fits
move_kept act m (at.Cloned counter t) (tell.Volume volumes.EndTrans) fits = fits
move_kept act m (at.Makes counter) (tell.Volume (volumes.CreateVolume new)) fits = fits
move_kept act m (at.Opens counter new) (tell.Volume (volumes.TransCreate t)) fits = fits
move_kept act m (at.Sends counter new t) (tell.Volume volumes.Forward) fits = fits
move_kept act m (at.Sent counter new t) (tell.Volume volumes.EndTrans) fits = fits
move_kept act m (at.Holds counter new) (tell.Volume (volumes.TransCreate old)) fits = fits
move_kept act m (at.Fences counter new old) (tell.Volume volumes.SetFlags) fits = fits
move_kept act m (at.Fills counter new old) (tell.Volume volumes.Forward) fits = fits
move_kept act m (at.Clears new old) (tell.Volume volumes.SetFlags) fits = fits
move_kept act m (at.Decides new old) (tell.Location entries.ReplaceEntry) fits = fits
move_kept act m (at.Starts new old) (tell.Volume volumes.SetFlags) fits = fits
move_kept act m (at.Started new old) (tell.Volume volumes.EndTrans) fits = fits
move_kept act m (at.Points old) (tell.Volume volumes.SetForwarding) fits = fits
move_kept act m (at.Deletes old) (tell.Volume volumes.DeleteVolume) fits = fits
move_kept act m at.Drops (tell.Volume (volumes.TransCreate t)) fits = fits
move_kept act m (at.Dropped t) (tell.Volume volumes.DeleteVolume) fits = off_kept act m m.hold.entry.backup fits
move_kept act m at.DropsBackup (tell.Volume (volumes.TransCreate t)) fits = fits
move_kept act m (at.DroppedBackup t) (tell.Volume volumes.DeleteVolume) fits = tt
move_kept act m step reply fits = tt
