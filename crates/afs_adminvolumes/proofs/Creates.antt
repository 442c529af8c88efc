-- New volumes: what is asked can be spelled, and a reply leads to what fits.
use Rattle.std.proofs.Common.{◌≡◌, ◌≤◌, ◌<◌, ℕ, zero, suc, Bool, List, [], ◌∷◌, length, min, take, drop, Option, Some, None, refl, arith}
use Rattle.spec_history.specs.declared.scripts.AdminAct.{AdminAct}
use Rattle.afs_num.specs.declared.location_calls.LocReply.TheVariants as entries
use Rattle.afs_num.specs.declared.messages.Reply.{Reply}
use Rattle.afs_num.specs.declared.messages.Reply.TheVariants as tell
use Rattle.afs_num.specs.declared.types.Code.{Code}
use Rattle.afs_num.specs.declared.volume_calls.VolReply.TheVariants as volumes
use Rattle.spec_dumps.specs.Streams.{is_last_at, piece_at}
use Rattle.spec_model.specs.VolRows.{piece_limit}
use Rattle.spec_shape.specs.Items.{volume_name_limit}
use Rattle.spec_shape.specs.Tables.{IsCount, IsEntry, IsServer}
use Rattle.spec_volrows.specs.VolRow.{most_piece}
use Rattle.spec_adminrows.specs.Creating.{create_answered, create_asks, create_refused, dump_in, enters_not, fills_on, fills_or_closes, scraps_by}
use Rattle.spec_adminrows.specs.Entries.{new_entry}
use Rattle.spec_adminrows.specs.Turns.{fails, is_dead, is_superseded, is_unlisted}
use Rattle.spec_adminrows.specs.declared.places.Creating.{Creating}
use Rattle.spec_adminrows.specs.declared.places.Creating.TheVariants as at
use Rattle.spec_adminrows.specs.declared.places.Fresh.{Fresh}
use Rattle.afs_adminparts.specs.Fitting.{FitsFresh, FitsTurn, IsSpelledAsk}
use Rattle.afs_adminparts.proofs.Kept.{either_fits}
use Rattle.afs_adminparts.proofs.Spelled.{name_counted, server_node}

-- ---- the bytes from an offset on, which are none behind the end

drop_to : (m o : ℕ) (bytes : List ℕ) → m ≡ min (length bytes) o → drop m bytes ≡ drop o bytes
drop_to zero zero bytes e = refl
drop_to zero (suc o) [] e = refl
drop_to zero (suc o) (b ∷ bytes) e = absurd (omega (arith, e))
drop_to (suc m) zero bytes e = absurd (omega (arith, e))
drop_to (suc m) (suc o) [] e = refl
drop_to (suc m) (suc o) (b ∷ bytes) e = drop_to m o bytes (omega (arith, e))

pub behind_the_end : (o : ℕ) (bytes : List ℕ) → drop (min (length bytes) o) bytes ≡ drop o bytes
behind_the_end o bytes = drop_to (min (length bytes) o) o bytes refl

-- ---- what is asked

front_few : (n : ℕ) (bytes : List ℕ) → length (take n bytes) ≤ n
front_few zero bytes = omega arith
front_few (suc n) [] = omega arith
front_few (suc n) (b ∷ bytes) = let few = front_few n bytes in omega (arith, few)

piece_counted : (offset : ℕ) (bytes : List ℕ) → IsCount piece_limit (length (piece_at most_piece offset bytes))
piece_counted offset bytes = let few = front_few most_piece (drop offset bytes) in (few, omega (arith, few))

new_is_entry : (name : List ℕ) (volume server : ℕ) → length name ≤ volume_name_limit → IsServer server → IsEntry (new_entry name volume server)
new_is_entry name volume server few at_server = record {
  name = name_counted name few;
  count = (omega arith, omega arith);
  sites = (at_server, tt);
}

pub create_spelled : (name : List ℕ) (f : Fresh) (step : Creating) → length name ≤ volume_name_limit → FitsFresh f → IsSpelledAsk (create_asks name f step)
create_spelled name f at.Numbers few fits = record { callee = refl; call = tt }
create_spelled name f (at.Makes v) few fits = record { callee = server_node f.server fits.server; call = (tt, (tt, (name_counted name few, (omega arith, (tt, (tt, tt)))))) }
create_spelled name f (at.Fills v t offset) few fits = record { callee = server_node f.server fits.server; call = (tt, (tt, (tt, (tt, (piece_counted offset (dump_in f), tt))))) }
create_spelled name f (at.Closes v t) few fits = record { callee = server_node f.server fits.server; call = (tt, (tt, (tt, tt))) }
create_spelled name f (at.Ends v t) few fits = record { callee = server_node f.server fits.server; call = (tt, (tt, tt)) }
create_spelled name f (at.Enters v) few fits = record { callee = refl; call = (new_is_entry name v f.server few fits.server, tt) }
create_spelled name f (at.Checks v code) few fits = record { callee = refl; call = (tt, tt) }
create_spelled name f (at.Scraps v code) few fits = record { callee = server_node f.server fits.server; call = (tt, (tt, (tt, tt))) }
create_spelled name f (at.Scrapped v code t) few fits = record { callee = server_node f.server fits.server; call = (tt, (tt, tt)) }
create_spelled name f (at.Begins v stamp) few fits = record { callee = server_node f.server fits.server; call = (tt, (tt, (tt, tt))) }
create_spelled name f (at.Opens v stamp t) few fits = record { callee = server_node f.server fits.server; call = (tt, (tt, (tt, tt))) }
create_spelled name f (at.Opened v stamp t) few fits = record { callee = server_node f.server fits.server; call = (tt, (tt, tt)) }
create_spelled name f (at.Frees v stamp) few fits = record { callee = refl; call = (tt, tt) }

-- ---- where a reply leads

fills_kept : (act : AdminAct) (f : Fresh) (v t : ℕ) (dump : Option (List ℕ)) → FitsFresh f → FitsTurn act (fills_or_closes f v t dump)
fills_kept act f v t None fits = fits
fills_kept act f v t (Some bytes) fits = fits

pub create_kept : (act : AdminAct) (f : Fresh) (step : Creating) (reply : Reply) → FitsFresh f → FitsTurn act (create_answered f step reply)
create_kept act f at.Numbers (tell.Location (entries.GetNewVolumeId v)) fits = fits
create_kept act f (at.Makes v) (tell.Volume (volumes.CreateVolume t)) fits = fills_kept act f v t f.dump fits
create_kept act f (at.Fills v t offset) (tell.Volume volumes.Restore) fits = either_fits act (is_last_at most_piece offset (dump_in f)) _ _ fits fits
create_kept act f (at.Closes v t) (tell.Volume volumes.SetFlags) fits = fits
create_kept act f (at.Ends v t) (tell.Volume volumes.EndTrans) fits = fits
create_kept act f (at.Enters v) (tell.Location (entries.CreateEntry stamp)) fits = fits
create_kept act f (at.Checks v code) (tell.Location (entries.GetEntryById n)) fits = tt
create_kept act f (at.Scraps v code) (tell.Volume (volumes.TransCreate t)) fits = fits
create_kept act f (at.Scrapped v code t) (tell.Volume volumes.DeleteVolume) fits = tt
create_kept act f (at.Begins v stamp) (tell.Volume (volumes.TransCreate t)) fits = fits
create_kept act f (at.Opens v stamp t) (tell.Volume volumes.SetFlags) fits = fits
create_kept act f (at.Opened v stamp t) (tell.Volume volumes.EndTrans) fits = fits
create_kept act f (at.Frees v stamp) (tell.Location entries.ReleaseLock) fits = tt
create_kept act f step reply fits = tt

-- ---- where a refusal leads

failure_kept : (act : AdminAct) (code : Code) → FitsTurn act (fails None code)
failure_kept act code = either_fits act (is_superseded code) _ _ tt tt

pub create_refusal_kept : (act : AdminAct) (f : Fresh) (step : Creating) (code : Code) → FitsFresh f → FitsTurn act (create_refused f step code)
create_refusal_kept act f (at.Enters v) code fits = either_fits act (is_dead code) _ _ tt fits
create_refusal_kept act f (at.Checks v first) code fits = either_fits act (is_unlisted code) _ _ fits tt
create_refusal_kept act f (at.Scraps v first) code fits = tt
create_refusal_kept act f (at.Scrapped v first t) code fits = tt
create_refusal_kept act f (at.Begins v stamp) code fits = failure_kept act code
create_refusal_kept act f (at.Opens v stamp t) code fits = failure_kept act code
create_refusal_kept act f (at.Opened v stamp t) code fits = failure_kept act code
create_refusal_kept act f (at.Frees v stamp) code fits = failure_kept act code
create_refusal_kept act f step code fits = tt
