-- Further sites, backups and dumps: what is asked can be spelled, and a reply leads to what fits.
use Rattle.std.proofs.Common.{◌≡◌, ◌≤◌, ◌<◌, ◌^◌, ℕ, ◌+◌, Bool, true, List, [], ◌∷◌, ◌++◌, length, nat_eq, nat_lt, arith, length-append, subst, sym, ap, refl}
use Rattle.std.specs.List.{AllByRecursion}
use Rattle.spec_history.specs.declared.scripts.AdminAct.{AdminAct}
use Rattle.afs_num.specs.declared.location_calls.LocEntry.{LocEntry}
use Rattle.afs_num.specs.declared.location_calls.LocReply.TheVariants as entries
use Rattle.afs_num.specs.declared.location_calls.LocSite.{LocSite}
use Rattle.afs_num.specs.declared.messages.Reply.{Reply}
use Rattle.afs_num.specs.declared.messages.Reply.TheVariants as tell
use Rattle.afs_num.specs.declared.volume_calls.VolReply.TheVariants as volumes
use Rattle.spec_rows.specs.Going.{backup_end}
use Rattle.spec_rows.specs.LocRow.{most_listed_sites}
use Rattle.spec_shape.specs.Items.{site_limit, volume_name_limit}
use Rattle.spec_shape.specs.Tables.{IsCount, IsEntry, IsServer, IsSite}
use Rattle.spec_adminrows.specs.Copying.{add_answered, add_asks, backup_answered, backup_asks, clones_or_renews, dump_answered, dump_asks, dumps_on, has_offset}
use Rattle.spec_adminrows.specs.Entries.{entry_added, entry_backed}
use Rattle.spec_adminrows.specs.declared.places.Backing.{Backing}
use Rattle.spec_adminrows.specs.declared.places.Backing.TheVariants as at
use Rattle.spec_adminrows.specs.declared.places.Dumping.{Dumping}
use Rattle.spec_adminrows.specs.declared.places.Dumping.TheVariants as dumping
use Rattle.spec_adminrows.specs.declared.places.Hold.{Hold}
use Rattle.spec_adminrows.specs.declared.places.Saving.{Saving}
use Rattle.afs_adminparts.specs.Fitting.{FitsHold, FitsSaving, FitsTurn, IsSpelledAsk, NamesCopies, most_named}
use Rattle.afs_adminparts.proofs.Kept.{either_fits, guarded_fits}
use Rattle.afs_adminparts.proofs.Spelled.{home_node, name_counted}

-- ---- entries

all_joined : {A : Type 0} (P : A → Type 0) (xs : List A) (x : A) → AllByRecursion P xs → P x → AllByRecursion P (xs ++ x ∷ [])
all_joined P [] x all one = (one, tt)
all_joined P (y ∷ xs) x all one = (all.0, all_joined P xs x all.1 one)

added_is_entry : (server : ℕ) (e : LocEntry) → IsServer server → length e.sites ≤ most_listed_sites → IsEntry e → IsEntry (entry_added server e)
added_is_entry server e at_server few is = record {
  name = is.name;
  count = (omega (arith, few, length-append e.sites (record { server = server; flags = 3 } ∷ [])), omega (arith, few, length-append e.sites (record { server = server; flags = 3 } ∷ [])));
  sites = all_joined IsSite e.sites _ is.sites at_server;
}

backed_is_entry : (backup : ℕ) (e : LocEntry) → IsEntry e → IsEntry (entry_backed backup e)
backed_is_entry backup e is = record { name = is.name; count = is.count; sites = is.sites }

-- ---- a site

pub add_spelled : (h : Hold) (server : ℕ) → FitsHold h → IsServer server → IsSpelledAsk (add_asks h server)
add_spelled h server fits at_server = record { callee = refl; call = (tt, (added_is_entry server h.entry at_server fits.few fits.entry, tt)) }

pub add_kept : (act : AdminAct) (h : Hold) (reply : Reply) → FitsTurn act (add_answered h reply)
add_kept act h (tell.Location entries.ReplaceEntry) = tt
add_kept act h reply = tt

-- ---- a backup

backup_named : (name : List ℕ) → length name ≤ most_named → length (name ++ backup_end) ≤ volume_name_limit
backup_named name few = omega (arith, few, length-append name backup_end)

pub backup_spelled : (name : List ℕ) (h : Hold) (step : Backing) → length name ≤ most_named → FitsHold h → IsSpelledAsk (backup_asks name h step)
backup_spelled name h at.Stamps few fits = record { callee = home_node h fits; call = (tt, tt) }
backup_spelled name h at.Begins few fits = record { callee = home_node h fits; call = (tt, (tt, (tt, tt))) }
backup_spelled name h (at.Numbers t) few fits = record { callee = refl; call = tt }
backup_spelled name h (at.Clones t id) few fits = record { callee = home_node h fits; call = (tt, (tt, (tt, (name_counted (name ++ backup_end) (backup_named name few), (omega arith, tt))))) }
backup_spelled name h (at.Renews t id) few fits = record { callee = home_node h fits; call = (tt, (tt, (tt, tt))) }
backup_spelled name h (at.Ends t id) few fits = record { callee = home_node h fits; call = (tt, (tt, tt)) }
backup_spelled name h (at.Writes id) few fits = record { callee = refl; call = (tt, (backed_is_entry id h.entry fits.entry, tt)) }

renews_kept : (act : AdminAct) (h : Hold) (t id : ℕ) → NamesCopies act → FitsHold h → FitsTurn act (clones_or_renews h t id)
renews_kept act h t id few fits = either_fits act (nat_eq id 0) _ _ (few, fits) (few, fits)

pub backup_kept : (act : AdminAct) (h : Hold) (step : Backing) (reply : Reply) → NamesCopies act → FitsHold h → FitsTurn act (backup_answered h step reply)
backup_kept act h at.Stamps (tell.Volume (volumes.ListVols ls)) few fits = (few, fits)
backup_kept act h at.Begins (tell.Volume (volumes.TransCreate t)) few fits = renews_kept act h t h.entry.backup few fits
backup_kept act h (at.Numbers t) (tell.Location (entries.GetNewVolumeId id)) few fits = (few, fits)
backup_kept act h (at.Clones t id) (tell.Volume (volumes.Clone counter release)) few fits = (few, fits)
backup_kept act h (at.Renews t id) (tell.Volume (volumes.ReClone counter release)) few fits = (few, fits)
backup_kept act h (at.Ends t id) (tell.Volume volumes.EndTrans) few fits = (few, fits)
backup_kept act h (at.Writes id) (tell.Location entries.ReplaceEntry) few fits = tt
backup_kept act h step reply few fits = tt

-- ---- a dump

pub dump_spelled : (s : Saving) (step : Dumping) → FitsSaving s → IsSpelledAsk (dump_asks s step)
dump_spelled s dumping.Stamps fits = record { callee = home_node s.hold fits.hold; call = (tt, tt) }
dump_spelled s dumping.Begins fits = record { callee = home_node s.hold fits.hold; call = (tt, (tt, (tt, tt))) }
dump_spelled s (dumping.Reads t) fits = record { callee = home_node s.hold fits.hold; call = (tt, (tt, (tt, (tt, tt)))) }
dump_spelled s (dumping.Ends t) fits = record { callee = home_node s.hold fits.hold; call = (tt, (tt, tt)) }

dumps_on_kept : (act : AdminAct) (s : Saving) (t last : ℕ) → FitsSaving s → FitsTurn act (dumps_on s t last)
dumps_on_kept act s t last fits = either_fits act (nat_eq last 0) _ _ fits (fits.bytes, fits)

roomy : (s : Saving) (piece : List ℕ) → has_offset s piece ≡ true → length (s.bytes ++ piece) < 2 ^ 32
roomy s piece room = grind (arith, room, length-append s.bytes piece)

pub dump_kept : (act : AdminAct) (s : Saving) (step : Dumping) (reply : Reply) → FitsSaving s → FitsTurn act (dump_answered s step reply)
dump_kept act s dumping.Stamps (tell.Volume (volumes.ListVols ls)) fits = fits
dump_kept act s dumping.Begins (tell.Volume (volumes.TransCreate t)) fits = fits
dump_kept act s (dumping.Reads t) (tell.Volume (volumes.Dump last piece)) fits =
    guarded_fits act (has_offset s piece) _ _ (λ room. dumps_on_kept act (record s { bytes = s.bytes ++ piece }) t last (record { hold = fits.hold; bytes = roomy s piece room })) tt
dump_kept act s (dumping.Ends t) (tell.Volume volumes.EndTrans) fits = tt
dump_kept act s step reply fits = tt
