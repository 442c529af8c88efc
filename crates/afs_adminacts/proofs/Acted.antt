-- Acts over all machines: what is asked can be spelled, and where an act begins and where answers lead fits.
use Rattle.std.proofs.Common.{◌≡◌, ◌≤◌, ◌<◌, ◌^◌, ℕ, Bool, true, false, cond, ◌&&◌, List, [], length, Option, Some, None, Result, Ok, Err, IfOk, nat_eq, refl, subst, sym, arith}
use Rattle.spec_history.specs.declared.scripts.AdminAct.{AdminAct}
use Rattle.spec_history.specs.declared.scripts.AdminAct.TheVariants as acts
use Rattle.spec_model.specs.CellRows.{cell_replies}
use Rattle.afs_num.specs.Names.{volume_name_ok}
use Rattle.afs_num.specs.declared.location_calls.LocEntry.{LocEntry}
use Rattle.afs_num.specs.declared.location_calls.LocReply.TheVariants as entries
use Rattle.afs_num.specs.declared.messages.Reply.{Reply}
use Rattle.afs_num.specs.declared.messages.Reply.TheVariants as tell
use Rattle.afs_num.specs.declared.types.Code.{Code}
use Rattle.spec_shape.specs.Rows.{IsWithin}
use Rattle.spec_shape.specs.Tables.{IsServer}
use Rattle.spec_adminrows.specs.Acts.{answered, asks_at, begins_with, can_go_on, creates_from, free_answered, goes_on_locked, lock_answered, locked, refused, seek_answered}
use Rattle.spec_adminrows.specs.Asks.{home, name_in_act}
use Rattle.spec_adminrows.specs.Entries.{has_read_only_at, is_usable}
use Rattle.spec_adminrows.specs.Turns.{fails, is_superseded, mend_fails, seek_fails}
use Rattle.spec_adminrows.specs.declared.places.Cause.{Cause}
use Rattle.spec_adminrows.specs.declared.places.Cause.TheVariants as causes
use Rattle.spec_adminrows.specs.declared.places.Hold.{Hold}
use Rattle.spec_adminrows.specs.declared.places.Place.{Place}
use Rattle.spec_adminrows.specs.declared.places.Place.TheVariants as places
use Rattle.spec_adminrows.specs.declared.places.Purpose.TheVariants as purposes
use Rattle.spec_adminrows.specs.declared.turns.Ask.{Ask}
use Rattle.spec_adminrows.specs.declared.turns.Errand.{Errand}
use Rattle.afs_adminparts.specs.Fitting.{FitsDumpIfAny, FitsHold, FitsPlace, FitsTurn, IsShortAdminAct, IsSpelledAsk, NamesCopies}
use Rattle.afs_adminparts.proofs.Kept.{both_true, either_fits, guarded_fits, usable_fits, volume_named}
use Rattle.afs_adminacts.proofs.Moves.{move_kept, move_spelled, plan_kept, plan_spelled}
use Rattle.afs_adminacts.proofs.Releases.{release_kept, release_spelled, tour_kept, tour_refusal_kept, tour_spelled, visit_kept, visit_refusal_kept, visit_spelled}
use Rattle.afs_adminparts.proofs.Spelled.{name_counted}
use Rattle.afs_adminparts.proofs.Surveys.{surveys_all_kept, survey_kept, survey_refusal_kept, survey_spelled}
use Rattle.afs_adminvolumes.proofs.Copies.{add_kept, add_spelled, backup_kept, backup_spelled, dump_kept, dump_spelled}
use Rattle.afs_adminvolumes.proofs.Creates.{create_kept, create_refusal_kept, create_spelled}
use Rattle.afs_adminvolumes.proofs.Recovers.{entry_kept, entry_spelled, mend_kept, mend_spelled}
use Rattle.afs_adminvolumes.proofs.Removes.{remove_kept, remove_spelled, sweep_kept, sweep_spelled}

-- ---- what is so of a definition's value is so of what the code gives

pub given_is : {A E : Type 0} (P : A → Type 0) (x : A) (given : Result A E) → P x → IfOk given (λ y. y ≡ x) → IfOk given P
given_is P x (Ok y) h is = subst P (sym is) h
given_is P x (Err e) h is = tt

-- ---- what is asked

pub asked_spelled : (e : Errand) (p : Place) → IsShortAdminAct e.act → FitsPlace e.act p → IsSpelledAsk (asks_at e p)
asked_spelled e (places.Seeks c) short fits = record { callee = refl; call = (name_counted (name_in_act e.act) short.name, tt) }
asked_spelled e (places.Locks c v) short fits = record { callee = refl; call = (tt, (tt, (tt, tt))) }
asked_spelled e (places.Frees h code first) short fits = record { callee = refl; call = (tt, tt) }
asked_spelled e (places.Creates f step) short fits = create_spelled (name_in_act e.act) f step short.name fits
asked_spelled e (places.Adds h server) short fits = add_spelled h server fits.0 fits.1
asked_spelled e (places.Backs h step) short fits = backup_spelled (name_in_act e.act) h step fits.0 fits.1
asked_spelled e (places.Dumps s step) short fits = dump_spelled s step fits
asked_spelled e (places.Releases h step) short fits = release_spelled h step fits.1
asked_spelled e (places.Tours r step) short fits = tour_spelled (name_in_act e.act) r step fits.0 fits.1
asked_spelled e (places.Visits r s step) short fits = visit_spelled (name_in_act e.act) r s step fits.0 fits.1 fits.2
asked_spelled e (places.Surveys h why s left seen) short fits = survey_spelled h s fits.server
asked_spelled e (places.Plans h target) short fits = plan_spelled h
asked_spelled e (places.Moves m step) short fits = move_spelled (name_in_act e.act) m step short.name fits
asked_spelled e (places.Removes h seen step) short fits = remove_spelled h step fits.0
asked_spelled e (places.Sweeps h spot left step) short fits = sweep_spelled h spot step fits.0
asked_spelled e (places.Asks c h seen) short fits = entry_spelled h
asked_spelled e (places.Mends m step) short fits = mend_spelled m step fits.0 fits.1

pub given_spelled : {E : Type 0} (act : AdminAct) (p : Place) (given : Result Ask E) → IsShortAdminAct act → FitsPlace act p → IfOk given (λ a. (servers : ℕ) → a ≡ asks_at (record { act = act; servers = servers }) p) → IfOk given IsSpelledAsk
given_spelled act p (Ok a) short fits is = subst IsSpelledAsk (sym (is 0)) (asked_spelled (record { act = act; servers = 0 }) p short fits)
given_spelled act p (Err e) short fits is = tt

-- ---- an act begins

from_kept : (act : AdminAct) (server : ℕ) (held : Option (List ℕ)) → IsServer server → FitsDumpIfAny held → FitsTurn act (creates_from server held)
from_kept act server None at fits = tt
from_kept act server (Some bytes) at fits = record { server = at; dump = fits }

pub begun_fits : (act : AdminAct) (held : Option (List ℕ)) → IsShortAdminAct act → FitsDumpIfAny held → FitsTurn act (begins_with act held)
begun_fits (acts.Create name server quota) held short fits = record { server = short.server; dump = tt }
begun_fits (acts.Restore name server label) held short fits = from_kept (acts.Restore name server label) server held short.server fits
begun_fits act held short fits = tt

-- ---- where replies lead

-- the name of the act is a volume's, so those of its copies can be spelled
goes_on_kept : (e : Errand) (h : Hold) (act : AdminAct) → e.servers ≤ 8 → IsShortAdminAct act → NamesCopies act → FitsHold h → FitsTurn act (goes_on_locked e h act)
goes_on_kept e h (acts.Create name server quota) few short named fits = tt
goes_on_kept e h (acts.Restore name server label) few short named fits = tt
goes_on_kept e h (acts.AddSite name server) few short named fits = either_fits (acts.AddSite name server) (has_read_only_at server h.entry) _ _ tt (fits, short.server)
goes_on_kept e h (acts.Backup name) few short named fits = (named, fits)
goes_on_kept e h (acts.Release name) few short named fits = (named, fits)
goes_on_kept e h (acts.Move name server) few short named fits = either_fits (acts.Move name server) (nat_eq server (home h)) _ _ tt (surveys_all_kept (acts.Move name server) e h (purposes.Moves server) few fits short.server)
goes_on_kept e h (acts.Dump name label from) few short named fits = record { hold = fits; bytes = omega arith }
goes_on_kept e h (acts.Remove name) few short named fits = surveys_all_kept (acts.Remove name) e h purposes.Removes few fits tt
goes_on_kept e h (acts.Recover name) few short named fits = surveys_all_kept (acts.Recover name) e h (purposes.Mends causes.Asked) few fits tt

locked_kept : (e : Errand) (h : Hold) (c : Cause) → e.servers ≤ 8 → IsShortAdminAct e.act → NamesCopies e.act → FitsHold h → FitsTurn e.act (locked e h c)
locked_kept e h causes.Asked few short named fits = goes_on_kept e h e.act few short named fits
locked_kept e h (causes.After code) few short named fits = surveys_all_kept e.act e h (purposes.Mends (causes.After code)) few fits tt

lock_kept : (e : Errand) (c : Cause) (reply : Reply) → e.servers ≤ 8 → IsShortAdminAct e.act → IsWithin cell_replies reply → FitsTurn e.act (lock_answered e c reply)
lock_kept e c (tell.Location (entries.SetLock stamp n)) few short within = guarded_fits e.act (can_go_on e n) _ _ (λ goes.
    let both = both_true (volume_name_ok (name_in_act e.act)) (is_usable n) goes in
    locked_kept e _ c few short (volume_named (name_in_act e.act) both.0) (usable_fits n stamp within.1.0 both.1)) tt
lock_kept e c reply few short within = tt

seek_kept : (act : AdminAct) (c : Cause) (reply : Reply) → FitsTurn act (seek_answered c reply)
seek_kept act c (tell.Location (entries.GetEntryByName n)) = tt
seek_kept act c reply = tt

free_kept : (act : AdminAct) (code : Code) (reply : Reply) → FitsTurn act (free_answered code reply)
free_kept act code (tell.Location entries.ReleaseLock) = tt
free_kept act code reply = tt

pub answered_fits : (e : Errand) (p : Place) (reply : Reply) → e.servers ≤ 8 → IsShortAdminAct e.act → FitsPlace e.act p → IsWithin cell_replies reply → FitsTurn e.act (answered e p reply)
answered_fits e (places.Seeks c) reply few short fits within = seek_kept e.act c reply
answered_fits e (places.Locks c v) reply few short fits within = lock_kept e c reply few short within
answered_fits e (places.Frees h code first) reply few short fits within = free_kept e.act code reply
answered_fits e (places.Creates f step) reply few short fits within = create_kept e.act f step reply fits
answered_fits e (places.Adds h server) reply few short fits within = add_kept e.act h reply
answered_fits e (places.Backs h step) reply few short fits within = backup_kept e.act h step reply fits.0 fits.1
answered_fits e (places.Dumps s step) reply few short fits within = dump_kept e.act s step reply fits
answered_fits e (places.Releases h step) reply few short fits within = release_kept e.act h step reply fits.0 fits.1
answered_fits e (places.Tours r step) reply few short fits within = tour_kept e.act r step reply fits.0 fits.1
answered_fits e (places.Visits r s step) reply few short fits within = visit_kept e.act r s step reply fits.0 fits.1 fits.2
answered_fits e (places.Surveys h why s left seen) reply few short fits within = survey_kept e.act h why s left seen reply fits
answered_fits e (places.Plans h target) reply few short fits within = plan_kept e.act h target reply fits.0 fits.1
answered_fits e (places.Moves m step) reply few short fits within = move_kept e.act m step reply fits
answered_fits e (places.Removes h seen step) reply few short fits within = remove_kept e.act h seen step reply fits.0 fits.1
answered_fits e (places.Sweeps h spot left step) reply few short fits within = sweep_kept e.act h spot left step reply fits.0 fits.1
answered_fits e (places.Asks c h seen) reply few short fits within = entry_kept e c h seen reply few fits within
answered_fits e (places.Mends m step) reply few short fits within = mend_kept e.act m step reply fits.0 fits.1

-- ---- where refusals lead

pub failure_fits : (act : AdminAct) (first : Option Code) (code : Code) → FitsTurn act (fails first code)
failure_fits act first code = either_fits act (is_superseded code) _ _ tt tt

pub mend_failure_fits : (act : AdminAct) (c : Cause) (code : Code) → FitsTurn act (mend_fails c code)
mend_failure_fits act c code = either_fits act (is_superseded code) _ _ tt tt

seek_failure_fits : (act : AdminAct) (c : Cause) (code : Code) → FitsTurn act (seek_fails c code)
seek_failure_fits act causes.Asked code = tt
seek_failure_fits act (causes.After first) code = mend_failure_fits act (causes.After first) code

pub refused_fits : (act : AdminAct) (p : Place) (code : Code) → FitsPlace act p → FitsTurn act (refused p code)
refused_fits act (places.Seeks c) code fits = seek_failure_fits act c code
refused_fits act (places.Locks c v) code fits = seek_failure_fits act c code
refused_fits act (places.Frees h ending first) code fits = failure_fits act first code
refused_fits act (places.Creates f step) code fits = create_refusal_kept act f step code fits
refused_fits act (places.Tours r step) code fits = tour_refusal_kept act r code
refused_fits act (places.Visits r s step) code fits = visit_refusal_kept act r s step code fits.0 fits.1 fits.2
refused_fits act (places.Surveys h why s left seen) code fits = survey_refusal_kept act why code
refused_fits act (places.Asks c h seen) code fits = mend_failure_fits act c code
refused_fits act (places.Mends m step) code fits = mend_failure_fits act m.cause code
refused_fits act p code fits = failure_fits act None code
