-- The acts of administrators: how each begins, what is asked at each of its places, and where an answer leads.
use Rattle.std.specs.Prelude.{ℕ, List, [], Bool, ◌&&◌, Option, Some, None, if◌then◌else◌}
use Rattle.spec_history.specs.declared.scripts.AdminAct.{AdminAct}
use Rattle.spec_history.specs.declared.scripts.AdminAct.TheVariants as acts
use Rattle.afs_num.specs.declared.location_calls.LocCall.TheVariants as loc
use Rattle.afs_num.specs.Names.{volume_name_ok}
use Rattle.afs_num.specs.declared.location_calls.LocEntry.{LocEntry}
use Rattle.afs_num.specs.declared.location_calls.LocReply.TheVariants as entries
use Rattle.afs_num.specs.declared.messages.Reply.{Reply}
use Rattle.afs_num.specs.declared.messages.Reply.TheVariants as tell
use Rattle.afs_num.specs.declared.types.Code.{Code}
use Rattle.spec_adminrows.specs.Asks.{at_loc, family, force_by, held_at_loc, name_in_act, operation_by}
use Rattle.spec_adminrows.specs.Copying.{add_answered, add_asks, adds, backs, backup_answered, backup_asks, dump_answered, dump_asks, dumps}
use Rattle.spec_adminrows.specs.Creating.{create_answered, create_asks, create_refused, creates}
use Rattle.spec_adminrows.specs.Entries.{is_usable}
use Rattle.spec_adminrows.specs.Moving.{move_answered, move_asks, moves_to, plan_answered, plan_asks}
use Rattle.spec_adminrows.specs.Recovering.{entry_answered, entry_asks, mend_answered, mend_asks}
use Rattle.spec_adminrows.specs.Releasing.{release_answered, release_asks, releases, tour_answered, tour_asks, tour_refused, visit_answered, visit_asks, visit_refused}
use Rattle.spec_adminrows.specs.Removing.{remove_answered, remove_asks, sweep_answered, sweep_asks}
use Rattle.spec_adminrows.specs.Surveying.{survey_answered, survey_asks, survey_refused, surveys_all}
use Rattle.spec_adminrows.specs.Turns.{fails, mend_fails, no_dump, seek_fails}
use Rattle.spec_adminrows.specs.declared.places.Backing.TheVariants as backing
use Rattle.spec_adminrows.specs.declared.places.Cause.{Cause}
use Rattle.spec_adminrows.specs.declared.places.Cause.TheVariants as causes
use Rattle.spec_adminrows.specs.declared.places.Creating.TheVariants as creating
use Rattle.spec_adminrows.specs.declared.places.Dumping.TheVariants as dumping
use Rattle.spec_adminrows.specs.declared.places.Hold.{Hold}
use Rattle.spec_adminrows.specs.declared.places.Place.{Place}
use Rattle.spec_adminrows.specs.declared.places.Place.TheVariants as places
use Rattle.spec_adminrows.specs.declared.places.Purpose.TheVariants as purposes
use Rattle.spec_adminrows.specs.declared.places.Releasing.TheVariants as releasing
use Rattle.spec_adminrows.specs.declared.turns.Ask.{Ask}
use Rattle.spec_adminrows.specs.declared.turns.Errand.{Errand}
use Rattle.spec_adminrows.specs.declared.turns.Turn.{Turn}
use Rattle.spec_adminrows.specs.declared.turns.Turn.TheVariants as turns

-- ---- what is asked at a place

abbrev pub asks_at : Errand → Place → Ask
asks_at e (places.Seeks c) = at_loc 0 (loc.GetEntryByName (name_in_act e.act))
asks_at e (places.Locks c v) = at_loc 0 (loc.SetLock v (operation_by c e.act) (force_by c e.act))
asks_at e (places.Frees h code first) = held_at_loc h (loc.ReleaseLock (family h))
asks_at e (places.Creates f step) = create_asks (name_in_act e.act) f step
asks_at e (places.Adds h server) = add_asks h server
asks_at e (places.Backs h step) = backup_asks (name_in_act e.act) h step
asks_at e (places.Dumps s step) = dump_asks s step
asks_at e (places.Releases h step) = release_asks h step
asks_at e (places.Tours r step) = tour_asks (name_in_act e.act) r step
asks_at e (places.Visits r s step) = visit_asks (name_in_act e.act) r s step
asks_at e (places.Surveys h why s left seen) = survey_asks h s
asks_at e (places.Plans h target) = plan_asks h
asks_at e (places.Moves m step) = move_asks (name_in_act e.act) m step
asks_at e (places.Removes h seen step) = remove_asks h step
asks_at e (places.Sweeps h spot left step) = sweep_asks h spot step
asks_at e (places.Asks c h seen) = entry_asks h
asks_at e (places.Mends m step) = mend_asks m step

-- ---- an act begins

abbrev pub creates_from : ℕ → Option (List ℕ) → Turn
creates_from server None = turns.Ends no_dump
creates_from server (Some bytes) = creates (record { server = server; quota = 1; dump = Some bytes }) creating.Numbers

-- with the dump that is held under its label
abbrev pub begins_with : AdminAct → Option (List ℕ) → Turn
begins_with (acts.Create name server quota) held = creates (record { server = server; quota = quota; dump = None }) creating.Numbers
begins_with (acts.Restore name server label) held = creates_from server held
begins_with act held = turns.Goes (places.Seeks causes.Asked)

-- its entry is locked
abbrev pub goes_on_locked : Errand → Hold → AdminAct → Turn
goes_on_locked e h (acts.Create name server quota) = turns.Passes
goes_on_locked e h (acts.Restore name server label) = turns.Passes
goes_on_locked e h (acts.AddSite name server) = adds h server
goes_on_locked e h (acts.Backup name) = backs h backing.Stamps
goes_on_locked e h (acts.Release name) = releases h releasing.Stamps
goes_on_locked e h (acts.Move name server) = moves_to e h server
goes_on_locked e h (acts.Dump name label from) = dumps (record { hold = h; label = label; from = from; bytes = [] }) dumping.Stamps
goes_on_locked e h (acts.Remove name) = surveys_all e h purposes.Removes
goes_on_locked e h (acts.Recover name) = surveys_all e h (purposes.Mends causes.Asked)

abbrev pub locked : Errand → Hold → Cause → Turn
locked e h causes.Asked = goes_on_locked e h e.act
locked e h (causes.After code) = surveys_all e h (purposes.Mends (causes.After code))

-- ---- a reply with code 0. One of another kind is none to its call.

abbrev pub seek_answered : Cause → Reply → Turn
seek_answered c (tell.Location (entries.GetEntryByName n)) = turns.Goes (places.Locks c n.read_write)
seek_answered c reply = turns.Passes

-- The database has no entry under a name that no volume can have. So the names of its copies can be spelled.
abbrev pub can_go_on : Errand → LocEntry → Bool
can_go_on e n = volume_name_ok (name_in_act e.act) && is_usable n

abbrev pub lock_answered : Errand → Cause → Reply → Turn
lock_answered e c (tell.Location (entries.SetLock stamp n)) = if can_go_on e n then locked e (record { entry = n; stamp = stamp }) c else turns.Passes
lock_answered e c reply = turns.Passes

abbrev pub free_answered : Code → Reply → Turn
free_answered code (tell.Location entries.ReleaseLock) = turns.Ends code
free_answered code reply = turns.Passes

abbrev pub answered : Errand → Place → Reply → Turn
answered e (places.Seeks c) reply = seek_answered c reply
answered e (places.Locks c v) reply = lock_answered e c reply
answered e (places.Frees h code first) reply = free_answered code reply
answered e (places.Creates f step) reply = create_answered f step reply
answered e (places.Adds h server) reply = add_answered h reply
answered e (places.Backs h step) reply = backup_answered h step reply
answered e (places.Dumps s step) reply = dump_answered s step reply
answered e (places.Releases h step) reply = release_answered h step reply
answered e (places.Tours r step) reply = tour_answered r step reply
answered e (places.Visits r s step) reply = visit_answered r s step reply
answered e (places.Surveys h why s left seen) reply = survey_answered h why s left seen reply
answered e (places.Plans h target) reply = plan_answered h target reply
answered e (places.Moves m step) reply = move_answered m step reply
answered e (places.Removes h seen step) reply = remove_answered h seen step reply
answered e (places.Sweeps h spot left step) reply = sweep_answered h spot left step reply
answered e (places.Asks c h seen) reply = entry_answered e c h seen reply
answered e (places.Mends m step) reply = mend_answered m step reply

-- ---- a refusal, or a call that was given up

abbrev pub refused : Place → Code → Turn
refused (places.Seeks c) code = seek_fails c code
refused (places.Locks c v) code = seek_fails c code
refused (places.Frees h ending first) code = fails first code
refused (places.Creates f step) code = create_refused f step code
refused (places.Tours r step) code = tour_refused r code
refused (places.Visits r s step) code = visit_refused r s step code
refused (places.Surveys h why s left seen) code = survey_refused why code
refused (places.Asks c h seen) code = mend_fails c code
refused (places.Mends m step) code = mend_fails m.cause code
refused p code = fails None code
