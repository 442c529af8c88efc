-- The entry that an act has locked names a server: an act goes on behind its lock only where that is so.
use Rattle.std.proofs.Common.{◌≡◌, refl, ℕ, Bool, true, false, cond, List, [], ◌∷◌, Option, Some, None, is_some, sym, subst, nat_eq}
use Rattle.std.specs.Prelude.{⊤, ◌&&◌}
use Rattle.afs_num.specs.declared.location_calls.LocReply.TheVariants as entries
use Rattle.afs_num.specs.declared.messages.Reply.{Reply}
use Rattle.afs_num.specs.declared.messages.Reply.TheVariants as tell
use Rattle.afs_num.specs.declared.types.Code.{Code}
use Rattle.afs_num.specs.declared.volume_calls.VolReply.TheVariants as volumes
use Rattle.spec_dumps.specs.Streams.{is_last_at}
use Rattle.spec_history.specs.declared.scripts.AdminAct.{AdminAct}
use Rattle.spec_history.specs.declared.scripts.AdminAct.TheVariants as acts
use Rattle.spec_volrows.specs.VolRow.{most_piece}
use Rattle.spec_adminrows.specs.Acts.{answered, begins_with, can_go_on, creates_from, free_answered, goes_on_locked, lock_answered, locked, refused, seek_answered}
use Rattle.spec_adminrows.specs.Asks.{all_servers, family, home}
use Rattle.spec_adminrows.specs.Copying.{add_answered}
use Rattle.spec_adminrows.specs.Creating.{create_answered, dump_in, fills_or_closes}
use Rattle.spec_adminrows.specs.Entries.{has_read_only_at, is_usable}
use Rattle.spec_adminrows.specs.Moving.{plan_answered}
use Rattle.spec_adminrows.specs.Recovering.{entry_answered, mend_of, takes_copies}
use Rattle.spec_adminrows.specs.Releasing.{release_answered}
use Rattle.spec_adminrows.specs.Surveying.{survey_answered, surveys}
use Rattle.spec_adminrows.specs.Turns.{is_dead, is_unlisted}
use Rattle.spec_adminrows.specs.declared.places.Cause.{Cause}
use Rattle.spec_adminrows.specs.declared.places.Cause.TheVariants as causes
use Rattle.spec_adminrows.specs.declared.places.Creating.{Creating}
use Rattle.spec_adminrows.specs.declared.places.Creating.TheVariants as creating
use Rattle.spec_adminrows.specs.declared.places.Fresh.{Fresh}
use Rattle.spec_adminrows.specs.declared.places.Hold.{Hold}
use Rattle.spec_adminrows.specs.declared.places.Mend.{Mend}
use Rattle.spec_adminrows.specs.declared.places.Place.{Place}
use Rattle.spec_adminrows.specs.declared.places.Place.TheVariants as places
use Rattle.spec_adminrows.specs.declared.places.Purpose.{Purpose}
use Rattle.spec_adminrows.specs.declared.places.Purpose.TheVariants as purposes
use Rattle.spec_adminrows.specs.declared.places.Releasing.{Releasing}
use Rattle.spec_adminrows.specs.declared.places.Releasing.TheVariants as releasing
use Rattle.spec_adminrows.specs.declared.places.Seen.{Seen}
use Rattle.spec_adminrows.specs.declared.turns.Errand.{Errand}
use Rattle.spec_adminrows.specs.declared.turns.Turn.{Turn}
use Rattle.spec_adminrows.specs.declared.turns.Turn.TheVariants as turns
use Rattle.law_walks.proofs.Places.{backup_is, dump_is, ends_is, fails_is, mend_is, move_is, remove_is, seek_fails_is, survey_refused_is, sweep_is, takes_is, tour_is, visit_is, visit_refused_is, TurnIs}
use Rattle.afs_num.specs.Names.{volume_name_ok}
use Rattle.afs_num.specs.declared.location_calls.LocEntry.{LocEntry}
use Rattle.spec_records.specs.Entries.{site_of}
use Rattle.spec_adminrows.specs.Asks.{name_in_act}
use Rattle.spec_history.specs.declared.scripts.Script.{Script}
use Rattle.spec_runs.specs.NodeRuns.{node_start, CellInput, NodeCell, NodeMoved}
use Rattle.law_places.specs.Accepting.{cell_behind}
use Rattle.law_courses.specs.Courses.{course_in, course_on, Course}
use Rattle.law_courses.proofs.Continuing.{leads_is}
use Rattle.law_courses.proofs.Runs.{asked_is, each_run, Stepped}

-- ---- the entry that is locked

abbrev pub IsUsable : LocEntry → Type 0
IsUsable e = is_some (site_of e) ≡ true

-- at a place: of a recovery that mends, and of the creation of a volume, nothing is said
abbrev pub UsableAt : Place → Type 0
UsableAt (places.Seeks cause) = ⊤
UsableAt (places.Locks cause v) = ⊤
UsableAt (places.Frees h code first) = IsUsable h.entry
UsableAt (places.Creates f step) = ⊤
UsableAt (places.Adds h server) = IsUsable h.entry
UsableAt (places.Backs h step) = IsUsable h.entry
UsableAt (places.Dumps s step) = IsUsable s.hold.entry
UsableAt (places.Releases h step) = IsUsable h.entry
UsableAt (places.Tours r step) = IsUsable r.hold.entry
UsableAt (places.Visits r s step) = IsUsable r.hold.entry
UsableAt (places.Surveys h why s left seen) = IsUsable h.entry
UsableAt (places.Plans h target) = IsUsable h.entry
UsableAt (places.Moves m step) = IsUsable m.hold.entry
UsableAt (places.Removes h seen step) = IsUsable h.entry
UsableAt (places.Sweeps h spot left step) = IsUsable h.entry
UsableAt (places.Asks cause h seen) = IsUsable h.entry
UsableAt (places.Mends m step) = ⊤

abbrev AtPlace : Place → Type 0
AtPlace p = UsableAt p

pub first_of : (a b : Bool) → (a && b) ≡ true → a ≡ true
first_of true b e = refl
first_of false b e = absurd cc

pub second_of : (a b : Bool) → (a && b) ≡ true → b ≡ true
second_of true b e = e
second_of false b e = absurd cc

when : (b : Bool) (x : Turn) → (b ≡ true → TurnIs AtPlace x) → TurnIs AtPlace (cond b x turns.Passes)
when true x h = h refl
when false x h = tt

either : (b : Bool) (x y : Turn) → TurnIs AtPlace x → TurnIs AtPlace y → TurnIs AtPlace (cond b x y)
either true x y h k = h
either false x y h k = k

surveys_is : (h : Hold) (why : Purpose) (left : List ℕ) (seen : List Seen) → IsUsable h.entry → TurnIs AtPlace (surveys h why left seen)
surveys_is h (purposes.Moves target) [] seen g = g
surveys_is h purposes.Removes [] seen g = g
surveys_is h (purposes.Mends c) [] seen g = g
surveys_is h why (s ∷ left) seen g = g

goes_is : (e : Errand) (h : Hold) (act : AdminAct) → IsUsable h.entry → TurnIs AtPlace (goes_on_locked e h act)
goes_is e h (acts.Create name server quota) g = tt
goes_is e h (acts.Restore name server label) g = tt
goes_is e h (acts.AddSite name server) g = either (has_read_only_at server h.entry) _ _ g g
goes_is e h (acts.Backup name) g = g
goes_is e h (acts.Release name) g = g
goes_is e h (acts.Move name server) g = either (nat_eq server (home h)) _ _ g (surveys_is h (purposes.Moves server) (all_servers e) [] g)
goes_is e h (acts.Dump name label from) g = g
goes_is e h (acts.Remove name) g = surveys_is h purposes.Removes (all_servers e) [] g
goes_is e h (acts.Recover name) g = surveys_is h (purposes.Mends causes.Asked) (all_servers e) [] g

locked_is : (e : Errand) (h : Hold) (c : Cause) → IsUsable h.entry → TurnIs AtPlace (locked e h c)
locked_is e h causes.Asked g = goes_is e h e.act g
locked_is e h (causes.After code) g = surveys_is h (purposes.Mends (causes.After code)) (all_servers e) [] g

lock_is : (e : Errand) (c : Cause) (v : ℕ) (reply : Reply) → TurnIs AtPlace (lock_answered e c reply)
lock_is e c v (tell.Location (entries.SetLock stamp n)) = when (can_go_on e n) _ (λ can. locked_is e (record { entry = n; stamp = stamp }) c (first_of (is_some (site_of n)) _ (second_of (volume_name_ok (name_in_act e.act)) (is_usable n) can)))
lock_is e c v reply = tt

seek_is : (c : Cause) (reply : Reply) → TurnIs AtPlace (seek_answered c reply)
seek_is c (tell.Location (entries.GetEntryByName n)) = tt
seek_is c reply = tt

free_is : (code : Code) (reply : Reply) → TurnIs AtPlace (free_answered code reply)
free_is code (tell.Location entries.ReleaseLock) = tt
free_is code reply = tt

add_is : (h : Hold) (reply : Reply) → IsUsable h.entry → TurnIs AtPlace (add_answered h reply)
add_is h (tell.Location entries.ReplaceEntry) g = g
add_is h reply g = tt

plan_is : (h : Hold) (target : ℕ) (reply : Reply) → IsUsable h.entry → TurnIs AtPlace (plan_answered h target reply)
plan_is h target (tell.Location (entries.GetNewVolumeId x)) g = g
plan_is h target reply g = tt

survey_is : (h : Hold) (why : Purpose) (s : ℕ) (left : List ℕ) (seen : List Seen) (reply : Reply) → IsUsable h.entry → TurnIs AtPlace (survey_answered h why s left seen reply)
survey_is h why s left seen (tell.Volume (volumes.ListVols ls)) g = surveys_is h why left _ g
survey_is h why s left seen reply g = tt

entry_is : (e : Errand) (c : Cause) (h : Hold) (seen : List Seen) (reply : Reply) → IsUsable h.entry → TurnIs AtPlace (entry_answered e c h seen reply)
entry_is e c h seen (tell.Location (entries.GetEntryById n)) g =
    let m : Mend = mend_of e c h seen n in either (is_usable n) (takes_copies m m.copies) turns.Passes (takes_is AtPlace m m.copies (λ copies others step. tt)) tt
entry_is e c h seen reply g = tt

filled_is : (f : Fresh) (v t : ℕ) (o : Option (List ℕ)) → TurnIs AtPlace (fills_or_closes f v t o)
filled_is f v t None = tt
filled_is f v t (Some bytes) = tt

create_is : (f : Fresh) (step : Creating) (reply : Reply) → TurnIs AtPlace (create_answered f step reply)
create_is f creating.Numbers (tell.Location (entries.GetNewVolumeId v)) = tt
create_is f (creating.Makes v) (tell.Volume (volumes.CreateVolume t)) = filled_is f v t f.dump
create_is f (creating.Fills v t offset) (tell.Volume volumes.Restore) = either (is_last_at most_piece offset (dump_in f)) _ _ tt tt
create_is f (creating.Closes v t) (tell.Volume volumes.SetFlags) = tt
create_is f (creating.Ends v t) (tell.Volume volumes.EndTrans) = tt
create_is f (creating.Enters v) (tell.Location (entries.CreateEntry stamp)) = tt
create_is f (creating.Checks v code) (tell.Location (entries.GetEntryById n)) = tt
create_is f (creating.Scraps v code) (tell.Volume (volumes.TransCreate t)) = tt
create_is f (creating.Scrapped v code t) (tell.Volume volumes.DeleteVolume) = tt
create_is f (creating.Begins v stamp) (tell.Volume (volumes.TransCreate t)) = tt
create_is f (creating.Opens v stamp t) (tell.Volume volumes.SetFlags) = tt
create_is f (creating.Opened v stamp t) (tell.Volume volumes.EndTrans) = tt
create_is f (creating.Frees v stamp) (tell.Location entries.ReleaseLock) = tt
create_is f step r = tt

create_refused_is : (f : Fresh) (step : Creating) (code : Code) → TurnIs AtPlace (refused (places.Creates f step) code)
create_refused_is f (creating.Enters v) code = either (is_dead code) (turns.Ends code) _ tt tt
create_refused_is f (creating.Checks v first) code = either (is_unlisted code) _ (turns.Ends first) tt tt
create_refused_is f (creating.Scraps v first) code = tt
create_refused_is f (creating.Scrapped v first t) code = tt
create_refused_is f (creating.Begins v stamp) code = fails_is AtPlace None code (λ c. tt)
create_refused_is f (creating.Opens v stamp t) code = fails_is AtPlace None code (λ c. tt)
create_refused_is f (creating.Opened v stamp t) code = fails_is AtPlace None code (λ c. tt)
create_refused_is f (creating.Frees v stamp) code = fails_is AtPlace None code (λ c. tt)
create_refused_is f step code = tt

release_on : (h : Hold) (step : Releasing) (reply : Reply) → IsUsable h.entry → TurnIs AtPlace (release_answered h step reply)
release_on h releasing.Stamps (tell.Volume (volumes.ListVols ls)) g = either (nat_eq h.entry.read_only 0) _ _ g g
release_on h releasing.Numbers (tell.Location (entries.GetNewVolumeId ro)) g = g
release_on h (releasing.NumbersClone ro) (tell.Location (entries.GetNewVolumeId x)) g = g
release_on h step r g = tt

pub answered_is : (e : Errand) (p : Place) (reply : Reply) → AtPlace p → TurnIs AtPlace (answered e p reply)
answered_is e (places.Seeks c) reply g = seek_is c reply
answered_is e (places.Locks c v) reply g = lock_is e c v reply
answered_is e (places.Frees h code first) reply g = free_is code reply
answered_is e (places.Creates f step) reply g = create_is f step reply
answered_is e (places.Adds h server) reply g = add_is h reply g
answered_is e (places.Backs h step) reply g = backup_is AtPlace h step reply (λ step. g) g
answered_is e (places.Dumps s step) reply g = dump_is AtPlace s step reply (λ bytes step. g) g
answered_is e (places.Releases h step) reply g = release_on h step reply g
answered_is e (places.Tours r step) reply g = tour_is AtPlace r step reply (λ q same step. subst (λ (h : Hold). IsUsable h.entry) (sym same) g) (λ q same s step. subst (λ (h : Hold). IsUsable h.entry) (sym same) g) (λ code first. g)
answered_is e (places.Visits r s step) reply g = visit_is AtPlace r s step reply (λ q same step. subst (λ (h : Hold). IsUsable h.entry) (sym same) g) (λ q same s step. subst (λ (h : Hold). IsUsable h.entry) (sym same) g)
answered_is e (places.Surveys h why s left seen) reply g = survey_is h why s left seen reply g
answered_is e (places.Plans h target) reply g = plan_is h target reply g
answered_is e (places.Moves m step) reply g = move_is AtPlace m step reply (λ step. g) g
answered_is e (places.Removes h seen step) reply g = remove_is AtPlace h seen step reply (λ step. g) (λ spot left step. g)
answered_is e (places.Sweeps h spot left step) reply g = sweep_is AtPlace h spot left step reply (λ spot left step. g)
answered_is e (places.Asks c h seen) reply g = entry_is e c h seen reply g
answered_is e (places.Mends m step) reply g = mend_is AtPlace m step reply (λ copies others step. tt)

pub refused_is : (p : Place) (code : Code) → AtPlace p → TurnIs AtPlace (refused p code)
refused_is (places.Seeks c) code g = seek_fails_is AtPlace c code
refused_is (places.Locks c v) code g = seek_fails_is AtPlace c code
refused_is (places.Frees h ending first) code g = fails_is AtPlace first code (λ c. tt)
refused_is (places.Creates f step) code g = create_refused_is f step code
refused_is (places.Adds h server) code g = fails_is AtPlace None code (λ c. tt)
refused_is (places.Backs h step) code g = fails_is AtPlace None code (λ c. tt)
refused_is (places.Dumps s step) code g = fails_is AtPlace None code (λ c. tt)
refused_is (places.Releases h step) code g = fails_is AtPlace None code (λ c. tt)
refused_is (places.Tours r step) code g = fails_is AtPlace r.first code (λ c. tt)
refused_is (places.Visits r s step) code g = visit_refused_is AtPlace r s step code (λ q same step. subst (λ (h : Hold). IsUsable h.entry) (sym same) g) (λ q same s step. subst (λ (h : Hold). IsUsable h.entry) (sym same) g)
refused_is (places.Surveys h why s left seen) code g = survey_refused_is AtPlace why code (λ c. tt)
refused_is (places.Plans h target) code g = fails_is AtPlace None code (λ c. tt)
refused_is (places.Moves m step) code g = fails_is AtPlace None code (λ c. tt)
refused_is (places.Removes h seen step) code g = fails_is AtPlace None code (λ c. tt)
refused_is (places.Sweeps h spot left step) code g = fails_is AtPlace None code (λ c. tt)
refused_is (places.Asks c h seen) code g = ends_is AtPlace c code
refused_is (places.Mends m step) code g = ends_is AtPlace m.cause code

creates_is : (server : ℕ) (o : Option (List ℕ)) → TurnIs AtPlace (creates_from server o)
creates_is server None = tt
creates_is server (Some bytes) = tt

pub first_is : (act : AdminAct) (held : Option (List ℕ)) → TurnIs AtPlace (begins_with act held)
first_is (acts.Create name server quota) held = tt
first_is (acts.Restore name server label) held = creates_is server held
first_is act held = tt

-- ---- of each question that was ever asked

module _ (course : Course) (c : NodeCell) (m : NodeMoved) (t : Stepped course c m) (h : (n epoch k : ℕ) → UsableAt (course n epoch k).place) where
  next_usable : (n epoch k : ℕ) → UsableAt (course_on course m.cell.admins n epoch k).place
  next_usable = asked_is course c m t AtPlace h
      (λ q x. leads_is AtPlace q.place (begins_with q.errand.act x.0) (first_is q.errand.act x.0) x.1)
      (λ n epoch k q w. leads_is AtPlace q.place (answered (course n epoch k).errand (course n epoch k).place w.reply) (answered_is (course n epoch k).errand (course n epoch k).place w.reply (h n epoch k)) w.leads)
      (λ p code q k l. leads_is AtPlace q (refused p code) (refused_is p code k) l)

pub all_usable : (s : Script) (inputs : List CellInput) (n epoch k : ℕ) → UsableAt (course_in s inputs n epoch k).place
all_usable s inputs = each_run s (λ (course : Course) (c : NodeCell). (n epoch k : ℕ) → UsableAt (course n epoch k).place) (λ done x t h. next_usable (course_in s done) (cell_behind (node_start s) done) _ t h) (λ n epoch k. tt) inputs
