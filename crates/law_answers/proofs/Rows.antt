-- What the history tells of a step of an administrator is what the step does.
use Rattle.std.proofs.Common.{◌≡◌, ℕ, ◌+◌, Bool, true, false, cond, List, [], ◌∷◌, ◌++◌, Option, Some, None, refl, subst, sym, ap, ap₂, nat_lt, map, arith}
use Rattle.std.proofs.lemmas.Bool.{le-ltb, lt-ltb, ltb-false, ltb-true}
use Rattle.std.specs.Prelude.{◌<◌, ◌≤◌, filter, find, is_some}
use Rattle.std.specs.Option.{option_map}
use Rattle.spec_history.specs.declared.lines.Line.{Line}
use Rattle.spec_history.specs.declared.lines.Line.TheVariants as lines
use Rattle.spec_history.specs.declared.scripts.AdminAct.{AdminAct}
use Rattle.spec_history.specs.declared.scripts.AdminAct.TheVariants as acts
use Rattle.spec_model.specs.Calls.{admitted, call_seated, is_sent_again, last_timeout, Admitted}
use Rattle.spec_model.specs.Calls as pairs
use Rattle.afs_num.specs.Nodes.{same_node}
use Rattle.afs_num.specs.declared.messages.Carried.{Carried}
use Rattle.afs_num.specs.declared.messages.Carried.TheVariants as carried
use Rattle.afs_num.specs.declared.messages.Message.{Message}
use Rattle.afs_num.specs.declared.messages.Received.TheVariants.{Whole}
use Rattle.afs_num.specs.declared.messages.Reply.{Reply}
use Rattle.afs_num.specs.declared.types.Code.{Code}
use Rattle.afs_num.specs.declared.types.Head.{Head}
use Rattle.afs_num.specs.declared.types.Node.{Node}
use Rattle.spec_rows.specs.ClientRow.{with_boot}
use Rattle.spec_rows.specs.ServerRow.{not_served, refusal, seat_for}
use Rattle.spec_rows.specs.States.{KnownBoot, Seat}
use Rattle.spec_rows.specs.Steps.{Step}
use Rattle.spec_adminrows.specs.Acts.{answered, begins_with, creates_from, refused}
use Rattle.spec_adminrows.specs.AdminRow.{admin_begin_row, admin_row, admin_timeout_line, admin_timeout_row, admits, ask_of, asking, awaits, called, dump_held, errand_of, gets, has_label, has_other_label, is_awaited, label_in, running_at, sends_again, told, turned, AdminState}
use Rattle.spec_adminrows.specs.Turns.{code_or, dead, no_dump}
use Rattle.spec_adminrows.specs.declared.places.Cause.TheVariants as causes
use Rattle.spec_adminrows.specs.declared.places.Creating.TheVariants as creating
use Rattle.spec_adminrows.specs.declared.places.Place.{Place}
use Rattle.spec_adminrows.specs.declared.places.Place.TheVariants as places
use Rattle.spec_adminrows.specs.declared.turns.HeldDump.{HeldDump}
use Rattle.spec_adminrows.specs.declared.turns.Running.{Running}
use Rattle.spec_adminrows.specs.declared.turns.Turn.{Turn}
use Rattle.spec_adminrows.specs.declared.turns.Turn.TheVariants as turns
use Rattle.law_answers.specs.Answers.{act_course_behind, end_at_begin, end_at_failure, held_behind, is_label_held, is_label, is_other_label, told_end, AreCaused, AreTimeoutsOf}
use Rattle.law_answers.specs.Courses.{answers, asked_in, begins, ends, ends_in, event_of, fails, found_by, event_given, nothing_found, passes, stage_answered, timed_by, event_carried, unlocked, Asked, ActCourse, Event, Findings, Stage}
use Rattle.law_answers.proofs.Failures.{failed_at}
use Rattle.law_answers.proofs.Places.{asked_of, course_at, first_at, stage_at, Answers, Fails, FoundAt, Goes}
use Rattle.law_answers.proofs.Turns.{answered_at}

-- ---- dumps by their labels

abbrev label_of : HeldDump → List ℕ
label_of d = d.label

abbrev pub labels : AdminState → List (List ℕ)
labels a = map label_of a.dumps

kept_by : (b : Bool) (d : HeldDump) (ds : List HeldDump) → map label_of (cond b (d ∷ ds) ds) ≡ cond b (d.label ∷ map label_of ds) (map label_of ds)
kept_by true d ds = refl
kept_by false d ds = refl

kept_labels : (label : List ℕ) (new : HeldDump) (ds : List HeldDump) → map label_of (filter (has_other_label label) ds ++ new ∷ []) ≡ filter (is_other_label label) (map label_of ds) ++ new.label ∷ []
kept_labels label new [] = refl
kept_labels label new (d ∷ ds) = by (has_other_label label d) (kept_labels label new ds)
  where
    by : (b : Bool) → map label_of (filter (has_other_label label) ds ++ new ∷ []) ≡ filter (is_other_label label) (map label_of ds) ++ new.label ∷ [] →
        map label_of (cond b (d ∷ filter (has_other_label label) ds) (filter (has_other_label label) ds) ++ new ∷ []) ≡ cond b (d.label ∷ filter (is_other_label label) (map label_of ds)) (filter (is_other_label label) (map label_of ds)) ++ new.label ∷ []
    by true h = ap (λ (ls : List (List ℕ)). d.label ∷ ls) h
    by false h = h

found_by_label : (label : List ℕ) (ds : List HeldDump) → is_label_held label (map label_of ds) ≡ is_some (dump_held label ds)
found_by_label label [] = refl
found_by_label label (d ∷ ds) = by (has_label label d) (found_by_label label ds)
  where
    by : (b : Bool) → is_label_held label (map label_of ds) ≡ is_some (dump_held label ds) →
        is_some (cond b (Some d.label) (find (is_label label) (map label_of ds))) ≡ is_some (option_map (λ (d : HeldDump). d.bytes) (cond b (Some d) (find (has_label label) ds)))
    by true h = refl
    by false h = h

-- ---- the act of an administrator, and its course as the history tells it

abbrev pub Fits : AdminState → Option Running → Option ActCourse → Type 0
Fits a None o = o ≡ None
Fits a (Some r) o = (x : Findings) × ((o ≡ Some (course_at a r x)) × FoundAt r.act r.place x)

fits_seats : (a : AdminState) (seats : List Seat) (r : Option Running) (o : Option ActCourse) → Fits a r o → Fits (record a { seats = seats }) r o
fits_seats a seats None o h = h
fits_seats a seats (Some r) o h = h

fits_boots : (a : AdminState) (boots : List KnownBoot) (r : Option Running) (o : Option ActCourse) → Fits a r o → Fits (record a { boots = boots }) r o
fits_boots a boots None o h = h
fits_boots a boots (Some r) o h = h

fits_tries : (a : AdminState) (tries : ℕ) (r : Option Running) (o : Option ActCourse) → Fits a r o → Fits (record a { tries = tries }) r o
fits_tries a tries None o h = h
fits_tries a tries (Some r) o h = h

-- What the step tells is caused, where the administrator held dumps of these labels and its act had this course; and behind it what is known
-- fits again. Its first line is like this one.
pub record Follows (me : Node) (held : List (List ℕ)) (o : Option ActCourse) (ev : Event) (l : Line) (s : Step AdminState) : Type 0 where
  pub line : (ms : List Message) (p : Option ActCourse) → event_of me ms p s.lines ≡ event_of me ms p (l ∷ [])
  pub caused : AreCaused me held o ev (ends_in s.lines) (asked_in s.sent)
  pub timeouts : AreTimeoutsOf me o s.lines
  pub holds : held_behind held s.lines ≡ labels s.state
  pub course : Fits s.state s.state.running (act_course_behind o ev (ends_in s.lines) (asked_in s.sent))

either : (b : Bool) (me : Node) (held : List (List ℕ)) (o : Option ActCourse) (ev other : Event) (l : Line) (s t : Step AdminState) → Follows me held o ev l s → Follows me held o other l t → Follows me held o (cond b ev other) l (cond b s t)
either true me held o ev other l s t h k = h
either false me held o ev other l s t h k = k

both : (b : Bool) (me : Node) (held : List (List ℕ)) (o : Option ActCourse) (ev : Event) (l : Line) (s t : Step AdminState) → Follows me held o ev l s → Follows me held o ev l t → Follows me held o ev l (cond b s t)
both true me held o ev l s t h k = h
both false me held o ev l s t h k = k

abbrev course_of : AdminAct → Asked → Findings → Option Code → Stage → ActCourse
course_of act q x first stage = record { act = act; asked = q; first = first; stage = stage; found = x }

course_is : (act : AdminAct) (q : Asked) (x : Findings) (f g : Option Code) (s t : Stage) → f ≡ g → s ≡ t → Some (course_of act q x f s) ≡ Some (course_of act q x g t)
course_is act q x f g s t h k = ap₂ (λ (i : Option Code) (j : Stage). Some (course_of act q x i j)) h k

-- ---- a call is answered

module _ (me : Node) (a : AdminState) (r : Running) (x : Findings) (run : a.running ≡ Some r) (place : ℕ) where
  abbrev was : ActCourse
  was = course_at a r x

  abbrev told_found : Reply → Findings
  told_found reply = found_by r.act (stage_at r.place) (asked_of a (ask_of a r)) x reply

  abbrev told_stage : Stage
  told_stage = stage_answered r.act (stage_at r.place) (ask_of a r).call

  answer_turns : (reply : Reply) (t : Turn) → FoundAt r.act r.place x → Answers (errand_of a r.act) (ask_of a r).call reply (first_at r.place) told_stage (told_found reply) t → Follows me (labels a) (Some was) (answers reply) (lines.Given place) (turned me a r.act (lines.Given place ∷ []) t)
  answer_turns reply (turns.Goes p) f h = record {
    line = λ ms p. refl;
    caused = tt;
    timeouts = tt;
    holds = refl;
    course = (told_found reply, (course_is r.act (asked_of (asking a (running_at r.act p)) (ask_of a (running_at r.act p))) (told_found reply) _ _ _ _ h.0 h.1.0, h.1.1));
  }
  answer_turns reply (turns.Keeps label bytes p) f h = record {
    line = λ ms p. refl;
    caused = tt;
    timeouts = tt;
    holds = sym (kept_labels label (record { label = label; bytes = bytes }) a.dumps);
    course = (told_found reply, (course_is r.act (asked_of (asking a (running_at r.act p)) (ask_of a (running_at r.act p))) (told_found reply) _ _ _ _ h.0 h.1.0, h.1.1));
  }
  answer_turns reply (turns.Ends code) f h = record { line = λ ms p. refl; caused = (refl, h); timeouts = tt; holds = refl; course = refl }
  answer_turns reply (turns.Sticks code) f h = record { line = λ ms p. refl; caused = (refl, h); timeouts = tt; holds = refl; course = refl }
  answer_turns reply turns.Passes f h = record { line = λ ms p. refl; caused = h; timeouts = tt; holds = refl; course = subst (λ (o : Option Running). Fits a o (Some was)) (sym run) (x, (refl, f)) }

  -- ---- a call fails: it is refused, or was timed out for the third time

  abbrev Ends : Code → Turn → Type 0
  Ends code t = Fails (errand_of a r.act) (end_at_failure (stage_at r.place) (ask_of a r).call (first_at r.place) code) (Some (code_or code (first_at r.place))) (stage_at r.place) x t

  failed_course : (code : Code) (p : Place) → Goes (errand_of a r.act) (Some (code_or code (first_at r.place))) (stage_at r.place) x p →
      Fits (asking a (running_at r.act p)) (Some (running_at r.act p)) (act_course_behind (Some was) (fails code) [] (Some (asked_of (asking a (running_at r.act p)) (ask_of a (running_at r.act p)))))
  failed_course code p h = (x, (course_is r.act (asked_of (asking a (running_at r.act p)) (ask_of a (running_at r.act p))) x _ _ _ _ h.0 h.1.0, h.1.1))

  refusal_turns : (code : Code) (t : Turn) → Ends code t → Follows me (labels a) (Some was) (fails code) (lines.Given place) (turned me a r.act (lines.Given place ∷ []) t)
  refusal_turns code (turns.Goes p) h = record { line = λ ms p. refl; caused = (sym (ap (told_end me) h.0), tt); timeouts = tt; holds = refl; course = failed_course code p h.1 }
  refusal_turns code (turns.Keeps label bytes p) h = absurd h
  refusal_turns code (turns.Ends last) h = record { line = λ ms p. refl; caused = (sym (ap (told_end me) h), tt); timeouts = tt; holds = refl; course = refl }
  refusal_turns code (turns.Sticks last) h = record { line = λ ms p. refl; caused = (sym (ap (told_end me) h), tt); timeouts = tt; holds = refl; course = refl }
  refusal_turns code turns.Passes h = absurd h

  timeout_turns : (t : Turn) → Ends dead t → Follows me (labels a) (Some was) (fails dead) (admin_timeout_line me a (ask_of a r)) (turned me a r.act (admin_timeout_line me a (ask_of a r) ∷ []) t)
  timeout_turns (turns.Goes p) h = record { line = λ ms p. refl; caused = (sym (ap (told_end me) h.0), tt); timeouts = ((refl, (refl, (refl, refl))), tt); holds = refl; course = failed_course dead p h.1 }
  timeout_turns (turns.Keeps label bytes p) h = absurd h
  timeout_turns (turns.Ends last) h = record { line = λ ms p. refl; caused = (sym (ap (told_end me) h), tt); timeouts = ((refl, (refl, (refl, refl))), tt); holds = refl; course = refl }
  timeout_turns (turns.Sticks last) h = record { line = λ ms p. refl; caused = (sym (ap (told_end me) h), tt); timeouts = ((refl, (refl, (refl, refl))), tt); holds = refl; course = refl }
  timeout_turns turns.Passes h = absurd h

-- ---- an act begins

begun_turns : (me : Node) (a : AdminState) (act : AdminAct) (t : Turn) → (p : Place) → t ≡ turns.Goes p → end_at_begin (labels a) act ≡ None → first_at p ≡ None → stage_at p ≡ unlocked → FoundAt act p nothing_found →
    Follows me (labels a) None (begins me act) (lines.BeginAdmin me act) (turned me a act (lines.BeginAdmin me act ∷ []) t)
begun_turns me a act t p is goes first stage found =
    subst (λ (u : Turn). Follows me (labels a) None (begins me act) (lines.BeginAdmin me act) (turned me a act (lines.BeginAdmin me act ∷ []) u)) (sym is) (record {
      line = λ ms o. refl;
      caused = (refl, (refl, (sym (ap (told_end me) goes), tt)));
      timeouts = tt;
      holds = refl;
      course = (nothing_found, (course_is act (asked_of (asking a (running_at act p)) (ask_of a (running_at act p))) nothing_found None _ unlocked _ (sym first) (sym stage), found));
    })

restores_by : (me : Node) (a : AdminState) (name : List ℕ) (server : ℕ) (label : List ℕ) (o : Option (List ℕ)) → is_label_held label (labels a) ≡ is_some o →
    Follows me (labels a) None (begins me (acts.Restore name server label)) (lines.BeginAdmin me (acts.Restore name server label)) (turned me a (acts.Restore name server label) (lines.BeginAdmin me (acts.Restore name server label) ∷ []) (creates_from server o))
restores_by me a name server label None is = record {
  line = λ ms o. refl;
  caused = (refl, (refl, (sym (ap (λ (b : Bool). told_end me (cond b None (Some (ends no_dump)))) is), tt)));
  timeouts = tt;
  holds = refl;
  course = refl;
}
restores_by me a name server label (Some bytes) is =
    begun_turns me a (acts.Restore name server label) _ (places.Creates (record { server = server; quota = 1; dump = Some bytes }) creating.Numbers) refl (ap (λ (b : Bool). cond b None (Some (ends no_dump))) is) refl refl refl

seeks_first : (me : Node) (a : AdminState) (act : AdminAct) → begins_with act (dump_held (label_in act) a.dumps) ≡ turns.Goes (places.Seeks causes.Asked) → end_at_begin (labels a) act ≡ None →
    Follows me (labels a) None (begins me act) (lines.BeginAdmin me act) (turned me a act (lines.BeginAdmin me act ∷ []) (begins_with act (dump_held (label_in act) a.dumps)))
seeks_first me a act is goes = begun_turns me a act _ (places.Seeks causes.Asked) is goes refl refl refl

pub begun_follows : (me : Node) (a : AdminState) (act : AdminAct) → Follows me (labels a) None (begins me act) (lines.BeginAdmin me act) (admin_begin_row me a act)
unfolding admin_begin_row
begun_follows me a (acts.Create name server quota) = begun_turns me a (acts.Create name server quota) _ (places.Creates (record { server = server; quota = quota; dump = None }) creating.Numbers) refl refl refl refl refl
begun_follows me a (acts.Restore name server label) = restores_by me a name server label (dump_held label a.dumps) (found_by_label label a.dumps)
begun_follows me a (acts.AddSite name server) = seeks_first me a (acts.AddSite name server) refl refl
begun_follows me a (acts.Backup name) = seeks_first me a (acts.Backup name) refl refl
begun_follows me a (acts.Release name) = seeks_first me a (acts.Release name) refl refl
begun_follows me a (acts.Move name server) = seeks_first me a (acts.Move name server) refl refl
begun_follows me a (acts.Dump name label from) = seeks_first me a (acts.Dump name label from) refl refl
begun_follows me a (acts.Remove name) = seeks_first me a (acts.Remove name) refl refl
begun_follows me a (acts.Recover name) = seeks_first me a (acts.Recover name) refl refl

-- ---- a message is given

told_follows : (me : Node) (a : AdminState) (place : ℕ) (ms : List Message) (o : Option ActCourse) → Fits a a.running o → Follows me (labels a) o passes (lines.Given place) (told a place ms)
told_follows me a place ms o h = record { line = λ ms p. refl; caused = refl; timeouts = tt; holds = refl; course = h }

-- it is called
admits_follows : (me : Node) (a : AdminState) (place : ℕ) (head : Head) (o : Option ActCourse) (w : Admitted Message) → Fits a a.running o → Follows me (labels a) o passes (lines.Given place) (admits a place head w)
admits_follows me a place head o pairs.runs h = record { line = λ ms p. refl; caused = refl; timeouts = tt; holds = refl; course = fits_seats a (call_seated (seat_for head (refusal a.epoch head not_served)) a.seats) a.running o h }
admits_follows me a place head o (pairs.kept reply) h = told_follows me a place _ o h
admits_follows me a place head o pairs.in_progress h = told_follows me a place _ o h
admits_follows me a place head o pairs.older h = told_follows me a place _ o h
admits_follows me a place head o (pairs.wrong_boot boot) h = told_follows me a place _ o h

called_follows : (me : Node) (a : AdminState) (place : ℕ) (head : Head) (o : Option ActCourse) → Fits a a.running o → Follows me (labels a) o passes (lines.Given place) (called a place head)
called_follows me a place head o h = admits_follows me a place head o (admitted a.epoch a.seats head) h

-- no act runs
idle_awaits : (me : Node) (a : AdminState) (place : ℕ) (head : Head) (x : Carried) (o : Option ActCourse) → a.running ≡ None → Fits a a.running o → Follows me (labels a) o passes (lines.Given place) (awaits me a place head x a.running)
idle_awaits me a place head x o run h = subst (λ (r : Option Running). Follows me (labels a) o passes (lines.Given place) (awaits me a place head x r)) (sym run) (told_follows me a place [] o h)

idle_gets : (me : Node) (a : AdminState) (place : ℕ) (head : Head) (x : Carried) (o : Option ActCourse) → a.running ≡ None → Fits a a.running o → Follows me (labels a) o passes (lines.Given place) (gets me a place head x)
idle_gets me a place head (carried.Call user call) o run h = called_follows me a place head o h
idle_gets me a place head (carried.Refusal code) o run h = idle_awaits me a place head (carried.Refusal code) o run h
idle_gets me a place head (carried.Reply reply) o run h = idle_awaits me a place head (carried.Reply reply) o run h
idle_gets me a place head carried.Notice o run h = idle_awaits me a place head carried.Notice o run h

-- an act runs
module _ (me : Node) (a : AdminState) (r : Running) (x : Findings) (run : a.running ≡ Some r) (f : FoundAt r.act r.place x) (place : ℕ) where
  fits : Fits a a.running (Some (course_at a r x))
  fits = subst (λ (o : Option Running). Fits a o (Some (course_at a r x))) (sym run) (x, (refl, f))

  busy_by : (head : Head) (w : Carried) (ev : Event) → Follows me (labels a) (Some (course_at a r x)) (cond (is_awaited a head (ask_of a r)) ev passes) (lines.Given place) (awaits me a place head w (Some r)) →
      Follows me (labels a) (Some (course_at a r x)) (cond (is_awaited a head (ask_of a r)) ev passes) (lines.Given place) (awaits me a place head w a.running)
  busy_by head w ev h = subst (λ (o : Option Running). Follows me (labels a) (Some (course_at a r x)) (cond (is_awaited a head (ask_of a r)) ev passes) (lines.Given place) (awaits me a place head w o)) (sym run) h

  still : Follows me (labels a) (Some (course_at a r x)) passes (lines.Given place) (told a place [])
  still = told_follows me a place [] (Some (course_at a r x)) fits

  busy_gets : (head : Head) (w : Carried) → Follows me (labels a) (Some (course_at a r x)) (event_carried (course_at a r x) head w) (lines.Given place) (gets me a place head w)
  busy_gets head (carried.Call user call) = called_follows me a place head (Some (course_at a r x)) fits
  busy_gets head (carried.Refusal code) =
      busy_by head (carried.Refusal code) (fails code)
      (either (is_awaited a head (ask_of a r)) me (labels a) _ (fails code) passes (lines.Given place) _ _ (refusal_turns me a r x run place code (refused r.place code) (failed_at (errand_of a r.act) r.place x code f)) still)
  busy_gets head (carried.Reply reply) =
      busy_by head (carried.Reply reply) (answers reply)
      (either (is_awaited a head (ask_of a r)) me (labels a) _ (answers reply) passes (lines.Given place) _ _ (answer_turns me a r x run place reply (answered (errand_of a r.act) r.place reply) f (answered_at (errand_of a r.act) a.epoch a.last r.place x reply f)) still)
  busy_gets head carried.Notice =
      subst (λ (o : Option Running). Follows me (labels a) (Some (course_at a r x)) passes (lines.Given place) (awaits me a place head carried.Notice o)) (sym run)
      (both (is_awaited a head (ask_of a r)) me (labels a) _ passes (lines.Given place) _ _ (record { line = λ ms p. refl; caused = refl; timeouts = tt; holds = refl; course = fits_boots a (with_boot head.from head.boot a.boots) a.running (Some (course_at a r x)) fits }) still)

  busy_given : (m : Message) → Follows me (labels a) (Some (course_at a r x)) (event_given me (Some (course_at a r x)) (Some m)) (lines.Given place) (admin_row me a place (Whole m))
  unfolding admin_row
  busy_given m = either (same_node m.head.to me) me (labels a) _ (event_carried (course_at a r x) m.head m.carried) passes (lines.Given place) _ _ (busy_gets m.head m.carried) still

idle_given : (me : Node) (a : AdminState) (place : ℕ) (m : Message) → a.running ≡ None → Fits a a.running None → Follows me (labels a) None passes (lines.Given place) (admin_row me a place (Whole m))
unfolding admin_row
idle_given me a place m run h = both (same_node m.head.to me) me (labels a) None passes (lines.Given place) _ _ (idle_gets me a place m.head m.carried None run h) (told_follows me a place [] None h)

given_when : (me : Node) (a : AdminState) (place : ℕ) (m : Message) (o : Option ActCourse) (r : Option Running) → a.running ≡ r → Fits a r o → Follows me (labels a) o (event_given me o (Some m)) (lines.Given place) (admin_row me a place (Whole m))
given_when me a place m o None run h =
    subst (λ (p : Option ActCourse). Follows me (labels a) p (event_given me p (Some m)) (lines.Given place) (admin_row me a place (Whole m))) (sym h) (idle_given me a place m run (subst (λ (r : Option Running). Fits a r None) (sym run) refl))
given_when me a place m o (Some r) run h =
    subst (λ (p : Option ActCourse). Follows me (labels a) p (event_given me p (Some m)) (lines.Given place) (admin_row me a place (Whole m))) (sym h.1.0) (busy_given me a r h.0 run h.1.1 place m)

pub given_follows : (me : Node) (a : AdminState) (place : ℕ) (m : Message) (o : Option ActCourse) → Fits a a.running o → Follows me (labels a) o (event_given me o (Some m)) (lines.Given place) (admin_row me a place (Whole m))
given_follows me a place m o h = given_when me a place m o a.running refl h

-- ---- its call is timed out

last_by : (tries : ℕ) (b : Bool) → is_sent_again tries ≡ b → nat_lt (tries + 1) last_timeout ≡ b
last_by tries true h = let below : tries < 2 = ltb-true tries 2 h in lt-ltb (tries + 1) 3 (omega (arith, below))
last_by tries false h = let above : 2 ≤ tries = ltb-false tries 2 h in le-ltb (tries + 1) 3 (omega (arith, above))

last_of : (tries : ℕ) → nat_lt (tries + 1) last_timeout ≡ is_sent_again tries
last_of tries = last_by tries (is_sent_again tries) refl

late_follows : (me : Node) (a : AdminState) (r : Running) (o : Option ActCourse) → a.running ≡ Some r → Fits a (Some r) o → Follows me (labels a) o (cond (is_sent_again a.tries) passes (fails dead)) (admin_timeout_line me a (ask_of a r)) (admin_timeout_row me a r)
unfolding admin_timeout_row
late_follows me a r o run h =
    subst (λ (p : Option ActCourse). Follows me (labels a) p (cond (is_sent_again a.tries) passes (fails dead)) (admin_timeout_line me a (ask_of a r)) (cond (is_sent_again a.tries) (sends_again me a (ask_of a r)) (turned me a r.act (admin_timeout_line me a (ask_of a r) ∷ []) (refused r.place dead)))) (sym h.1.0)
    (either (is_sent_again a.tries) me (labels a) (Some (course_at a r h.0)) passes (fails dead) (admin_timeout_line me a (ask_of a r)) (sends_again me a (ask_of a r)) _
    (record {
      line = λ ms p. refl;
      caused = refl;
      timeouts = ((refl, (refl, (refl, refl))), tt);
      holds = refl;
      course = fits_tries a (a.tries + 1) a.running (Some (course_at a r h.0)) (subst (λ (q : Option Running). Fits a q (Some (course_at a r h.0))) (sym run) (h.0, (refl, h.1.1)));
    })
    (timeout_turns me a r h.0 run 0 (refused r.place dead) (failed_at (errand_of a r.act) r.place h.0 dead h.1.1)))

pub waited_follows : (me : Node) (a : AdminState) (r : Running) (o : Option ActCourse) → a.running ≡ Some r → Fits a (Some r) o → Follows me (labels a) o (timed_by (a.tries + 1)) (admin_timeout_line me a (ask_of a r)) (admin_timeout_row me a r)
waited_follows me a r o run h = subst (λ (b : Bool). Follows me (labels a) o (cond b passes (fails dead)) (admin_timeout_line me a (ask_of a r)) (admin_timeout_row me a r)) (sym (last_of a.tries)) (late_follows me a r o run h)
