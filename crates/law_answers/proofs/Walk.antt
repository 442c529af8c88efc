-- The walk over the inputs of a cell: each entry of an administrator ends its act as the history has it.
use Rattle.std.proofs.Common.{◌≡◌, ℕ, zero, suc, ◌+◌, Bool, true, false, cond, List, [], ◌∷◌, ◌++◌, Option, Some, None, refl, sym, subst, ap, ◌∙◌, nat_eq, eqb-true}
use Rattle.std.proofs.lemmas.List.{append-nil}
use Rattle.afs_num.specs.declared.messages.Message.{Message}
use Rattle.afs_num.specs.declared.messages.Received.TheVariants.{Whole}
use Rattle.afs_num.specs.declared.types.Node.{Node}
use Rattle.afs_num.specs.declared.types.Node.TheVariants.{Admin, Client, Loc, Server}
use Rattle.spec_history.specs.declared.acts.Act.{Act}
use Rattle.spec_history.specs.declared.lines.Line.{Line}
use Rattle.spec_history.specs.declared.lines.Line.TheVariants as lines
use Rattle.spec_history.specs.declared.scripts.AdminAct.{AdminAct}
use Rattle.spec_adminrows.specs.AdminRow.{admin_begin_row, admin_reborn, admin_row, admin_timeout_line, admin_timeout_row, ask_of, AdminState}
use Rattle.spec_adminrows.specs.declared.turns.Running.{Running}
use Rattle.spec_copyrows.specs.CopyRow.{copy_row}
use Rattle.spec_rows.specs.ClientRow.{act_of}
use Rattle.spec_rows.specs.Going.{Going, Seek}
use Rattle.spec_rows.specs.Hosts.{crashed, served, set_to_fail, set_to_stop, Fall, HostStep, Luck, Outcome}
use Rattle.spec_rows.specs.LocRow.{LocState}
use Rattle.spec_rows.specs.LocSteps.{loc_kind}
use Rattle.spec_rows.specs.Runs.{begins, client_starts, client_stops, gives, message_at, nothing, server_waits, sets_fail, sets_stop, starts_again, stops, ticks, waits, wakes, Entry, Input}
use Rattle.spec_rows.specs.States.{BackCall}
use Rattle.spec_rows.specs.Steps.{Step}
use Rattle.spec_volrows.specs.VolStates.{NodeState, PieceCall}
use Rattle.spec_runs.specs.NodeRuns.{admin_begins, admin_begun, admin_falls, admin_moves, admin_rises, admin_starts, admin_stops, admin_waited, admin_waits, begun_by, call_timed, client_falls, client_moves, client_rises, given_at, given_to, has_host, is_away, is_gone, loc_restarted, loc_up, node_moved, node_start, piece_timed, server_restarted, server_timed, server_up, sought_for, ticked, usual, usually_moved, voided, waited_by, CellInput, NodeCell, NodeLeads, NodeMoved}
use Rattle.law_answers.specs.Answers.{act_course_behind, held_behind, is_of, known_behind, AnswersHaveCauses, AreCaused, AreCausedIn, HasCauses, Known}
use Rattle.law_answers.specs.Courses as courses
use Rattle.law_answers.specs.Courses.{asked_in, ends_in, event_of, event_given, timed_by, ActCourse, Event}
use Rattle.law_answers.proofs.Rows.{begun_follows, given_follows, labels, waited_follows, Fits, Follows}

-- ---- what is known of an administrator, and what an input makes of it

abbrev known_of : List Message → AdminState → Option ActCourse → Known
known_of sent a o = record { sent = sent; held = labels a; course = o }

known_is : (s t : List Message) (h i : List (List ℕ)) (o p : Option ActCourse) → s ≡ t → h ≡ i → o ≡ p → record { sent = s; held = h; course = o } ≡ (let k : Known = record { sent = t; held = i; course = p } in k)
known_is s t h i o p e f g = ap (λ (ms : List Message). record { sent = ms; held = h; course = o }) e ∙ (ap (λ (ls : List (List ℕ)). record { sent = t; held = ls; course = o }) f ∙ ap (λ (q : Option ActCourse). record { sent = t; held = i; course = q }) g)

abbrev Behind : ℕ → NodeCell → Option ActCourse → NodeMoved → Type 0
Behind n c o m = (p : Option ActCourse) × ((known_behind (Admin n) (known_of c.sent (c.admins n) o) m.entry ≡ known_of m.cell.sent (m.cell.admins n) p) × Fits (m.cell.admins n) (m.cell.admins n).running p)

abbrev Moved : ℕ → NodeCell → Option ActCourse → NodeMoved → Type 0
Moved n c o m = HasCauses (Admin n) (known_of c.sent (c.admins n) o) m.entry × Behind n c o m

either : (b : Bool) (n : ℕ) (c : NodeCell) (o : Option ActCourse) (x y : NodeMoved) → Moved n c o x → Moved n c o y → Moved n c o (cond b x y)
either true n c o x y h k = h
either false n c o x y h k = k

module _ (n : ℕ) (c : NodeCell) (o : Option ActCourse) (fits : Fits (c.admins n) (c.admins n).running o) where
  me : Node
  me = Admin n

  -- ---- another node

  others : (m : NodeMoved) → m.cell.admins n ≡ c.admins n → m.cell.sent ≡ c.sent ++ m.entry.sent → is_of (Admin n) m.entry.actor ≡ false → Moved n c o m
  others m same sent other = (
    λ its. let no : true ≡ false = sym its ∙ other in absurd cc,
    (
      o,
      (
        known_is _ _ _ _ _ _ (sym sent)
            (ap (λ (b : Bool). cond b (held_behind (labels (c.admins n)) m.entry.lines) (labels (c.admins n))) other ∙ ap labels (sym same))
            (ap (λ (b : Bool). cond b (act_course_behind o (event_of (Admin n) c.sent o m.entry.lines) (ends_in m.entry.lines) (asked_in m.entry.sent)) o) other),
        subst (λ (a : AdminState). Fits a a.running o) (sym same) fits,
      ),
    ),
  )

  void : Moved n c o (voided c)
  void = others (voided c) refl (sym (append-nil c.sent)) refl

  piece_on : (i : ℕ) (p : Node) (q : Option PieceCall) → Moved n c o (piece_timed c i p q)
  piece_on i p None = void
  piece_on i p (Some q) = others (piece_timed c i p (Some q)) refl refl refl

  call_on : (i : ℕ) (p : Node) (q : Option BackCall) → Moved n c o (call_timed c i p q)
  call_on i p None = piece_on i p ((c.hosts i).state.vol.calls p)
  call_on i p (Some b) = others (call_timed c i p (Some b)) refl refl refl

  timed_on : (i : ℕ) (p : Node) (d : Option Fall) → Moved n c o (server_timed c i p d)
  timed_on i p None = call_on i p ((c.hosts i).state.file.backs.calls p)
  timed_on i p (Some fall) = void

  up_on : (i : ℕ) (s : HostStep NodeState) (d : Option Fall) → Moved n c o (server_up c i s d)
  up_on i s None = others (server_up c i s None) refl refl refl
  up_on i s (Some fall) = void

  risen_on : (i : ℕ) (after : Bool) (w : Outcome) (d : Option Fall) → Moved n c o (server_restarted c i after w d)
  risen_on i after w None = void
  risen_on i after w (Some fall) = others (server_restarted c i after w (Some fall)) refl refl refl

  loc_on : (s : HostStep LocState) (d : Option Fall) → Moved n c o (loc_up c s d)
  loc_on s None = others (loc_up c s None) refl refl refl
  loc_on s (Some fall) = void

  loc_risen : (after : Bool) (w : Outcome) (d : Option Fall) → Moved n c o (loc_restarted c after w d)
  loc_risen after w None = void
  loc_risen after w (Some fall) = others (loc_restarted c after w (Some fall)) refl refl refl

  begun_on : (i : ℕ) (act : Act) (g : Option Going) → Moved n c o (begun_by c i act g)
  begun_on i act None = others (begun_by c i act None) refl refl refl
  begun_on i act (Some other) = void

  sought_on : (i : ℕ) (q : Option Seek) → Moved n c o (sought_for c i q)
  sought_on i None = void
  sought_on i (Some k) = others (sought_for c i (Some k)) refl refl refl

  waited_on : (i : ℕ) (g : Option Going) → Moved n c o (waited_by c i g)
  waited_on i None = sought_on i (c.clients i).client.seeking
  waited_on i (Some act) = others (waited_by c i (Some act)) refl refl refl

  -- ---- an administrator: this one or another

  own_by : (j : ℕ) (b : Bool) (s : Step AdminState) (ev : Event) (l : Line) → nat_eq j n ≡ b → event_of (Admin n) c.sent o (l ∷ []) ≡ ev → (j ≡ n → Follows (Admin n) (labels (c.admins n)) o ev l s) → Moved n c o (admin_moves c j s)
  own_by j false s ev l e is f = others (admin_moves c j s) (ap (λ (b : Bool). cond b s.state (c.admins n)) e) refl e
  own_by j true s ev l e is f =
      let g : Follows (Admin n) (labels (c.admins n)) o ev l s = f (eqb-true j n e) in
      let same : event_of (Admin n) c.sent o s.lines ≡ ev = g.line c.sent o ∙ is in
      let now : cond (nat_eq j n) s.state (c.admins n) ≡ s.state = ap (λ (b : Bool). cond b s.state (c.admins n)) e in (
        λ its. (subst (λ (v : Event). AreCaused (Admin n) (labels (c.admins n)) o v (ends_in s.lines) (asked_in s.sent)) (sym same) g.caused, g.timeouts),
        (
          act_course_behind o ev (ends_in s.lines) (asked_in s.sent),
          (
            known_is _ _ _ _ _ _ refl
                (ap (λ (b : Bool). cond b (held_behind (labels (c.admins n)) s.lines) (labels (c.admins n))) e ∙ (g.holds ∙ ap labels (sym now)))
                (ap (λ (b : Bool). cond b (act_course_behind o (event_of (Admin n) c.sent o s.lines) (ends_in s.lines) (asked_in s.sent)) o) e ∙ ap (λ (v : Event). act_course_behind o v (ends_in s.lines) (asked_in s.sent)) same),
            subst (λ (a : AdminState). Fits a a.running (act_course_behind o ev (ends_in s.lines) (asked_in s.sent))) (sym now) g.course,
          ),
        ),
      )

  -- a step that each would make of its own state
  own : (j : ℕ) (step : ℕ → Step AdminState) (ev : Event) (l : Line) → event_of (Admin n) c.sent o (l ∷ []) ≡ ev → (j ≡ n → Follows (Admin n) (labels (c.admins n)) o ev l (step n)) → Moved n c o (admin_moves c j (step j))
  own j step ev l is f = own_by j (nat_eq j n) (step j) ev l refl is (λ same. subst (λ (k : ℕ). Follows (Admin n) (labels (c.admins n)) o ev l (step k)) (sym same) (f same))

  admin_begun_on : (j : ℕ) (act : AdminAct) (r : Option Running) → (c.admins j).running ≡ r → Moved n c o (admin_begun c j act r)
  admin_begun_on j act None run =
      own j (λ (k : ℕ). admin_begin_row (Admin k) (c.admins k) act) (courses.begins (Admin n) act) (lines.BeginAdmin (Admin n) act) refl
      (λ same. let none : o ≡ None = subst (λ (r : Option Running). Fits (c.admins n) r o) (subst (λ (k : ℕ). (c.admins k).running ≡ None) same run) fits in
      subst (λ (p : Option ActCourse). Follows (Admin n) (labels (c.admins n)) p (courses.begins (Admin n) act) (lines.BeginAdmin (Admin n) act) (admin_begin_row (Admin n) (c.admins n) act)) (sym none) (begun_follows (Admin n) (c.admins n) act))
  admin_begun_on j act (Some other) run = void

  admin_waited_on : (j : ℕ) (r : Option Running) → (c.admins j).running ≡ r → Moved n c o (admin_waited c j r)
  admin_waited_on j None run = void
  admin_waited_on j (Some r) run =
      own j (λ (k : ℕ). admin_timeout_row (Admin k) (c.admins k) r) (timed_by ((c.admins n).tries + 1)) (admin_timeout_line (Admin n) (c.admins n) (ask_of (c.admins n) r)) refl
      (λ same. let busy : (c.admins n).running ≡ Some r = subst (λ (k : ℕ). (c.admins k).running ≡ Some r) same run in
      waited_follows (Admin n) (c.admins n) r o busy (subst (λ (q : Option Running). Fits (c.admins n) q o) busy fits))

  falls_on : (j : ℕ) → Moved n c o (admin_falls c j)
  falls_on j =
      own j (λ (k : ℕ). record { state = admin_reborn (c.admins k); lines = lines.Crash (Admin k) ∷ []; sent = [] }) courses.stops (lines.Crash (Admin n)) refl
      (λ same. record { line = λ ms p. refl; caused = refl; timeouts = tt; holds = refl; course = refl })

  rises_on : (j : ℕ) → Moved n c o (admin_rises c j)
  rises_on j =
      own j (λ (k : ℕ). record { state = c.admins k; lines = lines.Restart (Admin k) (c.admins k).epoch ∷ []; sent = [] }) courses.passes (lines.Restart (Admin n) (c.admins n).epoch) refl
      (λ same. record { line = λ ms p. refl; caused = refl; timeouts = tt; holds = refl; course = fits })

  -- ---- every input

  to_on : (place : ℕ) (luck : Luck) (m : Message) (p : Node) → message_at c.sent place ≡ Some m → Moved n c o (given_to c place luck m p)
  to_on place luck m (Server i) at = either (has_host c i) n c o _ _ (up_on i _ (c.hosts i).down) void
  to_on place luck m (Client i) at = either (is_away c i) n c o _ _ void (others (client_moves c i (copy_row (Client i) (c.clients i) c.clock place (Whole m))) refl refl refl)
  to_on place luck m Loc at = loc_on (served loc_kind c.loc c.clock place luck m) c.loc.down
  to_on place luck m (Admin j) at =
      either (is_gone c j) n c o _ _ void
      (own j (λ (k : ℕ). admin_row (Admin k) (c.admins k) place (Whole m)) (event_given (Admin n) o (Some m)) (lines.Given place) (ap (event_given (Admin n) o) at) (λ same. given_follows (Admin n) (c.admins n) place m o fits))

  at_on : (place : ℕ) (luck : Luck) (w : Option Message) → message_at c.sent place ≡ w → Moved n c o (given_at c place luck w)
  at_on place luck None at = void
  at_on place luck (Some m) at = to_on place luck m m.head.to at

  usual_on : (x : Input) → Moved n c o (usually_moved c x)
  unfolding usually_moved
  usual_on (begins i act) = either (is_away c i) n c o _ _ void (begun_on i act (act_of (c.clients i).client))
  usual_on (gives place luck) = at_on place luck (message_at c.sent place) refl
  usual_on (waits i) = either (is_away c i) n c o _ _ void (waited_on i (c.clients i).client.running)
  usual_on (ticks zero) = void
  usual_on (ticks (suc k)) = others (ticked c (suc k)) refl (sym (append-nil c.sent)) refl
  usual_on (client_stops i) = either (is_away c i) n c o _ _ void (others (client_falls c i) refl refl refl)
  usual_on (client_starts i) = either (c.away i) n c o _ _ (others (client_rises c i) refl refl refl) void
  usual_on (stops zero) = loc_on (crashed loc_kind c.loc) c.loc.down
  usual_on (stops (suc i)) = either (has_host c (suc i)) n c o _ _ (up_on (suc i) _ (c.hosts (suc i)).down) void
  usual_on (starts_again zero after w) = loc_risen after w c.loc.down
  usual_on (starts_again (suc i) after w) = either (has_host c (suc i)) n c o _ _ (risen_on (suc i) after w (c.hosts (suc i)).down) void
  usual_on (sets_stop zero calls pick) = loc_on (set_to_stop loc_kind c.loc calls pick) c.loc.down
  usual_on (sets_stop (suc i) calls pick) = either (has_host c (suc i)) n c o _ _ (up_on (suc i) _ (c.hosts (suc i)).down) void
  usual_on (sets_fail zero call) = loc_on (set_to_fail loc_kind c.loc call) c.loc.down
  usual_on (sets_fail (suc i) call) = either (has_host c (suc i)) n c o _ _ (up_on (suc i) _ (c.hosts (suc i)).down) void
  usual_on (server_waits i p) = either (has_host c i) n c o _ _ (timed_on i p (c.hosts i).down) void
  usual_on (wakes i) = either (has_host c i) n c o _ _ (up_on i _ (c.hosts i).down) void
  usual_on nothing = void

  moved : (x : CellInput) → Moved n c o (node_moved c x)
  moved (usual x) = usual_on x
  moved (admin_begins j act) = either (is_gone c j) n c o _ _ void (admin_begun_on j act (c.admins j).running refl)
  moved (admin_waits j) = either (is_gone c j) n c o _ _ void (admin_waited_on j (c.admins j).running refl)
  moved (admin_stops j) = either (is_gone c j) n c o _ _ void (falls_on j)
  moved (admin_starts j) = either (c.gone j) n c o _ _ (rises_on j) void

-- ---- a run

led : (n : ℕ) (c : NodeCell) (o : Option ActCourse) (xs : List CellInput) (es : List Entry) (end : NodeCell) → Fits (c.admins n) (c.admins n).running o → NodeLeads c xs es end → AreCausedIn (Admin n) (known_of c.sent (c.admins n) o) es
led n c o [] [] end fits is = tt
led n c o [] (e ∷ es) end fits is = absurd is
led n c o (x ∷ xs) [] end fits is = absurd is
led n c o (x ∷ xs) (e ∷ es) end fits is =
    let k = known_of c.sent (c.admins n) o in
    let m = moved n c o fits x in (
      subst (λ (y : Entry). HasCauses (Admin n) k y) (sym is.0) m.0,
      subst (λ (j : Known). AreCausedIn (Admin n) j es) (sym (ap (known_behind (Admin n) k) is.0 ∙ m.1.1.0)) (led n (node_moved c x).cell m.1.0 xs es end m.1.1.1 is.1),
    )

pub have_causes : AnswersHaveCauses
have_causes s inputs history end leads n = led n (node_start s) None inputs history end refl leads
