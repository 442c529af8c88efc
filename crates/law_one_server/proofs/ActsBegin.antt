-- Where no act of an administrator runs, its next question begins one. So what is known at new questions needs answers to acts that run alone.
use Rattle.std.proofs.Common.{◌≡◌, ◌⊎◌, inl, inr, ℕ, suc, Bool, true, false, cond, List, [], ◌∷◌, ◌++◌, Option, Some, None, refl, sym, ap, subst, ◌∙◌, nat_eq}
use Rattle.std.specs.Prelude.{⊤, ◌&&◌}
use Rattle.afs_num.specs.Nodes.{same_node}
use Rattle.afs_num.specs.declared.messages.Carried.{Carried}
use Rattle.afs_num.specs.declared.messages.Carried.TheVariants as carried
use Rattle.afs_num.specs.declared.messages.Message.{Message}
use Rattle.afs_num.specs.declared.messages.Received.TheVariants.{Whole}
use Rattle.afs_num.specs.declared.types.Code.{Code}
use Rattle.afs_num.specs.declared.types.Head.{Head}
use Rattle.afs_num.specs.declared.types.Node.{Node}
use Rattle.afs_num.specs.declared.types.Node.TheVariants.{Admin}
use Rattle.spec_history.specs.declared.lines.Line.{Line}
use Rattle.spec_history.specs.declared.lines.Line.TheVariants as lines
use Rattle.spec_history.specs.declared.scripts.AdminAct.{AdminAct}
use Rattle.law_legal.proofs.BaseLaws.{at_put}
use Rattle.spec_model.specs.Calls.{admitted, call_seated, Admitted}
use Rattle.spec_model.specs.Calls as pairs
use Rattle.spec_rows.specs.ServerRow.{not_served, refusal, seat_for}
use Rattle.spec_rows.specs.Steps.{Step}
use Rattle.spec_adminrows.specs.Acts.{begins_with, refused}
use Rattle.spec_adminrows.specs.AdminRow.{admin_begin_row, admin_reborn, admin_row, admin_timeout_row, admits, awaits, dump_held, gets, label_in, told, turned, AdminState}
use Rattle.spec_adminrows.specs.declared.places.Place.{Place}
use Rattle.spec_adminrows.specs.declared.turns.Running.{Running}
use Rattle.spec_adminrows.specs.declared.turns.Turn.{Turn}
use Rattle.spec_adminrows.specs.declared.turns.Turn.TheVariants as turns
use Rattle.spec_runs.specs.NodeRuns.{admin_falls, admin_moves, admin_rises, client_falls, client_moves, client_rises, loc_stepped, node_moved, server_stepped, ticked, CellInput, NodeCell, NodeMoved}
use Rattle.law_walks.proofs.EachKind.{any_client, any_database, any_server, each}
use Rattle.law_courses.specs.Courses.{course_on, question_noted, question_now, AreOnCourse, Begins, Course, Follows, LeadsTo, Question, WasAnswered}
use Rattle.law_courses.proofs.Asking.{Asks, IsNew, IsOld}
use Rattle.law_courses.proofs.Runs.{Stepped}

-- ---- an administrator of which no act runs

-- if an act runs behind the step, its question begins it
abbrev Starts : AdminState → Type 0
Starts b = (r : Running) → b.running ≡ Some r → Begins (question_now b r)

none_starts : (b : AdminState) → b.running ≡ None → Starts b
none_starts b none r is = let no' : None ≡ Some r = sym none ∙ is in absurd cc

begun_starts : (me : Node) (a : AdminState) (act : AdminAct) → a.running ≡ None → Starts (admin_begin_row me a act).state
unfolding admin_begin_row
begun_starts me a act idle = by (begins_with act (dump_held (label_in act) a.dumps)) refl
  where
    by : (t : Turn) → begins_with act (dump_held (label_in act) a.dumps) ≡ t → Starts (turned me a act (lines.BeginAdmin me act ∷ []) t).state
    by (turns.Goes p) is r running = (dump_held (label_in r.act) a.dumps, let same : record { act = act; place = p } ≡ r = cc in subst (λ (x : Running). LeadsTo x.place (begins_with x.act (dump_held (label_in x.act) a.dumps))) same (subst (LeadsTo p) (sym is) refl))
    by (turns.Keeps label bytes p) is r running = (dump_held (label_in r.act) a.dumps, let same : record { act = act; place = p } ≡ r = cc in subst (λ (x : Running). LeadsTo x.place (begins_with x.act (dump_held (label_in x.act) a.dumps))) same (subst (LeadsTo p) (sym is) refl))
    by (turns.Ends code) is r running = absurd cc
    by (turns.Sticks code) is r running = absurd cc
    by turns.Passes is r running = none_starts a idle r running

admits_starts : (a : AdminState) (place : ℕ) (head : Head) (o : Admitted Message) → a.running ≡ None → Starts (admits a place head o).state
admits_starts a place head pairs.runs idle = none_starts (record a { seats = call_seated (seat_for head (refusal a.epoch head not_served)) a.seats }) idle
admits_starts a place head (pairs.kept reply) idle = none_starts a idle
admits_starts a place head pairs.in_progress idle = none_starts a idle
admits_starts a place head pairs.older idle = none_starts a idle
admits_starts a place head (pairs.wrong_boot boot) idle = none_starts a idle

awaits_starts : (me : Node) (a : AdminState) (place : ℕ) (head : Head) (x : Carried) (o : Option Running) → a.running ≡ None → o ≡ None → Starts (awaits me a place head x o).state
awaits_starts me a place head x None idle is = none_starts a idle
awaits_starts me a place head x (Some r) idle is = absurd cc

gets_starts : (me : Node) (a : AdminState) (place : ℕ) (head : Head) (x : Carried) → a.running ≡ None → Starts (gets me a place head x).state
gets_starts me a place head (carried.Call user call) idle = admits_starts a place head (admitted a.epoch a.seats head) idle
gets_starts me a place head (carried.Refusal code) idle = awaits_starts me a place head (carried.Refusal code) a.running idle idle
gets_starts me a place head (carried.Reply reply) idle = awaits_starts me a place head (carried.Reply reply) a.running idle idle
gets_starts me a place head carried.Notice idle = awaits_starts me a place head carried.Notice a.running idle idle

given_starts : (me : Node) (a : AdminState) (place : ℕ) (m : Message) → a.running ≡ None → Starts (admin_row me a place (Whole m)).state
unfolding admin_row
given_starts me a place m idle = by (same_node m.head.to me)
  where
    by : (b : Bool) → Starts (cond b (gets me a place m.head m.carried) (told a place [])).state
    by true = gets_starts me a place m.head m.carried idle
    by false = none_starts a idle

-- ---- a cell

abbrev AllStart : NodeCell → NodeMoved → Type 0
AllStart c m = (n : ℕ) → (c.admins n).running ≡ None → Starts (m.cell.admins n)

module _ (c : NodeCell) where
  still : (d : NodeCell) → d.admins ≡ c.admins → (n : ℕ) → (c.admins n).running ≡ None → Starts (d.admins n)
  still d same n idle = subst (λ (f : ℕ → AdminState). Starts (f n)) (sym same) (none_starts (c.admins n) idle)

  one : (n : ℕ) (s : Step AdminState) → ((c.admins n).running ≡ None → Starts s.state) → AllStart c (admin_moves c n s)
  one n s k j idle = at_put n j Starts s.state c.admins (λ same. k (subst (λ (i : ℕ). (c.admins i).running ≡ None) (sym same) idle)) (λ other. none_starts (c.admins j) idle)

  pub all_start : (x : CellInput) → AllStart c (node_moved c x)
  all_start x = each (AllStart c) c (record {
    void = λ n idle. none_starts (c.admins n) idle;
    ticks = λ k. still (ticked c (suc k)).cell refl;
    servers = any_server (AllStart c) c (λ i s. still (server_stepped c i s).cell refl);
    database = any_database (AllStart c) c (λ s. still (loc_stepped c s).cell refl);
    clients = any_client (AllStart c) c (λ n s. still (client_moves c n s).cell refl) (λ n. still (client_falls c n).cell refl) (λ n. still (client_rises c n).cell refl);
    admins = record {
      begins = λ n act up idle. one n (admin_begin_row (Admin n) (c.admins n) act) (λ none. begun_starts (Admin n) (c.admins n) act none);
      given = λ n place m up g. one n (admin_row (Admin n) (c.admins n) place (Whole m)) (λ none. given_starts (Admin n) (c.admins n) place m none);
      late = λ n r up is. one n (admin_timeout_row (Admin n) (c.admins n) r) (λ none. let no' : None ≡ Some r = sym none ∙ is in absurd cc);
      stops = λ n up. one n (record { state = admin_reborn (c.admins n); lines = lines.Crash (Admin n) ∷ []; sent = [] }) (λ none. none_starts (admin_reborn (c.admins n)) refl);
      starts = λ n gone. one n (record { state = c.admins n; lines = lines.Restart (Admin n) (c.admins n).epoch ∷ []; sent = [] }) (λ none. none_starts (c.admins n) none);
    };
  }) x

-- ---- what is known at each question

module _ (course : Course) (c : NodeCell) (m : NodeMoved) (t : Stepped course c m) (starts : AllStart c m) (F : Place → Type 0) (kept : (n e k : ℕ) → F (course n e k).place) (begun : (q : Question) → Begins q → F q.place)
    (answers : (n : ℕ) (r : Running) (q : Question) → (c.admins n).running ≡ Some r → WasAnswered c.sent n (c.admins n).epoch (c.admins n).last (course n (c.admins n).epoch (c.admins n).last) q → F q.place)
    (refusals : (p : Place) (code : Code) (q : Place) → F p → LeadsTo q (refused p code) → F q) where
  follows_now : (n : ℕ) (o : Option Running) (r : Running) → (c.admins n).running ≡ o → (m.cell.admins n).running ≡ Some r → Follows c.sent n (c.admins n).epoch (c.admins n).last (course n (c.admins n).epoch (c.admins n).last) (question_now (m.cell.admins n) r) → F r.place
  follows_now n None r idle is x = begun (question_now (m.cell.admins n) r) (starts n idle r is)
  follows_now n (Some old) r runs is (inl x) = begun (question_now (m.cell.admins n) r) x
  follows_now n (Some old) r runs is (inr (inl x)) = answers n old (question_now (m.cell.admins n) r) runs x
  follows_now n (Some old) r runs is (inr (inr x)) = refusals (course n (c.admins n).epoch (c.admins n).last).place x.code r.place (kept n (c.admins n).epoch (c.admins n).last) x.leads

  runs_now : (n : ℕ) (r : Running) → (m.cell.admins n).running ≡ Some r → IsNew course c.sent n (c.admins n) (m.cell.admins n) r ⊎ IsOld (c.admins n) (m.cell.admins n) r → F r.place
  runs_now n r is (inl new) = follows_now n (c.admins n).running r refl is new.follows
  runs_now n r is (inr old) = subst (λ (q : Question). F q.place) (t.before.acts n r old.running).now (kept n (c.admins n).epoch (c.admins n).last)

  cond_now : (b : Bool) (q r : Question) → F q.place → F r.place → F (cond b q r).place
  cond_now true q r h k = h
  cond_now false q r h k = k

  noted_now : (n e k : ℕ) (o : Option Running) → (m.cell.admins n).running ≡ o → F (question_noted (m.cell.admins n) o e k (course n e k)).place
  noted_now n e k None is = kept n e k
  noted_now n e k (Some r) is = cond_now (nat_eq e (m.cell.admins n).epoch && nat_eq k (m.cell.admins n).last) (question_now (m.cell.admins n) r) (course n e k) (runs_now n r is ((t.asks n).acts r is)) (kept n e k)

  -- behind the step, with answers to acts that run alone
  pub asked_now : (n e k : ℕ) → F (course_on course m.cell.admins n e k).place
  asked_now n e k = noted_now n e k (m.cell.admins n).running refl
