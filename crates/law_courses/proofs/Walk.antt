-- The walk over the inputs of a cell: each call of an administrator is the question under its number.
use Rattle.std.proofs.Common.{◌≡◌, ◌<◌, inl, inr, ℕ, suc, ◌+◌, Bool, true, false, cond, List, [], ◌∷◌, ◌++◌, Some, refl, sym, ap, subst, arith, ◌∙◌, nat_eq, eq-eqb, eqb-true}
use Rattle.std.proofs.lemmas.List.{append-nil}
use Rattle.std.specs.Prelude.{⊤}
use Rattle.std.specs.List.{AllByRecursion}
use Rattle.afs_num.specs.declared.messages.Call.{Call}
use Rattle.afs_num.specs.declared.messages.Carried.{Carried}
use Rattle.afs_num.specs.declared.messages.Carried.TheVariants as carried
use Rattle.afs_num.specs.declared.messages.Message.{Message}
use Rattle.afs_num.specs.declared.messages.Received.TheVariants.{Whole}
use Rattle.afs_num.specs.declared.types.Head.{Head}
use Rattle.afs_num.specs.declared.types.Node.{Node}
use Rattle.afs_num.specs.declared.types.Node.TheVariants.{Admin, Client, Loc, Server}
use Rattle.spec_history.specs.declared.lines.Line.TheVariants as lines
use Rattle.spec_history.specs.declared.scripts.Script.{Script}
use Rattle.spec_ideal.specs.Operations.{is_number}
use Rattle.spec_adminrows.specs.AdminRow.{admin_reborn, ask_head, ask_of, AdminState}
use Rattle.spec_adminrows.specs.declared.turns.Running.{Running}
use Rattle.spec_copyrows.specs.CopyRow.{copies_reborn}
use Rattle.spec_copyrows.specs.Sites.{CopyState}
use Rattle.spec_rows.specs.Callbacks.{put}
use Rattle.spec_rows.specs.Hosts.{HostStep}
use Rattle.spec_rows.specs.LocRow.{LocState}
use Rattle.spec_rows.specs.States.{durable_of}
use Rattle.spec_rows.specs.Steps.{Step}
use Rattle.spec_volrows.specs.NodeHosts.{NodeHost}
use Rattle.spec_volrows.specs.VolStates.{NodeState, Sending, VolState}
use Rattle.spec_volrows.specs.VolSteps.{vol_decides}
use Rattle.spec_records.specs.Durable.{Durable}
use Rattle.spec_runs.specs.NodeRuns.{admin_falls, admin_moves, admin_rises, admin_turned, client_falls, client_moves, client_rises, loc_stepped, node_moved, node_start, server_stepped, ticked, voided, CellInput, NodeCell, NodeMoved}
use Rattle.law_places.specs.Accepting.{cell_behind}
use Rattle.law_walks.specs.Sends.{AnswersAre, AsksIs, ClientMakes, LocIs, NodeIs, SeatsAre, ServerMakes, VolMakes}
use Rattle.law_walks.proofs.AdminSends.{admin_begun, admin_given, admin_late, AdminSends}
use Rattle.law_walks.proofs.AllMessages.{all_put}
use Rattle.law_walks.proofs.CopySends.{client_begun, client_given, client_late, client_seek_late, CopySends}
use Rattle.law_walks.proofs.EachKind.{each}
use Rattle.law_walks.proofs.LocSends.{loc_crashed, loc_fail_set, loc_makes_any, loc_restarted, loc_served, loc_stop_set, LocCutMakes, LocSends}
use Rattle.law_walks.proofs.Seats.{all_more, found_at, weaker_all, weaker_seats}
use Rattle.law_walks.proofs.ServerSends.{server_break_late, server_crashed, server_fail_set, server_piece_late, server_restarted, server_served, server_stop_set, server_woken, CutMakes, HostSends}
use Rattle.law_walks.proofs.VolDecides.{makes_any}
use Rattle.spec_rows.specs.Hosts.{at_rest, in_boot, in_step, Fall}
use Rattle.law_courses.specs.Courses.{course_behind, course_in, course_on, no_course, question_now, ActIsOnCourse, AreOnCourse, CallsAreOnCourse, Course, IsOnCourse, IsUpTo, Way}
use Rattle.law_courses.proofs.Asking.{begun_asks, given_asks, late_asks, none_asked, Asks}
use Rattle.law_courses.proofs.Going.{act_on, own_call, stays, still_call, way_on}

-- ---- what is asked of messages

-- of an administrator's call it is known what it asks
abbrev pub CallBy : Course → List Message → (ℕ → AdminState) → Head → Call → Node → Type 0
CallBy course sent admins head call (Admin n) = IsOnCourse course sent n (admins n) head call
CallBy course sent admins head call (Server i) = ⊤
CallBy course sent admins head call (Client n) = ⊤
CallBy course sent admins head call Loc = ⊤

abbrev pub KnownIn : Course → List Message → (ℕ → AdminState) → Head → Carried → Type 0
KnownIn course sent admins head (carried.Call user call) = CallBy course sent admins head call head.from
KnownIn course sent admins head (carried.Refusal code) = ⊤
KnownIn course sent admins head (carried.Reply reply) = ⊤
KnownIn course sent admins head carried.Notice = ⊤

abbrev pub Known : Course → NodeCell → Message → Type 0
Known course c m = KnownIn course c.sent c.admins m.head m.carried

-- it is no administrator's call
abbrev pub IsElse : Node → Type 0
IsElse (Admin n) = ⊥
IsElse (Server i) = ⊤
IsElse (Client n) = ⊤
IsElse Loc = ⊤

abbrev pub PlainIn : Head → Carried → Type 0
PlainIn head (carried.Call user call) = IsElse head.from
PlainIn head (carried.Refusal code) = ⊤
PlainIn head (carried.Reply reply) = ⊤
PlainIn head carried.Notice = ⊤

abbrev pub Plain : Message → Type 0
Plain m = PlainIn m.head m.carried

abbrev pub Any : Sending → Type 0
Any x = ⊤

plain_by : (course : Course) (sent : List Message) (admins : ℕ → AdminState) (head : Head) (call : Call) (n : Node) → IsElse n → CallBy course sent admins head call n
plain_by course sent admins head call (Admin n) h = absurd h
plain_by course sent admins head call (Server i) h = tt
plain_by course sent admins head call (Client n) h = tt
plain_by course sent admins head call Loc h = tt

plain_in : (course : Course) (sent : List Message) (admins : ℕ → AdminState) (head : Head) (x : Carried) → PlainIn head x → KnownIn course sent admins head x
plain_in course sent admins head (carried.Call user call) h = plain_by course sent admins head call head.from h
plain_in course sent admins head (carried.Refusal code) h = tt
plain_in course sent admins head (carried.Reply reply) h = tt
plain_in course sent admins head carried.Notice h = tt

-- ---- a cell

pub record On (course : Course) (c : NodeCell) : Type 0 where
  pub hosts : (i : ℕ) → NodeIs Plain Any (c.hosts i).state
  pub clients : (n : ℕ) → SeatsAre Plain (c.clients n).client.seats
  pub loc : LocIs Plain c.loc.state
  pub admins : (n : ℕ) → SeatsAre (Known course c) (c.admins n).seats
  pub sent : AllByRecursion (Known course c) c.sent
  pub acts : (n : ℕ) (r : Running) → (c.admins n).running ≡ Some r → ActIsOnCourse course n (c.admins n) r
  pub ways : (n : ℕ) → Way course c.sent n (c.admins n).epoch (c.admins n).last

-- what comes of an input
pub record Goes (course : Course) (c : NodeCell) (m : NodeMoved) : Type 0 where
  pub asks : (n : ℕ) → Asks course c.sent n (c.admins n) (m.cell.admins n)
  pub on : On (course_on course m.cell.admins) m.cell
  pub stays : (n e k : ℕ) → IsUpTo e k (c.admins n) → course_on course m.cell.admins n e k ≡ course n e k
  pub up : (n e k : ℕ) → IsUpTo e k (c.admins n) → IsUpTo e k (m.cell.admins n)

-- ---- what nodes make

plain_answers : (me : Node) (boot : ℕ) → AnswersAre Plain me boot
plain_answers me boot = record { notice = λ head to. tt; refusal = λ head code to. tt }

either_plain : (b : Bool) (x y : Message) → Plain x → Plain y → Plain (cond b x y)
either_plain true x y h k = h
either_plain false x y h k = k

server_makes : (i boot : ℕ) → ServerMakes Plain Any (Server i) boot
server_makes i boot = record {
  file = record { answers = plain_answers (Server i) boot; reply = λ head reply to. tt; breaks = λ n known c. tt };
  piece = λ n known number x h. tt;
  forward = λ x code h. either_plain (is_number code 0) _ _ tt tt;
  moved = λ x h. tt;
}

client_makes : (n : ℕ) → ClientMakes Plain (Client n)
client_makes n = record {
  answers = λ boot. plain_answers (Client n) boot;
  reply = λ boot head reply to. tt;
  call = λ head user call is none. subst IsElse (sym is) tt;
  look = λ head user o is none. subst IsElse (sym is) tt;
}

volume_makes : (i : ℕ) (d : Durable) (v : VolState) (m : Message) → VolMakes Plain Any (vol_decides (Server i) d v (Whole m))
volume_makes i d v m = makes_any Plain Any (Server i) d v m (λ to. record { reply = λ r. tt; refused = λ code. tt; sends_on = λ x. tt })

-- what stands at the place that was put
put_own : {A : Type 0} (n : ℕ) (x : A) (f : ℕ → A) → put n x f n ≡ x
put_own {A} n x f = ap (λ (b : Bool). cond b x (f n)) (eq-eqb n n refl)

-- ---- a step

module _ (course : Course) (c : NodeCell) (h : On course c) where
  -- What its nodes keep, the messages that were sent, and what each administrator asks, behind a step with these messages.
  module _ (m : NodeMoved) (more : List Message) (sent : m.cell.sent ≡ c.sent ++ more) (asks : (n : ℕ) → Asks course c.sent n (c.admins n) (m.cell.admins n)) where
    abbrev Now : Message → Type 0
    Now x = KnownIn (course_on course m.cell.admins) (c.sent ++ more) m.cell.admins x.head x.carried

    still_by : (head : Head) (call : Call) (x : Node) → CallBy course c.sent c.admins head call x → CallBy (course_on course m.cell.admins) (c.sent ++ more) m.cell.admins head call x
    still_by head call (Admin n) k = still_call course c.sent more c.admins m.cell.admins asks h.acts h.ways n head call k
    still_by head call (Server i) k = tt
    still_by head call (Client n) k = tt
    still_by head call Loc k = tt

    still_in : (head : Head) (x : Carried) → KnownIn course c.sent c.admins head x → KnownIn (course_on course m.cell.admins) (c.sent ++ more) m.cell.admins head x
    still_in head (carried.Call user call) k = still_by head call head.from k
    still_in head (carried.Refusal code) k = tt
    still_in head (carried.Reply reply) k = tt
    still_in head carried.Notice k = tt

    still_known : (x : Message) → Known course c x → Now x
    still_known x k = still_in x.head x.carried k

    still_seats : (n : ℕ) → SeatsAre Now (c.admins n).seats
    still_seats n = weaker_seats (Known course c) Now (c.admins n).seats still_known (h.admins n)

    step_goes : ((i : ℕ) → NodeIs Plain Any (m.cell.hosts i).state) → ((n : ℕ) → SeatsAre Plain (m.cell.clients n).client.seats) → LocIs Plain m.cell.loc.state → ((n : ℕ) → SeatsAre Now (m.cell.admins n).seats) → AllByRecursion Now more → Goes course c m
    step_goes hosts clients loc admins new = record {
      asks = asks;
      on = record {
        hosts = hosts;
        clients = clients;
        loc = loc;
        admins = subst (λ (ms : List Message). (n : ℕ) → SeatsAre (λ (x : Message). KnownIn (course_on course m.cell.admins) ms m.cell.admins x.head x.carried) (m.cell.admins n).seats) (sym sent) admins;
        sent = subst (λ (ms : List Message). AllByRecursion (λ (x : Message). KnownIn (course_on course m.cell.admins) ms m.cell.admins x.head x.carried) ms) (sym sent) (all_more Now c.sent more (weaker_all (Known course c) Now c.sent still_known h.sent) new);
        acts = act_on course c.sent more c.admins m.cell.admins asks h.acts h.ways;
        ways = subst (λ (ms : List Message). (n : ℕ) → Way (course_on course m.cell.admins) ms n (m.cell.admins n).epoch (m.cell.admins n).last) (sym sent) (way_on course c.sent more c.admins m.cell.admins asks h.acts h.ways);
      };
      stays = stays course c.sent more c.admins m.cell.admins asks h.acts h.ways;
      up = λ n e k u. (asks n).up e k u;
    }

  -- ---- a step of another node than an administrator

  none : (n : ℕ) → Asks course c.sent n (c.admins n) (c.admins n)
  none n = none_asked course c.sent n (c.admins n)

  plain_now : (m : NodeMoved) (more : List Message) → (x : Message) → Plain x → KnownIn (course_on course m.cell.admins) (c.sent ++ more) m.cell.admins x.head x.carried
  plain_now m more x k = plain_in (course_on course m.cell.admins) (c.sent ++ more) m.cell.admins x.head x.carried k

  on_host : (i : ℕ) (s : HostStep NodeState) → HostSends Plain Any s → Goes course c (server_stepped c i s)
  on_host i s k =
      step_goes (server_stepped c i s) s.sent refl none (all_put i (λ (j : ℕ) (x : NodeHost). NodeIs Plain Any x.state) s.host c.hosts k.has h.hosts) h.clients h.loc (still_seats (server_stepped c i s) s.sent refl none) (weaker_all Plain (Now (server_stepped c i s) s.sent refl none) s.sent (plain_now (server_stepped c i s) s.sent) k.sent)

  on_loc : (s : HostStep LocState) → LocSends Plain s → Goes course c (loc_stepped c s)
  on_loc s k =
      step_goes (loc_stepped c s) s.sent refl none h.hosts h.clients k.has (still_seats (loc_stepped c s) s.sent refl none) (weaker_all Plain (Now (loc_stepped c s) s.sent refl none) s.sent (plain_now (loc_stepped c s) s.sent) k.sent)

  on_client : (n : ℕ) (s : Step CopyState) → CopySends Plain (c.clients n).client.seats s → Goes course c (client_moves c n s)
  on_client n s k =
      step_goes (client_moves c n s) s.sent refl none h.hosts (all_put n (λ (j : ℕ) (x : CopyState). SeatsAre Plain x.client.seats) s.state c.clients (k.seats' (h.clients n)) h.clients) h.loc
      (still_seats (client_moves c n s) s.sent refl none) (weaker_all Plain (Now (client_moves c n s) s.sent refl none) s.sent (plain_now (client_moves c n s) s.sent) k.sent)

  client_falls_on : (n : ℕ) → Goes course c (client_falls c n)
  client_falls_on n =
      step_goes (client_falls c n) [] refl none h.hosts (all_put n (λ (j : ℕ) (x : CopyState). SeatsAre Plain x.client.seats) (copies_reborn c.handed (c.clients n)) c.clients tt h.clients) h.loc (still_seats (client_falls c n) [] refl none) tt

  client_rises_on : (n : ℕ) → Goes course c (client_rises c n)
  client_rises_on n =
      step_goes (client_rises c n) [] refl none h.hosts (all_put n (λ (j : ℕ) (x : CopyState). SeatsAre Plain x.client.seats) (c.clients n) c.clients (h.clients n) h.clients) h.loc (still_seats (client_rises c n) [] refl none) tt

  void_on : Goes course c (voided c)
  void_on = step_goes (voided c) [] (sym (append-nil c.sent)) none h.hosts h.clients h.loc (still_seats (voided c) [] (sym (append-nil c.sent)) none) tt

  ticked_on : (k : ℕ) → Goes course c (ticked c k)
  ticked_on k = step_goes (ticked c k) [] (sym (append-nil c.sent)) none h.hosts h.clients h.loc (still_seats (ticked c k) [] (sym (append-nil c.sent)) none) tt

  cut_makes : (i : ℕ) (fall : Fall) → CutMakes Plain Any (Server i) (c.hosts i).state fall
  cut_makes i at_rest = tt
  cut_makes i (in_step m clock b) = volume_makes i (durable_of (c.hosts i).state.file.lasting) (c.hosts i).state.vol m
  cut_makes i in_boot = tt

  loc_cut : (fall : Fall) → LocCutMakes Plain c.loc h.loc fall
  loc_cut at_rest = tt
  loc_cut (in_step m clock b) = loc_makes_any Plain c.loc.state m (λ head reply to. tt)
  loc_cut in_boot = tt

  -- ---- a step of an administrator

  -- all others ask nothing new
  asks_by : (n j : ℕ) (b : Bool) (s : AdminState) → nat_eq n j ≡ b → Asks course c.sent n (c.admins n) s → Asks course c.sent j (c.admins j) (cond b s (c.admins j))
  asks_by n j true s e k = subst (λ (i : ℕ). Asks course c.sent i (c.admins i) s) (eqb-true n j e) k
  asks_by n j false s e k = none j

  asks_put : (n : ℕ) (s : AdminState) → Asks course c.sent n (c.admins n) s → (j : ℕ) → Asks course c.sent j (c.admins j) (put n s c.admins j)
  asks_put n s k j = asks_by n j (nat_eq n j) s refl k

  -- what it makes is known, whatever else it does
  abbrev Makes : ℕ → Step AdminState → Type 1
  Makes n s = (P : Message → Type 0) → SeatsAre P (c.admins n).seats → ((boot : ℕ) → AnswersAre P (Admin n) boot) → AsksIs P (Admin n) s.state → AdminSends P s

  on_admin : (n : ℕ) (s : Step AdminState) → Asks course c.sent n (c.admins n) s.state → Makes n s → Goes course c (admin_moves c n s)
  on_admin n s k sends =
      let m : NodeMoved = admin_moves c n s in
      let asks : (j : ℕ) → Asks course c.sent j (c.admins j) (m.cell.admins j) = asks_put n s.state k in
      let own : AsksIs (Now m s.sent refl asks) (Admin n) s.state =
      subst (λ (a : AdminState). (r : Running) → a.running ≡ Some r → IsOnCourse (course_on course m.cell.admins) (c.sent ++ s.sent) n (m.cell.admins n) (ask_head (Admin n) a (ask_of a r)) (ask_of a r).call) (put_own n s.state c.admins)
      (own_call course c.sent s.sent c.admins m.cell.admins asks h.acts h.ways n) in
      let z : AdminSends (Now m s.sent refl asks) s = sends (Now m s.sent refl asks) (still_seats m s.sent refl asks n) (λ boot. record { notice = λ head to. tt; refusal = λ head code to. tt }) own in
      step_goes m s.sent refl asks h.hosts h.clients h.loc (all_put n (λ (j : ℕ) (x : AdminState). SeatsAre (Now m s.sent refl asks) x.seats) s.state c.admins z.seats (still_seats m s.sent refl asks)) z.sent

  -- behind it the administrator is down, or up
  turned_on : (n : ℕ) (gone : Bool) (s : Step AdminState) → Goes course c (admin_moves c n s) → Goes course c (admin_turned n gone (admin_moves c n s))
  turned_on n gone s z = record { asks = z.asks; on = record { hosts = z.on.hosts; clients = z.on.clients; loc = z.on.loc; admins = z.on.admins; sent = z.on.sent; acts = z.on.acts; ways = z.on.ways }; stays = z.stays; up = z.up }

  next_epoch : (e k : ℕ) (a : AdminState) → IsUpTo e k a → e < a.epoch + 1
  next_epoch e k a (inl below) = omega (arith, below)
  next_epoch e k a (inr now) = let same : e ≡ a.epoch = now.0 in omega (arith, same)

  admin_falls_on : (n : ℕ) → Goes course c (admin_falls c n)
  admin_falls_on n =
      turned_on n true (record { state = admin_reborn (c.admins n); lines = lines.Crash (Admin n) ∷ []; sent = [] })
      (on_admin n (record { state = admin_reborn (c.admins n); lines = lines.Crash (Admin n) ∷ []; sent = [] }) (record { up = λ e k u. inl (next_epoch e k (c.admins n) u); acts = λ r is. absurd cc; numbers = inr (inr refl) }) (λ P seats answers asks. record { seats = tt; sent = tt }))

  admin_rises_on : (n : ℕ) → Goes course c (admin_rises c n)
  admin_rises_on n =
      turned_on n false (record { state = c.admins n; lines = lines.Restart (Admin n) (c.admins n).epoch ∷ []; sent = [] })
      (on_admin n (record { state = c.admins n; lines = lines.Restart (Admin n) (c.admins n).epoch ∷ []; sent = [] }) (none n) (λ P seats answers asks. record { seats = seats; sent = tt }))

  -- what it asks now stands under its last number
  stands : (n : ℕ) (r : Running) → (c.admins n).running ≡ Some r → course n (c.admins n).epoch (c.admins n).last ≡ question_now (c.admins n) r
  stands n r is = (h.acts n r is).now

  -- ---- every input

  pub goes : (x : CellInput) → Goes course c (node_moved c x)
  goes x = each (Goes course c) c (record {
    void = void_on;
    ticks = λ k. ticked_on (suc k);
    servers = record {
      serves = λ i place luck m up g. on_host i _ (server_served Plain Any (Server i) (c.hosts i) (h.hosts i) c.clock place luck m (server_makes i _) (volume_makes i (durable_of (c.hosts i).state.file.lasting) (c.hosts i).state.vol m));
      crashes = λ i up. on_host i _ (server_crashed Plain Any (Server i) (c.hosts i) (h.hosts i));
      stop_set = λ i calls pick up. on_host i _ (server_stop_set Plain Any (Server i) (c.hosts i) (h.hosts i) calls pick);
      fail_set = λ i call up. on_host i _ (server_fail_set Plain Any (Server i) (c.hosts i) (h.hosts i) call);
      restarts = λ i after o fall there down. on_host i _ (server_restarted Plain Any (Server i) (c.hosts i) (h.hosts i) c.clock c.count after o fall (λ boot. (server_makes i boot).file) (cut_makes i fall));
      piece_late = λ i k p up is. on_host i _ (server_piece_late Plain Any (Server i) (c.hosts i) (h.hosts i) c.clock k p (server_makes i _));
      break_late = λ i k b up is. on_host i _ (server_break_late Plain Any (Server i) (c.hosts i) (h.hosts i) c.clock k b (server_makes i _));
      wakes = λ i up. on_host i _ (server_woken Plain Any (Server i) (c.hosts i) (h.hosts i) c.clock (server_makes i _));
    };
    database = record {
      serves = λ place luck m up g. on_loc _ (loc_served Plain c.loc h.loc c.clock place luck m (plain_answers Loc _) (loc_makes_any Plain c.loc.state m (λ head reply to. tt)));
      crashes = λ up. on_loc _ (loc_crashed Plain c.loc h.loc);
      stop_set = λ calls pick up. on_loc _ (loc_stop_set Plain c.loc h.loc calls pick);
      fail_set = λ call up. on_loc _ (loc_fail_set Plain c.loc h.loc call);
      restarts = λ after o fall down. on_loc _ (loc_restarted Plain c.loc h.loc c.clock c.count after o fall (loc_cut fall));
    };
    clients = record {
      begins = λ i act up idle. on_client i _ (client_begun Plain (Client i) (client_makes i) (c.clients i) c.clock act);
      given = λ i place m up g. on_client i _ (client_given Plain (Client i) (client_makes i) (c.clients i) c.clock place m (h.clients i));
      seek_late = λ i k up is. on_client i _ (client_seek_late Plain (Client i) (client_makes i) (c.clients i) k);
      late = λ i act up is. on_client i _ (client_late Plain (Client i) (client_makes i) (c.clients i) act);
      stops = λ i up. client_falls_on i;
      starts = λ i away. client_rises_on i;
    };
    admins = record {
      begins = λ i act up idle. on_admin i _ (begun_asks course c.sent i (c.admins i) (stands i) act) (λ P seats answers asks. admin_begun P (Admin i) (c.admins i) seats act asks);
      given = λ i place m up g. on_admin i _ (given_asks course c.sent i (c.admins i) (stands i) place m g.sent g.to place) (λ P seats answers asks. admin_given P (Admin i) (c.admins i) seats place m (answers (c.admins i).epoch) asks);
      late = λ i r up is. on_admin i _ (late_asks course c.sent i (c.admins i) (stands i) r is) (λ P seats answers asks. admin_late P (Admin i) (c.admins i) seats r is asks);
      stops = λ i up. admin_falls_on i;
      starts = λ i gone. admin_rises_on i;
    };
  }) x

-- ---- a run

led : (course : Course) (c : NodeCell) (xs : List CellInput) → On course c → On (course_behind course c xs) (cell_behind c xs)
led course c [] h = h
led course c (x ∷ xs) h = led (course_on course (node_moved c x).cell.admins) (node_moved c x).cell xs (goes course c h x).on

later_stays : (course : Course) (c : NodeCell) (xs : List CellInput) → On course c → (n e k : ℕ) → IsUpTo e k (c.admins n) → course_behind course c xs n e k ≡ course n e k
later_stays course c [] h n e k u = refl
later_stays course c (x ∷ xs) h n e k u = let one = goes course c h x in later_stays (course_on course (node_moved c x).cell.admins) (node_moved c x).cell xs one.on n e k (one.up n e k u) ∙ one.stays n e k u

pub behind_more : (course : Course) (c : NodeCell) (xs ys : List CellInput) → course_behind course c (xs ++ ys) ≡ course_behind (course_behind course c xs) (cell_behind c xs) ys
behind_more course c [] ys = refl
behind_more course c (x ∷ xs) ys = behind_more (course_on course (node_moved c x).cell.admins) (node_moved c x).cell xs ys

pub first_on : (s : Script) → On no_course (node_start s)
first_on s = record {
  hosts = λ i. record { file = record { seats = tt; kept = tt; held = tt }; seats = tt; held = tt; sendings = λ n. tt };
  clients = λ n. tt;
  loc = record { seats = tt; kept = tt };
  admins = λ n. tt;
  sent = tt;
  acts = λ n r is. absurd cc;
  ways = λ n. tt;
}

course_of : (course : Course) (c : NodeCell) (head : Head) (x : Carried) (n : ℕ) (user : List ℕ) (call : Call) → KnownIn course c.sent c.admins head x → head.from ≡ Admin n → x ≡ carried.Call user call → IsOnCourse course c.sent n (c.admins n) head call
course_of course c head x n user call h from is =
    let k : CallBy course c.sent c.admins head call head.from = subst (KnownIn course c.sent c.admins head) is h in subst (CallBy course c.sent c.admins head call) from k

pub all_on : (course : Course) (c : NodeCell) → On course c → AreOnCourse course c
all_on course c h = record { ways = h.ways; acts = h.acts; calls = λ place n m user call there from is. course_of course c m.head m.carried n user call (found_at (Known course c) place c.sent m h.sent there) from is }

pub are_on_course : CallsAreOnCourse
are_on_course = record {
  on = λ s inputs. all_on (course_in s inputs) (cell_behind (node_start s) inputs) (led no_course (node_start s) inputs (first_on s));
  stays = λ s inputs later n epoch number u. ap (λ (f : Course). f n epoch number) (behind_more no_course (node_start s) inputs later) ∙ later_stays (course_in s inputs) (cell_behind (node_start s) inputs) later (led no_course (node_start s) inputs (first_on s)) n epoch number u;
}
