-- The walk over the inputs of a cell: each lock is the last of its entry, and each act has a stamp of its volume's entry.
use Rattle.std.proofs.Common.{◌≡◌, ◌≤◌, ◌<◌, ℕ, suc, Bool, true, false, cond, List, [], ◌++◌, Option, Some, None, refl, sym, subst, ◌∙◌, append-nil, arith}
use Rattle.std.proofs.Math.Nat.{le_refl}
use Rattle.std.specs.Prelude.{⊤}
use Rattle.std.specs.List.{AllByRecursion}
use Rattle.afs_num.specs.declared.location_calls.LocCall.{LocCall}
use Rattle.afs_num.specs.declared.location_calls.LocCall.TheVariants as loc
use Rattle.afs_num.specs.declared.location_calls.LocReply.TheVariants as entries
use Rattle.afs_num.specs.declared.messages.Call.{Call}
use Rattle.afs_num.specs.declared.messages.Call.TheVariants as ask
use Rattle.afs_num.specs.declared.messages.Carried.{Carried}
use Rattle.afs_num.specs.declared.messages.Carried.TheVariants as carried
use Rattle.afs_num.specs.declared.messages.Message.{Message}
use Rattle.afs_num.specs.declared.messages.Received.TheVariants.{Whole}
use Rattle.afs_num.specs.declared.messages.Reply.{Reply}
use Rattle.afs_num.specs.declared.messages.Reply.TheVariants as tell
use Rattle.afs_num.specs.declared.types.Head.{Head}
use Rattle.afs_num.specs.declared.types.Node.{Node}
use Rattle.afs_num.specs.declared.types.Node.TheVariants.{Admin, Client, Loc, Server}
use Rattle.spec_history.specs.declared.acts.Operand.{Operand}
use Rattle.spec_history.specs.declared.acts.Operand.TheVariants as operands
use Rattle.spec_history.specs.declared.scripts.Script.{Script}
use Rattle.spec_ideal.specs.Operations.{is_number}
use Rattle.spec_adminrows.specs.Acts.{answered, begins_with, refused}
use Rattle.spec_adminrows.specs.AdminRow.{admin_begin_row, admin_reborn, admin_row, admin_timeout_row, AdminState}
use Rattle.spec_adminrows.specs.declared.places.Creating.TheVariants as creating
use Rattle.spec_adminrows.specs.declared.places.Fresh.{Fresh}
use Rattle.spec_adminrows.specs.declared.places.Place.{Place}
use Rattle.spec_adminrows.specs.declared.places.Place.TheVariants as places
use Rattle.spec_copyrows.specs.Sites.{CopyState}
use Rattle.spec_records.specs.Durable.{Durable}
use Rattle.spec_records.specs.LocRecords.{Listed, Lock}
use Rattle.spec_rows.specs.ClientRow.{question}
use Rattle.spec_rows.specs.Hosts.{at_rest, begun_from, comes_up, ends, fails_early, fails_midway, in_boot, in_step, is_full, served_by, without_boot_record, struck, Blow, Fall, HostStep, Outcome}
use Rattle.spec_rows.specs.LocRow.{LocState}
use Rattle.spec_rows.specs.LocSteps.{loc_kind}
use Rattle.spec_rows.specs.Runs.{message_at}
use Rattle.spec_rows.specs.States.{durable_of}
use Rattle.spec_rows.specs.Steps.{Begun, Step}
use Rattle.spec_volrows.specs.NodeHosts.{NodeHost}
use Rattle.spec_volrows.specs.VolStates.{NodeState, Sending, VolState}
use Rattle.spec_volrows.specs.VolSteps.{vol_decides}
use Rattle.spec_runs.specs.NodeRuns.{admin_falls, admin_moves, admin_rises, client_falls, client_moves, client_rises, loc_stepped, node_moved, node_start, server_stepped, ticked, voided, CellInput, NodeCell, NodeMoved}
use Rattle.law_places.specs.Accepting.{cell_behind}
use Rattle.law_stamps.specs.Stamps.{next_stamp}
use Rattle.law_stamps.specs.Told.{entries_in, stamp_by, stamp_in}
use Rattle.law_stamps.proofs.ToldWalk.{entries_are_told}
use Rattle.law_families.proofs.FirstEntries.{first_keyed}
use Rattle.law_walks.specs.Messages.{FallIs}
use Rattle.law_walks.specs.Sends.{AnswersAre, AsksIs, ClientMakes, LocIs, NodeIs, SeatsAre, ServerMakes, VolMakes}
use Rattle.law_walks.proofs.AdminSends.{admin_begun, admin_given, admin_late, AdminSends}
use Rattle.law_walks.proofs.AllMessages.{all_put}
use Rattle.law_walks.proofs.CopySends.{client_begun, client_given, client_late, client_seek_late, CopySends}
use Rattle.law_walks.proofs.EachKind.{each}
use Rattle.law_walks.proofs.Seats.{all_more, found_at, weaker_all, weaker_seats}
use Rattle.law_walks.proofs.ServerSends.{server_break_late, server_crashed, server_fail_set, server_piece_late, server_restarted, server_served, server_stop_set, server_woken, CutMakes, HostSends}
use Rattle.law_walks.proofs.VolDecides.{makes_any}
use Rattle.law_courses.specs.Courses.{ask_in, course_in, course_on, no_course, Course, IsOnCourse, Question, WasAnswered}
use Rattle.law_courses.proofs.Continuing.{leads_is}
use Rattle.law_courses.proofs.Growing.{still_at}
use Rattle.law_courses.proofs.Runs.{asked_is, each_run, Stepped}
use Rattle.law_locks.specs.Grips.{grip_at, AreGripped, GivesFor, Grip, GripIs, GripsAreDrawn}
use Rattle.law_locks.specs.Lines.{AreInLine, IsDrawnFor, LockIsLast}
use Rattle.law_locks.proofs.Asking.{asked_fits, Fits}
use Rattle.law_locks.proofs.Gifts.{plain_gift, still_drawn, still_gift, CallBy, GiftIn, IsGift, IsHarmless, MadeBy, Plain, ReplyGives}
use Rattle.law_locks.proofs.Places.{answered_is, first_is, refused_is}
use Rattle.law_locks.proofs.Serving.{none_drawn, restart_draws, serve_draws, AskedBy, Draws, ServedIn}

-- ---- what nodes make

abbrev Any : Sending → Type 0
Any x = ⊤

plain_answers : (me : Node) (boot : ℕ) → AnswersAre Plain me boot
plain_answers me boot = record { notice = λ head to. tt; refusal = λ head code to. tt }

either_plain : (b : Bool) (x y : Message) → Plain x → Plain y → Plain (cond b x y)
either_plain true x y h k = h
either_plain false x y h k = k

server_makes : (i boot : ℕ) → ServerMakes Plain Any (Server i) boot
server_makes i boot = record {
  file = record { answers = plain_answers (Server i) boot; reply = λ head reply to. tt; breaks = λ n known c. tt };
  piece = λ n known number x h. tt;
  forward = λ x code h. either_plain (is_number code 0) _ _ tt tt;
  moved = λ x h. tt;
}

harmless_by : (call : Call) (n : Node) → IsHarmless call → CallBy call n
harmless_by call (Admin n) h = tt
harmless_by call (Server i) h = h
harmless_by call (Client n) h = h
harmless_by call Loc h = h

-- a client asks where volumes are
looks_harmless : (o : Operand) → IsHarmless (ask.Location (question o))
looks_harmless (operands.Path p) = tt
looks_harmless (operands.Fid f) = tt

client_makes : (n : ℕ) → ClientMakes Plain (Client n)
client_makes n = record {
  answers = λ boot. plain_answers (Client n) boot;
  reply = λ boot head reply to. tt;
  call = λ head user call is none. harmless_by (ask.File call) head.from tt;
  look = λ head user o is none. harmless_by (ask.Location (question o)) head.from (looks_harmless o);
}

volume_makes : (i : ℕ) (d : Durable) (v : VolState) (m : Message) → VolMakes Plain Any (vol_decides (Server i) d v (Whole m))
volume_makes i d v m = makes_any Plain Any (Server i) d v m (λ to. record { reply = λ r. tt; refused = λ code. tt; sends_on = λ x. tt })

-- ---- a cell

-- it was sent
abbrev pub WasSent : List Message → Message → Type 0
WasSent sent m = (place : ℕ) × (message_at sent place ≡ Some m)

still_sent : (sent more : List Message) (o : Option Fall) → FallIs (WasSent sent) o → FallIs (WasSent (sent ++ more)) o
still_sent sent more None h = tt
still_sent sent more (Some at_rest) h = tt
still_sent sent more (Some (in_step m clock b)) h = (h.0, still_at h.0 sent more m h.1)
still_sent sent more (Some in_boot) h = tt

-- at each question the stamp is of the volume's entry
abbrev AreDrawn : (ℕ → ℕ) → ℕ → Course → Type 0
AreDrawn entry_of next course = (n e k : ℕ) → GripIs (IsDrawnFor entry_of next) (grip_at (course n e k).place)

record InLine (course : Course) (c : NodeCell) : Type 0 where
  entry_of : ℕ → ℕ
  line : AreInLine entry_of (next_stamp c) (entries_in c)
  drawn : AreDrawn entry_of (next_stamp c) course
  hosts : (i : ℕ) → NodeIs Plain Any (c.hosts i).state
  clients : (n : ℕ) → SeatsAre Plain (c.clients n).client.seats
  admins : (n : ℕ) → SeatsAre Plain (c.admins n).seats
  loc : LocIs (IsGift entry_of (next_stamp c) course c.admins) c.loc.state
  sent : AllByRecursion (IsGift entry_of (next_stamp c) course c.admins) c.sent
  falls : FallIs (WasSent c.sent) c.loc.down

weaker_drawn : (entry_of now : ℕ → ℕ) (n k : ℕ) → n ≤ k → ((b : ℕ) → b < n → now b ≡ entry_of b) → (o : Option Grip) → GripIs (IsDrawnFor entry_of n) o → GripIs (IsDrawnFor now k) o
weaker_drawn entry_of now n k le same None h = tt
weaker_drawn entry_of now n k le same (Some g) h = still_drawn entry_of now n k le same g.volume g.stamp h

weaker_loc : (P Q : Message → Type 0) (s : LocState) → ((m : Message) → P m → Q m) → LocIs P s → LocIs Q s
weaker_loc P Q s more h = record { seats = weaker_seats P Q s.seats more h.seats; kept = weaker_seats P Q s.lasting.kept more h.kept }

-- ---- a step

module _ (course : Course) (c : NodeCell) (h : InLine course c) where
  abbrev n : ℕ
  n = next_stamp c

  abbrev P : Message → Type 0
  P = IsGift h.entry_of n course c.admins

  abbrev G : ℕ → ℕ → Type 0
  G = IsDrawnFor h.entry_of n

  -- ---- what a message gives, where it is the answer to a question

  created_new : (p : Place) (stamp : ℕ) → ((f : Fresh) (v : ℕ) → p ≡ places.Creates f (creating.Enters v) → G v stamp) → GivesFor G p (tell.Location (entries.CreateEntry stamp))
  created_new (places.Creates f (creating.Enters v)) stamp k = k f v refl
  created_new p stamp k = tt

  made_new : (head : Head) (i : ℕ) (p : Place) (stamp : ℕ) → (course i head.epoch head.number).place ≡ p → MadeBy h.entry_of n course c.admins head stamp (Admin i) → GivesFor G p (tell.Location (entries.CreateEntry stamp))
  made_new head i p stamp is k = created_new p stamp (λ f v at. k.1 f v (is ∙ at))

  reply_new : (head : Head) (i : ℕ) (p : Place) (reply : Reply) → head.to ≡ Admin i → (course i head.epoch head.number).place ≡ p → ReplyGives h.entry_of n course c.admins head reply → GivesFor G p reply
  reply_new head i p (tell.Location (entries.SetLock stamp e)) to is k = k
  reply_new head i p (tell.Location (entries.CreateEntry stamp)) to is k = made_new head i p stamp is (subst (MadeBy h.entry_of n course c.admins head stamp) to k)
  reply_new head i p reply to is k = tt

  asked_place : (i e k e' k' : ℕ) → e' ≡ e → k' ≡ k → (course i e' k').place ≡ (course i e k).place
  asked_place i e k e' k' same_e same_k = subst (λ (x : ℕ). (course i e' k').place ≡ (course i x k).place) same_e (subst (λ (y : ℕ). (course i e' k').place ≡ (course i e' y).place) same_k refl)

  given_new : (i e k : ℕ) (q : Question) (w : WasAnswered c.sent i e k (course i e k) q) → GivesFor G (course i e k).place w.reply
  given_new i e k q w =
      reply_new w.m.head i (course i e k).place w.reply w.to (asked_place i e k w.m.head.epoch w.m.head.number w.in_epoch w.of_number)
      (subst (GiftIn h.entry_of n course c.admins w.m.head) w.says (found_at P w.place c.sent w.m h.sent w.there))

  -- ---- a call that is served

  location_fits : (stamp : ℕ) (call : LocCall) → IsHarmless (ask.Location call) → Fits h.entry_of stamp (ask.Location call)
  location_fits stamp (loc.ReplaceEntry id e) k = absurd k
  location_fits stamp call k = tt

  harmless_fits : (stamp : ℕ) (call : Call) → IsHarmless call → Fits h.entry_of stamp call
  harmless_fits stamp (ask.Location call) k = location_fits stamp call k
  harmless_fits stamp (ask.Volume call) k = tt
  harmless_fits stamp (ask.File call) k = tt

  module _ (m : NodeMoved) (t : Stepped course c m) where
    course_fits : (i : ℕ) (head : Head) (call : Call) → IsOnCourse course c.sent i (c.admins i) head call → Fits h.entry_of head.stamp call
    course_fits i head call k =
        let q : Question = course i head.epoch head.number in
        subst (λ (stamp : ℕ). Fits h.entry_of stamp call) (sym k.stamp) (subst (Fits h.entry_of (ask_in q).stamp) k.asks (asked_fits h.entry_of n q.errand q.place (h.drawn i head.epoch head.number)))

    call_served : (place : ℕ) (x : Message) (user : List ℕ) (call : Call) (from : Node) → message_at c.sent place ≡ Some x → x.carried ≡ carried.Call user call → x.head.from ≡ from → CallBy call from → Fits h.entry_of x.head.stamp call × AskedBy course c.admins x.head call from
    call_served place x user call (Admin i) there is from k = let on = t.before.calls place i x user call there from is in (course_fits i x.head call on, (on.up_to, on.asks))
    call_served place x user call (Server i) there is from k = (harmless_fits x.head.stamp call k, tt)
    call_served place x user call (Client i) there is from k = (harmless_fits x.head.stamp call k, tt)
    call_served place x user call Loc there is from k = (harmless_fits x.head.stamp call k, tt)

    served_in : (place : ℕ) (x : Message) (body : Carried) → message_at c.sent place ≡ Some x → x.carried ≡ body → GiftIn h.entry_of n course c.admins x.head body → ServedIn h.entry_of course c.admins x.head body
    served_in place x (carried.Call user call) there is k = call_served place x user call x.head.from there is refl k
    served_in place x (carried.Refusal code) there is k = tt
    served_in place x (carried.Reply reply) there is k = tt
    served_in place x carried.Notice there is k = tt

    is_served : (x : Message) → WasSent c.sent x → ServedIn h.entry_of course c.admins x.head x.carried
    is_served x s = served_in s.0 x x.carried s.1 refl (found_at P s.0 c.sent x h.sent s.1)

    -- ---- the questions behind a step

    abbrev Known : Place → Type 0
    Known p = GripIs G (grip_at p)

    questions : AreDrawn h.entry_of n (course_on course m.cell.admins)
    questions = asked_is course c m t Known h.drawn
        (λ q x. leads_is Known q.place (begins_with q.errand.act x.0) (first_is G q.errand.act x.0) x.1)
        (λ i e k q w. leads_is Known q.place (answered (course i e k).errand (course i e k).place w.reply) (answered_is G (course i e k).errand (course i e k).place w.reply (h.drawn i e k) (given_new i e k q w)) w.leads)
        (λ p code q k l. leads_is Known q (refused p code) (refused_is G p code k) l)

    -- the cell behind it, by what the database has drawn
    module _ (more ms : List Message) (sent : m.cell.sent ≡ c.sent ++ more) (d : Draws h.entry_of course c.admins c.loc.state m.cell.loc.state ms) where
      abbrev Next : Message → Type 0
      Next = IsGift d.now (next_stamp m.cell) (course_on course m.cell.admins) m.cell.admins

      abbrev Drawn : Message → Type 0
      Drawn = IsGift d.now (next_stamp m.cell) course c.admins

      later : (x : Message) → P x → Drawn x
      later x k = still_gift h.entry_of d.now n (next_stamp m.cell) d.rises d.same course course c.admins c.admins (λ i e j u. refl) (λ i e j u. u) x k

      on_course : (x : Message) → Drawn x → Next x
      on_course x k = still_gift d.now d.now (next_stamp m.cell) (next_stamp m.cell) (le_refl (next_stamp m.cell)) (λ b below. refl) course (course_on course m.cell.admins) c.admins m.cell.admins t.stays t.up x k

      behind : ((i : ℕ) → NodeIs Plain Any (m.cell.hosts i).state) → ((i : ℕ) → SeatsAre Plain (m.cell.clients i).client.seats) → ((i : ℕ) → SeatsAre Plain (m.cell.admins i).seats) → AllByRecursion Drawn more → FallIs (WasSent (c.sent ++ more)) m.cell.loc.down →
          InLine (course_on course m.cell.admins) m.cell
      behind hosts clients admins new falls = record {
        entry_of = d.now;
        line = d.line;
        drawn = λ i e k. weaker_drawn h.entry_of d.now n (next_stamp m.cell) d.rises d.same (grip_at (course_on course m.cell.admins i e k).place) (questions i e k);
        hosts = hosts;
        clients = clients;
        admins = admins;
        loc = weaker_loc Drawn Next m.cell.loc.state on_course d.has;
        sent = subst (AllByRecursion Next) (sym sent) (all_more Next c.sent more (weaker_all P Next c.sent (λ x k. on_course x (later x k)) h.sent) (weaker_all Drawn Next more on_course new));
        falls = subst (λ (xs : List Message). FallIs (WasSent xs) m.cell.loc.down) (sym sent) falls;
      }

  -- ---- steps of others than the database

  abbrev Goes : NodeMoved → Type 0
  Goes m = Stepped course c m → InLine (course_on course m.cell.admins) m.cell

  same_loc : Draws h.entry_of course c.admins c.loc.state c.loc.state []
  same_loc = none_drawn h.entry_of course c.admins c.loc.state h.line h.loc

  plain_new : (ms : List Message) → AllByRecursion Plain ms → AllByRecursion (IsGift same_loc.now n course c.admins) ms
  plain_new ms k = weaker_all Plain (IsGift same_loc.now n course c.admins) ms (plain_gift same_loc.now n course c.admins) k

  void_goes : Goes (voided c)
  void_goes t = behind (voided c) t [] [] (sym (append-nil c.sent)) same_loc h.hosts h.clients h.admins tt (still_sent c.sent [] c.loc.down h.falls)

  ticked_goes : (k : ℕ) → Goes (ticked c k)
  ticked_goes k t = behind (ticked c k) t [] [] (sym (append-nil c.sent)) same_loc h.hosts h.clients h.admins tt (still_sent c.sent [] c.loc.down h.falls)

  on_host : (i : ℕ) (s : HostStep NodeState) → HostSends Plain Any s → Goes (server_stepped c i s)
  on_host i s k t =
      behind (server_stepped c i s) t s.sent [] refl same_loc (all_put i (λ (j : ℕ) (x : NodeHost). NodeIs Plain Any x.state) s.host c.hosts k.has h.hosts) h.clients h.admins (plain_new s.sent k.sent) (still_sent c.sent s.sent c.loc.down h.falls)

  on_client : (i : ℕ) (s : Step CopyState) → CopySends Plain (c.clients i).client.seats s → Goes (client_moves c i s)
  on_client i s k t =
      behind (client_moves c i s) t s.sent [] refl same_loc h.hosts (all_put i (λ (j : ℕ) (x : CopyState). SeatsAre Plain x.client.seats) s.state c.clients (k.seats' (h.clients i)) h.clients) h.admins (plain_new s.sent k.sent) (still_sent c.sent s.sent c.loc.down h.falls)

  client_falls_goes : (i : ℕ) → Goes (client_falls c i)
  client_falls_goes i t = behind (client_falls c i) t [] [] refl same_loc h.hosts (all_put i (λ (j : ℕ) (x : CopyState). SeatsAre Plain x.client.seats) _ c.clients tt h.clients) h.admins tt (still_sent c.sent [] c.loc.down h.falls)

  client_rises_goes : (i : ℕ) → Goes (client_rises c i)
  client_rises_goes i t = behind (client_rises c i) t [] [] refl same_loc h.hosts (all_put i (λ (j : ℕ) (x : CopyState). SeatsAre Plain x.client.seats) _ c.clients (h.clients i) h.clients) h.admins tt (still_sent c.sent [] c.loc.down h.falls)

  on_admin : (i : ℕ) (s : Step AdminState) → AdminSends Plain s → Goes (admin_moves c i s)
  on_admin i s k t =
      behind (admin_moves c i s) t s.sent [] refl same_loc h.hosts h.clients (all_put i (λ (j : ℕ) (x : AdminState). SeatsAre Plain x.seats) s.state c.admins k.seats h.admins) (plain_new s.sent k.sent) (still_sent c.sent s.sent c.loc.down h.falls)

  admin_falls_goes : (i : ℕ) → Goes (admin_falls c i)
  admin_falls_goes i t = behind (admin_falls c i) t [] [] refl same_loc h.hosts h.clients (all_put i (λ (j : ℕ) (x : AdminState). SeatsAre Plain x.seats) (admin_reborn (c.admins i)) c.admins tt h.admins) tt (still_sent c.sent [] c.loc.down h.falls)

  admin_rises_goes : (i : ℕ) → Goes (admin_rises c i)
  admin_rises_goes i t = behind (admin_rises c i) t [] [] refl same_loc h.hosts h.clients (all_put i (λ (j : ℕ) (x : AdminState). SeatsAre Plain x.seats) (c.admins i) c.admins (h.admins i) h.admins) tt (still_sent c.sent [] c.loc.down h.falls)

  -- ---- a step of the database

  on_loc : (s : HostStep LocState) → (Stepped course c (loc_stepped c s) → Draws h.entry_of course c.admins c.loc.state s.host.state s.sent) → FallIs (WasSent (c.sent ++ s.sent)) s.host.down → Goes (loc_stepped c s)
  on_loc s d falls t = let e = d t in behind (loc_stepped c s) t s.sent s.sent refl e h.hosts h.clients h.admins e.sent falls

  -- it falls in the step of a message that was sent
  served_falls : (clock place : ℕ) (m : Message) (o : Option Blow) (at : ℕ) → message_at c.sent at ≡ Some m → FallIs (WasSent c.sent) (served_by loc_kind c.loc clock place m o).host.down
  served_falls clock place m None at there = tt
  served_falls clock place m (Some b) at there = (at, there)

  ended_falls : (clock count : ℕ) (f : Begun LocState) (fall : Fall) (o : Outcome) → FallIs (WasSent c.sent) (Some fall) → FallIs (WasSent c.sent) (ends loc_kind c.loc clock count f fall o).host.down
  ended_falls clock count f fall comes_up q = tt
  ended_falls clock count f fall fails_early q = q
  ended_falls clock count f fall fails_midway q = tt
  ended_falls clock count f fall is_full q = tt

  cut_served : (fall : Fall) (m : NodeMoved) → Stepped course c m → FallIs (WasSent c.sent) (Some fall) → (x : Message) (at : ℕ) (b : Blow) → fall ≡ in_step x at b → ServedIn h.entry_of course c.admins x.head x.carried
  cut_served fall m t q x at b is = is_served m t x (subst (λ (f : Fall). FallIs (WasSent c.sent) (Some f)) is q)

  cut_makes : (i : ℕ) (fall : Fall) → CutMakes Plain Any (Server i) (c.hosts i).state fall
  cut_makes i at_rest = tt
  cut_makes i (in_step m clock b) = volume_makes i (durable_of (c.hosts i).state.file.lasting) (c.hosts i).state.vol m
  cut_makes i in_boot = tt

  asks_plain : (i : ℕ) (a : AdminState) → AsksIs Plain (Admin i) a
  asks_plain i a r is = tt

  -- ---- every input

  goes : (x : CellInput) → Goes (node_moved c x)
  goes x = each Goes c (record {
    void = void_goes;
    ticks = λ k. ticked_goes (suc k);
    servers = record {
      serves = λ i place luck m up g. on_host i _ (server_served Plain Any (Server i) (c.hosts i) (h.hosts i) c.clock place luck m (server_makes i _) (volume_makes i (durable_of (c.hosts i).state.file.lasting) (c.hosts i).state.vol m));
      crashes = λ i up. on_host i _ (server_crashed Plain Any (Server i) (c.hosts i) (h.hosts i));
      stop_set = λ i calls pick up. on_host i _ (server_stop_set Plain Any (Server i) (c.hosts i) (h.hosts i) calls pick);
      fail_set = λ i call up. on_host i _ (server_fail_set Plain Any (Server i) (c.hosts i) (h.hosts i) call);
      restarts = λ i after o fall there down. on_host i _ (server_restarted Plain Any (Server i) (c.hosts i) (h.hosts i) c.clock c.count after o fall (λ boot. (server_makes i boot).file) (cut_makes i fall));
      piece_late = λ i k p up is. on_host i _ (server_piece_late Plain Any (Server i) (c.hosts i) (h.hosts i) c.clock k p (server_makes i _));
      break_late = λ i k b up is. on_host i _ (server_break_late Plain Any (Server i) (c.hosts i) (h.hosts i) c.clock k b (server_makes i _));
      wakes = λ i up. on_host i _ (server_woken Plain Any (Server i) (c.hosts i) (h.hosts i) c.clock (server_makes i _));
    };
    database = record {
      serves = λ place luck m up g. on_loc _ (λ t. serve_draws h.entry_of course c.admins c.loc h.line h.loc c.clock place luck m (is_served _ t m (place, g.sent))) (still_sent c.sent _ _ (served_falls c.clock place m (struck c.loc.armed luck _) place g.sent));
      crashes = λ up. on_loc _ (λ t. same_loc) tt;
      stop_set = λ calls pick up. on_loc _ (λ t. same_loc) (still_sent c.sent [] c.loc.down h.falls);
      fail_set = λ call up. on_loc _ (λ t. same_loc) (still_sent c.sent [] c.loc.down h.falls);
      restarts = λ after o fall down.
          let q : FallIs (WasSent c.sent) (Some fall) = subst (FallIs (WasSent c.sent)) down h.falls in
          on_loc _ (λ t. restart_draws h.entry_of course c.admins c.loc h.line h.loc c.clock c.count after o fall (cut_served fall _ t q)) (still_sent c.sent _ _ (ended_falls c.clock c.count (begun_from loc_kind c.loc.state after fall) fall (without_boot_record _ o) q));
    };
    clients = record {
      begins = λ i act up idle. on_client i _ (client_begun Plain (Client i) (client_makes i) (c.clients i) c.clock act);
      given = λ i place m up g. on_client i _ (client_given Plain (Client i) (client_makes i) (c.clients i) c.clock place m (h.clients i));
      seek_late = λ i k up is. on_client i _ (client_seek_late Plain (Client i) (client_makes i) (c.clients i) k);
      late = λ i act up is. on_client i _ (client_late Plain (Client i) (client_makes i) (c.clients i) act);
      stops = λ i up. client_falls_goes i;
      starts = λ i away. client_rises_goes i;
    };
    admins = record {
      begins = λ i act up idle. on_admin i _ (admin_begun Plain (Admin i) (c.admins i) (h.admins i) act (asks_plain i (admin_begin_row (Admin i) (c.admins i) act).state));
      given = λ i place m up g. on_admin i _ (admin_given Plain (Admin i) (c.admins i) (h.admins i) place m (plain_answers (Admin i) _) (asks_plain i (admin_row (Admin i) (c.admins i) place (Whole m)).state));
      late = λ i r up is. on_admin i _ (admin_late Plain (Admin i) (c.admins i) (h.admins i) r is (asks_plain i (admin_timeout_row (Admin i) (c.admins i) r).state));
      stops = λ i up. admin_falls_goes i;
      starts = λ i gone. admin_rises_goes i;
    };
  }) x

-- ---- at set-up no entry is locked

free_last : (entry_of : ℕ → ℕ) (next key : ℕ) (l : Listed) → stamp_in (Some l) ≡ None → LockIsLast entry_of next key l.lock
free_last entry_of next key l none = by l.lock none
  where
    by : (o : Option Lock) → stamp_by o ≡ None → LockIsLast entry_of next key o
    by None none = tt
    by (Some k) none = absurd cc

first_in_line : (s : Script) → InLine no_course (node_start s)
first_in_line s = record {
  entry_of = λ b. 0;
  line = record {
    begins = omega (arith);
    ascends = (first_keyed s.volumes).ascends;
    keyed = (first_keyed s.volumes).keyed;
    locks = λ k l at. free_last (λ b. 0) (next_stamp (node_start s)) k l (subst (λ (o : Option Listed). stamp_in o ≡ None) at (sym (entries_are_told.locks s [] [] (node_start s) refl 0 k)));
  };
  drawn = λ i e k. tt;
  hosts = λ i. record { file = record { seats = tt; kept = tt; held = tt }; seats = tt; held = tt; sendings = λ k. tt };
  clients = λ i. tt;
  admins = λ i. tt;
  loc = record { seats = tt; kept = tt };
  sent = tt;
  falls = tt;
}

in_line : (s : Script) (inputs : List CellInput) → InLine (course_in s inputs) (cell_behind (node_start s) inputs)
in_line s inputs = each_run s InLine (λ done x t k. goes (course_in s done) (cell_behind (node_start s) done) k x t) (first_in_line s) inputs

-- and so it is of each message that was sent, and of kept replies
pub record AllGripped (course : Course) (c : NodeCell) : Type 0 where
  pub gripped : AreGripped course c
  pub sent : AllByRecursion (IsGift gripped.entry_of (next_stamp c) course c.admins) c.sent
  pub kept : LocIs (IsGift gripped.entry_of (next_stamp c) course c.admins) c.loc.state

pub all_gripped : (s : Script) (inputs : List CellInput) → AllGripped (course_in s inputs) (cell_behind (node_start s) inputs)
all_gripped s inputs =
    let h : InLine (course_in s inputs) (cell_behind (node_start s) inputs) = in_line s inputs in
    record {
      gripped = record { entry_of = h.entry_of; line = h.line; drawn = h.drawn; given = λ i e k q w. given_new (course_in s inputs) (cell_behind (node_start s) inputs) h i e k q w };
      sent = h.sent;
      kept = h.loc;
    }

pub grips_are_drawn : GripsAreDrawn
grips_are_drawn s inputs = (all_gripped s inputs).gripped

-- the message of an interrupted step of the database was sent
pub loc_falls_sent : (s : Script) (inputs : List CellInput) → FallIs (WasSent (cell_behind (node_start s) inputs).sent) (cell_behind (node_start s) inputs).loc.down
loc_falls_sent s inputs = (in_line s inputs).falls

-- a call that writes or deletes an entry is an administrator's
pub calls_by : (s : Script) (inputs : List CellInput) (place : ℕ) (m : Message) (user : List ℕ) (call : Call) → message_at (cell_behind (node_start s) inputs).sent place ≡ Some m → m.carried ≡ carried.Call user call → CallBy call m.head.from
calls_by s inputs place m user call there is =
    let c : NodeCell = cell_behind (node_start s) inputs in
    let h : InLine (course_in s inputs) c = in_line s inputs in
    subst (GiftIn h.entry_of (next_stamp c) (course_in s inputs) c.admins m.head) is (found_at (IsGift h.entry_of (next_stamp c) (course_in s inputs) c.admins) place c.sent m h.sent there)
