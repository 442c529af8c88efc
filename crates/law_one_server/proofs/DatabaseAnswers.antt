-- What a step of the location database answers: what it kept, and what it says to the call that it serves now.
use Rattle.std.proofs.Common.{◌≡◌, ◌⊎◌, inl, inr, ℕ, Bool, true, false, cond, List, [], ◌∷◌, ◌++◌, Option, Some, None, refl, sym, ap, subst, ◌∙◌}
use Rattle.std.specs.Prelude.{⊤}
use Rattle.std.specs.List.{AllByRecursion}
use Rattle.afs_num.specs.Nodes.{same_node}
use Rattle.afs_num.specs.declared.location_calls.LocCall.{LocCall}
use Rattle.afs_num.specs.declared.location_calls.LocReply.{LocReply}
use Rattle.afs_num.specs.declared.messages.Call.TheVariants as ask
use Rattle.afs_num.specs.declared.messages.Carried.{Carried}
use Rattle.afs_num.specs.declared.messages.Carried.TheVariants as carried
use Rattle.afs_num.specs.declared.messages.Message.{Message}
use Rattle.afs_num.specs.declared.messages.Received.TheVariants.{Whole}
use Rattle.afs_num.specs.declared.types.Head.{Head}
use Rattle.afs_num.specs.declared.types.Node.{Node}
use Rattle.afs_num.specs.declared.types.Node.TheVariants.{Admin, Client, Loc, Server}
use Rattle.spec_history.specs.declared.scripts.Script.{Script}
use Rattle.spec_ideal.specs.Operations.{is_number}
use Rattle.spec_ideal.specs.Tables.{Table}
use Rattle.spec_model.specs.Calls.{admitted, Admitted}
use Rattle.spec_model.specs.Calls as pairs
use Rattle.spec_model.proofs.Basics.{same_node-true}
use Rattle.spec_records.specs.LocDurable.{entries_after, loc_has_room}
use Rattle.spec_records.specs.LocRecords.{Listed}
use Rattle.spec_rows.specs.Hosts.{at_rest, begun_from, comes_up, ends, fails_early, fails_midway, in_boot, in_step, is_full, restarted, served, served_by, without_boot_record, struck, Blow, Fall, HostStep, Luck, Outcome}
use Rattle.spec_rows.specs.LocRow.{admits, decided, drops, hears, loc_decides, loc_durable_of, loc_keeps, loc_left, loc_op, loc_record_of, loc_saved, loc_sent, refuses, repeats, reply_to, runs_carried, saves, shows, tells_boot, LocChange, LocDecision, LocResult, LocState}
use Rattle.spec_rows.specs.LocRow as row
use Rattle.spec_rows.specs.LocSteps.{loc_begun_after, loc_kind, loc_row, loc_start_row, LocHost}
use Rattle.spec_rows.specs.ServerRow.{no_room, not_served}
use Rattle.spec_rows.specs.Steps.{Begun}
use Rattle.spec_volrows.specs.VolStates.{Sending}
use Rattle.spec_runs.specs.NodeRuns.{admin_falls, admin_moves, admin_rises, client_falls, client_moves, client_rises, loc_stepped, node_moved, node_start, server_stepped, ticked, voided, CellInput, NodeCell, NodeMoved}
use Rattle.law_places.specs.Accepting.{cell_behind}
use Rattle.law_stamps.specs.Told.{entries_in}
use Rattle.law_walks.specs.Messages.{AllAre, FallIs, IsOf, Rules}
use Rattle.law_walks.specs.Sends.{AdmittedIs, AnswersAre, FileMakes, IsTo, LocIs, SentIs}
use Rattle.law_walks.proofs.AllMessages.{all_are_first, next_all, next_sent}
use Rattle.law_walks.proofs.EachKind.{any_admin, any_client, any_server, each}
use Rattle.law_walks.proofs.LocSends.{loc_makes_any}
use Rattle.law_walks.proofs.Seats.{admitted_is, placed_is, seated_is, weaker_all, weaker_seats}
use Rattle.law_walks.proofs.VolDecides.{makes_any}
use Rattle.law_locks.proofs.Walk.{loc_falls_sent, WasSent}

-- ---- the reply to a call that is served now

abbrev pub IsNoReply : Carried → Type 0
IsNoReply (carried.Reply reply) = ⊥
IsNoReply x = ⊤

-- it tells what stands there, and leaves it
pub record IsRead (s : LocState) (es : Table Listed) (stamp : ℕ) (call : LocCall) (reply : LocReply) : Type 0 where
  pub does : loc_op stamp call s.lasting ≡ row.reads reply
  pub leaves : es ≡ s.lasting.entries

-- or it tells what was changed
pub record IsWritten (s : LocState) (es : Table Listed) (stamp : ℕ) (call : LocCall) (reply : LocReply) : Type 0 where
  pub c : LocChange
  pub does : loc_op stamp call s.lasting ≡ row.changes c
  pub replies : c.reply ≡ reply
  pub leaves : es ≡ entries_after c.deed s.lasting.entries

-- in this state the call of this message is served, and these are the entries behind it
pub record IsServedNow (s : LocState) (es : Table Listed) (m : Message) (reply : LocReply) : Type 0 where
  pub user : List ℕ
  pub call : LocCall
  pub says : m.carried ≡ carried.Call user (ask.Location call)
  pub does : IsRead s es m.head.stamp call reply ⊎ IsWritten s es m.head.stamp call reply

-- this message is the reply to such a call
pub record IsFresh (S : Message → Type 0) (s : LocState) (es : Table Listed) (x : Message) : Type 0 where
  pub m : Message
  pub sent : S m
  pub reply : LocReply
  pub is : x ≡ reply_to s.lasting.boot m.head reply
  pub served : IsServedNow s es m reply

weaker_loc : (P Q : Message → Type 0) (s : LocState) → ((m : Message) → P m → Q m) → LocIs P s → LocIs Q s
weaker_loc P Q s more h = record { seats = weaker_seats P Q s.seats more h.seats; kept = weaker_seats P Q s.lasting.kept more h.kept }

-- ---- a decision

-- P is what was known of what it keeps, S of the messages that it is given
module _ (P S : Message → Type 0) (plain : (m : Message) → IsNoReply m.carried → P m) (s : LocState) (has : LocIs P s) where
  abbrev es : Table Listed
  es = s.lasting.entries

  -- a message is one of those known, or a reply to the call that is served now
  abbrev pub Known : Table Listed → Message → Type 0
  Known now x = P x ⊎ IsFresh S s now x

  pub record Goes (b : LocState) (messages : List Message) : Type 0 where
    pub holds : LocIs (Known b.lasting.entries) b
    pub sent : AllByRecursion (Known b.lasting.entries) messages

  kept_on : (now : Table Listed) → LocIs (Known now) s
  kept_on now = weaker_loc P (Known now) s (λ m p. inl p) has

  module _ (m : Message) (there : S m) where
    abbrev Decides : LocDecision → Type 0
    Decides drops = ⊤
    Decides (tells_boot head) = ⊤
    Decides (repeats reply) = P reply
    Decides (refuses head code) = ⊤
    Decides (shows head reply) = (head ≡ m.head) × IsServedNow s es m reply
    Decides (saves head c) = (head ≡ m.head) × IsServedNow s (entries_after c.deed es) m c.reply

    either : (b : Bool) (x y : LocDecision) → Decides x → Decides y → Decides (cond b x y)
    either true x y h k = h
    either false x y h k = k

    result_decides : (user : List ℕ) (call : LocCall) (r : LocResult) → m.carried ≡ carried.Call user (ask.Location call) → loc_op m.head.stamp call s.lasting ≡ r → Decides (decided s m.head r)
    result_decides user call (row.refused code) says is = tt
    result_decides user call (row.reads reply) says is = (refl, record { user = user; call = call; says = says; does = inl (record { does = is; leaves = refl }) })
    result_decides user call (row.changes c) says is =
        either (loc_has_room (loc_durable_of s.lasting) (loc_record_of s.lasting.boot m.head c)) (saves m.head c) (refuses m.head no_room)
        (refl, record { user = user; call = call; says = says; does = inr (record { c = c; does = is; replies = refl; leaves = refl }) }) tt

    carried_decides : (x : Carried) → m.carried ≡ x → Decides (runs_carried s m.head x)
    carried_decides (carried.Call user (ask.Location call)) is = result_decides user call (loc_op m.head.stamp call s.lasting) is refl
    carried_decides (carried.Call user (ask.File call)) is = tt
    carried_decides (carried.Call user (ask.Volume call)) is = tt
    carried_decides (carried.Refusal code) is = tt
    carried_decides (carried.Reply reply) is = tt
    carried_decides carried.Notice is = tt

    admits_decides : (x : Carried) (o : Admitted Message) → m.carried ≡ x → AdmittedIs P o → Decides (admits s m.head (Whole (record { head = m.head; carried = x })) o)
    admits_decides x pairs.runs is h = either (same_node m.head.from Loc) (refuses m.head not_served) (runs_carried s m.head x) tt (carried_decides x is)
    admits_decides x (pairs.kept reply) is h = h
    admits_decides x pairs.in_progress is h = tt
    admits_decides x pairs.older is h = tt
    admits_decides x (pairs.wrong_boot boot) is h = tt

    hears_decides : (x : Carried) → m.carried ≡ x → Decides (hears s m.head x)
    hears_decides (carried.Call user call) is = either (same_node m.head.to Loc) _ drops (admits_decides (carried.Call user call) (admitted s.lasting.boot s.seats m.head) is (admitted_is P s.lasting.boot s.seats m.head has.seats)) tt
    hears_decides (carried.Refusal code) is = tt
    hears_decides (carried.Reply reply) is = tt
    hears_decides carried.Notice is = tt

    fresh : (now : Table Listed) (head : Head) (reply : LocReply) → head ≡ m.head → IsServedNow s now m reply → Known now (reply_to s.lasting.boot head reply)
    fresh now head reply same served = inr (record { m = m; sent = there; reply = reply; is = ap (λ (h : Head). reply_to s.lasting.boot h reply) same; served = served })

  -- ---- the state behind it

  pub still : Goes s []
  still = record { holds = kept_on es; sent = tt }

  sends_one : (m : Message) → P m → Goes s (m ∷ [])
  sends_one m p = record { holds = kept_on es; sent = (inl p, tt) }

  keeps_one : (head : Head) (m : Message) → Known es m → Goes (loc_keeps head m s) (m ∷ [])
  keeps_one head m p = record { holds = record { seats = seated_is (Known es) _ s.seats p (kept_on es).seats; kept = (kept_on es).kept }; sent = (p, tt) }

  saves_one : (head : Head) (c : LocChange) → Known (entries_after c.deed es) (reply_to s.lasting.boot head c.reply) → Goes (loc_saved head c s) (reply_to s.lasting.boot head c.reply ∷ [])
  saves_one head c p =
      let now : Table Listed = entries_after c.deed es in
      record { holds = record { seats = seated_is (Known now) _ s.seats p (kept_on now).seats; kept = placed_is (Known now) _ s.lasting.kept p (kept_on now).kept }; sent = (p, tt) }

  left_goes : (m : Message) (there : S m) (d : LocDecision) → Decides m there d → Goes (loc_left s d) (loc_sent s d)
  left_goes m there drops k = still
  left_goes m there (tells_boot head) k = sends_one _ (plain _ tt)
  left_goes m there (repeats reply) k = sends_one reply k
  left_goes m there (refuses head code) k = keeps_one head _ (inl (plain _ tt))
  left_goes m there (shows head reply) k = keeps_one head _ (fresh m there es head reply k.0 k.1)
  left_goes m there (saves head c) k = saves_one head c (fresh m there (entries_after c.deed es) head c.reply k.0 k.1)

  unsent : (b : LocState) (ms : List Message) → Goes b ms → Goes b []
  unsent b ms h = record { holds = h.holds; sent = tt }

  after_goes : (m : Message) (there : S m) (d : LocDecision) → Decides m there d → Goes (loc_begun_after s d).state []
  after_goes m there (saves head c) k = unsent _ _ (saves_one head c (fresh m there (entries_after c.deed es) head c.reply k.0 k.1))
  after_goes m there drops k = still
  after_goes m there (tells_boot head) k = still
  after_goes m there (repeats reply) k = still
  after_goes m there (refuses head code) k = still
  after_goes m there (shows head reply) k = still

  revived : (b : LocState) → Goes b [] → Goes (row.loc_revived b) []
  revived b h = record { holds = record { seats = h.holds.kept; kept = h.holds.kept }; sent = tt }

  begun_goes : (after : Bool) (fall : Fall) → FallIs S (Some fall) → Goes (begun_from loc_kind s after fall).state []
  begun_goes after at_rest k = still
  begun_goes false (in_step m clock b) k = still
  begun_goes true (in_step m clock b) k = after_goes m k (loc_decides s (Whole m)) (hears_decides m k m.carried refl)
  begun_goes false in_boot k = still
  begun_goes true in_boot k = revived s still

-- ---- its steps

module _ (P S : Message → Type 0) (plain : (m : Message) → IsNoReply m.carried → P m) (h : LocHost) (has : LocIs P h.state) where
  abbrev Steps : LocState → List Message → Type 0
  Steps b messages = Goes P S plain h.state has b messages

  serve_by : (clock place : ℕ) (m : Message) (o : Option Blow) → S m → Steps (served_by loc_kind h clock place m o).host.state (served_by loc_kind h clock place m o).sent
  unfolding loc_row
  serve_by clock place m None there = left_goes P S plain h.state has m there (loc_decides h.state (Whole m)) (hears_decides P S plain h.state has m there m.carried refl)
  serve_by clock place m (Some b) there = still P S plain h.state has

  serves : (clock place : ℕ) (luck : Luck) (m : Message) → S m → Steps (served loc_kind h clock place luck m).host.state (served loc_kind h clock place luck m).sent
  serves clock place luck m there = serve_by clock place m (struck h.armed luck (loc_kind.device_calls h.state clock (Whole m))) there

  ends_goes : (clock count : ℕ) (f : Begun LocState) (fall : Fall) (o : Outcome) → Steps f.state [] → Steps (ends loc_kind h clock count f fall o).host.state (ends loc_kind h clock count f fall o).sent
  unfolding loc_start_row
  ends_goes clock count f fall comes_up b = revived P S plain h.state has f.state b
  ends_goes clock count f fall fails_early b = still P S plain h.state has
  ends_goes clock count f fall fails_midway b = b
  ends_goes clock count f fall is_full b = b

  restarts : (clock count : ℕ) (after : Bool) (o : Outcome) (fall : Fall) → FallIs S (Some fall) → Steps (restarted loc_kind h clock count after o fall).host.state (restarted loc_kind h clock count after o fall).sent
  restarts clock count after o fall k = ends_goes clock count (begun_from loc_kind h.state after fall) fall (without_boot_record (loc_kind.can_start (begun_from loc_kind h.state after fall).state) o) (begun_goes P S plain h.state has after fall k)

-- ---- messages of others

abbrev IsFor : Node → Sending → Type 0
IsFor me x = IsTo me x.head

to_me : (me : Node) (head : Head) → IsTo me head → head.to ≡ me
to_me me head to = same_node-true head.to me to

answers_of : (me : Node) (boot : ℕ) → AnswersAre (IsOf me) me boot
answers_of me boot = record { notice = λ head to. to_me me head to; refusal = λ head code to. to_me me head to }

files_of : (me : Node) (boot : ℕ) → FileMakes (IsOf me) me boot
files_of me boot = record { answers = answers_of me boot; reply = λ head reply to. to_me me head to; breaks = λ n known c. refl }

one_of : (me : Node) (b : Bool) (x y : Message) → IsOf me x → IsOf me y → IsOf me (cond b x y)
one_of me true x y h k = h
one_of me false x y h k = k

rules : Rules IsOf IsFor (λ (m : Message). ⊤)
rules = record {
  said = λ n m h. tt;
  servers = λ i boot. record { file = files_of (Server i) boot; piece = λ n known number x h. refl; forward = λ x code h. one_of (Server i) (is_number code 0) _ _ (to_me (Server i) x.head h) (to_me (Server i) x.head h); moved = λ x h. h };
  volumes = λ i d v m q. makes_any (IsOf (Server i)) (IsFor (Server i)) (Server i) d v m (λ to. record { reply = λ r. to_me (Server i) m.head to; refused = λ code. to_me (Server i) m.head to; sends_on = λ x. to });
  database = λ boot. answers_of Loc boot;
  locations = λ s m q. loc_makes_any (IsOf Loc) s m (λ head reply to. to_me Loc head to);
  clients = λ n. record { answers = λ boot. answers_of (Client n) boot; reply = λ boot head reply to. to_me (Client n) head to; call = λ head user call is none. is; look = λ head user o is none. is };
  admins = λ n boot. answers_of (Admin n) boot;
  asks = λ n a r is. refl;
}

abbrev HaveSenders : NodeCell → Type 0
HaveSenders c = AllAre IsOf IsFor (λ (m : Message). ⊤) c

sent_led : (c : NodeCell) (xs : List CellInput) → HaveSenders c → HaveSenders (cell_behind c xs)
sent_led c [] h = h
sent_led c (x ∷ xs) h = sent_led (node_moved c x).cell xs (next_all IsOf IsFor (λ (m : Message). ⊤) rules c h x)

-- ---- a cell

pub record Answers (P : Message → Type 0) (c : NodeCell) (m : NodeMoved) : Type 0 where
  pub has : LocIs (λ (x : Message). P x ⊎ IsFresh (WasSent c.sent) c.loc.state (entries_in m.cell) x) m.cell.loc.state
  pub sent : AllByRecursion (λ (x : Message). P x ⊎ IsFresh (WasSent c.sent) c.loc.state (entries_in m.cell) x) m.entry.sent

module _ (P : Message → Type 0) (plain : (m : Message) → IsNoReply m.carried → P m) (others : (m : Message) → (m.head.from ≡ Loc → ⊥) → P m) (c : NodeCell) (has : LocIs P c.loc.state) (falls : FallIs (WasSent c.sent) c.loc.down) where
  abbrev Next : NodeMoved → Type 0
  Next m = SentIs IsOf m.entry → Answers P c m

  abbrev Old : Message → Type 0
  Old x = P x ⊎ IsFresh (WasSent c.sent) c.loc.state (entries_in c) x

  by_other : (n : Node) → (n ≡ Loc → ⊥) → (ms : List Message) → AllByRecursion (IsOf n) ms → AllByRecursion Old ms
  by_other n other ms h = weaker_all (IsOf n) Old ms (λ m from. inl (others m (λ is. other (sym from ∙ is)))) h

  same : LocIs Old c.loc.state
  same = weaker_loc P Old c.loc.state (λ m p. inl p) has

  by_server : (i : ℕ) → Server i ≡ Loc → ⊥
  by_server i e = absurd cc

  by_client : (n : ℕ) → Client n ≡ Loc → ⊥
  by_client n e = absurd cc

  by_admin : (n : ℕ) → Admin n ≡ Loc → ⊥
  by_admin n e = absurd cc

  on_loc : (s : HostStep LocState) → Goes P (WasSent c.sent) plain c.loc.state has s.host.state s.sent → Next (loc_stepped c s)
  on_loc s k said = record { has = k.holds; sent = k.sent }

  rest : Goes P (WasSent c.sent) plain c.loc.state has c.loc.state []
  rest = still P (WasSent c.sent) plain c.loc.state has

  next : (x : CellInput) → Next (node_moved c x)
  next x = each Next c (record {
    void = λ said. record { has = same; sent = tt };
    ticks = λ k said. record { has = same; sent = tt };
    servers = any_server Next c (λ i s said. record { has = same; sent = by_other (Server i) (by_server i) s.sent said });
    database = record {
      serves = λ place luck m up g. on_loc _ (serves P (WasSent c.sent) plain c.loc has c.clock place luck m (place, g.sent));
      crashes = λ up. on_loc _ rest;
      stop_set = λ calls pick up. on_loc _ rest;
      fail_set = λ call up. on_loc _ rest;
      restarts = λ after o fall down. on_loc _ (restarts P (WasSent c.sent) plain c.loc has c.clock c.count after o fall (subst (FallIs (WasSent c.sent)) down falls));
    };
    clients = any_client Next c (λ n s said. record { has = same; sent = by_other (Client n) (by_client n) s.sent said }) (λ n said. record { has = same; sent = tt }) (λ n said. record { has = same; sent = tt });
    admins = any_admin Next c (λ n s said. record { has = same; sent = by_other (Admin n) (by_admin n) s.sent said }) (λ n said. record { has = same; sent = tt }) (λ n said. record { has = same; sent = tt });
  }) x

module _ (s : Script) (done : List CellInput) (P : Message → Type 0) (plain : (m : Message) → IsNoReply m.carried → P m) (others : (m : Message) → (m.head.from ≡ Loc → ⊥) → P m) (has : LocIs P (cell_behind (node_start s) done).loc.state) where
  -- what one more input sends, and what the database keeps behind it
  pub answers_next : (x : CellInput) → Answers P (cell_behind (node_start s) done) (node_moved (cell_behind (node_start s) done) x)
  answers_next x =
      let c : NodeCell = cell_behind (node_start s) done in
      next P plain others c has (loc_falls_sent s done) x (next_sent IsOf IsFor (λ (m : Message). ⊤) rules c (sent_led (node_start s) done (all_are_first IsOf IsFor (λ (m : Message). ⊤) rules s)) x)
