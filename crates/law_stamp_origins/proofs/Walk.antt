-- The walk over the inputs of a cell: whatever stamp is stored, and whatever is sent on under one, an administrator called under it.
use Rattle.std.proofs.Common.{◌≡◌, ◌⊎◌, inl, inr, ℕ, ◌+◌, ℤ, suc, Bool, true, false, cond, List, [], ◌∷◌, ◌++◌, Option, Some, None, refl, sym, ap, subst, ◌∙◌, append-nil}
use Rattle.std.specs.Prelude.{⊤}
use Rattle.std.specs.List.{AllByRecursion}
use Rattle.afs_num.specs.declared.messages.Call.{Call}
use Rattle.afs_num.specs.declared.messages.Call.TheVariants as ask
use Rattle.afs_num.specs.declared.messages.Carried.{Carried}
use Rattle.afs_num.specs.declared.messages.Carried.TheVariants as carried
use Rattle.afs_num.specs.declared.messages.Message.{Message}
use Rattle.afs_num.specs.declared.messages.Received.TheVariants.{Whole}
use Rattle.afs_num.specs.declared.messages.Reply.TheVariants as tell
use Rattle.afs_num.specs.declared.types.Head.{Head}
use Rattle.afs_num.specs.declared.types.Node.{Node}
use Rattle.afs_num.specs.declared.types.Node.TheVariants.{Admin, Client, Loc, Server}
use Rattle.afs_num.specs.declared.volume_calls.VolCall.{VolCall}
use Rattle.afs_num.specs.declared.volume_calls.VolReply.TheVariants as volumes
use Rattle.spec_copyrows.specs.CopyRow.{copies_reborn}
use Rattle.spec_copyrows.specs.Sites.{CopyState}
use Rattle.spec_history.specs.declared.lines.Line.TheVariants as lines
use Rattle.spec_history.specs.declared.scripts.Script.{Script}
use Rattle.spec_adminrows.specs.AdminRow.{admin_begin_row, admin_reborn, admin_row, admin_timeout_row, ask_head, ask_of, AdminState}
use Rattle.spec_ideal.specs.Operations.{is_number}
use Rattle.spec_ideal.specs.Tables.{get}
use Rattle.law_legal.proofs.BaseLaws.{at_more}
use Rattle.spec_records.specs.Durable.{or_zero}
use Rattle.spec_rows.specs.Callbacks.{put}
use Rattle.spec_rows.specs.Hosts.{at_rest, begun_from, comes_up, crashed, ends, fails_early, fails_midway, in_boot, in_step, is_full, restarted, served, served_by, set_to_fail, set_to_stop, without_boot_record, struck, Blow, Fall, HostStep, Luck, Outcome}
use Rattle.spec_rows.specs.LocRow.{loc_decides, LocState}
use Rattle.spec_rows.specs.LocSteps.{loc_kind}
use Rattle.spec_rows.specs.Runs.{message_at}
use Rattle.spec_rows.specs.ServerHosts.{can_start}
use Rattle.spec_rows.specs.ServerRow.{refusal, replied}
use Rattle.spec_rows.specs.ServerSteps.{back_timeout_row, wake_row}
use Rattle.spec_rows.specs.States.{durable_of, BackCall, Lasting}
use Rattle.spec_rows.specs.Steps.{Begun, Step}
use Rattle.spec_volrows.proofs.VolTurns.{others_leave_files}
use Rattle.spec_volrows.specs.FileRow.{file_start}
use Rattle.spec_volrows.specs.NodeHosts.{node_kind, node_timed_out, node_woken, piece_timed_out, NodeHost}
use Rattle.spec_volrows.specs.VolLaws.{stamp_at, LeavesFiles}
use Rattle.spec_volrows.specs.VolRow.{family_of, Dispatch}
use Rattle.spec_volrows.specs.VolStates.{NodeState, PieceCall, Sending}
use Rattle.spec_volrows.specs.VolSteps.{dispatches, drops, node_back_timeout_row, node_device_calls, node_start_row, node_wake_row, piece_timeout_row, repeats, replies_to, saves, tells_boot, vol_decides, VolDecision}
use Rattle.spec_runs.specs.NodeRuns.{admin_falls, admin_moves, admin_rises, client_falls, client_moves, client_rises, loc_stepped, node_moved, node_start, server_stepped, ticked, voided, CellInput, NodeCell, NodeMoved}
use Rattle.law_walks.specs.Kinds.{IsGiven}
use Rattle.law_walks.specs.Sends.{AnswersAre, AsksIs, CellIs, ClientMakes, HeldIs, LocIs, LocMakes, NodeIs, SeatsAre, ServerMakes, VolMakes}
use Rattle.law_walks.proofs.AdminSends.{admin_begun, admin_given, admin_late, AdminSends}
use Rattle.law_walks.proofs.AllMessages.{all_put}
use Rattle.law_walks.proofs.CopySends.{client_begun, client_given, client_late, client_seek_late, CopySends}
use Rattle.law_walks.proofs.EachKind.{each}
use Rattle.law_walks.proofs.LocSends.{loc_crashed, loc_fail_set, loc_makes_any, loc_restarted, loc_served, loc_stop_set, LocCutMakes, LocSends}
use Rattle.law_walks.proofs.Seats.{all_more, found_at, weaker_all, weaker_seats}
use Rattle.law_walks.proofs.ServerSends.{serve_by, server_break_late, server_crashed, server_fail_set, server_piece_late, server_restarted, server_stop_set, server_woken, CutMakes, HostSends}
use Rattle.law_walks.proofs.VolDecides.{makes_any}
use Rattle.law_places.specs.Accepting.{cell_behind}
use Rattle.law_stamps.specs.Stamps.{stored_stamp}
use Rattle.law_stamp_origins.specs.Brought.{AreBrought, IsBrought, StampsAreBrought}
use Rattle.law_stamp_origins.proofs.Deciding.{decides_brings, Brings, IsIn}
use Rattle.law_stamp_origins.proofs.Storing.{begun_stored, row_stored, FallStores, IsStored}

-- ---- messages, and dumps that are sent on

-- A volume call of an administrator is one itself. Under that of a server an administrator called. Of other nodes there is none.
abbrev CallIs : List Message → Head → VolCall → Node → Type 0
CallIs sent head call (Admin n) = ⊤
CallIs sent head call (Server i) = IsBrought sent (family_of call) head.stamp
CallIs sent head call (Client n) = ⊥
CallIs sent head call Loc = ⊥

abbrev KnownBy : List Message → Head → Carried → Type 0
KnownBy sent head (carried.Call user (ask.Volume call)) = CallIs sent head call head.from
KnownBy sent head x = ⊤

abbrev Known : List Message → Message → Type 0
Known sent m = KnownBy sent m.head m.carried

abbrev SentOn : List Message → Sending → Type 0
SentOn sent x = IsBrought sent x.family x.head.stamp

module _ (sent more : List Message) where
  still_brought : (family stamp : ℕ) → IsBrought sent family stamp → IsBrought (sent ++ more) family stamp
  still_brought family stamp h = record { place = h.place; m = h.m; admin = h.admin; user = h.user; call = h.call; at = at_more sent more h.place h.m h.at; from = h.from; asks = h.asks; in_family = h.in_family; under = h.under }

  still_call : (head : Head) (call : VolCall) (n : Node) → CallIs sent head call n → CallIs (sent ++ more) head call n
  still_call head call (Admin n) h = tt
  still_call head call (Server i) h = still_brought (family_of call) head.stamp h
  still_call head call (Client n) h = h
  still_call head call Loc h = h

  still_by : (head : Head) (x : Carried) → KnownBy sent head x → KnownBy (sent ++ more) head x
  still_by head (carried.Call user (ask.Volume call)) h = still_call head call head.from h
  still_by head x h = tt

  still_known : (m : Message) → Known sent m → Known (sent ++ more) m
  still_known m h = still_by m.head m.carried h

  still_sent_on : (x : Sending) → SentOn sent x → SentOn (sent ++ more) x
  still_sent_on x h = still_brought x.family x.head.stamp h

  -- what is brought, or 0
  abbrev FromAdmin : List Message → ℕ → ℕ → Type 0
  FromAdmin ms family stamp = (stamp ≡ 0) ⊎ IsBrought ms family stamp

  still_from : (family stamp : ℕ) → FromAdmin sent family stamp → FromAdmin (sent ++ more) family stamp
  still_from family stamp (inl none) = inl none
  still_from family stamp (inr h) = inr (still_brought family stamp h)

-- a message that was sent, under whose stamp an administrator called
brought_at : (sent : List Message) (place : ℕ) (m : Message) (n : Node) (user : List ℕ) (call : VolCall) → message_at sent place ≡ Some m → m.head.from ≡ n → m.carried ≡ carried.Call user (ask.Volume call) → CallIs sent m.head call n → IsBrought sent (family_of call) m.head.stamp
brought_at sent place m (Admin n) user call at from asks h = record { place = place; m = m; admin = n; user = user; call = call; at = at; from = from; asks = asks; in_family = refl; under = refl }
brought_at sent place m (Server i) user call at from asks h = h
brought_at sent place m (Client n) user call at from asks h = absurd h
brought_at sent place m Loc user call at from asks h = absurd h

brought_in : (sent : List Message) (place : ℕ) (m : Message) (family : ℕ) → message_at sent place ≡ Some m → Known sent m → IsIn m.carried family → IsBrought sent family m.head.stamp
brought_in sent place m family at known is =
    subst (λ (f : ℕ). IsBrought sent f m.head.stamp) is.in_family (brought_at sent place m m.head.from is.user is.call at refl is.asks (subst (KnownBy sent m.head) is.asks known))

-- ---- decisions

abbrev NoCall : Carried → Type 0
NoCall (carried.Call user call) = ⊥
NoCall x = ⊤

abbrev IsAnswer : Message → Type 0
IsAnswer m = NoCall m.carried

no_call : (sent : List Message) (head : Head) (x : Carried) → NoCall x → KnownBy sent head x
no_call sent head (carried.Call user call) h = absurd h
no_call sent head (carried.Refusal code) h = tt
no_call sent head (carried.Reply reply) h = tt
no_call sent head carried.Notice h = tt

decided : (sent : List Message) (m : Message) (x : VolDecision) → VolMakes IsAnswer (λ (y : Sending). ⊤) x → Brings m.head m.carried x → ((family : ℕ) → IsIn m.carried family → IsBrought sent family m.head.stamp) → VolMakes (Known sent) (SentOn sent) x
decided sent m (replies_to h reply ts last) z w brought = no_call sent reply.head reply.carried z
decided sent m (saves h y) z w brought = no_call sent y.reply.head y.reply.carried z
decided sent m (dispatches h y) z w brought = subst (λ (q : Head). IsBrought sent y.family q.stamp) (sym w.0) (brought y.family w.1)
decided sent m drops z w brought = tt
decided sent m (tells_boot h) z w brought = tt
decided sent m (repeats reply) z w brought = tt

-- ---- what nodes make

module _ (sent : List Message) where
  answers : (me : Node) (boot : ℕ) → AnswersAre (Known sent) me boot
  answers me boot = record { notice = λ head to. tt; refusal = λ head code to. tt }

  forwarded : (boot : ℕ) (head : Head) (b : Bool) (code : ℤ) → Known sent (cond b (replied boot head (carried.Reply (tell.Volume volumes.Forward))) (refusal boot head code))
  forwarded boot head true code = tt
  forwarded boot head false code = tt

  server_makes : (i boot : ℕ) → ServerMakes (Known sent) (SentOn sent) (Server i) boot
  server_makes i boot = record {
    file = record { answers = answers (Server i) boot; reply = λ head reply to. tt; breaks = λ n known c. tt };
    piece = λ n known number x h. h;
    forward = λ x code h. forwarded boot x.head (is_number code 0) code;
    moved = λ x h. h;
  }

  client_makes : (n : ℕ) → ClientMakes (Known sent) (Client n)
  client_makes n = record { answers = λ boot. answers (Client n) boot; reply = λ boot head reply to. tt; call = λ head user call from none. tt; look = λ head user o from none. tt }

  replies_known : (s : LocState) (m : Message) → LocMakes (Known sent) s.lasting.boot (loc_decides s (Whole m))
  replies_known s m = loc_makes_any (Known sent) s m (λ head reply to. tt)

  asked_by : (n : ℕ) (head : Head) (call : Call) → head.from ≡ Admin n → KnownBy sent head (carried.Call [] call)
  asked_by n head (ask.Volume call) from = subst (CallIs sent head call) (sym from) tt
  asked_by n head (ask.File call) from = tt
  asked_by n head (ask.Location call) from = tt

  asks : (n : ℕ) (a : AdminState) → AsksIs (Known sent) (Admin n) a
  asks n a r is = asked_by n (ask_head (Admin n) a (ask_of a r)) (ask_of a r).call refl

-- ---- a cell

record IsSent (sent : List Message) (m : Message) : Type 0 where
  place : ℕ
  at : message_at sent place ≡ Some m

abbrev FellIs : List Message → Option Fall → Type 0
FellIs sent None = ⊤
FellIs sent (Some at_rest) = ⊤
FellIs sent (Some in_boot) = ⊤
FellIs sent (Some (in_step m clock b)) = Known sent m × IsSent sent m

record Brought (c : NodeCell) : Type 0 where
  nodes : CellIs (λ (n : Node). Known c.sent) (λ (n : Node). SentOn c.sent) c
  sent : AllByRecursion (Known c.sent) c.sent
  fell : (i : ℕ) → FellIs c.sent (c.hosts i).down
  stored : AreBrought c

weaker_node : (P Q : Message → Type 0) (S T : Sending → Type 0) (s : NodeState) → ((m : Message) → P m → Q m) → ((x : Sending) → S x → T x) → NodeIs P S s → NodeIs Q T s
weaker_node P Q S T s more on h = record {
  file = record {
    seats = weaker_seats P Q s.file.seats more h.file.seats;
    kept = weaker_seats P Q s.file.lasting.kept more h.file.kept;
    held = weaker_all (HeldIs P) (HeldIs Q) s.file.backs.held (λ x k. more x.reply k) h.file.held;
  };
  seats = weaker_seats P Q s.vol.seats more h.seats;
  held = weaker_all (HeldIs P) (HeldIs Q) s.vol.held (λ x k. more x.reply k) h.held;
  sendings = λ n. weaker_all S T (s.vol.sendings n) on (h.sendings n);
}

module _ (c : NodeCell) (h : Brought c) where
  abbrev R : NodeMoved → Type 0
  R m = Brought m.cell

  -- with further messages
  module _ (ms : List Message) where
    abbrev then : List Message
    then = c.sent ++ ms

    host_is : (i : ℕ) → NodeIs (Known then) (SentOn then) (c.hosts i).state
    host_is i = weaker_node (Known c.sent) (Known then) (SentOn c.sent) (SentOn then) (c.hosts i).state (still_known c.sent ms) (still_sent_on c.sent ms) (h.nodes.hosts i)

    clients_are : (n : ℕ) → SeatsAre (Known then) (c.clients n).client.seats
    clients_are n = weaker_seats (Known c.sent) (Known then) (c.clients n).client.seats (still_known c.sent ms) (h.nodes.clients n)

    admins_are : (n : ℕ) → SeatsAre (Known then) (c.admins n).seats
    admins_are n = weaker_seats (Known c.sent) (Known then) (c.admins n).seats (still_known c.sent ms) (h.nodes.admins n)

    loc_is : LocIs (Known then) c.loc.state
    loc_is = record { seats = weaker_seats (Known c.sent) (Known then) c.loc.state.seats (still_known c.sent ms) h.nodes.loc.seats; kept = weaker_seats (Known c.sent) (Known then) c.loc.state.lasting.kept (still_known c.sent ms) h.nodes.loc.kept }

    sent_on : AllByRecursion (Known then) ms → AllByRecursion (Known then) then
    sent_on new = all_more (Known then) c.sent ms (weaker_all (Known c.sent) (Known then) c.sent (still_known c.sent ms) h.sent) new

    fell_by : (o : Option Fall) → FellIs c.sent o → FellIs then o
    fell_by None k = tt
    fell_by (Some at_rest) k = tt
    fell_by (Some in_boot) k = tt
    fell_by (Some (in_step m clock b)) k = (still_known c.sent ms m k.0, record { place = k.1.place; at = at_more c.sent ms k.1.place m k.1.at })

    stored_on : (i f : ℕ) → FromAdmin c.sent ms then f (stored_stamp c i f)
    stored_on i f = still_from c.sent ms f (stored_stamp c i f) (h.stored i f)

  -- ---- a server's

  record HostBrought (i : ℕ) (s : HostStep NodeState) : Type 0 where
    sends : HostSends (Known (then s.sent)) (SentOn (then s.sent)) s
    fell : FellIs (then s.sent) s.host.down
    stored : (f : ℕ) → FromAdmin c.sent s.sent (then s.sent) f (stamp_at s.host.state.file f)

  server_on : (i : ℕ) (s : HostStep NodeState) → HostBrought i s → R (server_stepped c i s)
  server_on i s z = record {
    nodes = record {
      hosts = all_put i (λ (j : ℕ) (x : NodeHost). NodeIs (Known (then s.sent)) (SentOn (then s.sent)) x.state) s.host c.hosts z.sends.has (host_is s.sent);
      clients = clients_are s.sent;
      admins = admins_are s.sent;
      loc = loc_is s.sent;
    };
    sent = sent_on s.sent z.sends.sent;
    fell = all_put i (λ (j : ℕ) (x : NodeHost). FellIs (then s.sent) x.down) s.host c.hosts z.fell (λ j. fell_by s.sent (c.hosts j).down (h.fell j));
    stored = all_put i (λ (j : ℕ) (x : NodeHost). (f : ℕ) → FromAdmin c.sent s.sent (then s.sent) f (stamp_at x.state.file f)) s.host c.hosts z.stored (stored_on s.sent);
  }

  -- the stamps of the server stay
  same_stored : (i : ℕ) (s : HostStep NodeState) → ((f : ℕ) → stamp_at s.host.state.file f ≡ stored_stamp c i f) → (f : ℕ) → FromAdmin c.sent s.sent (then s.sent) f (stamp_at s.host.state.file f)
  same_stored i s same f = subst (FromAdmin c.sent s.sent (then s.sent) f) (sym (same f)) (stored_on s.sent i f)

  -- or are the call's
  new_stored : (m : Message) (ms : List Message) (i f new : ℕ) → IsStored m f (stored_stamp c i f) new → IsSent c.sent m → Known c.sent m → FromAdmin c.sent ms (then ms) f new
  new_stored m ms i f new (inl same) sent known = subst (FromAdmin c.sent ms (then ms) f) (sym same) (stored_on ms i f)
  new_stored m ms i f new (inr w) sent known = inr (subst (IsBrought (then ms) f) (sym w.1) (still_brought c.sent ms f m.head.stamp (brought_in c.sent sent.place m f sent.at known w.0)))

  makes_on : (i : ℕ) (ms : List Message) (m : Message) → IsSent c.sent m → Known c.sent m → VolMakes (Known (then ms)) (SentOn (then ms)) (vol_decides (Server i) (durable_of (c.hosts i).state.file.lasting) (c.hosts i).state.vol (Whole m))
  makes_on i ms m sent known =
      decided (then ms) m (vol_decides (Server i) (durable_of (c.hosts i).state.file.lasting) (c.hosts i).state.vol (Whole m))
      (makes_any IsAnswer (λ (y : Sending). ⊤) (Server i) (durable_of (c.hosts i).state.file.lasting) (c.hosts i).state.vol m (λ to. record { reply = λ r. tt; refused = λ code. tt; sends_on = λ x. tt }))
      (decides_brings (Server i) (durable_of (c.hosts i).state.file.lasting) (c.hosts i).state.vol m)
      (λ family is. still_brought c.sent ms family m.head.stamp (brought_in c.sent sent.place m family sent.at known is))

  serves_by : (i place : ℕ) (m : Message) (o : Option Blow) → IsSent c.sent m → Known c.sent m → HostBrought i (served_by (node_kind (Server i)) (c.hosts i) c.clock place m o)
  serves_by i place m None sent known =
      let s : HostStep NodeState = served_by (node_kind (Server i)) (c.hosts i) c.clock place m None in
      record {
        sends = serve_by (Known (then s.sent)) (SentOn (then s.sent)) (Server i) (c.hosts i) (host_is s.sent i) c.clock place m None (server_makes (then s.sent) i _) (makes_on i s.sent m sent known);
        fell = tt;
        stored = λ f. new_stored m s.sent i f (stamp_at s.host.state.file f) (row_stored (Server i) (c.hosts i).state c.clock place m f) sent known;
      }
  serves_by i place m (Some b) sent known =
      let s : HostStep NodeState = served_by (node_kind (Server i)) (c.hosts i) c.clock place m (Some b) in
      record { sends = record { has = host_is s.sent i; sent = tt }; fell = fell_by s.sent (Some (in_step m c.clock b)) (known, sent); stored = same_stored i s (λ f. refl) }

  -- ---- it begins again

  module _ (i : ℕ) (after : Bool) (fall : Fall) (fell : FellIs c.sent (Some fall)) where
    abbrev begun : Begun NodeState
    begun = begun_from (node_kind (Server i)) (c.hosts i).state after fall

    abbrev step : Outcome → HostStep NodeState
    step o = ends (node_kind (Server i)) (c.hosts i) c.clock c.count begun fall o

    cut_by : (ms : List Message) (f : Fall) → FellIs c.sent (Some f) → CutMakes (Known (then ms)) (SentOn (then ms)) (Server i) (c.hosts i).state f
    cut_by ms at_rest k = tt
    cut_by ms (in_step m clock b) k = makes_on i ms m k.1 k.0
    cut_by ms in_boot k = tt

    -- what it begins with
    began_by : (ms : List Message) (f : Fall) (family new : ℕ) → FellIs c.sent (Some f) → FallStores f family (stored_stamp c i family) new → FromAdmin c.sent ms (then ms) family new
    began_by ms at_rest family new k same = subst (FromAdmin c.sent ms (then ms) family) (sym same) (stored_on ms i family)
    began_by ms (in_step m clock b) family new k is = new_stored m ms i family new is k.1 k.0
    began_by ms in_boot family new k same = subst (FromAdmin c.sent ms (then ms) family) (sym same) (stored_on ms i family)

    began : (ms : List Message) (family : ℕ) → FromAdmin c.sent ms (then ms) family (stamp_at begun.state.file family)
    began ms family = began_by ms fall family (stamp_at begun.state.file family) fell (begun_stored i (c.hosts i).state after fall family)

    ends_stored : (o : Outcome) (family : ℕ) → FromAdmin c.sent (step o).sent (then (step o).sent) family (stamp_at (step o).host.state.file family)
    unfolding node_start_row file_start
    ends_stored comes_up family = began (step comes_up).sent family
    ends_stored fails_early family = stored_on (step fails_early).sent i family
    ends_stored fails_midway family = began (step fails_midway).sent family
    ends_stored is_full family = began (step is_full).sent family

    ends_fell : (o : Outcome) → FellIs (then (step o).sent) (step o).host.down
    ends_fell comes_up = tt
    ends_fell fails_early = fell_by (step fails_early).sent (Some fall) fell
    ends_fell fails_midway = tt
    ends_fell is_full = tt

  restarts_on : (i : ℕ) (after : Bool) (o : Outcome) (fall : Fall) → FellIs c.sent (Some fall) → HostBrought i (restarted (node_kind (Server i)) (c.hosts i) c.clock c.count after o fall)
  restarts_on i after o fall fell =
      let s : HostStep NodeState = restarted (node_kind (Server i)) (c.hosts i) c.clock c.count after o fall in
      let end : Outcome = without_boot_record (can_start (begun_from (node_kind (Server i)) (c.hosts i).state after fall).state.file) o in
      record {
        sends = server_restarted (Known (then s.sent)) (SentOn (then s.sent)) (Server i) (c.hosts i) (host_is s.sent i) c.clock c.count after o fall (λ boot. (server_makes (then s.sent) i boot).file) (cut_by i after fall fell s.sent fall fell);
        fell = ends_fell i after fall fell end;
        stored = ends_stored i after fall fell end;
      }

  piece_on : (i : ℕ) (n : Node) (p : PieceCall) → HostBrought i (piece_timed_out (Server i) (c.hosts i) c.clock n p)
  unfolding piece_timeout_row
  piece_on i n p =
      let s : HostStep NodeState = piece_timed_out (Server i) (c.hosts i) c.clock n p in
      let z : LeavesFiles c.clock (c.hosts i).state.file _ = others_leave_files.late (Server i) (c.hosts i).state c.clock n p in
      record {
        sends = server_piece_late (Known (then s.sent)) (SentOn (then s.sent)) (Server i) (c.hosts i) (host_is s.sent i) c.clock n p (server_makes (then s.sent) i _);
        fell = tt;
        stored = same_stored i s (λ f. ap (λ (l : Lasting). or_zero (get f l.stamps)) z.lasting);
      }

  break_on : (i : ℕ) (n : Node) (b : BackCall) → HostBrought i (node_timed_out (Server i) (c.hosts i) c.clock n b)
  unfolding node_back_timeout_row back_timeout_row
  break_on i n b =
      let s : HostStep NodeState = node_timed_out (Server i) (c.hosts i) c.clock n b in
      record { sends = server_break_late (Known (then s.sent)) (SentOn (then s.sent)) (Server i) (c.hosts i) (host_is s.sent i) c.clock n b (server_makes (then s.sent) i _); fell = tt; stored = same_stored i s (λ f. refl) }

  wake_on : (i : ℕ) → HostBrought i (node_woken (Server i) (c.hosts i) c.clock)
  unfolding node_wake_row wake_row
  wake_on i =
      let s : HostStep NodeState = node_woken (Server i) (c.hosts i) c.clock in
      record { sends = server_woken (Known (then s.sent)) (SentOn (then s.sent)) (Server i) (c.hosts i) (host_is s.sent i) c.clock (server_makes (then s.sent) i _); fell = tt; stored = same_stored i s (λ f. refl) }

  set_on : (i : ℕ) (s : HostStep NodeState) → HostSends (Known (then s.sent)) (SentOn (then s.sent)) s → s.host.state ≡ (c.hosts i).state → s.host.down ≡ (c.hosts i).down → HostBrought i s
  set_on i s sends state down = record {
    sends = sends;
    fell = subst (FellIs (then s.sent)) (sym down) (fell_by s.sent (c.hosts i).down (h.fell i));
    stored = same_stored i s (λ f. ap (λ (x : NodeState). stamp_at x.file f) state);
  }

  crash_on : (i : ℕ) → HostBrought i (crashed (node_kind (Server i)) (c.hosts i))
  crash_on i =
      let s : HostStep NodeState = crashed (node_kind (Server i)) (c.hosts i) in
      record { sends = server_crashed (Known (then s.sent)) (SentOn (then s.sent)) (Server i) (c.hosts i) (host_is s.sent i); fell = tt; stored = same_stored i s (λ f. refl) }

  -- ---- the database's, a client's, an administrator's

  loc_on : (s : HostStep LocState) → LocSends (Known (then s.sent)) s → R (loc_stepped c s)
  loc_on s z = record { nodes = record { hosts = host_is s.sent; clients = clients_are s.sent; admins = admins_are s.sent; loc = z.has }; sent = sent_on s.sent z.sent; fell = λ i. fell_by s.sent (c.hosts i).down (h.fell i); stored = stored_on s.sent }

  loc_cut : (ms : List Message) (fall : Fall) → LocCutMakes (Known (then ms)) c.loc (loc_is ms) fall
  loc_cut ms at_rest = tt
  loc_cut ms (in_step m clock b) = replies_known (then ms) c.loc.state m
  loc_cut ms in_boot = tt

  client_on : (n : ℕ) (s : Step CopyState) → CopySends (Known (then s.sent)) (c.clients n).client.seats s → R (client_moves c n s)
  client_on n s z = record {
    nodes = record { hosts = host_is s.sent; clients = all_put n (λ (j : ℕ) (x : CopyState). SeatsAre (Known (then s.sent)) x.client.seats) s.state c.clients (z.seats' (clients_are s.sent n)) (clients_are s.sent); admins = admins_are s.sent; loc = loc_is s.sent };
    sent = sent_on s.sent z.sent;
    fell = λ i. fell_by s.sent (c.hosts i).down (h.fell i);
    stored = stored_on s.sent;
  }

  admin_on : (n : ℕ) (s : Step AdminState) → AdminSends (Known (then s.sent)) s → R (admin_moves c n s)
  admin_on n s z = record {
    nodes = record { hosts = host_is s.sent; clients = clients_are s.sent; admins = all_put n (λ (j : ℕ) (x : AdminState). SeatsAre (Known (then s.sent)) x.seats) s.state c.admins z.seats (admins_are s.sent); loc = loc_is s.sent };
    sent = sent_on s.sent z.sent;
    fell = λ i. fell_by s.sent (c.hosts i).down (h.fell i);
    stored = stored_on s.sent;
  }

  client_falls_on : (n : ℕ) → R (client_falls c n)
  client_falls_on n = let z = client_on n (record { state = copies_reborn c.handed (c.clients n); lines = lines.Crash (Client n) ∷ []; sent = [] }) (record { sent = tt; seats' = λ k. tt }) in
      record { nodes = record { hosts = z.nodes.hosts; clients = z.nodes.clients; admins = z.nodes.admins; loc = z.nodes.loc }; sent = z.sent; fell = z.fell; stored = z.stored }

  client_rises_on : (n : ℕ) → R (client_rises c n)
  client_rises_on n = let z = client_on n (record { state = c.clients n; lines = lines.Restart (Client n) (c.clients n).client.epoch ∷ []; sent = [] }) (record { sent = tt; seats' = λ k. k }) in
      record { nodes = record { hosts = z.nodes.hosts; clients = z.nodes.clients; admins = z.nodes.admins; loc = z.nodes.loc }; sent = z.sent; fell = z.fell; stored = z.stored }

  admin_falls_on : (n : ℕ) → R (admin_falls c n)
  admin_falls_on n = let z = admin_on n (record { state = admin_reborn (c.admins n); lines = lines.Crash (Admin n) ∷ []; sent = [] }) (record { seats = tt; sent = tt }) in
      record { nodes = record { hosts = z.nodes.hosts; clients = z.nodes.clients; admins = z.nodes.admins; loc = z.nodes.loc }; sent = z.sent; fell = z.fell; stored = z.stored }

  admin_rises_on : (n : ℕ) → R (admin_rises c n)
  admin_rises_on n = let z = admin_on n (record { state = c.admins n; lines = lines.Restart (Admin n) (c.admins n).epoch ∷ []; sent = [] }) (record { seats = admins_are [] n; sent = tt }) in
      record { nodes = record { hosts = z.nodes.hosts; clients = z.nodes.clients; admins = z.nodes.admins; loc = z.nodes.loc }; sent = z.sent; fell = z.fell; stored = z.stored }

  ticked_on : (k : ℕ) → R (ticked c k)
  ticked_on k = record { nodes = record { hosts = h.nodes.hosts; clients = h.nodes.clients; admins = h.nodes.admins; loc = h.nodes.loc }; sent = h.sent; fell = h.fell; stored = h.stored }

  -- ---- every input

  heard : (place : ℕ) (m : Message) (n : Node) → IsGiven c place m n → Known c.sent m
  heard place m n g = found_at (Known c.sent) place c.sent m h.sent g.sent

  next : (x : CellInput) → R (node_moved c x)
  next x = each R c (record {
    void = h;
    ticks = λ n. ticked_on (suc n);
    servers = record {
      serves = λ i place luck m up g. server_on i (served (node_kind (Server i)) (c.hosts i) c.clock place luck m) (serves_by i place m (struck (c.hosts i).armed luck (node_device_calls (Server i) (c.hosts i).state c.clock (Whole m))) (record { place = place; at = g.sent }) (heard place m (Server i) g));
      crashes = λ i up. server_on i (crashed (node_kind (Server i)) (c.hosts i)) (crash_on i);
      stop_set = λ i calls pick up. let s : HostStep NodeState = set_to_stop (node_kind (Server i)) (c.hosts i) calls pick in
          server_on i s (set_on i s (server_stop_set (Known (then s.sent)) (SentOn (then s.sent)) (Server i) (c.hosts i) (host_is s.sent i) calls pick) refl refl);
      fail_set = λ i call up. let s : HostStep NodeState = set_to_fail (node_kind (Server i)) (c.hosts i) call in
          server_on i s (set_on i s (server_fail_set (Known (then s.sent)) (SentOn (then s.sent)) (Server i) (c.hosts i) (host_is s.sent i) call) refl refl);
      restarts = λ i after o fall there down. server_on i (restarted (node_kind (Server i)) (c.hosts i) c.clock c.count after o fall) (restarts_on i after o fall (subst (FellIs c.sent) down (h.fell i)));
      piece_late = λ i n p up is. server_on i (piece_timed_out (Server i) (c.hosts i) c.clock n p) (piece_on i n p);
      break_late = λ i n b up is. server_on i (node_timed_out (Server i) (c.hosts i) c.clock n b) (break_on i n b);
      wakes = λ i up. server_on i (node_woken (Server i) (c.hosts i) c.clock) (wake_on i);
    };
    database = record {
      serves = λ place luck m up g. let s : HostStep LocState = served loc_kind c.loc c.clock place luck m in
          loc_on s (loc_served (Known (then s.sent)) c.loc (loc_is s.sent) c.clock place luck m (answers (then s.sent) Loc _) (replies_known (then s.sent) c.loc.state m));
      crashes = λ up. let s : HostStep LocState = crashed loc_kind c.loc in loc_on s (loc_crashed (Known (then s.sent)) c.loc (loc_is s.sent));
      stop_set = λ calls pick up. let s : HostStep LocState = set_to_stop loc_kind c.loc calls pick in loc_on s (loc_stop_set (Known (then s.sent)) c.loc (loc_is s.sent) calls pick);
      fail_set = λ call up. let s : HostStep LocState = set_to_fail loc_kind c.loc call in loc_on s (loc_fail_set (Known (then s.sent)) c.loc (loc_is s.sent) call);
      restarts = λ after o fall down. let s : HostStep LocState = restarted loc_kind c.loc c.clock c.count after o fall in loc_on s (loc_restarted (Known (then s.sent)) c.loc (loc_is s.sent) c.clock c.count after o fall (loc_cut s.sent fall));
    };
    clients = record {
      begins = λ n act up idle. client_on n _ (client_begun _ (Client n) (client_makes _ n) (c.clients n) c.clock act);
      given = λ n place m up g. client_on n _ (client_given _ (Client n) (client_makes _ n) (c.clients n) c.clock place m (clients_are _ n));
      seek_late = λ n k up is. client_on n _ (client_seek_late _ (Client n) (client_makes _ n) (c.clients n) k);
      late = λ n act up is. client_on n _ (client_late _ (Client n) (client_makes _ n) (c.clients n) act);
      stops = λ n up. client_falls_on n;
      starts = λ n away. client_rises_on n;
    };
    admins = record {
      begins = λ n act up idle. let s : Step AdminState = admin_begin_row (Admin n) (c.admins n) act in admin_on n s (admin_begun (Known (then s.sent)) (Admin n) (c.admins n) (admins_are s.sent n) act (asks (then s.sent) n s.state));
      given = λ n place m up g. let s : Step AdminState = admin_row (Admin n) (c.admins n) place (Whole m) in admin_on n s (admin_given (Known (then s.sent)) (Admin n) (c.admins n) (admins_are s.sent n) place m (answers (then s.sent) (Admin n) _) (asks (then s.sent) n s.state));
      late = λ n r up is. let s : Step AdminState = admin_timeout_row (Admin n) (c.admins n) r in admin_on n s (admin_late (Known (then s.sent)) (Admin n) (c.admins n) (admins_are s.sent n) r is (asks (then s.sent) n s.state));
      stops = λ n up. admin_falls_on n;
      starts = λ n gone. admin_rises_on n;
    };
  }) x

-- ---- a run

first : (s : Script) → Brought (node_start s)
first s = record {
  nodes = record {
    hosts = λ i. record { file = record { seats = tt; kept = tt; held = tt }; seats = tt; held = tt; sendings = λ n. tt };
    clients = λ n. tt;
    admins = λ n. tt;
    loc = record { seats = tt; kept = tt };
  };
  sent = tt;
  fell = λ i. tt;
  stored = λ i f. inl refl;
}

led : (c : NodeCell) (xs : List CellInput) → Brought c → Brought (cell_behind c xs)
led c [] h = h
led c (x ∷ xs) h = led (node_moved c x).cell xs (next c h x)

pub are_brought : StampsAreBrought
are_brought s inputs = (led (node_start s) inputs (first s)).stored
