-- What servers answer in a step: each message that is sent or kept behind it is one that was known before, or a server's reply to a call that it
-- serves now, with what it wrote for that.
use Rattle.std.proofs.Common.{◌≡◌, ◌≤◌, ◌⊎◌, inl, inr, ℕ, suc, ℤ, Bool, true, false, cond, List, [], ◌∷◌, ◌++◌, Option, Some, None, refl, sym, ap, subst, ◌∙◌, arith}
use Rattle.std.proofs.Math.Nat.{le_refl}
use Rattle.std.specs.Prelude.{⊤, filter}
use Rattle.std.specs.List.{AllByRecursion}
use Rattle.afs_num.specs.Nodes.{same_node}
use Rattle.afs_num.specs.declared.messages.Call.TheVariants as ask
use Rattle.afs_num.specs.declared.messages.Carried.{Carried}
use Rattle.afs_num.specs.declared.messages.Carried.TheVariants as carried
use Rattle.afs_num.specs.declared.messages.Message.{Message}
use Rattle.afs_num.specs.declared.messages.Received.TheVariants.{Whole}
use Rattle.afs_num.specs.declared.messages.Reply.TheVariants as tell
use Rattle.afs_num.specs.declared.types.Head.{Head}
use Rattle.afs_num.specs.declared.types.Node.{Node}
use Rattle.afs_num.specs.declared.types.Node.TheVariants.{Admin, Client, Loc, Server}
use Rattle.afs_num.specs.declared.volume_calls.VolReply.TheVariants as volumes
use Rattle.spec_history.specs.declared.scripts.Script.{Script}
use Rattle.spec_fold.specs.Deeds.{done_by}
use Rattle.spec_model.specs.Calls.{admitted, Admitted}
use Rattle.spec_model.specs.Calls as pairs
use Rattle.spec_ideal.specs.Operations.{is_number}
use Rattle.spec_ideal.specs.Tables.{get, Table}
use Rattle.spec_records.specs.Durable.{or_zero, stamp_of, with_stamp, Durable, Stored}
use Rattle.spec_rows.specs.Callbacks.{put}
use Rattle.spec_rows.specs.ClientRow.{question}
use Rattle.spec_rows.specs.Hosts.{at_rest, begun_from, comes_up, ends, fails_early, fails_midway, in_boot, in_step, is_full, restarted, served, served_by, without_boot_record, struck, Blow, Fall, HostStep, Luck, Outcome}
use Rattle.spec_rows.specs.LocRow.{loc_decides, LocState}
use Rattle.spec_rows.specs.LocSteps.{loc_kind}
use Rattle.spec_rows.specs.Runs.{message_at}
use Rattle.spec_rows.specs.ServerHosts.{can_start}
use Rattle.spec_rows.specs.ServerRow.{is_unflagged, not_served, refusal, replied}
use Rattle.spec_rows.specs.States.{durable_of, Lasting, ServerState}
use Rattle.spec_rows.specs.Steps.{begun_before, Begun}
use Rattle.spec_adminrows.specs.AdminRow.{admin_begin_row, admin_row, admin_timeout_row, AdminState}
use Rattle.law_legal.proofs.BaseLaws.{at_put}
use Rattle.spec_volrows.proofs.VolTurns.{deeds_are_shown, others_leave_files}
use Rattle.spec_volrows.specs.FileRow.{file_start}
use Rattle.spec_volrows.proofs.VolNodes.{nodes_stay_stamped}
use Rattle.spec_volrows.specs.NodeHosts.{file_begun, node_kind, NodeHost}
use Rattle.spec_volrows.specs.VolLaws.{is_saved, stamp_at, Follows, ShowsDeed}
use Rattle.spec_volrows.specs.VolStates.{NodeState, Sending, VolState}
use Rattle.spec_volrows.specs.VolSteps.{deed_done, deed_head, dispatches, drops, is_of_client, is_vol_caller, node_device_calls, node_row, node_start_row, refuses_vol, repeats, replies_to, saves, tells_boot, vol_admits, vol_decides, vol_hears, Deed, VolDecision}
use Rattle.spec_runs.specs.NodeRuns.{admin_falls, admin_moves, admin_rises, client_falls, client_moves, client_rises, has_host, loc_stepped, node_moved, node_start, server_stepped, ticked, voided, CellInput, NodeCell, NodeMoved}
use Rattle.law_walks.specs.Kinds.{IsGiven, IsUp}
use Rattle.law_walks.specs.Sends.{AnswersAre, AsksIs, CellIs, ClientMakes, LocIs, LocMakes, NodeIs, SeatsAre, ServerMakes, VolMakes}
use Rattle.law_walks.proofs.AdminSends.{admin_begun, admin_given, admin_late}
use Rattle.law_walks.proofs.AllMessages.{admin_falls_is, admin_moves_is, admin_rises_is, client_falls_is, client_moves_is, client_rises_is, loc_placed_is, placed_is, ticked_is, voided_is, StepIs}
use Rattle.law_walks.proofs.CopySends.{client_begun, client_given, client_late, client_seek_late}
use Rattle.law_walks.proofs.EachKind.{each}
use Rattle.law_walks.proofs.LocSends.{loc_crashed, loc_fail_set, loc_makes_any, loc_restarted, loc_served, loc_stop_set, LocCutMakes}
use Rattle.law_walks.proofs.Seats.{weaker_seats}
use Rattle.law_walks.proofs.ServerSends.{begun_is, ended_is, server_break_late, server_crashed, server_fail_set, server_piece_late, server_stop_set, server_woken, HostSends}
use Rattle.law_walks.proofs.VolSends.{row_sends}
use Rattle.law_places.specs.Accepting.{cell_behind}
use Rattle.law_families.proofs.Turns.{deed_volumes}
use Rattle.law_fences.specs.Claims.{Counts, IsLive}
use Rattle.law_fences.specs.Fences.{disk_at}
use Rattle.law_fences.proofs.Claiming.{claims, FellIs, IsSent}
use Rattle.law_stored_stamps.proofs.Serving.{weaker_node, Any}
use Rattle.law_one_server.proofs.ServersThere.{is_there}
use Rattle.law_one_server.proofs.CallsRun.{IsLeft}

-- ---- replies of volume servers to calls that they serve

-- every message but such a reply; one to a dump that was sent on is none
abbrev pub IsPlain : Carried → Type 0
IsPlain (carried.Reply (tell.Volume volumes.Forward)) = ⊤
IsPlain (carried.Reply (tell.Volume reply)) = ⊥
IsPlain x = ⊤

-- the stamps that are written are stored
abbrev pub AreStored : Durable → Head → Deed → ServerState → Type 0
AreStored d h x now = (f : ℕ) → stamp_of f (with_stamp (deed_head h x) (done_by x.body d)) ≤ stamp_at now f

-- it is what is decided on a call, and these are the volumes that were written, or what a start left of them
abbrev pub Answers : Durable → Message → ServerState → VolDecision → Type 0
Answers d r now (saves h x) = (x.reply ≡ r) × (IsLeft (done_by x.body d).volumes now.lasting.volumes × AreStored d h x now)
Answers d r now (replies_to h reply ts last) = (reply ≡ r) × IsLeft d.volumes now.lasting.volumes
Answers d r now drops = ⊥
Answers d r now (tells_boot h) = ⊥
Answers d r now (repeats reply) = ⊥
Answers d r now (dispatches h x) = ⊥

-- a server, whose memory counts, answers this message so
pub record IsFresh (c d : NodeCell) (r : Message) : Type 0 where
  pub i : ℕ
  pub place : ℕ
  pub m : Message
  pub sent : message_at c.sent place ≡ Some m
  pub to : m.head.to ≡ Server i
  pub host : has_host c i ≡ true
  pub live : IsLive c i
  pub answers : Answers (disk_at c i) r (d.hosts i).state.file (vol_decides (Server i) (disk_at c i) (c.hosts i).state.vol (Whole m))

-- ---- what else nodes make is plain

module _ (P : Message → Type 0) (plain : (m : Message) → IsPlain m.carried → P m) where
  answers : (me : Node) (boot : ℕ) → AnswersAre P me boot
  answers me boot = record { notice = λ head to. plain _ tt; refusal = λ head code to. plain _ tt }

  one_of : (b : Bool) (x y : Message) → P x → P y → P (cond b x y)
  one_of true x y h k = h
  one_of false x y h k = k

  servers : (i boot : ℕ) → ServerMakes P Any (Server i) boot
  servers i boot = record {
    file = record { answers = answers (Server i) boot; reply = λ head reply to. plain _ tt; breaks = λ n known c. plain _ tt };
    piece = λ n known number x h. plain _ tt;
    forward = λ x code h. one_of (is_number code 0) _ _ (plain _ tt) (plain _ tt);
    moved = λ x h. tt;
  }

  clients : (n : ℕ) → ClientMakes P (Client n)
  clients n = record { answers = λ boot. answers (Client n) boot; reply = λ boot head reply to. plain _ tt; call = λ head user call own none. plain _ tt; look = λ head user o own none. plain _ tt }

  locations : (s : LocState) (m : Message) → LocMakes P s.lasting.boot (loc_decides s (Whole m))
  locations s m = loc_makes_any P s m (λ head reply to. plain _ tt)

  asks : (n : ℕ) (a : AdminState) → AsksIs P (Admin n) a
  asks n a r is = plain _ tt

  -- a client is refused by a volume server
  no_caller : (n : Node) → is_of_client (Some n) ≡ true → is_vol_caller n ≡ false
  no_caller (Client n) is = refl
  no_caller (Admin n) is = absurd cc
  no_caller (Server n) is = absurd cc
  no_caller Loc is = absurd cc

  module _ (d : Durable) (v : VolState) (head : Head) where
    refused_by : (b : Bool) (x : VolDecision) → b ≡ false → VolMakes P Any (cond b x (refuses_vol d v head not_served))
    refused_by true x is = absurd cc
    refused_by false x is = plain _ tt

    client_admits : (x : Carried) (a : Admitted Message) → is_vol_caller head.from ≡ false → VolMakes P Any (vol_admits d v head (Whole (record { head = head; carried = x })) a)
    client_admits x pairs.runs is = refused_by (is_vol_caller head.from) _ is
    client_admits x (pairs.kept reply) is = tt
    client_admits x pairs.in_progress is = tt
    client_admits x pairs.older is = tt
    client_admits x (pairs.wrong_boot boot) is = tt

    either_makes : (b : Bool) (x y : VolDecision) → VolMakes P Any x → VolMakes P Any y → VolMakes P Any (cond b x y)
    either_makes true x y h k = h
    either_makes false x y h k = k

    client_hears : (me : Node) (x : Carried) → is_of_client (Some head.from) ≡ true → VolMakes P Any (vol_hears me d v head x)
    client_hears me (carried.Call user call) is = either_makes (same_node head.to me) _ drops (client_admits (carried.Call user call) (admitted d.boot v.seats head) (no_caller head.from is)) tt
    client_hears me (carried.Refusal code) is = tt
    client_hears me (carried.Reply reply) is = tt
    client_hears me carried.Notice is = tt

-- ---- a step

module _ (s : Script) (inputs : List CellInput) (Was : Message → Type 0) (plain : (m : Message) → IsPlain m.carried → Was m) where
  abbrev c : NodeCell
  c = cell_behind (node_start s) inputs

  abbrev pub New : NodeCell → Message → Type 0
  New d r = Was r ⊎ IsFresh c d r

  new_plain : (d : NodeCell) (m : Message) → IsPlain m.carried → New d m
  new_plain d m is = inl (plain m is)

  module _ (has : CellIs (λ (n : Node). Was) (λ (n : Node). Any) c) where
    had : (d : NodeCell) → CellIs (λ (n : Node). New d) (λ (n : Node). Any) c
    had d = record {
      hosts = λ i. weaker_node Was (New d) (c.hosts i).state (λ m h. inl h) (has.hosts i);
      clients = λ n. weaker_seats Was (New d) (c.clients n).client.seats (λ m h. inl h) (has.clients n);
      admins = λ n. weaker_seats Was (New d) (c.admins n).seats (λ m h. inl h) (has.admins n);
      loc = record { seats = weaker_seats Was (New d) c.loc.state.seats (λ m h. inl h) has.loc.seats; kept = weaker_seats Was (New d) c.loc.state.lasting.kept (λ m h. inl h) has.loc.kept };
    }

    abbrev R : NodeMoved → Type 0
    R m = StepIs (λ (n : Node). New m.cell) (λ (n : Node). Any) m

    -- ---- a server's

    module _ (i : ℕ) where
      abbrev h : NodeHost
      h = c.hosts i

      abbrev decision : Message → VolDecision
      decision m = vol_decides (Server i) (disk_at c i) h.state.vol (Whole m)

      at_step : (st : HostStep NodeState) → (server_stepped c i st).cell.hosts i ≡ st.host
      at_step st = at_put i i (λ (x : NodeHost). x ≡ st.host) st.host c.hosts (λ one. refl) (λ other. absurd (other refl))

      volumes_behind : (st : HostStep NodeState) → ((server_stepped c i st).cell.hosts i).state.file.lasting.volumes ≡ st.host.state.file.lasting.volumes
      volumes_behind st = ap (λ (x : NodeHost). x.state.file.lasting.volumes) (at_step st)

      stamps_behind : (st : HostStep NodeState) (k : ℕ) → stamp_at ((server_stepped c i st).cell.hosts i).state.file k ≡ stamp_at st.host.state.file k
      stamps_behind st k = ap (λ (x : NodeHost). stamp_at x.state.file k) (at_step st)

      same_le : (a b : ℕ) → a ≡ b → b ≤ a
      same_le a b same = omega (arith, same)

      -- its decision on a message that was sent to it, where what it wrote is there
      module _ (d : NodeCell) (place : ℕ) (m : Message) (sent : message_at c.sent place ≡ Some m) (to : m.head.to ≡ Server i) (there : has_host c i ≡ true) (live : IsLive c i)
          (wrote : (h' : Head) (x : Deed) → is_of_client (Some m.head.from) ≡ false → decision m ≡ saves h' x → IsLeft (done_by x.body (disk_at c i)).volumes (d.hosts i).state.file.lasting.volumes × AreStored (disk_at c i) h' x (d.hosts i).state.file)
          (kept : is_of_client (Some m.head.from) ≡ false → is_saved (decision m) ≡ false → IsLeft (disk_at c i).volumes (d.hosts i).state.file.lasting.volumes) where
        fresh : (r : Message) → Answers (disk_at c i) r (d.hosts i).state.file (decision m) → New d r
        fresh r k = inr (record { i = i; place = place; m = m; sent = sent; to = to; host = there; live = live; answers = k })

        made_by : (x : VolDecision) → is_of_client (Some m.head.from) ≡ false → decision m ≡ x → VolMakes (New d) Any x
        made_by (saves h' x) other is = fresh x.reply (subst (Answers (disk_at c i) x.reply (d.hosts i).state.file) (sym is) (refl, wrote h' x other is))
        made_by (replies_to h' reply ts last) other is = fresh reply (subst (Answers (disk_at c i) reply (d.hosts i).state.file) (sym is) (refl, kept other (ap is_saved is)))
        made_by drops other is = tt
        made_by (tells_boot h') other is = tt
        made_by (repeats reply) other is = tt
        made_by (dispatches h' x) other is = tt

        makes_by : (b : Bool) → is_of_client (Some m.head.from) ≡ b → VolMakes (New d) Any (decision m)
        makes_by true is = client_hears (New d) (new_plain d) (disk_at c i) h.state.vol m.head (Server i) m.carried is
        makes_by false is = made_by (decision m) is refl

        pub makes : VolMakes (New d) Any (decision m)
        makes = makes_by (is_of_client (Some m.head.from)) refl

      -- it serves a message
      serves_by : (place : ℕ) (m : Message) (o : Option Blow) → IsUp c i → IsGiven c place m (Server i) → HostSends (New (server_stepped c i (served_by (node_kind (Server i)) h c.clock place m o)).cell) Any (served_by (node_kind (Server i)) h c.clock place m o)
      serves_by place m None up g =
          let st : HostStep NodeState = served_by (node_kind (Server i)) h c.clock place m None in
          let d : NodeCell = (server_stepped c i st).cell in
          let z = row_sends (New d) Any (Server i) h.state c.clock place m (servers (New d) (new_plain d) i h.state.file.lasting.boot) ((had d).hosts i)
          (makes d place m g.sent g.to up.there (subst Counts (sym up.up) tt)
          (λ h' x other is. let z : ShowsDeed (Server i) h.state c.clock place h' x _ = deeds_are_shown (Server i) h.state c.clock place (Whole m) h' x other is in (
            inl (volumes_behind st ∙ (ap (λ (l : Lasting). l.volumes) z.lasting ∙ deed_volumes h' x h.state.file.lasting)),
            λ k. same_le _ _ (stamps_behind st k ∙ ap (λ (l : Lasting). or_zero (get k l.stamps)) z.lasting),
          ))
          (λ other none. inl (volumes_behind st ∙ ap (λ (l : Lasting). l.volumes) (others_leave_files.given (Server i) h.state c.clock place (Whole m) other none).lasting))) in
          record { has = z.has; sent = z.sent }
      serves_by place m (Some b) up g = record { has = (had (server_stepped c i (served_by (node_kind (Server i)) h c.clock place m (Some b))).cell).hosts i; sent = tt }

      -- ---- a restart

      ends_left : (f : Begun NodeState) (fall : Fall) (o : Outcome) → (o ≡ fails_early → ⊥) → IsLeft f.state.file.lasting.volumes (ends (node_kind (Server i)) h c.clock c.count f fall o).host.state.file.lasting.volumes
      unfolding node_start_row file_start
      ends_left f fall comes_up goes = inr refl
      ends_left f fall fails_early goes = absurd (goes refl)
      ends_left f fall fails_midway goes = inl refl
      ends_left f fall is_full goes = inl refl

      ends_high : (f : Begun NodeState) (fall : Fall) (o : Outcome) (k : ℕ) → (o ≡ fails_early → ⊥) → stamp_at f.state.file k ≤ stamp_at (ends (node_kind (Server i)) h c.clock c.count f fall o).host.state.file k
      ends_high f fall comes_up k goes = let z : Follows f.state.file _ = nodes_stay_stamped.started (Server i) c.clock c.count (file_begun f) in z.rises k
      ends_high f fall fails_early k goes = absurd (goes refl)
      ends_high f fall fails_midway k goes = le_refl (stamp_at f.state.file k)
      ends_high f fall is_full k goes = le_refl (stamp_at f.state.file k)

      left_of : (written was now later : Table Stored) → was ≡ written → later ≡ now → IsLeft was now → IsLeft written later
      left_of written was now later same at (inl is) = inl (at ∙ (is ∙ same))
      left_of written was now later same at (inr is) = inr (at ∙ (is ∙ ap (filter is_unflagged) same))

      high_of : (a written was now : ℕ) → written ≡ a → written ≤ was → now ≡ was → a ≤ now
      high_of a written was now same le at = omega (arith, same, le, at)

      module _ (m : Message) (clock : ℕ) (b : Blow) (down : h.down ≡ Some (in_step m clock b)) (g : IsSent c i m) where
        abbrev f : Begun NodeState
        f = begun_from (node_kind (Server i)) h.state true (in_step m clock b)

        abbrev step : Outcome → HostStep NodeState
        step o = ends (node_kind (Server i)) h c.clock c.count f (in_step m clock b) o

        begun_wrote : (h' : Head) (x : Deed) → is_of_client (Some m.head.from) ≡ false → decision m ≡ saves h' x → f.state.file.lasting.volumes ≡ (done_by x.body (disk_at c i)).volumes
        begun_wrote h' x other is = begun_lasting h' x other is ∙ deed_volumes h' x h.state.file.lasting
          where
            begun_lasting : (h' : Head) (x : Deed) → is_of_client (Some m.head.from) ≡ false → decision m ≡ saves h' x → f.state.file.lasting.volumes ≡ (deed_done h' x h.state.file.lasting).volumes
            begun_lasting h' x other is = rw (other, is) refl

        begun_stamps : (h' : Head) (x : Deed) (k : ℕ) → is_of_client (Some m.head.from) ≡ false → decision m ≡ saves h' x → stamp_at f.state.file k ≡ stamp_of k (with_stamp (deed_head h' x) (done_by x.body (disk_at c i)))
        begun_stamps h' x k other is = rw (other, is) refl

        begun_kept_by : (x : VolDecision) → is_of_client (Some m.head.from) ≡ false → decision m ≡ x → is_saved x ≡ false → f.state.file.lasting.volumes ≡ (disk_at c i).volumes
        begun_kept_by (saves h' x) other is none = absurd cc
        begun_kept_by (replies_to h' reply ts last) other is none = rw (other, is) refl
        begun_kept_by drops other is none = rw (other, is) refl
        begun_kept_by (tells_boot h') other is none = rw (other, is) refl
        begun_kept_by (repeats reply) other is none = rw (other, is) refl
        begun_kept_by (dispatches h' x) other is none = rw (other, is) refl

        after_on : (o : Outcome) → (o ≡ fails_early → ⊥) → HostSends (New (server_stepped c i (step o)).cell) Any (step o)
        after_on o goes =
            let d : NodeCell = (server_stepped c i (step o)).cell in
            let left : IsLeft f.state.file.lasting.volumes (step o).host.state.file.lasting.volumes = ends_left f (in_step m clock b) o goes in
            ended_is (New d) Any (Server i) h ((had d).hosts i) c.clock c.count f (in_step m clock b) o (λ boot. (servers (New d) (new_plain d) i boot).file)
            (begun_is (New d) Any (Server i) h ((had d).hosts i) true (in_step m clock b) (servers (New d) (new_plain d) i h.state.file.lasting.boot).file
            (makes d g.place m g.at g.to (is_there s inputs i (in_step m clock b) down) (subst Counts (sym down) tt)
            (λ h' x other is. (
              left_of (done_by x.body (disk_at c i)).volumes f.state.file.lasting.volumes (step o).host.state.file.lasting.volumes (d.hosts i).state.file.lasting.volumes (begun_wrote h' x other is) (volumes_behind (step o)) left,
              λ k. high_of _ _ _ _ (begun_stamps h' x k other is) (ends_high f (in_step m clock b) o k goes) (stamps_behind (step o) k),
            ))
            (λ other none. left_of (disk_at c i).volumes f.state.file.lasting.volumes (step o).host.state.file.lasting.volumes (d.hosts i).state.file.lasting.volumes (begun_kept_by (decision m) other refl none) (volumes_behind (step o)) left)))

        after_by : (o : Outcome) → HostSends (New (server_stepped c i (step o)).cell) Any (step o)
        after_by comes_up = after_on comes_up (λ e. absurd cc)
        after_by fails_early = record { has = (had (server_stepped c i (step fails_early)).cell).hosts i; sent = tt }
        after_by fails_midway = after_on fails_midway (λ e. absurd cc)
        after_by is_full = after_on is_full (λ e. absurd cc)

      -- as it was before
      before_by : (fall : Fall) (o : Outcome) → HostSends (New (server_stepped c i (ends (node_kind (Server i)) h c.clock c.count (begun_before h.state) fall o)).cell) Any (ends (node_kind (Server i)) h c.clock c.count (begun_before h.state) fall o)
      before_by fall o =
          let d : NodeCell = (server_stepped c i (ends (node_kind (Server i)) h c.clock c.count (begun_before h.state) fall o)).cell in
          ended_is (New d) Any (Server i) h ((had d).hosts i) c.clock c.count (begun_before h.state) fall o (λ boot. (servers (New d) (new_plain d) i boot).file) ((had d).hosts i)

      begun_restarts : (after : Bool) (fall : Fall) (o : Outcome) → h.down ≡ Some fall → FellIs (claims s inputs).bounds c i (Some fall) →
          HostSends (New (server_stepped c i (ends (node_kind (Server i)) h c.clock c.count (begun_from (node_kind (Server i)) h.state after fall) fall o)).cell) Any (ends (node_kind (Server i)) h c.clock c.count (begun_from (node_kind (Server i)) h.state after fall) fall o)
      begun_restarts after at_rest o down fell = before_by at_rest o
      begun_restarts false (in_step m clock b) o down fell = before_by (in_step m clock b) o
      begun_restarts true (in_step m clock b) o down fell = after_by m clock b down fell.1 o
      begun_restarts false in_boot o down fell = before_by in_boot o
      begun_restarts true in_boot o down fell =
          let d : NodeCell = (server_stepped c i (ends (node_kind (Server i)) h c.clock c.count (begun_from (node_kind (Server i)) h.state true in_boot) in_boot o)).cell in
          ended_is (New d) Any (Server i) h ((had d).hosts i) c.clock c.count (begun_from (node_kind (Server i)) h.state true in_boot) in_boot o (λ boot. (servers (New d) (new_plain d) i boot).file)
          (begun_is (New d) Any (Server i) h ((had d).hosts i) true in_boot (servers (New d) (new_plain d) i h.state.file.lasting.boot).file tt)

    -- ---- the cell

    on_host : (i : ℕ) (st : HostStep NodeState) → HostSends (New (server_stepped c i st).cell) Any st → R (server_stepped c i st)
    on_host i st k = placed_is (λ (n : Node). New (server_stepped c i st).cell) (λ (n : Node). Any) c (had (server_stepped c i st).cell) i st k

    loc_cut : (d : NodeCell) (fall : Fall) → LocCutMakes (New d) c.loc (had d).loc fall
    loc_cut d at_rest = tt
    loc_cut d (in_step m clock b) = locations (New d) (new_plain d) c.loc.state m
    loc_cut d in_boot = tt

    abbrev of : (d : NodeCell) → Node → Message → Type 0
    of d n = New d

    abbrev any : Node → Sending → Type 0
    any n = Any

    -- So it is behind each input.
    pub replies_next : (x : CellInput) → R (node_moved c x)
    replies_next x = each R c (record {
      void = voided_is (of c) any c (had c);
      ticks = λ n. let d : NodeCell = (ticked c (suc n)).cell in ticked_is (of d) any c (had d) (suc n);
      servers = record {
        serves = λ i place luck m up g. on_host i _ (serves_by i place m (struck (c.hosts i).armed luck (node_device_calls (Server i) (c.hosts i).state c.clock (Whole m))) up g);
        crashes = λ i up. on_host i _ (server_crashed _ Any (Server i) (c.hosts i) ((had _).hosts i));
        stop_set = λ i calls pick up. on_host i _ (server_stop_set _ Any (Server i) (c.hosts i) ((had _).hosts i) calls pick);
        fail_set = λ i call up. on_host i _ (server_fail_set _ Any (Server i) (c.hosts i) ((had _).hosts i) call);
        restarts = λ i after o fall there down. on_host i _ (begun_restarts i after fall (without_boot_record (can_start (begun_from (node_kind (Server i)) (c.hosts i).state after fall).state.file) o) down (subst (FellIs (claims s inputs).bounds c i) down ((claims s inputs).fell i)));
        piece_late = λ i n p up is. on_host i _ (server_piece_late _ Any (Server i) (c.hosts i) ((had _).hosts i) c.clock n p (servers _ (new_plain _) i _));
        break_late = λ i n b up is. on_host i _ (server_break_late _ Any (Server i) (c.hosts i) ((had _).hosts i) c.clock n b (servers _ (new_plain _) i _));
        wakes = λ i up. on_host i _ (server_woken _ Any (Server i) (c.hosts i) ((had _).hosts i) c.clock (servers _ (new_plain _) i _));
      };
      database = record {
        serves = λ place luck m up g. let st = served loc_kind c.loc c.clock place luck m in let d : NodeCell = (loc_stepped c st).cell in
            loc_placed_is (of d) any c (had d) st (loc_served (New d) c.loc (had d).loc c.clock place luck m (answers (New d) (new_plain d) Loc _) (locations (New d) (new_plain d) c.loc.state m));
        crashes = λ up. loc_placed_is (of _) any c (had _) _ (loc_crashed _ c.loc (had _).loc);
        stop_set = λ calls pick up. loc_placed_is (of _) any c (had _) _ (loc_stop_set _ c.loc (had _).loc calls pick);
        fail_set = λ call up. loc_placed_is (of _) any c (had _) _ (loc_fail_set _ c.loc (had _).loc call);
        restarts = λ after o fall down. let st = restarted loc_kind c.loc c.clock c.count after o fall in let d : NodeCell = (loc_stepped c st).cell in
            loc_placed_is (of d) any c (had d) st (loc_restarted (New d) c.loc (had d).loc c.clock c.count after o fall (loc_cut d fall));
      };
      clients = record {
        begins = λ n act up idle. client_moves_is (of _) any c (had _) n _ (client_begun _ (Client n) (clients _ (new_plain _) n) (c.clients n) c.clock act);
        given = λ n place m up g. client_moves_is (of _) any c (had _) n _ (client_given _ (Client n) (clients _ (new_plain _) n) (c.clients n) c.clock place m ((had _).clients n));
        seek_late = λ n k up is. client_moves_is (of _) any c (had _) n _ (client_seek_late _ (Client n) (clients _ (new_plain _) n) (c.clients n) k);
        late = λ n act up is. client_moves_is (of _) any c (had _) n _ (client_late _ (Client n) (clients _ (new_plain _) n) (c.clients n) act);
        stops = λ n up. client_falls_is (of _) any c (had _) n;
        starts = λ n away. client_rises_is (of _) any c (had _) n;
      };
      admins = record {
        begins = λ n act up idle. admin_moves_is (of _) any c (had _) n _ (admin_begun _ (Admin n) (c.admins n) ((had _).admins n) act (asks _ (new_plain _) n (admin_begin_row (Admin n) (c.admins n) act).state));
        given = λ n place m up g. admin_moves_is (of _) any c (had _) n _ (admin_given _ (Admin n) (c.admins n) ((had _).admins n) place m (answers _ (new_plain _) (Admin n) _) (asks _ (new_plain _) n (admin_row (Admin n) (c.admins n) place (Whole m)).state));
        late = λ n r up is. admin_moves_is (of _) any c (had _) n _ (admin_late _ (Admin n) (c.admins n) ((had _).admins n) r is (asks _ (new_plain _) n (admin_timeout_row (Admin n) (c.admins n) r).state));
        stops = λ n up. admin_falls_is (of _) any c (had _) n;
        starts = λ n gone. admin_rises_is (of _) any c (had _) n;
      };
    }) x
