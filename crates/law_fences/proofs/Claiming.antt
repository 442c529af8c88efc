-- The walk over the inputs of a cell: what is known of messages, and of the transactions that replies tell of, stays known.
use Rattle.std.proofs.Common.{◌≡◌, ◌≤◌, ◌<◌, ◌⊎◌, inl, inr, ℕ, ◌+◌, suc, zero, Bool, true, false, cond, List, [], ◌∷◌, ◌++◌, Option, Some, None, refl, sym, ap, subst, ◌∙◌, arith, append_assoc, append-nil}
use Rattle.std.proofs.Math.Nat.{le_refl, le_trans}
use Rattle.std.specs.Prelude.{⊤}
use Rattle.std.specs.List.{AllByRecursion}
use Rattle.afs_num.specs.Nodes.{same_node}
use Rattle.afs_num.specs.declared.messages.Carried.{Carried}
use Rattle.afs_num.specs.declared.messages.Carried.TheVariants as carried
use Rattle.afs_num.specs.declared.messages.Message.{Message}
use Rattle.afs_num.specs.declared.messages.Received.TheVariants.{Whole}
use Rattle.afs_num.specs.declared.types.Head.{Head}
use Rattle.afs_num.specs.declared.types.Node.{Node}
use Rattle.afs_num.specs.declared.types.Node.TheVariants.{Admin, Client, Loc, Server}
use Rattle.spec_copyrows.specs.CopyRow.{copies_reborn}
use Rattle.spec_copyrows.specs.Sites.{CopyState}
use Rattle.spec_history.specs.declared.lines.Line.{Line}
use Rattle.spec_history.specs.declared.lines.Line.TheVariants as lines
use Rattle.spec_history.specs.declared.scripts.Script.{Script}
use Rattle.spec_adminrows.specs.AdminRow.{admin_reborn, ask_head, ask_of, AdminState}
use Rattle.spec_adminrows.specs.declared.turns.Ask.{Ask}
use Rattle.spec_adminrows.specs.declared.turns.Running.{Running}
use Rattle.law_legal.proofs.BaseLaws.{at_more, at_put, below_not, below_up_to, up_to_below, UpTo}
use Rattle.spec_model.proofs.Basics.{same_node-true}
use Rattle.spec_rows.specs.Callbacks.{put}
use Rattle.spec_rows.specs.ClientRow.{boot_of}
use Rattle.spec_rows.specs.Hosts.{at_rest, begun_from, comes_up, ends, fails_early, fails_midway, in_boot, in_step, is_full, restarted, served, served_by, without_boot_record, struck, Blow, Fall, HostStep, Luck, Outcome}
use Rattle.spec_rows.specs.LocRow.{loc_decides, LocState}
use Rattle.spec_rows.specs.LocSteps.{loc_kind}
use Rattle.spec_rows.specs.Runs.{message_at}
use Rattle.spec_rows.specs.ServerHosts.{can_start}
use Rattle.spec_rows.specs.ServerRow.{boot_told, reply_head}
use Rattle.spec_rows.specs.States.{durable_of}
use Rattle.spec_rows.specs.Steps.{Begun, Step}
use Rattle.spec_volrows.specs.FileRow.{file_start}
use Rattle.spec_volrows.specs.NodeHosts.{file_begun, node_kind, NodeHost}
use Rattle.spec_volrows.specs.VolLaws.{IsApart}
use Rattle.spec_volrows.specs.VolStates.{NodeState}
use Rattle.spec_volrows.specs.VolSteps.{is_of_client, node_device_calls, node_start_row, vol_decides, VolDecision}
use Rattle.spec_runs.specs.NodeRuns.{admin_falls, admin_moves, admin_rises, client_falls, client_moves, client_rises, loc_stepped, node_moved, node_start, server_stepped, ticked, voided, CellInput, NodeCell, NodeMoved}
use Rattle.law_walks.specs.Kinds.{IsGiven, IsUp}
use Rattle.law_walks.specs.Sends.{AnswersAre, AsksIs, CellIs, ClientMakes, FileMakes, LocIs, LocMakes, NodeIs, SeatsAre, ServerMakes, VolMakes}
use Rattle.law_walks.proofs.AdminSends.{admin_begun, admin_given, admin_late, AdminSends}
use Rattle.law_walks.proofs.AllMessages.{all_put, grows}
use Rattle.law_walks.proofs.CopySends.{client_begun, client_given, client_late, client_seek_late, CopySends}
use Rattle.law_walks.proofs.EachKind.{each}
use Rattle.law_walks.proofs.LocSends.{loc_crashed, loc_fail_set, loc_makes_any, loc_restarted, loc_served, loc_stop_set, LocCutMakes, LocSends}
use Rattle.law_walks.proofs.Seats.{all_more, found_at, weaker_all, weaker_seats}
use Rattle.law_walks.proofs.ServerSends.{begun_is, ended_is, server_break_late, server_crashed, server_fail_set, server_piece_late, server_stop_set, server_woken, CutMakes, HostSends}
use Rattle.law_walks.proofs.VolSends.{risen_sends, row_sends}
use Rattle.law_places.specs.Accepting.{cell_behind}
use Rattle.law_stamps.specs.Stamps.{HasTransactions}
use Rattle.law_stamps.proofs.Walk.{have_transactions}
use Rattle.law_stored_stamps.proofs.Serving.{weaker_node, Any}
use Rattle.law_keys.proofs.Deciding.{vol_decides_so}
use Rattle.law_transactions.specs.Numbers.{boot_at}
use Rattle.law_transactions.proofs.NumbersWalk.{begun_on}
use Rattle.law_fences.proofs.Knowing.{bounds_on, is_past, past_is, still_known, Bounds, CallBy, Grows, IsBound, IsPast, IsTold, Known, KnownBy, NoticeBy, ToldBy}
use Rattle.law_fences.specs.Claims.{Counts, IsLive}
use Rattle.law_fences.proofs.Live.{boots_rise, numbered_on, IsNumbered}
use Rattle.law_fences.proofs.Rising.{begun_goes, given_goes, late_goes, AdminGoes, BootsAre}
use Rattle.law_fences.proofs.Serving.{decision_known, left_never, makes, row_left, LeftAs}
use Rattle.law_fences.proofs.Telling.{decides_fresh}

-- ---- a cell

-- the message was sent, to this server
pub record IsSent (c : NodeCell) (i : ℕ) (m : Message) : Type 0 where
  pub place : ℕ
  pub at : message_at c.sent place ≡ Some m
  pub to : m.head.to ≡ Server i

-- the message of an interrupted step is known, too
abbrev pub FellIs : Bounds → NodeCell → ℕ → Option Fall → Type 0
FellIs bounds c i None = ⊤
FellIs bounds c i (Some at_rest) = ⊤
FellIs bounds c i (Some in_boot) = ⊤
FellIs bounds c i (Some (in_step m clock b)) = Known bounds c m × IsSent c i m

pub record Claims (c : NodeCell) : Type 0 where
  pub bounds : Bounds
  pub nodes : CellIs (λ (n : Node). Known bounds c) (λ (n : Node). Any) c
  pub sent : AllByRecursion (Known bounds c) c.sent
  pub fell : (i : ℕ) → FellIs bounds c i (c.hosts i).down
  pub boots : (n : ℕ) → BootsAre c (c.admins n).boots
  pub low : (n epoch number i : ℕ) → IsPast epoch number (c.admins n) → bounds n epoch number i ≤ boot_at c i
  pub first : (i : ℕ) → 1 ≤ boot_at c i

weaker_cell : (P Q : Message → Type 0) (c : NodeCell) → ((m : Message) → P m → Q m) → CellIs (λ (n : Node). P) (λ (n : Node). Any) c → CellIs (λ (n : Node). Q) (λ (n : Node). Any) c
weaker_cell P Q c more h = record {
  hosts = λ i. weaker_node P Q (c.hosts i).state more (h.hosts i);
  clients = λ n. weaker_seats P Q (c.clients n).client.seats more (h.clients n);
  admins = λ n. weaker_seats P Q (c.admins n).seats more (h.admins n);
  loc = record { seats = weaker_seats P Q c.loc.state.seats more h.loc.seats; kept = weaker_seats P Q c.loc.state.lasting.kept more h.loc.kept };
}

fell_on : (b : Bounds) (c d : NodeCell) → Grows c d → (i : ℕ) (o : Option Fall) → FellIs b c i o → FellIs (bounds_on c d b) d i o
fell_on b c d up i None k = tt
fell_on b c d up i (Some at_rest) k = tt
fell_on b c d up i (Some in_boot) k = tt
fell_on b c d up i (Some (in_step m clock blow)) k = (still_known b c d up m k.0, record { place = k.1.place; at = up.sent k.1.place m k.1.at; to = k.1.to })

-- a bound is the one that was, or the boot that is
low_by : (old now : ℕ) (b : Bool) (was : ℕ) → was ≤ now → (b ≡ true → old ≤ was) → cond b old now ≤ now
low_by old now true was up low = le_trans (low refl) up
low_by old now false was up low = le_refl now

low_to : (b : Bounds) (c d : NodeCell) → Grows c d → ((n epoch number i : ℕ) → IsPast epoch number (c.admins n) → b n epoch number i ≤ boot_at c i) → (n epoch number i : ℕ) → bounds_on c d b n epoch number i ≤ boot_at d i
low_to b c d up low n epoch number i = low_by (b n epoch number i) (boot_at d i) (is_past epoch number (c.admins n)) (boot_at c i) (up.boots i) (λ is. low n epoch number i (past_is epoch number (c.admins n) is))

-- ---- what clients, the database and administrators make

module _ (b : Bounds) (d : NodeCell) where
  answers : (me : Node) (boot : ℕ) → ((head : Head) → head.to ≡ me → NoticeBy d (reply_head boot head) head.to) → AnswersAre (Known b d) me boot
  answers me boot h = record { notice = λ head to. h head (same_node-true head.to me to); refusal = λ head code to. tt }

  client_makes : (n : ℕ) → ClientMakes (Known b d) (Client n)
  client_makes n = record {
    answers = λ boot. answers (Client n) boot (λ head is. subst (NoticeBy d (reply_head boot head)) (sym is) tt);
    reply = λ boot head reply to. tt;
    call = λ head user call from none. subst (λ (q : Node). CallBy b d head q head.to) (sym from) tt;
    look = λ head user o from none. subst (λ (q : Node). CallBy b d head q head.to) (sym from) tt;
  }

  loc_answers : (boot : ℕ) → AnswersAre (Known b d) Loc boot
  loc_answers boot = answers Loc boot (λ head is. subst (NoticeBy d (reply_head boot head)) (sym is) tt)

  admin_answers : (n boot : ℕ) → AnswersAre (Known b d) (Admin n) boot
  admin_answers n boot = answers (Admin n) boot (λ head is. subst (NoticeBy d (reply_head boot head)) (sym is) tt)

  replies_known : (s : LocState) (m : Message) → LocMakes (Known b d) s.lasting.boot (loc_decides s (Whole m))
  replies_known s m = loc_makes_any (Known b d) s m (λ head reply to. tt)

-- ---- a step

module _ (c : NodeCell) (h : Claims c) where
  -- in it boots rose, what was sent stayed, and so did what numbers name
  record Holds (d : NodeCell) : Type 0 where
    boots : (i : ℕ) → boot_at c i ≤ boot_at d i
    sent : (place : ℕ) (m : Message) → message_at c.sent place ≡ Some m → message_at d.sent place ≡ Some m
    named : (i boot number volume family stamp : ℕ) → IsNumbered c i boot number volume family stamp → IsNumbered d i boot number volume family stamp

  abbrev R : NodeMoved → Type 0
  R m = Holds m.cell → Claims m.cell

  -- administrators stay as they were
  others_on : (d : NodeCell) → Holds d → d.admins ≡ c.admins → Grows c d
  others_on d k same = record { boots = k.boots; admins = λ n epoch number past. subst (λ (f : ℕ → AdminState). IsPast epoch number (f n)) (sym same) past; sent = k.sent; named = k.named }

  abbrev Then : NodeCell → Message → Type 0
  Then d = Known (bounds_on c d h.bounds) d

  had : (d : NodeCell) → Grows c d → CellIs (λ (n : Node). Then d) (λ (n : Node). Any) c
  had d up = weaker_cell (Known h.bounds c) (Then d) c (still_known h.bounds c d up) h.nodes

  sent_on : (d : NodeCell) (ms : List Message) → Grows c d → AllByRecursion (Then d) ms → AllByRecursion (Then d) (c.sent ++ ms)
  sent_on d ms up new = all_more (Then d) c.sent ms (weaker_all (Known h.bounds c) (Then d) c.sent (still_known h.bounds c d up) h.sent) new

  still_fell : (d : NodeCell) → Grows c d → (i : ℕ) (o : Option Fall) → FellIs h.bounds c i o → FellIs (bounds_on c d h.bounds) d i o
  still_fell d up i o k = fell_on h.bounds c d up i o k

  still_boots : (d : NodeCell) → Grows c d → (n : ℕ) → BootsAre d (c.admins n).boots
  still_boots d up n i = le_trans (h.boots n i) (up.boots i)

  low_on : (d : NodeCell) → Grows c d → (n epoch number i : ℕ) → bounds_on c d h.bounds n epoch number i ≤ boot_at d i
  low_on d up n epoch number i = low_to h.bounds c d up h.low n epoch number i

  -- ---- a server's

  record HostKnown (d : NodeCell) (i : ℕ) (s : HostStep NodeState) : Type 0 where
    sends : HostSends (Then d) Any s
    fell : FellIs (bounds_on c d h.bounds) d i s.host.down

  server_on : (i : ℕ) (s : HostStep NodeState) → ((up : Grows c (server_stepped c i s).cell) → HostKnown (server_stepped c i s).cell i s) → R (server_stepped c i s)
  server_on i s k holds =
      let d : NodeCell = (server_stepped c i s).cell in
      let up : Grows c d = others_on d holds refl in
      let z : HostKnown d i s = k up in
      let has = had d up in record {
        bounds = bounds_on c d h.bounds;
        nodes = record { hosts = all_put i (λ (j : ℕ) (x : NodeHost). NodeIs (Then d) Any x.state) s.host c.hosts z.sends.has has.hosts; clients = has.clients; admins = has.admins; loc = has.loc };
        sent = sent_on d s.sent up z.sends.sent;
        fell = all_put i (λ (j : ℕ) (x : NodeHost). FellIs (bounds_on c d h.bounds) d j x.down) s.host c.hosts z.fell (λ j. still_fell d up j (c.hosts j).down (h.fell j));
        boots = still_boots d up;
        low = λ n epoch number j past. low_on d up n epoch number j;
        first = λ j. le_trans (h.first j) (up.boots j);
      }

  module _ (i : ℕ) where
    abbrev host : NodeHost
    host = c.hosts i

    at_step : (s : HostStep NodeState) → (server_stepped c i s).cell.hosts i ≡ s.host
    at_step s = at_put i i (λ (x : NodeHost). x ≡ s.host) s.host c.hosts (λ one. refl) (λ other. absurd (other refl))

    -- ---- it is given a message

    decides : (d : NodeCell) (up : Grows c d) (place : ℕ) (m : Message) → message_at c.sent place ≡ Some m → m.head.to ≡ Server i → Known h.bounds c m →
        (is_of_client (Some m.head.from) ≡ false → LeftAs d i (boot_at c i) (vol_decides (Server i) (durable_of host.state.file.lasting) host.state.vol (Whole m))) →
        VolMakes (Then d) Any (vol_decides (Server i) (durable_of host.state.file.lasting) host.state.vol (Whole m))
    decides d up place m sent to known left =
        decision_known h.bounds c d up h.low i place m (up.sent place m sent) to known (vol_decides (Server i) (durable_of host.state.file.lasting) host.state.vol (Whole m))
        (vol_decides_so (Server i) (durable_of host.state.file.lasting) host.state.vol m).of (decides_fresh (Server i) (durable_of host.state.file.lasting) host.state.vol m) left

    serves_by : (place : ℕ) (m : Message) (o : Option Blow) → IsGiven c place m (Server i) → Known h.bounds c m → IsApart host.state → (up : Grows c (server_stepped c i (served_by (node_kind (Server i)) host c.clock place m o)).cell) →
        HostKnown (server_stepped c i (served_by (node_kind (Server i)) host c.clock place m o)).cell i (served_by (node_kind (Server i)) host c.clock place m o)
    serves_by place m None g known apart up =
        let s : HostStep NodeState = served_by (node_kind (Server i)) host c.clock place m None in
        let d : NodeCell = (server_stepped c i s).cell in
        let z = row_sends (Then d) Any (Server i) host.state c.clock place m (makes h.bounds c d up h.low i (boot_at c i) (up.boots i)) ((had d up).hosts i)
        (decides d up place m g.sent g.to known (λ other. row_left c d i place (boot_at c i) m (ap (λ (x : NodeHost). x.state) (at_step s)) other apart)) in
        record { sends = record { has = z.has; sent = z.sent }; fell = tt }
    serves_by place m (Some b) g known apart up =
        let d : NodeCell = (server_stepped c i (served_by (node_kind (Server i)) host c.clock place m (Some b))).cell in
        record { sends = record { has = (had d up).hosts i; sent = tt }; fell = (still_known h.bounds c d up m known, record { place = place; at = up.sent place m g.sent; to = g.to }) }

    -- ---- it begins again

    abbrev begun : Bool → Fall → Begun NodeState
    begun after fall = begun_from (node_kind (Server i)) host.state after fall

    abbrev step : Bool → Fall → Outcome → HostStep NodeState
    step after fall o = ends (node_kind (Server i)) host c.clock c.count (begun after fall) fall o

    abbrev begun_boot : Bool → Fall → ℕ
    begun_boot after fall = (begun after fall).state.file.lasting.boot

    -- the boot with which it begins is the one that was, or above that
    not_below : (after : Bool) (fall : Fall) → boot_at c i ≤ begun_boot after fall
    not_below after fall = elim (begun_on (λ (n v f s : ℕ). Unit {0}) 0 (λ n v f s above. tt) i host c.clock after fall) [ inl later ↦ omega (arith, later) | inr z ↦ (let e : begun_boot after fall ≡ boot_at c i = z.0 in omega (arith, e)) ]

    boot_behind : (s : HostStep NodeState) → boot_at (server_stepped c i s).cell i ≡ s.host.state.file.lasting.boot
    boot_behind s = ap (λ (x : NodeHost). x.state.file.lasting.boot) (at_step s)

    risen_boot : (after : Bool) (fall : Fall) → boot_at (server_stepped c i (step after fall comes_up)).cell i ≡ begun_boot after fall + 1
    unfolding node_start_row file_start
    risen_boot after fall = boot_behind (step after fall comes_up)

    -- its memory counts no more, or it is in a later boot
    never : (after : Bool) (fall : Fall) (o : Outcome) → (o ≡ fails_early → ⊥) → IsLive (server_stepped c i (step after fall o)).cell i → boot_at (server_stepped c i (step after fall o)).cell i ≡ boot_at c i → ⊥
    never after fall comes_up goes live is =
        let now : boot_at (server_stepped c i (step after fall comes_up)).cell i ≡ begun_boot after fall + 1 = risen_boot after fall in
        let low : boot_at c i ≤ begun_boot after fall = not_below after fall in absurd (omega (arith, is, now, low))
    never after fall fails_early goes live is = absurd (goes refl)
    never after fall fails_midway goes live is = absurd (subst (λ (x : NodeHost). Counts x.down) (at_step (step after fall fails_midway)) live)
    never after fall is_full goes live is = absurd (subst (λ (x : NodeHost). Counts x.down) (at_step (step after fall is_full)) live)

    module _ (after : Bool) (fall : Fall) (known : FellIs h.bounds c i (Some fall)) where
      cut_by : (o : Outcome) (f : Fall) (up : Grows c (server_stepped c i (step after fall o)).cell) → (o ≡ fails_early → ⊥) → FellIs h.bounds c i (Some f) → CutMakes (Then (server_stepped c i (step after fall o)).cell) Any (Server i) host.state f
      cut_by o at_rest up goes k = tt
      cut_by o (in_step m clock b) up goes k =
          let d : NodeCell = (server_stepped c i (step after fall o)).cell in
          decides d up k.1.place m k.1.at k.1.to k.0 (λ other. left_never d i (boot_at c i) (vol_decides (Server i) (durable_of host.state.file.lasting) host.state.vol (Whole m)) (never after fall o goes))
      cut_by o in_boot up goes k = tt

      begun_known : (o : Outcome) (up : Grows c (server_stepped c i (step after fall o)).cell) → (o ≡ fails_early → ⊥) → NodeIs (Then (server_stepped c i (step after fall o)).cell) Any (begun after fall).state
      begun_known o up goes =
          let d : NodeCell = (server_stepped c i (step after fall o)).cell in
          begun_is (Then d) Any (Server i) host ((had d up).hosts i) after fall (makes h.bounds c d up h.low i (boot_at c i) (up.boots i)).file (cut_by o fall up goes known)

      ends_sends : (o : Outcome) (up : Grows c (server_stepped c i (step after fall o)).cell) → HostSends (Then (server_stepped c i (step after fall o)).cell) Any (step after fall o)
      ends_sends comes_up up =
          let d : NodeCell = (server_stepped c i (step after fall comes_up)).cell in
          let k : NodeIs (Then d) Any (begun after fall).state = begun_known comes_up up (λ e. absurd cc) in
          let z = risen_sends (Then d) Any (Server i) c.clock c.count (file_begun (begun after fall)) (makes h.bounds c d up h.low i (begun_boot after fall + 1) (let e : boot_at d i ≡ begun_boot after fall + 1 = risen_boot after fall in omega (arith, e))).file k.file.kept in
          record { has = z.has; sent = z.sent }
      ends_sends fails_early up = record { has = (had (server_stepped c i (step after fall fails_early)).cell up).hosts i; sent = tt }
      ends_sends fails_midway up = record { has = begun_known fails_midway up (λ e. absurd cc); sent = tt }
      ends_sends is_full up = record { has = begun_known is_full up (λ e. absurd cc); sent = tt }

      ends_fell : (o : Outcome) (d : NodeCell) → Grows c d → FellIs (bounds_on c d h.bounds) d i (step after fall o).host.down
      ends_fell comes_up d up = tt
      ends_fell fails_early d up = still_fell d up i (Some fall) known
      ends_fell fails_midway d up = tt
      ends_fell is_full d up = tt

      ends_known : (o : Outcome) → R (server_stepped c i (step after fall o))
      ends_known o = server_on i (step after fall o) (λ up. record { sends = ends_sends o up; fell = ends_fell o (server_stepped c i (step after fall o)).cell up })

  -- ---- the database's

  loc_on : (s : HostStep LocState) → ((up : Grows c (loc_stepped c s).cell) → LocSends (Then (loc_stepped c s).cell) s) → R (loc_stepped c s)
  loc_on s k holds =
      let d : NodeCell = (loc_stepped c s).cell in
      let up : Grows c d = others_on d holds refl in
      let z : LocSends (Then d) s = k up in
      let has = had d up in record {
        bounds = bounds_on c d h.bounds;
        nodes = record { hosts = has.hosts; clients = has.clients; admins = has.admins; loc = z.has };
        sent = sent_on d s.sent up z.sent;
        fell = λ i. still_fell d up i (c.hosts i).down (h.fell i);
        boots = still_boots d up;
        low = λ n epoch number i past. low_on d up n epoch number i;
        first = λ i. le_trans (h.first i) (up.boots i);
      }

  loc_cut : (d : NodeCell) (has : LocIs (Then d) c.loc.state) (fall : Fall) → LocCutMakes (Then d) c.loc has fall
  loc_cut d has at_rest = tt
  loc_cut d has (in_step m clock b) = replies_known (bounds_on c d h.bounds) d c.loc.state m
  loc_cut d has in_boot = tt

  -- ---- a client's

  client_on : (n : ℕ) (s : Step CopyState) → ((up : Grows c (client_moves c n s).cell) → CopySends (Then (client_moves c n s).cell) (c.clients n).client.seats s) → R (client_moves c n s)
  client_on n s k holds =
      let d : NodeCell = (client_moves c n s).cell in
      let up : Grows c d = others_on d holds refl in
      let z : CopySends (Then d) (c.clients n).client.seats s = k up in
      let has = had d up in record {
        bounds = bounds_on c d h.bounds;
        nodes = record { hosts = has.hosts; clients = all_put n (λ (j : ℕ) (x : CopyState). SeatsAre (Then d) x.client.seats) s.state c.clients (z.seats' (has.clients n)) has.clients; admins = has.admins; loc = has.loc };
        sent = sent_on d s.sent up z.sent;
        fell = λ i. still_fell d up i (c.hosts i).down (h.fell i);
        boots = still_boots d up;
        low = λ j epoch number i past. low_on d up j epoch number i;
        first = λ i. le_trans (h.first i) (up.boots i);
      }

  -- ---- an administrator's

  -- no later one than the last stays so
  still_past : (epoch number : ℕ) (a b : AdminState) → (a.epoch < b.epoch) ⊎ ((a.epoch ≡ b.epoch) × (a.last ≤ b.last)) → IsPast epoch number a → IsPast epoch number b
  still_past epoch number a b (inl later) (inl below) = inl (omega (arith, later, below))
  still_past epoch number a b (inl later) (inr same) = let e : epoch ≡ a.epoch = same.0 in inl (omega (arith, later, e))
  still_past epoch number a b (inr on) (inl below) = let e : a.epoch ≡ b.epoch = on.0 in inl (omega (arith, below, e))
  still_past epoch number a b (inr on) (inr same) = inr (same.0 ∙ on.0, le_trans same.1 on.1)

  module _ (n : ℕ) (s : Step AdminState) (goes : AdminGoes c (c.admins n) s) (holds : Holds (admin_moves c n s).cell) where
    abbrev d : NodeCell
    d = (admin_moves c n s).cell

    up : Grows c d
    up = record {
      boots = holds.boots;
      admins = λ j epoch number past. at_put n j (λ (x : AdminState). IsPast epoch number x) s.state c.admins
          (λ same. still_past epoch number (c.admins n) s.state goes.rises (subst (λ (i : ℕ). IsPast epoch number (c.admins i)) (sym same) past)) (λ other. past);
      sent = holds.sent;
      named = holds.named;
    }

    at : d.admins n ≡ s.state
    at = at_put n n (λ (x : AdminState). x ≡ s.state) s.state c.admins (λ one. refl) (λ other. absurd (other refl))

    -- its call names the boot that it knows, and is its last one
    asked_of : (q : Ask) (i : ℕ) → q.callee ≡ Server i → IsBound (bounds_on c d h.bounds) d (ask_head (Admin n) s.state q) n i
    asked_of q i callee = record {
      past = subst (IsPast s.state.epoch s.state.last) (sym at) (inr (refl, le_refl s.state.last));
      boot = subst (λ (x : Node). boot_of x s.state.boots ≤ boot_at d i) (sym callee) (le_trans (goes.boots i) (holds.boots i));
      held = λ epoch number below past. absurd (below_not s.state.epoch s.state.last epoch number below (subst (IsPast epoch number) at past));
    }

    asked_by : (q : Ask) (callee : Node) → q.callee ≡ callee → CallBy (bounds_on c d h.bounds) d (ask_head (Admin n) s.state q) (Admin n) callee
    asked_by q (Server i) is = asked_of q i is
    asked_by q (Admin i) is = tt
    asked_by q (Client i) is = tt
    asked_by q Loc is = tt

    asks : AsksIs (Then d) (Admin n) s.state
    asks r is = asked_by (ask_of s.state r) (ask_of s.state r).callee refl

    admin_on : (AsksIs (Then d) (Admin n) s.state → SeatsAre (Then d) (c.admins n).seats → AdminSends (Then d) s) → Claims d
    admin_on k =
        let has : CellIs (λ (j : Node). Then d) (λ (j : Node). Any) c = had d up in
        let z : AdminSends (Then d) s = k asks (has.admins n) in record {
          bounds = bounds_on c d h.bounds;
          nodes = record { hosts = has.hosts; clients = has.clients; admins = all_put n (λ (j : ℕ) (x : AdminState). SeatsAre (Then d) x.seats) s.state c.admins z.seats has.admins; loc = has.loc };
          sent = sent_on d s.sent up z.sent;
          fell = λ i. still_fell d up i (c.hosts i).down (h.fell i);
          boots = all_put n (λ (j : ℕ) (x : AdminState). BootsAre d x.boots) s.state c.admins (λ i. le_trans (goes.boots i) (holds.boots i)) (still_boots d up);
          low = λ j epoch number i past. low_on d up j epoch number i;
          first = λ i. le_trans (h.first i) (up.boots i);
        }

-- ---- who is down, and the clock, matter to none of it

over : (d e : NodeCell) (g : Grows d e) (k : Claims d) → CellIs (λ (n : Node). Known k.bounds d) (λ (n : Node). Any) e → AllByRecursion (Known k.bounds d) e.sent → ((i : ℕ) → FellIs k.bounds d i (e.hosts i).down) → ((n : ℕ) → BootsAre d (e.admins n).boots) → Claims e
over d e g k nodes sent fell boots = record {
  bounds = bounds_on d e k.bounds;
  nodes = weaker_cell (Known k.bounds d) (Known (bounds_on d e k.bounds) e) e (still_known k.bounds d e g) nodes;
  sent = weaker_all (Known k.bounds d) (Known (bounds_on d e k.bounds) e) e.sent (still_known k.bounds d e g) sent;
  fell = λ i. fell_on k.bounds d e g i (e.hosts i).down (fell i);
  boots = λ n i. le_trans (boots n i) (g.boots i);
  low = λ n epoch number i past. low_to k.bounds d e g k.low n epoch number i;
  first = λ i. le_trans (k.first i) (g.boots i);
}

gone_on : (d : NodeCell) (gone : ℕ → Bool) → Claims d → Claims (record d { gone = gone })
gone_on d gone k =
    over d (record d { gone = gone }) (record { boots = λ i. le_refl (boot_at d i); admins = λ n epoch number past. past; sent = λ place m is. is; named = λ i boot number volume family stamp z. record { not_before = z.not_before; given = z.given; names = z.names } }) k
    (record { hosts = k.nodes.hosts; clients = k.nodes.clients; admins = k.nodes.admins; loc = k.nodes.loc }) k.sent k.fell k.boots

away_on : (d : NodeCell) (away : ℕ → Bool) → Claims d → Claims (record d { away = away })
away_on d away k =
    over d (record d { away = away }) (record { boots = λ i. le_refl (boot_at d i); admins = λ n epoch number past. past; sent = λ place m is. is; named = λ i boot number volume family stamp z. record { not_before = z.not_before; given = z.given; names = z.names } }) k
    (record { hosts = k.nodes.hosts; clients = k.nodes.clients; admins = k.nodes.admins; loc = k.nodes.loc }) k.sent k.fell k.boots

clock_on : (d : NodeCell) (clock : ℕ) → Claims d → Claims (record d { clock = clock })
clock_on d clock k =
    over d (record d { clock = clock }) (record { boots = λ i. le_refl (boot_at d i); admins = λ n epoch number past. past; sent = λ place m is. is; named = λ i boot number volume family stamp z. record { not_before = z.not_before; given = z.given; names = z.names } }) k
    (record { hosts = k.nodes.hosts; clients = k.nodes.clients; admins = k.nodes.admins; loc = k.nodes.loc }) k.sent k.fell k.boots

-- ---- every input

module _ (c : NodeCell) (h : Claims c) (stand : (i : ℕ) → (c.hosts i).down ≡ None → HasTransactions c i) where
  ungone : (d : NodeCell) (gone : ℕ → Bool) → Holds c h (record d { gone = gone }) → Holds c h d
  ungone d gone k = record { boots = k.boots; sent = k.sent; named = λ i boot number volume family stamp z. let y = k.named i boot number volume family stamp z in record { not_before = y.not_before; given = y.given; names = y.names } }

  unaway : (d : NodeCell) (away : ℕ → Bool) → Holds c h (record d { away = away }) → Holds c h d
  unaway d away k = record { boots = k.boots; sent = k.sent; named = λ i boot number volume family stamp z. let y = k.named i boot number volume family stamp z in record { not_before = y.not_before; given = y.given; names = y.names } }

  reborn_goes : (n : ℕ) → AdminGoes c (c.admins n) (record { state = admin_reborn (c.admins n); lines = lines.Crash (Admin n) ∷ []; sent = [] })
  reborn_goes n = record { rises = inl (omega (arith)); boots = h.first }

  same_goes : (n : ℕ) → AdminGoes c (c.admins n) (record { state = c.admins n; lines = lines.Restart (Admin n) (c.admins n).epoch ∷ []; sent = [] })
  same_goes n = record { rises = inr (refl, le_refl (c.admins n).last); boots = h.boots n }

  -- what was given is known
  heard : (place : ℕ) (m : Message) (n : Node) → IsGiven c place m n → Known h.bounds c m
  heard place m n g = found_at (Known h.bounds c) place c.sent m h.sent g.sent

  noticed : (m : Message) → Known h.bounds c m → m.carried ≡ carried.Notice → NoticeBy c m.head m.head.from
  noticed m known is = subst (KnownBy h.bounds c m.head) is known

  abbrev host_is : (d : NodeCell) → Grows c d → (i : ℕ) → NodeIs (Then c h d) Any (c.hosts i).state
  host_is d up i = (had c h d up).hosts i

  abbrev host_makes : (d : NodeCell) (up : Grows c d) (i : ℕ) → ServerMakes (Then c h d) Any (Server i) (boot_at c i)
  host_makes d up i = makes h.bounds c d up h.low i (boot_at c i) (up.boots i)

  next_each : (x : CellInput) → R c h (node_moved c x)
  next_each x = each (R c h) c (record {
    void = λ holds. h;
    ticks = λ n holds. clock_on c (c.clock + suc n) h;
    servers = record {
      serves = λ i place luck m up g. server_on c h i _ (λ grown. serves_by c h i place m (struck (c.hosts i).armed luck (node_device_calls (Server i) (c.hosts i).state c.clock (Whole m))) g (heard place m (Server i) g) (stand i up.up).apart grown);
      crashes = λ i up. server_on c h i _ (λ grown. record { sends = server_crashed _ Any (Server i) (c.hosts i) (host_is _ grown i); fell = tt });
      stop_set = λ i calls pick up. server_on c h i _ (λ grown. record { sends = server_stop_set _ Any (Server i) (c.hosts i) (host_is _ grown i) calls pick; fell = still_fell c h _ grown i (c.hosts i).down (h.fell i) });
      fail_set = λ i call up. server_on c h i _ (λ grown. record { sends = server_fail_set _ Any (Server i) (c.hosts i) (host_is _ grown i) call; fell = still_fell c h _ grown i (c.hosts i).down (h.fell i) });
      restarts = λ i after o fall there down. ends_known c h i after fall (subst (FellIs h.bounds c i) down (h.fell i)) (without_boot_record (can_start (begun_from (node_kind (Server i)) (c.hosts i).state after fall).state.file) o);
      piece_late = λ i n p up is. server_on c h i _ (λ grown. record { sends = server_piece_late _ Any (Server i) (c.hosts i) (host_is _ grown i) c.clock n p (host_makes _ grown i); fell = tt });
      break_late = λ i n b up is. server_on c h i _ (λ grown. record { sends = server_break_late _ Any (Server i) (c.hosts i) (host_is _ grown i) c.clock n b (host_makes _ grown i); fell = tt });
      wakes = λ i up. server_on c h i _ (λ grown. record { sends = server_woken _ Any (Server i) (c.hosts i) (host_is _ grown i) c.clock (host_makes _ grown i); fell = tt });
    };
    database = record {
      serves = λ place luck m up g. loc_on c h _ (λ grown. loc_served _ c.loc (had c h _ grown).loc c.clock place luck m (loc_answers _ _ _) (replies_known (bounds_on c (loc_stepped c (served loc_kind c.loc c.clock place luck m)).cell h.bounds) (loc_stepped c (served loc_kind c.loc c.clock place luck m)).cell c.loc.state m));
      crashes = λ up. loc_on c h _ (λ grown. loc_crashed _ c.loc (had c h _ grown).loc);
      stop_set = λ calls pick up. loc_on c h _ (λ grown. loc_stop_set _ c.loc (had c h _ grown).loc calls pick);
      fail_set = λ call up. loc_on c h _ (λ grown. loc_fail_set _ c.loc (had c h _ grown).loc call);
      restarts = λ after o fall down. loc_on c h _ (λ grown. loc_restarted _ c.loc (had c h _ grown).loc c.clock c.count after o fall (loc_cut c h _ (had c h _ grown).loc fall));
    };
    clients = record {
      begins = λ n act up idle. client_on c h n _ (λ grown. client_begun _ (Client n) (client_makes _ _ n) (c.clients n) c.clock act);
      given = λ n place m up g. client_on c h n _ (λ grown. client_given _ (Client n) (client_makes _ _ n) (c.clients n) c.clock place m ((had c h _ grown).clients n));
      seek_late = λ n k up is. client_on c h n _ (λ grown. client_seek_late _ (Client n) (client_makes _ _ n) (c.clients n) k);
      late = λ n act up is. client_on c h n _ (λ grown. client_late _ (Client n) (client_makes _ _ n) (c.clients n) act);
      stops = λ n up holds. away_on _ _ (client_on c h n (record { state = copies_reborn c.handed (c.clients n); lines = lines.Crash (Client n) ∷ []; sent = [] }) (λ grown. record { sent = tt; seats' = λ k. tt }) (unaway _ _ holds));
      starts = λ n away holds. away_on _ _ (client_on c h n (record { state = c.clients n; lines = lines.Restart (Client n) (c.clients n).client.epoch ∷ []; sent = [] }) (λ grown. record { sent = tt; seats' = λ k. k }) (unaway _ _ holds));
    };
    admins = record {
      begins = λ n act up idle holds. admin_on c h n _ (begun_goes c (Admin n) (c.admins n) (h.boots n) act) holds (λ asks seats. admin_begun _ (Admin n) (c.admins n) seats act asks);
      given = λ n place m up g holds. admin_on c h n _ (given_goes c (Admin n) (c.admins n) (h.boots n) place m (noticed m (heard place m (Admin n) g))) holds (λ asks seats. admin_given _ (Admin n) (c.admins n) seats place m (admin_answers _ _ n _) asks);
      late = λ n r up is holds. admin_on c h n _ (late_goes c (Admin n) (c.admins n) (h.boots n) r) holds (λ asks seats. admin_late _ (Admin n) (c.admins n) seats r is asks);
      stops = λ n up holds. gone_on _ _ (admin_on c h n (record { state = admin_reborn (c.admins n); lines = lines.Crash (Admin n) ∷ []; sent = [] }) (reborn_goes n) (ungone _ _ holds) (λ asks seats. record { seats = tt; sent = tt }));
      starts = λ n gone holds. gone_on _ _ (admin_on c h n (record { state = c.admins n; lines = lines.Restart (Admin n) (c.admins n).epoch ∷ []; sent = [] }) (same_goes n) (ungone _ _ holds) (λ asks seats. record { seats = seats; sent = tt }));
    };
  }) x

  -- so it is behind every input
  pub next : (x : CellInput) → Claims (node_moved c x).cell
  next x = next_each x (record {
    boots = boots_rise c x;
    sent = λ place m is. ap (λ (ms : List Message). message_at ms place) (grows c x) ∙ at_more c.sent (node_moved c x).entry.sent place m is;
    named = λ i boot number volume family stamp k. numbered_on i boot number volume family stamp c x k;
  })

-- ---- a run

first_claims : (s : Script) → Claims (node_start s)
first_claims s = record {
  bounds = λ n epoch number i. 0;
  nodes = record {
    hosts = λ i. record { file = record { seats = tt; kept = tt; held = tt }; seats = tt; held = tt; sendings = λ n. tt };
    clients = λ n. tt;
    admins = λ n. tt;
    loc = record { seats = tt; kept = tt };
  };
  sent = tt;
  fell = λ i. tt;
  boots = λ n i. le_refl 1;
  low = λ n epoch number i past. omega (arith);
  first = λ i. le_refl 1;
}

behind_both : (c : NodeCell) (xs ys : List CellInput) → cell_behind c (xs ++ ys) ≡ cell_behind (cell_behind c xs) ys
behind_both c [] ys = refl
behind_both c (x ∷ xs) ys = behind_both (node_moved c x).cell xs ys

led : (s : Script) (done rest : List CellInput) → Claims (cell_behind (node_start s) done) → Claims (cell_behind (node_start s) (done ++ rest))
led s done [] h = subst (λ (xs : List CellInput). Claims (cell_behind (node_start s) xs)) (sym (append-nil done)) h
led s done (x ∷ rest) h =
    let c : NodeCell = cell_behind (node_start s) done in
    let one : cell_behind (node_start s) (done ++ x ∷ []) ≡ (node_moved c x).cell = behind_both (node_start s) done (x ∷ []) in
    subst (λ (xs : List CellInput). Claims (cell_behind (node_start s) xs)) (append_assoc done (x ∷ []) rest)
    (led s (done ++ x ∷ []) rest (subst Claims (sym one) (next c h (have_transactions s done) x)))

pub claims : (s : Script) (inputs : List CellInput) → Claims (cell_behind (node_start s) inputs)
claims s inputs = led s [] inputs (first_claims s)
