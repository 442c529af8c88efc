-- The walk over the inputs of a cell: what is known of its messages and of the acts that run stays known.
use Rattle.std.proofs.Common.{◌≡◌, ◌≤◌, ◌<◌, ◌+◌, arith, inl, inr, ℕ, zero, suc, Bool, true, false, cond, List, [], ◌∷◌, ◌++◌, Option, Some, None, refl, sym, ap, subst, ◌∙◌, append_assoc, append-nil}
use Rattle.std.proofs.Math.Nat.{le_refl}
use Rattle.std.specs.Prelude.{⊤, take}
use Rattle.std.specs.List.{AllByRecursion}
use Rattle.afs_num.specs.declared.messages.Call.{Call}
use Rattle.afs_num.specs.declared.messages.Call.TheVariants as ask
use Rattle.afs_num.specs.declared.messages.Carried.TheVariants as carried
use Rattle.afs_num.specs.declared.messages.Message.{Message}
use Rattle.afs_num.specs.declared.messages.Reply.TheVariants as tell
use Rattle.afs_num.specs.declared.types.Head.{Head}
use Rattle.afs_num.specs.declared.types.Node.{Node}
use Rattle.afs_num.specs.declared.types.Node.TheVariants.{Admin, Client, Loc, Server}
use Rattle.afs_num.specs.declared.volume_calls.ListedVolume.{ListedVolume}
use Rattle.afs_num.specs.declared.volume_calls.VolReply.TheVariants as volumes
use Rattle.spec_copyrows.specs.CopyRow.{copies_reborn}
use Rattle.spec_history.specs.declared.lines.Line.{Line}
use Rattle.spec_history.specs.declared.lines.Line.TheVariants as lines
use Rattle.spec_history.specs.declared.scripts.Script.{Script}
use Rattle.spec_adminrows.specs.Acts.{asks_at}
use Rattle.spec_adminrows.specs.AdminRow.{admin_reborn, ask_head, ask_message, ask_of, errand_of, AdminState}
use Rattle.spec_adminrows.specs.declared.turns.Ask.{Ask}
use Rattle.spec_adminrows.specs.declared.turns.Running.{Running}
use Rattle.spec_rows.specs.Callbacks.{put}
use Rattle.spec_rows.specs.ClientRow.{question}
use Rattle.spec_rows.specs.Hosts.{in_step, restarted, served, at_rest, in_boot, Fall, HostStep}
use Rattle.afs_num.specs.declared.messages.Received.TheVariants.{Whole}
use Rattle.spec_rows.specs.LocRow.{loc_decides, LocState}
use Rattle.spec_rows.specs.LocSteps.{loc_kind}
use Rattle.spec_rows.specs.Runs.{message_at}
use Rattle.spec_rows.specs.States.{durable_of}
use Rattle.spec_rows.specs.Steps.{Step}
use Rattle.spec_copyrows.specs.Sites.{CopyState}
use Rattle.spec_volrows.specs.NodeHosts.{node_kind, NodeHost}
use Rattle.spec_volrows.specs.VolStates.{NodeState, Sending}
use Rattle.spec_runs.specs.NodeRuns.{admin_falls, admin_moves, admin_rises, client_falls, client_moves, client_rises, loc_stepped, node_moved, node_start, server_stepped, ticked, voided, CellInput, NodeCell, NodeMoved}
use Rattle.law_legal.proofs.BaseLaws.{at_put}
use Rattle.law_places.specs.Accepting.{cell_behind}
use Rattle.law_stamps.specs.Stamps.{stored_stamp}
use Rattle.law_stamps.proofs.Walk.{never_fall}
use Rattle.law_walks.specs.Kinds.{IsGiven}
use Rattle.law_walks.specs.Sends.{AnswersAre, AsksIs, CellIs, ClientMakes, LocIs, LocMakes, NodeIs, SeatsAre}
use Rattle.law_walks.proofs.AdminSends.{admin_begun, admin_given, admin_late, AdminSends}
use Rattle.law_walks.proofs.CopySends.{client_begun, client_given, client_late, client_seek_late, CopySends}
use Rattle.law_walks.proofs.EachKind.{each}
use Rattle.law_walks.proofs.LocSends.{loc_crashed, loc_fail_set, loc_makes_any, loc_restarted, loc_served, loc_stop_set, LocCutMakes, LocSends}
use Rattle.law_walks.proofs.Seats.{all_more, found_at, weaker_all, weaker_seats}
use Rattle.law_walks.proofs.ServerSends.{server_break_late, server_crashed, server_fail_set, server_piece_late, server_stop_set, server_woken}
use Rattle.law_courses.specs.Courses.{IsUpTo}
use Rattle.law_stored_stamps.specs.Surveys.{IsSurveyed}
use Rattle.law_stored_stamps.proofs.Acting.{begun_goes, given_goes, late_goes, listed, ActGoes}
use Rattle.law_stored_stamps.proofs.Knowing.{same_on, still_known, still_surveyed, CallBy, GoesOn, Grows, IsLast, IsOfAsk, Known}
use Rattle.law_stored_stamps.proofs.Rising.{one_more, stamps_rise}
use Rattle.law_stored_stamps.proofs.Surveyed.{IsBrought}
use Rattle.law_stored_stamps.proofs.Serving.{makes, restarts_known, serves_known, weaker_node, Any, FallKnown, HostKnown, RisesBy}

-- ---- maps changed at one place

all_put : {A : Type 0} (n : ℕ) (P : ℕ → A → Type 0) (x : A) (f : ℕ → A) → P n x → ((j : ℕ) → P j (f j)) → (j : ℕ) → P j (put n x f j)
all_put {A} n P x f h k j = at_put n j (P j) x f (λ same. subst (λ (i : ℕ). P i x) same h) (λ other. k j)

-- ---- a cell

pub record Surveying (c : NodeCell) : Type 0 where
  pub nodes : CellIs (λ (n : Node). Known c) (λ (n : Node). Any) c
  pub sent : AllByRecursion (Known c) c.sent
  pub fell : (i : ℕ) → FallKnown c (c.hosts i).down
  pub acts : (n : ℕ) (r : Running) → (c.admins n).running ≡ Some r → IsSurveyed c r.place
  pub servers : (n : ℕ) → (c.admins n).servers ≡ c.host_count

weaker_fall : (c d : NodeCell) (o : Option Fall) → ((m : Message) → Known c m → Known d m) → FallKnown c o → FallKnown d o
weaker_fall c d None more h = tt
weaker_fall c d (Some at_rest) more h = tt
weaker_fall c d (Some in_boot) more h = tt
weaker_fall c d (Some (in_step m clock b)) more h = more m h

weaker_cell : (P Q : Message → Type 0) (c : NodeCell) → ((m : Message) → P m → Q m) → CellIs (λ (n : Node). P) (λ (n : Node). Any) c → CellIs (λ (n : Node). Q) (λ (n : Node). Any) c
weaker_cell P Q c more h = record {
  hosts = λ i. weaker_node P Q (c.hosts i).state more (h.hosts i);
  clients = λ n. weaker_seats P Q (c.clients n).client.seats more (h.clients n);
  admins = λ n. weaker_seats P Q (c.admins n).seats more (h.admins n);
  loc = record { seats = weaker_seats P Q c.loc.state.seats more h.loc.seats; kept = weaker_seats P Q c.loc.state.lasting.kept more h.loc.kept };
}

-- what was known in a cell is in one behind it
carried_over : (c d : NodeCell) → Grows c d → CellIs (λ (n : Node). Known c) (λ (n : Node). Any) d → AllByRecursion (Known c) d.sent → ((i : ℕ) → FallKnown c (d.hosts i).down) → ((n : ℕ) (r : Running) → (d.admins n).running ≡ Some r → IsSurveyed c r.place) →
    ((n : ℕ) → (d.admins n).servers ≡ c.host_count) → Surveying d
carried_over c d up nodes sent fell acts servers = record {
  nodes = weaker_cell (Known c) (Known d) d (still_known c d up) nodes;
  sent = weaker_all (Known c) (Known d) d.sent (still_known c d up) sent;
  fell = λ i. weaker_fall c d (d.hosts i).down (still_known c d up) (fell i);
  acts = λ n r is. still_surveyed c d up r.place (acts n r is);
  servers = λ n. servers n ∙ sym up.count;
}

-- ---- what clients and the database make, and what administrators answer

client_makes : (d : NodeCell) (n : ℕ) → ClientMakes (Known d) (Client n)
client_makes d n = record {
  answers = λ boot. record { notice = λ head to. tt; refusal = λ head code to. tt };
  reply = λ boot head reply to. tt;
  call = λ head user call from none. subst (CallBy d head (ask.File call)) (sym from) tt;
  look = λ head user o from none. subst (CallBy d head (ask.Location (question o))) (sym from) tt;
}

replies_known : (d : NodeCell) (s : LocState) (m : Message) → LocMakes (Known d) s.lasting.boot (loc_decides s (Whole m))
replies_known d s m = loc_makes_any (Known d) s m (λ head reply to. tt)

answers : (d : NodeCell) (me : Node) (boot : ℕ) → AnswersAre (Known d) me boot
answers d me boot = record { notice = λ head to. tt; refusal = λ head code to. tt }

-- an administrator that begins again, and one that goes on
next_epoch : (n : ℕ) → n < n + 1
next_epoch n = omega (arith)

reborn_goes : (c : NodeCell) (a : AdminState) (ls : List Line) (ms : List Message) → ActGoes c a (record { state = admin_reborn a; lines = ls; sent = ms })
reborn_goes c a ls ms = record { on = inl (inl (next_epoch a.epoch)); servers = refl; surveyed = λ r is. absurd cc }

same_goes : (c : NodeCell) (a : AdminState) → ((r : Running) → a.running ≡ Some r → IsSurveyed c r.place) → (ls : List Line) (ms : List Message) → ActGoes c a (record { state = a; lines = ls; sent = ms })
same_goes c a has ls ms = record { on = same_on a; servers = refl; surveyed = has }

-- ---- a step

module _ (c : NodeCell) (h : Surveying c) where
  -- stamps didn't fall in it
  abbrev Rises : NodeCell → Type 0
  Rises d = (i family : ℕ) → stored_stamp c i family ≤ stored_stamp d i family

  abbrev R : NodeMoved → Type 0
  R m = Rises m.cell → Surveying m.cell

  -- the cell behind it, where the administrators stay as they were
  others_on : (d : NodeCell) → Rises d → d.host_count ≡ c.host_count → d.admins ≡ c.admins → Grows c d
  others_on d rises count same = record { hosts = rises; count = count; admins = λ n. subst (λ (f : ℕ → AdminState). GoesOn (c.admins n) (f n)) (sym same) (same_on (c.admins n)) }

  had : (d : NodeCell) → Grows c d → CellIs (λ (n : Node). Known d) (λ (n : Node). Any) c
  had d up = weaker_cell (Known c) (Known d) c (still_known c d up) h.nodes

  sent_on : (d : NodeCell) (ms : List Message) → Grows c d → AllByRecursion (Known d) ms → AllByRecursion (Known d) (c.sent ++ ms)
  sent_on d ms up new = all_more (Known d) c.sent ms (weaker_all (Known c) (Known d) c.sent (still_known c d up) h.sent) new

  -- ---- a server's

  server_on : (i : ℕ) (s : HostStep NodeState) → ((up : Grows c (server_stepped c i s).cell) → HostKnown (server_stepped c i s).cell s) → R (server_stepped c i s)
  server_on i s k rises =
      let d : NodeCell = (server_stepped c i s).cell in
      let up : Grows c d = others_on d rises refl refl in
      let z : HostKnown d s = k up in
      let has = had d up in record {
        nodes = record { hosts = all_put i (λ (j : ℕ) (x : NodeHost). NodeIs (Known d) Any x.state) s.host c.hosts z.sends.has has.hosts; clients = has.clients; admins = has.admins; loc = has.loc };
        sent = sent_on d s.sent up z.sends.sent;
        fell = all_put i (λ (j : ℕ) (x : NodeHost). FallKnown d x.down) s.host c.hosts z.fell (λ j. weaker_fall c d (c.hosts j).down (still_known c d up) (h.fell j));
        acts = λ n r is. still_surveyed c d up r.place (h.acts n r is);
        servers = h.servers;
      }

  -- ---- the database's

  loc_on : (s : HostStep LocState) → ((up : Grows c (loc_stepped c s).cell) → LocSends (Known (loc_stepped c s).cell) s) → R (loc_stepped c s)
  loc_on s k rises =
      let d : NodeCell = (loc_stepped c s).cell in
      let up : Grows c d = others_on d rises refl refl in
      let z : LocSends (Known d) s = k up in
      let has = had d up in record {
        nodes = record { hosts = has.hosts; clients = has.clients; admins = has.admins; loc = z.has };
        sent = sent_on d s.sent up z.sent;
        fell = λ i. weaker_fall c d (c.hosts i).down (still_known c d up) (h.fell i);
        acts = λ n r is. still_surveyed c d up r.place (h.acts n r is);
        servers = h.servers;
      }

  loc_cut : (d : NodeCell) (has : LocIs (Known d) c.loc.state) (fall : Fall) → LocCutMakes (Known d) c.loc has fall
  loc_cut d has at_rest = tt
  loc_cut d has (in_step m clock b) = replies_known d c.loc.state m
  loc_cut d has in_boot = tt

  -- ---- a client's

  client_on : (n : ℕ) (s : Step CopyState) → ((up : Grows c (client_moves c n s).cell) → CopySends (Known (client_moves c n s).cell) (c.clients n).client.seats s) → R (client_moves c n s)
  client_on n s k rises =
      let d : NodeCell = (client_moves c n s).cell in
      let up : Grows c d = others_on d rises refl refl in
      let z : CopySends (Known d) (c.clients n).client.seats s = k up in
      let has = had d up in record {
        nodes = record { hosts = has.hosts; clients = all_put n (λ (j : ℕ) (x : CopyState). SeatsAre (Known d) x.client.seats) s.state c.clients (z.seats' (has.clients n)) has.clients; admins = has.admins; loc = has.loc };
        sent = sent_on d s.sent up z.sent;
        fell = λ i. weaker_fall c d (c.hosts i).down (still_known c d up) (h.fell i);
        acts = λ n r is. still_surveyed c d up r.place (h.acts n r is);
        servers = h.servers;
      }

  -- ---- an administrator's

  module _ (n : ℕ) (s : Step AdminState) (goes : ActGoes c (c.admins n) s) (rises : Rises (admin_moves c n s).cell) where
    abbrev d : NodeCell
    d = (admin_moves c n s).cell

    up : Grows c d
    up = record { hosts = rises; count = refl; admins = all_put n (λ (j : ℕ) (x : AdminState). GoesOn (c.admins j) x) s.state c.admins goes.on (λ j. same_on (c.admins j)) }

    -- what it asks then
    its_call : (r : Running) (x : AdminState) → s.state ≡ x → s.state.running ≡ Some r → IsUpTo s.state.epoch s.state.last x × ((r' : Running) → x.running ≡ Some r' → ask_of s.state r ≡ ask_of x r')
    its_call r x same is =
        subst (λ (y : AdminState). IsUpTo s.state.epoch s.state.last y × ((r' : Running) → y.running ≡ Some r' → ask_of s.state r ≡ ask_of y r')) same (
          inr (refl, le_refl s.state.last),
          λ r' run. let one : Some r ≡ Some r' = sym is ∙ run in let e : r ≡ r' = cc in ap (ask_of s.state) e,
        )

    of_ask : (p q : Ask) (head : Head) (call : Call) → p ≡ q → IsOfAsk p head call → IsOfAsk q head call
    of_ask p q head call same its = subst (λ (x : Ask). IsOfAsk x head call) same its

    asks : AsksIs (Known d) (Admin n) s.state
    asks r is =
        let at : s.state ≡ d.admins n = at_put n n (λ (x : AdminState). s.state ≡ x) s.state c.admins (λ one. refl) (λ other. absurd (other refl)) in
        let z = its_call r (d.admins n) at is in
        record { up_to = z.0; now = λ last r' run. of_ask (ask_of s.state r) _ _ _ (z.1 r' run) (record { asks = refl; stamp = refl; callee = refl }) }

    admin_on : (AsksIs (Known d) (Admin n) s.state → SeatsAre (Known d) (c.admins n).seats → AdminSends (Known d) s) → Surveying d
    admin_on k =
        let has : CellIs (λ (n : Node). Known d) (λ (n : Node). Any) c = had d up in
        let z : AdminSends (Known d) s = k asks (has.admins n) in record {
          nodes = record { hosts = has.hosts; clients = has.clients; admins = all_put n (λ (j : ℕ) (x : AdminState). SeatsAre (Known d) x.seats) s.state c.admins z.seats has.admins; loc = has.loc };
          sent = sent_on d s.sent up z.sent;
          fell = λ i. weaker_fall c d (c.hosts i).down (still_known c d up) (h.fell i);
          acts = all_put n (λ (j : ℕ) (x : AdminState). (r : Running) → x.running ≡ Some r → IsSurveyed d r.place) s.state c.admins (λ r is. still_surveyed c d up r.place (goes.surveyed r is)) (λ j r is. still_surveyed c d up r.place (h.acts j r is));
          servers = all_put n (λ (j : ℕ) (x : AdminState). x.servers ≡ c.host_count) s.state c.admins (goes.servers ∙ h.servers n) h.servers;
        }

  -- ---- who is down, and the clock, matter to none of it

  same_cell : (d e : NodeCell) → e.hosts ≡ d.hosts → e.host_count ≡ d.host_count → e.admins ≡ d.admins → Grows d e
  same_cell d e hosts count admins = record {
    hosts = λ i family. subst (λ (f : ℕ → NodeHost). stored_stamp d i family ≤ stored_stamp (record d { hosts = f }) i family) (sym hosts) (le_refl (stored_stamp d i family));
    count = count;
    admins = λ n. subst (λ (f : ℕ → AdminState). GoesOn (d.admins n) (f n)) (sym admins) (same_on (d.admins n));
  }

  gone_on : (d : NodeCell) (gone : ℕ → Bool) → Surveying d → Surveying (record d { gone = gone })
  gone_on d gone k = carried_over d (record d { gone = gone }) (same_cell d (record d { gone = gone }) refl refl refl) (record { hosts = k.nodes.hosts; clients = k.nodes.clients; admins = k.nodes.admins; loc = k.nodes.loc }) k.sent k.fell k.acts k.servers

  away_on : (d : NodeCell) (away : ℕ → Bool) → Surveying d → Surveying (record d { away = away })
  away_on d away k = carried_over d (record d { away = away }) (same_cell d (record d { away = away }) refl refl refl) (record { hosts = k.nodes.hosts; clients = k.nodes.clients; admins = k.nodes.admins; loc = k.nodes.loc }) k.sent k.fell k.acts k.servers

  clock_on : (d : NodeCell) (clock : ℕ) → Surveying d → Surveying (record d { clock = clock })
  clock_on d clock k = carried_over d (record d { clock = clock }) (same_cell d (record d { clock = clock }) refl refl refl) (record { hosts = k.nodes.hosts; clients = k.nodes.clients; admins = k.nodes.admins; loc = k.nodes.loc }) k.sent k.fell k.acts k.servers

module _ (c : NodeCell) (h : Surveying c) where
  -- what was given was sent
  heard : (d : NodeCell) (place : ℕ) (m : Message) (n : Node) → Grows c d → IsGiven c place m n → Known d m
  heard d place m n up g = still_known c d up m (found_at (Known c) place c.sent m h.sent g.sent)

  -- a list that an administrator is given
  list_is : (n place : ℕ) (m : Message) → IsGiven c place m (Admin n) → (ls : List ListedVolume) (r : Running) → m.carried ≡ carried.Reply (tell.Volume (volumes.ListVols ls)) → IsLast m.head.epoch m.head.number (c.admins n) → (c.admins n).running ≡ Some r → IsBrought c (ask_of (c.admins n) r)
  list_is n place m g ls r is last run = (listed c m n ls (found_at (Known c) place c.sent m h.sent g.sent) g.to is).now last r run

  stays_up : (i : ℕ) (o : Option Fall) (d : NodeCell) → o ≡ None → FallKnown d o
  stays_up i o d is = subst (FallKnown d) (sym is) tt

  pub next : (x : CellInput) → R c h (node_moved c x)
  next x = each (R c h) c (record {
    void = λ rises. h;
    ticks = λ n rises. clock_on c h c (c.clock + suc n) h;
    servers = record {
      serves = λ i place luck m up g. server_on c h i _ (λ grown. serves_known c i place luck m (grown.hosts i) ((had c h _ grown).hosts i) (heard _ place m (Server i) grown g));
      crashes = λ i up. server_on c h i _ (λ grown. record { sends = server_crashed _ Any (Server i) (c.hosts i) ((had c h _ grown).hosts i); fell = tt });
      stop_set = λ i calls pick up. server_on c h i _ (λ grown. record { sends = server_stop_set _ Any (Server i) (c.hosts i) ((had c h _ grown).hosts i) calls pick; fell = weaker_fall c _ (c.hosts i).down (still_known c _ grown) (h.fell i) });
      fail_set = λ i call up. server_on c h i _ (λ grown. record { sends = server_fail_set _ Any (Server i) (c.hosts i) ((had c h _ grown).hosts i) call; fell = weaker_fall c _ (c.hosts i).down (still_known c _ grown) (h.fell i) });
      restarts = λ i after o fall there down. server_on c h i _ (λ grown. restarts_known c i after o fall (grown.hosts i) ((had c h _ grown).hosts i) (subst (FallKnown _) down (weaker_fall c _ (c.hosts i).down (still_known c _ grown) (h.fell i))));
      piece_late = λ i n p up is. server_on c h i _ (λ grown. record { sends = server_piece_late _ Any (Server i) (c.hosts i) ((had c h _ grown).hosts i) c.clock n p (makes _ i _); fell = tt });
      break_late = λ i n b up is. server_on c h i _ (λ grown. record { sends = server_break_late _ Any (Server i) (c.hosts i) ((had c h _ grown).hosts i) c.clock n b (makes _ i _); fell = tt });
      wakes = λ i up. server_on c h i _ (λ grown. record { sends = server_woken _ Any (Server i) (c.hosts i) ((had c h _ grown).hosts i) c.clock (makes _ i _); fell = tt });
    };
    database = record {
      serves = λ place luck m up g. loc_on c h _ (λ grown. loc_served _ c.loc (had c h _ grown).loc c.clock place luck m (answers _ Loc _) (replies_known (loc_stepped c (served loc_kind c.loc c.clock place luck m)).cell c.loc.state m));
      crashes = λ up. loc_on c h _ (λ grown. loc_crashed _ c.loc (had c h _ grown).loc);
      stop_set = λ calls pick up. loc_on c h _ (λ grown. loc_stop_set _ c.loc (had c h _ grown).loc calls pick);
      fail_set = λ call up. loc_on c h _ (λ grown. loc_fail_set _ c.loc (had c h _ grown).loc call);
      restarts = λ after o fall down. loc_on c h _ (λ grown. loc_restarted _ c.loc (had c h _ grown).loc c.clock c.count after o fall (loc_cut c h _ (had c h _ grown).loc fall));
    };
    clients = record {
      begins = λ n act up idle. client_on c h n _ (λ grown. client_begun _ (Client n) (client_makes _ n) (c.clients n) c.clock act);
      given = λ n place m up g. client_on c h n _ (λ grown. client_given _ (Client n) (client_makes _ n) (c.clients n) c.clock place m ((had c h _ grown).clients n));
      seek_late = λ n k up is. client_on c h n _ (λ grown. client_seek_late _ (Client n) (client_makes _ n) (c.clients n) k);
      late = λ n act up is. client_on c h n _ (λ grown. client_late _ (Client n) (client_makes _ n) (c.clients n) act);
      stops = λ n up rises. away_on c h _ _ (client_on c h n (record { state = copies_reborn c.handed (c.clients n); lines = lines.Crash (Client n) ∷ []; sent = [] }) (λ grown. record { sent = tt; seats' = λ k. tt }) rises);
      starts = λ n away rises. away_on c h _ _ (client_on c h n (record { state = c.clients n; lines = lines.Restart (Client n) (c.clients n).client.epoch ∷ []; sent = [] }) (λ grown. record { sent = tt; seats' = λ k. k }) rises);
    };
    admins = record {
      begins = λ n act up idle rises. admin_on c h n _ (begun_goes c (Admin n) (c.admins n) (h.acts n) act) rises (λ asks seats. admin_begun _ (Admin n) (c.admins n) seats act asks);
      given = λ n place m up g rises. admin_on c h n _ (given_goes c (Admin n) (c.admins n) (h.acts n) (h.servers n) place m (list_is n place m g)) rises (λ asks seats. admin_given _ (Admin n) (c.admins n) seats place m (answers _ (Admin n) _) asks);
      late = λ n r up is rises. admin_on c h n _ (late_goes c (Admin n) (c.admins n) (h.acts n) r) rises (λ asks seats. admin_late _ (Admin n) (c.admins n) seats r is asks);
      stops = λ n up rises. gone_on c h _ _ (admin_on c h n (record { state = admin_reborn (c.admins n); lines = lines.Crash (Admin n) ∷ []; sent = [] }) (reborn_goes c (c.admins n) _ _) rises (λ asks seats. record { seats = tt; sent = tt }));
      starts = λ n gone rises. gone_on c h _ _ (admin_on c h n (record { state = c.admins n; lines = lines.Restart (Admin n) (c.admins n).epoch ∷ []; sent = [] }) (same_goes c (c.admins n) (h.acts n) _ _) rises (λ asks seats. record { seats = seats; sent = tt }));
    };
  }) x

-- ---- a run

first_surveying : (s : Script) → Surveying (node_start s)
first_surveying s = record {
  nodes = record {
    hosts = λ i. record { file = record { seats = tt; kept = tt; held = tt }; seats = tt; held = tt; sendings = λ n. tt };
    clients = λ n. tt;
    admins = λ n. tt;
    loc = record { seats = tt; kept = tt };
  };
  sent = tt;
  fell = λ i. tt;
  acts = λ n r is. absurd cc;
  servers = λ n. refl;
}

led : (s : Script) (done rest : List CellInput) → Surveying (cell_behind (node_start s) done) → Surveying (cell_behind (node_start s) (done ++ rest))
led s done [] h = subst (λ (xs : List CellInput). Surveying (cell_behind (node_start s) xs)) (sym (append-nil done)) h
led s done (x ∷ rest) h =
    let c : NodeCell = cell_behind (node_start s) done in
    subst (λ (xs : List CellInput). Surveying (cell_behind (node_start s) xs)) (append_assoc done (x ∷ []) rest)
    (led s (done ++ x ∷ []) rest (subst Surveying (sym (one_more (node_start s) done x)) (next c h x (stamps_rise s done x))))

pub surveying : (s : Script) (inputs : List CellInput) → Surveying (cell_behind (node_start s) inputs)
surveying s inputs = led s [] inputs (first_surveying s)
