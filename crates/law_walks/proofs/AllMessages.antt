-- What is asked of each message that a node sends or keeps goes on through every run, where it holds of what each kind of node makes.
use Rattle.std.proofs.Common.{◌≡◌, ℕ, suc, Bool, true, false, cond, List, [], ◌∷◌, ◌++◌, Option, Some, None, refl, sym, subst, nat_eq, eqb-true}
use Rattle.std.proofs.lemmas.List.{append-nil}
use Rattle.std.specs.List.{AllByRecursion}
use Rattle.afs_num.specs.declared.histories.Actor.{Actor}
use Rattle.afs_num.specs.declared.histories.Actor.TheVariants as actors
use Rattle.afs_num.specs.declared.messages.Message.{Message}
use Rattle.afs_num.specs.declared.messages.Received.TheVariants.{Whole}
use Rattle.afs_num.specs.declared.types.Node.{Node}
use Rattle.afs_num.specs.declared.types.Node.TheVariants.{Admin, Client, Loc, Server}
use Rattle.spec_history.specs.declared.scripts.Script.{Script}
use Rattle.spec_adminrows.specs.AdminRow.{admin_begin_row, admin_reborn, admin_row, admin_timeout_row, AdminState}
use Rattle.spec_copyrows.specs.CopyRow.{copies_reborn}
use Rattle.spec_copyrows.specs.Sites.{CopyState}
use Rattle.spec_history.specs.declared.lines.Line.TheVariants as lines
use Rattle.spec_rows.specs.Callbacks.{put}
use Rattle.spec_rows.specs.Hosts.{at_rest, begun_from, comes_up, ends, fails_early, fails_midway, in_boot, in_step, is_full, served_by, without_boot_record, struck, Blow, Fall, Host, HostStep, NodeKind, Outcome}
use Rattle.spec_rows.specs.LocRow.{LocState}
use Rattle.spec_rows.specs.LocSteps.{loc_kind, LocHost}
use Rattle.spec_rows.specs.Runs.{Entry}
use Rattle.spec_rows.specs.States.{durable_of}
use Rattle.spec_rows.specs.Steps.{Begun, Step}
use Rattle.spec_volrows.specs.NodeHosts.{node_kind, NodeHost}
use Rattle.spec_volrows.specs.VolStates.{NodeState, Sending}
use Rattle.spec_runs.specs.NodeRuns.{admin_falls, admin_moves, admin_rises, client_falls, client_moves, client_rises, loc_stepped, node_moved, node_start, server_stepped, ticked, voided, CellInput, NodeCell, NodeLeads, NodeMoved}
use Rattle.law_walks.specs.Kinds.{IsGiven}
use Rattle.law_walks.specs.Messages.{cell_after, AllAre, AreSent, FallIs, Rules}
use Rattle.law_walks.specs.Sends.{CellIs, NodeIs, SeatsAre, SentBy, SentIs}
use Rattle.law_walks.proofs.AdminSends.{admin_begun, admin_given, admin_late, AdminSends}
use Rattle.law_walks.proofs.CopySends.{client_begun, client_given, client_late, client_seek_late, CopySends}
use Rattle.law_walks.proofs.EachKind.{any_admin, any_client, any_database, any_server, each}
use Rattle.law_walks.proofs.LocSends.{loc_crashed, loc_fail_set, loc_restarted, loc_served, loc_stop_set, LocCutMakes, LocSends}
use Rattle.law_walks.proofs.Seats.{all_more, found_at, weaker_all}
use Rattle.law_walks.proofs.ServerSends.{server_break_late, server_crashed, server_fail_set, server_piece_late, server_restarted, server_served, server_stop_set, server_woken, CutMakes, HostSends}

-- ---- maps changed at one place

put_by : {A : Type 0} (b : Bool) (n j : ℕ) (P : ℕ → A → Type 0) (x y : A) → nat_eq n j ≡ b → P n x → P j y → P j (cond b x y)
put_by {A} true n j P x y e h k = subst (λ (i : ℕ). P i x) (eqb-true n j e) h
put_by {A} false n j P x y e h k = k

pub all_put : {A : Type 0} (n : ℕ) (P : ℕ → A → Type 0) (x : A) (f : ℕ → A) → P n x → ((j : ℕ) → P j (f j)) → (j : ℕ) → P j (put n x f j)
all_put {A} n P x f h k j = put_by (nat_eq n j) n j P x (f j) refl h (k j)

-- ---- the cell behind a step of one of its nodes, and its entry

pub record StepIs (P : Node → Message → Type 0) (S : Node → Sending → Type 0) (m : NodeMoved) : Type 0 where
  pub nodes : CellIs P S m.cell
  pub sent : SentIs P m.entry

module _ (P : Node → Message → Type 0) (S : Node → Sending → Type 0) (c : NodeCell) (h : CellIs P S c) where
  pub voided_is : StepIs P S (voided c)
  voided_is = record { nodes = h; sent = refl }

  pub ticked_is : (n : ℕ) → StepIs P S (ticked c n)
  ticked_is n = record { nodes = record { hosts = h.hosts; clients = h.clients; admins = h.admins; loc = h.loc }; sent = refl }

  pub placed_is : (i : ℕ) (s : HostStep NodeState) → HostSends (P (Server i)) (S (Server i)) s → StepIs P S (server_stepped c i s)
  placed_is i s k = record {
    nodes = record { hosts = all_put i (λ (j : ℕ) (x : NodeHost). NodeIs (P (Server j)) (S (Server j)) x.state) s.host c.hosts k.has h.hosts; clients = h.clients; admins = h.admins; loc = h.loc };
    sent = k.sent;
  }

  pub loc_placed_is : (s : HostStep LocState) → LocSends (P Loc) s → StepIs P S (loc_stepped c s)
  loc_placed_is s k = record { nodes = record { hosts = h.hosts; clients = h.clients; admins = h.admins; loc = k.has }; sent = k.sent }

  pub client_moves_is : (n : ℕ) (s : Step CopyState) → CopySends (P (Client n)) (c.clients n).client.seats s → StepIs P S (client_moves c n s)
  client_moves_is n s k = record {
    nodes = record { hosts = h.hosts; clients = all_put n (λ (j : ℕ) (x : CopyState). SeatsAre (P (Client j)) x.client.seats) s.state c.clients (k.seats' (h.clients n)) h.clients; admins = h.admins; loc = h.loc };
    sent = k.sent;
  }

  pub client_falls_is : (n : ℕ) → StepIs P S (client_falls c n)
  client_falls_is n =
      let z = client_moves_is n (record { state = copies_reborn c.handed (c.clients n); lines = lines.Crash (Client n) ∷ []; sent = [] }) (record { sent = tt; seats' = λ k. tt }) in
      record { nodes = record { hosts = z.nodes.hosts; clients = z.nodes.clients; admins = z.nodes.admins; loc = z.nodes.loc }; sent = z.sent }

  pub client_rises_is : (n : ℕ) → StepIs P S (client_rises c n)
  client_rises_is n =
      let z = client_moves_is n (record { state = c.clients n; lines = lines.Restart (Client n) (c.clients n).client.epoch ∷ []; sent = [] }) (record { sent = tt; seats' = λ k. k }) in
      record { nodes = record { hosts = z.nodes.hosts; clients = z.nodes.clients; admins = z.nodes.admins; loc = z.nodes.loc }; sent = z.sent }

  pub admin_moves_is : (n : ℕ) (s : Step AdminState) → AdminSends (P (Admin n)) s → StepIs P S (admin_moves c n s)
  admin_moves_is n s k = record {
    nodes = record { hosts = h.hosts; clients = h.clients; admins = all_put n (λ (j : ℕ) (x : AdminState). SeatsAre (P (Admin j)) x.seats) s.state c.admins k.seats h.admins; loc = h.loc };
    sent = k.sent;
  }

  pub admin_falls_is : (n : ℕ) → StepIs P S (admin_falls c n)
  admin_falls_is n =
      let z = admin_moves_is n (record { state = admin_reborn (c.admins n); lines = lines.Crash (Admin n) ∷ []; sent = [] }) (record { seats = tt; sent = tt }) in
      record { nodes = record { hosts = z.nodes.hosts; clients = z.nodes.clients; admins = z.nodes.admins; loc = z.nodes.loc }; sent = z.sent }

  pub admin_rises_is : (n : ℕ) → StepIs P S (admin_rises c n)
  admin_rises_is n =
      let z = admin_moves_is n (record { state = c.admins n; lines = lines.Restart (Admin n) (c.admins n).epoch ∷ []; sent = [] }) (record { seats = h.admins n; sent = tt }) in
      record { nodes = record { hosts = z.nodes.hosts; clients = z.nodes.clients; admins = z.nodes.admins; loc = z.nodes.loc }; sent = z.sent }

-- ---- what was sent before stays

abbrev Grows : NodeCell → NodeMoved → Type 0
Grows c m = m.cell.sent ≡ c.sent ++ m.entry.sent

pub grows : (c : NodeCell) (x : CellInput) → Grows c (node_moved c x)
grows c x = each (Grows c) c (record {
  void = sym (append-nil c.sent);
  ticks = λ n. sym (append-nil c.sent);
  servers = any_server (Grows c) c (λ i s. refl);
  database = any_database (Grows c) c (λ s. refl);
  clients = any_client (Grows c) c (λ n s. refl) (λ n. refl) (λ n. refl);
  admins = any_admin (Grows c) c (λ n s. refl) (λ n. refl) (λ n. refl);
}) x

-- ---- by rules

-- all messages of an entry are Q
said_by : (P : Node → Message → Type 0) (Q : Message → Type 0) (ms : List Message) (who : Actor) → ((n : Node) (m : Message) → P n m → Q m) → SentBy P ms who → AllByRecursion Q ms
said_by P Q ms (actors.Node n) said h = weaker_all (P n) Q ms (said n) h
said_by P Q ms actors.Clock said h = subst (AllByRecursion Q) (sym h) tt
said_by P Q ms actors.Nobody said h = subst (AllByRecursion Q) (sym h) tt

module _ (P : Node → Message → Type 0) (S : Node → Sending → Type 0) (Q : Message → Type 0) (rules : Rules P S Q) (c : NodeCell) (h : AllAre P S Q c) where
  -- what comes of an input
  record Next (m : NodeMoved) : Type 0 where
    step : StepIs P S m
    falls : (i : ℕ) → FallIs Q (m.cell.hosts i).down
    loc_fall : FallIs Q m.cell.loc.down

  heard : (place : ℕ) (m : Message) (n : Node) → IsGiven c place m n → Q m
  heard place m n g = found_at Q place c.sent m h.sent g.sent

  on_host : (i : ℕ) (s : HostStep NodeState) → HostSends (P (Server i)) (S (Server i)) s → FallIs Q s.host.down → Next (server_stepped c i s)
  on_host i s k fall = record { step = placed_is P S c h.nodes i s k; falls = all_put i (λ (j : ℕ) (x : NodeHost). FallIs Q x.down) s.host c.hosts fall h.falls; loc_fall = h.loc_fall }

  on_loc : (s : HostStep LocState) → LocSends (P Loc) s → FallIs Q s.host.down → Next (loc_stepped c s)
  on_loc s k fall = record { step = loc_placed_is P S c h.nodes s k; falls = h.falls; loc_fall = fall }

  -- a step that falls keeps its message
  served_falls : {X : Type 0} (kind : NodeKind X) (x : Host X) (clock place : ℕ) (m : Message) (o : Option Blow) → Q m → FallIs Q (served_by kind x clock place m o).host.down
  served_falls {X} kind x clock place m None q = tt
  served_falls {X} kind x clock place m (Some b) q = q

  ended_falls : {X : Type 0} (kind : NodeKind X) (x : Host X) (clock count : ℕ) (f : Begun X) (fall : Fall) (o : Outcome) → FallIs Q (Some fall) → FallIs Q (ends kind x clock count f fall o).host.down
  ended_falls {X} kind x clock count f fall comes_up q = tt
  ended_falls {X} kind x clock count f fall fails_early q = q
  ended_falls {X} kind x clock count f fall fails_midway q = tt
  ended_falls {X} kind x clock count f fall is_full q = tt

  up_fall : (o : Option Fall) → o ≡ None → FallIs Q o
  up_fall o up = subst (FallIs Q) (sym up) tt

  cut_is : (i : ℕ) (fall : Fall) → FallIs Q (Some fall) → CutMakes (P (Server i)) (S (Server i)) (Server i) (c.hosts i).state fall
  cut_is i at_rest q = tt
  cut_is i (in_step m clock b) q = rules.volumes i (durable_of (c.hosts i).state.file.lasting) (c.hosts i).state.vol m q
  cut_is i in_boot q = tt

  loc_cut_is : (fall : Fall) → FallIs Q (Some fall) → LocCutMakes (P Loc) c.loc h.nodes.loc fall
  loc_cut_is at_rest q = tt
  loc_cut_is (in_step m clock b) q = rules.locations c.loc.state m q
  loc_cut_is in_boot q = tt

  steady : (m : NodeMoved) → m.cell.hosts ≡ c.hosts → m.cell.loc ≡ c.loc → StepIs P S m → Next m
  steady m hosts loc k = record {
    step = k;
    falls = subst (λ (f : ℕ → NodeHost). (i : ℕ) → FallIs Q (f i).down) (sym hosts) h.falls;
    loc_fall = subst (λ (l : LocHost). FallIs Q l.down) (sym loc) h.loc_fall;
  }

  next : (x : CellInput) → Next (node_moved c x)
  next x = each Next c (record {
    void = steady _ refl refl (voided_is P S c h.nodes);
    ticks = λ n. steady _ refl refl (ticked_is P S c h.nodes (suc n));
    servers = record {
      serves = λ i place luck m up g. on_host i _
          (server_served (P (Server i)) (S (Server i)) (Server i) (c.hosts i) (h.nodes.hosts i) c.clock place luck m (rules.servers i _) (rules.volumes i (durable_of (c.hosts i).state.file.lasting) (c.hosts i).state.vol m (heard place m (Server i) g)))
          (served_falls (node_kind (Server i)) (c.hosts i) c.clock place m (struck (c.hosts i).armed luck _) (heard place m (Server i) g));
      crashes = λ i up. on_host i _ (server_crashed (P (Server i)) (S (Server i)) (Server i) (c.hosts i) (h.nodes.hosts i)) tt;
      stop_set = λ i calls pick up. on_host i _ (server_stop_set (P (Server i)) (S (Server i)) (Server i) (c.hosts i) (h.nodes.hosts i) calls pick) (h.falls i);
      fail_set = λ i call up. on_host i _ (server_fail_set (P (Server i)) (S (Server i)) (Server i) (c.hosts i) (h.nodes.hosts i) call) (h.falls i);
      restarts = λ i after o fall there down. on_host i _
          (server_restarted (P (Server i)) (S (Server i)) (Server i) (c.hosts i) (h.nodes.hosts i) c.clock c.count after o fall (λ boot. (rules.servers i boot).file) (cut_is i fall (subst (FallIs Q) down (h.falls i))))
          (ended_falls (node_kind (Server i)) (c.hosts i) c.clock c.count (begun_from (node_kind (Server i)) (c.hosts i).state after fall) fall (without_boot_record _ o) (subst (FallIs Q) down (h.falls i)));
      piece_late = λ i n p up is. on_host i _ (server_piece_late (P (Server i)) (S (Server i)) (Server i) (c.hosts i) (h.nodes.hosts i) c.clock n p (rules.servers i _)) tt;
      break_late = λ i n b up is. on_host i _ (server_break_late (P (Server i)) (S (Server i)) (Server i) (c.hosts i) (h.nodes.hosts i) c.clock n b (rules.servers i _)) tt;
      wakes = λ i up. on_host i _ (server_woken (P (Server i)) (S (Server i)) (Server i) (c.hosts i) (h.nodes.hosts i) c.clock (rules.servers i _)) tt;
    };
    database = record {
      serves = λ place luck m up g. on_loc _ (loc_served (P Loc) c.loc h.nodes.loc c.clock place luck m (rules.database _) (rules.locations c.loc.state m (heard place m Loc g)))
          (served_falls loc_kind c.loc c.clock place m (struck c.loc.armed luck _) (heard place m Loc g));
      crashes = λ up. on_loc _ (loc_crashed (P Loc) c.loc h.nodes.loc) tt;
      stop_set = λ calls pick up. on_loc _ (loc_stop_set (P Loc) c.loc h.nodes.loc calls pick) h.loc_fall;
      fail_set = λ call up. on_loc _ (loc_fail_set (P Loc) c.loc h.nodes.loc call) h.loc_fall;
      restarts = λ after o fall down. on_loc _ (loc_restarted (P Loc) c.loc h.nodes.loc c.clock c.count after o fall (loc_cut_is fall (subst (FallIs Q) down h.loc_fall)))
          (ended_falls loc_kind c.loc c.clock c.count (begun_from loc_kind c.loc.state after fall) fall (without_boot_record _ o) (subst (FallIs Q) down h.loc_fall));
    };
    clients = record {
      begins = λ n act up idle. steady _ refl refl (client_moves_is P S c h.nodes n _ (client_begun (P (Client n)) (Client n) (rules.clients n) (c.clients n) c.clock act));
      given = λ n place m up g. steady _ refl refl (client_moves_is P S c h.nodes n _ (client_given (P (Client n)) (Client n) (rules.clients n) (c.clients n) c.clock place m (h.nodes.clients n)));
      seek_late = λ n k up is. steady _ refl refl (client_moves_is P S c h.nodes n _ (client_seek_late (P (Client n)) (Client n) (rules.clients n) (c.clients n) k));
      late = λ n act up is. steady _ refl refl (client_moves_is P S c h.nodes n _ (client_late (P (Client n)) (Client n) (rules.clients n) (c.clients n) act));
      stops = λ n up. steady _ refl refl (client_falls_is P S c h.nodes n);
      starts = λ n away. steady _ refl refl (client_rises_is P S c h.nodes n);
    };
    admins = record {
      begins = λ n act up idle. steady _ refl refl (admin_moves_is P S c h.nodes n _ (admin_begun (P (Admin n)) (Admin n) (c.admins n) (h.nodes.admins n) act (rules.asks n (admin_begin_row (Admin n) (c.admins n) act).state)));
      given = λ n place m up g. steady _ refl refl (admin_moves_is P S c h.nodes n _ (admin_given (P (Admin n)) (Admin n) (c.admins n) (h.nodes.admins n) place m (rules.admins n _) (rules.asks n (admin_row (Admin n) (c.admins n) place (Whole m)).state)));
      late = λ n r up is. steady _ refl refl (admin_moves_is P S c h.nodes n _ (admin_late (P (Admin n)) (Admin n) (c.admins n) (h.nodes.admins n) r is (rules.asks n (admin_timeout_row (Admin n) (c.admins n) r).state)));
      stops = λ n up. steady _ refl refl (admin_falls_is P S c h.nodes n);
      starts = λ n gone. steady _ refl refl (admin_rises_is P S c h.nodes n);
    };
  }) x

  pub next_all : (x : CellInput) → AllAre P S Q (node_moved c x).cell
  next_all x =
      let k = next x in
      let m : NodeMoved = node_moved c x in
      record { nodes = k.step.nodes; falls = k.falls; loc_fall = k.loc_fall; sent = subst (AllByRecursion Q) (sym (grows c x)) (all_more Q c.sent m.entry.sent h.sent (said_by P Q m.entry.sent m.entry.actor rules.said k.step.sent)) }

  pub next_sent : (x : CellInput) → SentIs P (node_moved c x).entry
  next_sent x = (next x).step.sent

-- ---- a run

module _ (P : Node → Message → Type 0) (S : Node → Sending → Type 0) (Q : Message → Type 0) (rules : Rules P S Q) where
  pub all_are_first : (s : Script) → AllAre P S Q (node_start s)
  all_are_first s = record {
    nodes = record { hosts = λ i. record { file = record { seats = tt; kept = tt; held = tt }; seats = tt; held = tt; sendings = λ n. tt }; clients = λ n. tt; admins = λ n. tt; loc = record { seats = tt; kept = tt } };
    falls = λ i. tt;
    loc_fall = tt;
    sent = tt;
  }

  all_from : (c : NodeCell) (xs : List CellInput) → AllAre P S Q c → AllAre P S Q (cell_after c xs)
  all_from c [] h = h
  all_from c (x ∷ xs) h = all_from (node_moved c x).cell xs (next_all P S Q rules c h x)

  -- behind these inputs
  pub all_are : (s : Script) (xs : List CellInput) → AllAre P S Q (cell_after (node_start s) xs)
  all_are s xs = all_from (node_start s) xs (all_are_first s)

  sent_from : (c : NodeCell) (xs : List CellInput) (es : List Entry) (end : NodeCell) → AllAre P S Q c → NodeLeads c xs es end → AreSent P es
  sent_from c [] [] end h is = tt
  sent_from c [] (e ∷ es) end h is = absurd is
  sent_from c (x ∷ xs) [] end h is = absurd is
  sent_from c (x ∷ xs) (e ∷ es) end h is = (subst (SentIs P) (sym is.0) (next_sent P S Q rules c h x), sent_from (node_moved c x).cell xs es end (next_all P S Q rules c h x) is.1)

  pub are_sent : (s : Script) (xs : List CellInput) (es : List Entry) (end : NodeCell) → NodeLeads (node_start s) xs es end → AreSent P es
  are_sent s xs es end is = sent_from (node_start s) xs es end (all_are_first s) is
