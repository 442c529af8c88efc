-- The walk over a history: of each server that is down, it is told in the step of which message it stopped; and each change is so made.
use Rattle.std.proofs.Common.{◌≡◌, ℕ, ◌⊎◌, inl, inr, Bool, true, false, cond, eq-eqb, eqb-true, nat_eq, List, [], ◌∷◌, ◌++◌, Option, Some, None, refl, sym, ap, subst, ◌∙◌, append-nil}
use Rattle.std.specs.Option.{option_map}
use Rattle.std.specs.Prelude.{⊤, length}
use Rattle.afs_num.specs.declared.histories.Actor.{Actor}
use Rattle.afs_num.specs.declared.histories.Actor.TheVariants as actors
use Rattle.afs_num.specs.declared.histories.Version.{Version}
use Rattle.afs_num.specs.declared.messages.Message.{Message}
use Rattle.afs_num.specs.declared.types.Head.{Head}
use Rattle.afs_num.specs.declared.types.Key.{Key}
use Rattle.afs_num.specs.declared.types.Node.{Node}
use Rattle.afs_num.specs.declared.types.Node.TheVariants.{Admin, Client, Loc, Server}
use Rattle.spec_history.specs.declared.lines.Line.{Line}
use Rattle.spec_history.specs.declared.lines.Line.TheVariants as lines
use Rattle.spec_history.specs.declared.scripts.Script.{Script}
use Rattle.spec_adminrows.specs.AdminRow.{AdminState}
use Rattle.spec_copyrows.specs.Sites.{CopyState}
use Rattle.spec_ideal.specs.Operations.{changes, op, the_user, Caller}
use Rattle.spec_ideal.specs.Tables.{get, Table}
use Rattle.spec_ideal.specs.Volumes.{Volume}
use Rattle.law_legal.proofs.ServerSaves.{first_on}
use Rattle.law_legal.specs.Breaks.{HasStopped}
use Rattle.law_legal.specs.Ideal.{set_up_entry}
use Rattle.law_legal.specs.Legal.{versions_first}
use Rattle.law_legal.specs.Past.{given_message, onto, sent_of}
use Rattle.spec_model.proofs.Basics.{both, same_node-true}
use Rattle.spec_model.specs.Calls.{key_of}
use Rattle.spec_records.specs.Durable.{Stored}
use Rattle.spec_rows.specs.Hosts.{at_rest, begun_from, comes_up, ends, fails_early, fails_midway, fall_line, in_boot, in_step, is_full, restarted, served_by, struck, without_boot_record, Blow, Fall, HostStep, Outcome}
use Rattle.spec_rows.specs.LocRow.{LocState}
use Rattle.spec_rows.specs.Runs.{message_at, Entry}
use Rattle.spec_rows.specs.ServerRow.{is_client, versioned, versions_made}
use Rattle.spec_rows.specs.Steps.{Begun, Step}
use Rattle.spec_volrows.specs.NodeHosts.{node_kind, NodeHost}
use Rattle.spec_volrows.specs.VolStates.{NodeState}
use Rattle.spec_runs.specs.NodeRuns.{node_moved, node_start, server_stepped, CellInput, NodeCell, NodeLeads, NodeMoved}
use Rattle.law_walks.proofs.EachKind.{each}
use Rattle.law_walks.specs.Kinds.{Each}
use Rattle.law_places.proofs.KindTests.{changed_kind}
use Rattle.law_places.proofs.ServerLines.{volumes_of}
use Rattle.law_places.proofs.Turning.{all_lines, all_on}
use Rattle.law_latest.proofs.AdminLines as admins
use Rattle.law_latest.proofs.AdminLines.{admin_tells, AdminTells}
use Rattle.law_latest.proofs.Changing.{back_plain, piece_plain, woken_plain}
use Rattle.law_latest.proofs.ClientLines.{client_tells}
use Rattle.law_latest.proofs.CopyLines.{copy_begun_tells, copy_missed_tells, copy_tells, copy_waited_tells, CopyTells}
use Rattle.law_latest.proofs.LocLines.{database_tells, loc_crashed, loc_fail_set, loc_restarted, loc_served, loc_stop_set, LocTells}
use Rattle.law_latest.proofs.ServerLines.{is_no_change, weaker, NoChange}
use Rattle.law_changed.proofs.Changing.{restarted_tells, served_tells, HasFallen, Saves, Tells}
use Rattle.law_changed.specs.Changed.{volume_at_node, AreMadeSo, ChangesAreOperations, HasStoppedIn, IsMadeSo, IsOperation, MakeOperations}

-- ---- who tells no change

client_no_change : (l : Line) → client_tells l ≡ true → is_no_change l ≡ true
client_no_change (lines.Change n key count) h = absurd cc
client_no_change l h = refl

admin_no_change : (l : Line) → admin_tells l ≡ true → is_no_change l ≡ true
admin_no_change (lines.Change n key count) h = absurd cc
admin_no_change l h = refl

database_no_change : (l : Line) → database_tells l ≡ true → is_no_change l ≡ true
database_no_change (lines.Change n key count) h = absurd cc
database_no_change l h = refl

client_plain : (s : Step CopyState) → CopyTells s → NoChange s.lines
client_plain s h = weaker client_tells is_no_change client_no_change s.lines h.told

admin_plain : (s : Step AdminState) → AdminTells s → NoChange s.lines
admin_plain s h = weaker admin_tells is_no_change admin_no_change s.lines h.told

database_plain : (s : HostStep LocState) → LocTells s → NoChange s.lines
database_plain s h = weaker database_tells is_no_change database_no_change s.lines h.told

-- ---- lines that are so made

abbrev Having : Type 0
Having = Node → ℕ → Option Volume

module _ (had has : Having) (who : Actor) (past : List Entry) where
  plain_one : (own : List Line) (l : Line) (ls : List Line) → is_no_change l ≡ true → AreMadeSo had has who past (l ∷ own) ls → AreMadeSo had has who past own (l ∷ ls)
  plain_one own (lines.Change n key count) ls h k = absurd cc
  plain_one own l ls h k = (tt, k)

  plain_made : (own ls : List Line) → NoChange ls → AreMadeSo had has who past own ls
  plain_made own [] h = tt
  plain_made own (l ∷ ls) h = let q = both (is_no_change l) (all_lines is_no_change ls) h in plain_one own l ls q.0 (plain_made (l ∷ own) ls q.1)

  one_made : (own front next : List Line) (me : Node) (key : Key) (count : ℕ) → NoChange front → NoChange next → IsMadeSo had has who (lines.Change me key count) past (onto own front) next → AreMadeSo had has who past own (front ++ (lines.Change me key count ∷ next))
  one_made own [] next me key count h r k = (k, plain_made (lines.Change me key count ∷ own) next r)
  one_made own (l ∷ front) next me key count h r k =
      let q = both (is_no_change l) (all_lines is_no_change front) h in plain_one own l (front ++ (lines.Change me key count ∷ next)) q.0 (one_made (l ∷ own) front next me key count q.1 r k)

versioned_plain : (vs : List Version) (ls : List Line) → NoChange ls → NoChange (versioned vs ls)
versioned_plain [] ls h = h
versioned_plain (v ∷ vs) ls h = versioned_plain vs ls h

-- ---- a server's step

-- a server has this volume under a number
abbrev volume_in : ℕ → Table Stored → Option Volume
volume_in id t = option_map (λ (x : Stored). x.volume) (get id t)

module _ (had has : Having) (i : ℕ) (past : List Entry) (h : NodeState) (after : Table Stored) (ls : List Line) (before : (id : ℕ) → had (Server i) id ≡ volume_in id (volumes_of h)) (behind : (id : ℕ) → has (Server i) id ≡ volume_in id after) where
  made : (k : Saves (Server i) past h.file after ls) → IsOperation had has (Server i) (key_of k.head) (length (versions_made k.change)) past (onto [] k.front) (versioned (versions_made k.change) k.rest)
  made k =
      let first : versions_first (versioned (versions_made k.change) k.rest) ≡ versions_made k.change = first_on (versions_made k.change) k.rest k.last in
      record {
        message = k.message;
        runs = k.runs;
        to = same_node-true k.message.head.to (Server i) k.asked.to;
        key = ap (λ (x : Head). key_of x) (sym k.asked.own);
        client = subst (λ (x : Head). is_client x.from ≡ true) (sym k.asked.own) k.asked.client;
        user = k.asked.user;
        call = k.change.call;
        carries = k.asked.carries;
        id = k.change.id;
        of_volume = k.asked.of_volume;
        before = k.change.before.volume;
        found = before k.change.id ∙ ap (option_map (λ (x : Stored). x.volume)) k.chosen.found;
        read_write = eqb-true k.change.before.volume.kind 0 (changed_kind k.change.id k.change.caller k.change.call k.change.before.volume k.change.edits k.change.shown k.chosen.result);
        in_service = eqb-true k.change.before.volume.flags 0 k.chosen.flags;
        edits = k.change.edits;
        shown = k.change.shown;
        result = ap (λ (x : Caller). op k.change.id x k.change.call k.change.before.volume) (sym k.asked.caller) ∙ k.chosen.result;
        versions = first;
        number = ap length (sym first);
        left = behind k.change.id ∙ ap (option_map (λ (x : Stored). x.volume)) k.left;
      }

  step_made : Tells (Server i) past h.file after ls → AreMadeSo had has (actors.Node (Server i)) past [] ls
  step_made (inl h) = plain_made had has (actors.Node (Server i)) past [] ls h
  step_made (inr k) = subst (AreMadeSo had has (actors.Node (Server i)) past []) (sym k.split)
      (one_made had has (actors.Node (Server i)) past [] k.front (versioned (versions_made k.change) k.rest) (Server i) (key_of k.head) (length (versions_made k.change)) k.before (versioned_plain (versions_made k.change) k.rest k.behind) (refl, made k))

-- ---- what is known of a cell

record CellKnown (c : NodeCell) (past : List Entry) : Type 0 where
  sent : sent_of past ≡ c.sent
  fallen : (i : ℕ) → HasFallen (Server i) (c.hosts i).down past

record Goes (past : List Entry) (c : NodeCell) (m : NodeMoved) : Type 0 where
  good : AreMadeSo (volume_at_node c) (volume_at_node m.cell) m.entry.actor past [] m.entry.lines
  known : CellKnown m.cell (m.entry ∷ past)

-- an entry of another node changes nothing of that
fallen_on : (me : Node) (d : Option Fall) (e : Entry) (past : List Entry) → (e.actor ≡ actors.Node me → ⊥) → HasFallen me d past → HasFallen me d (e ∷ past)
fallen_on me None e past ne h = tt
fallen_on me (Some at_rest) e past ne h = tt
fallen_on me (Some (in_step m clock b)) e past ne h = inr ((λ is. absurd (ne is)), h)
fallen_on me (Some in_boot) e past ne h = tt

-- nor does a restart in which its disk fails at once
fallen_still : (me : Node) (fall : Fall) (e : Entry) (past : List Entry) → e.lines ≡ lines.Fault me ∷ [] → HasFallen me (Some fall) past → HasFallen me (Some fall) (e ∷ past)
fallen_still me at_rest e past is h = tt
fallen_still me (in_step m clock b) e past is h = inr ((λ own. is), h)
fallen_still me in_boot e past is h = tt

up_fallen : (me : Node) (d : Option Fall) (past : List Entry) → d ≡ None → HasFallen me d past
up_fallen me d past up = subst (λ (x : Option Fall). HasFallen me x past) (sym up) tt

stopped_by : (me : Node) (place : ℕ) (stops : Bool) → HasStopped me (lines.Given place ∷ fall_line me stops ∷ [])
stopped_by me place true = inl refl
stopped_by me place false = inl refl

served_fallen : (i : ℕ) (past : List Entry) (h : NodeHost) (clock place : ℕ) (m : Message) (o : Option Blow) (e : Entry) → e.actor ≡ actors.Node (Server i) → e.lines ≡ (served_by (node_kind (Server i)) h clock place m o).lines → message_at (sent_of past) place ≡ Some m
    → HasFallen (Server i) (served_by (node_kind (Server i)) h clock place m o).host.down (e ∷ past)
served_fallen i past h clock place m None e actor told at = tt
served_fallen i past h clock place m (Some b) e actor told at = inl (actor, (subst (λ (ls : List Line). given_message ls (sent_of past) ≡ Some m) (sym told) at, subst (HasStopped (Server i)) (sym told) (stopped_by (Server i) place b.stops)))

ended_fallen : (i : ℕ) (past : List Entry) (h : NodeHost) (clock count : ℕ) (f : Begun NodeState) (fall : Fall) (o : Outcome) (e : Entry) → e.lines ≡ (ends (node_kind (Server i)) h clock count f fall o).lines → HasFallen (Server i) (Some fall) past
    → HasFallen (Server i) (ends (node_kind (Server i)) h clock count f fall o).host.down (e ∷ past)
ended_fallen i past h clock count f fall comes_up e told fell = tt
ended_fallen i past h clock count f fall fails_early e told fell = fallen_still (Server i) fall e past told fell
ended_fallen i past h clock count f fall fails_midway e told fell = tt
ended_fallen i past h clock count f fall is_full e told fell = tt

apart : (i j : ℕ) → nat_eq i j ≡ false → actors.Node (Server i) ≡ actors.Node (Server j) → ⊥
apart i j h e = let same : i ≡ j = cc in let yes : nat_eq i j ≡ true = subst (λ (k : ℕ). nat_eq i k ≡ true) same (eq-eqb i i refl) in absurd cc

at_put : (i j : ℕ) (b : Bool) (P : ℕ → NodeHost → Type 0) (x y : NodeHost) → nat_eq i j ≡ b → P i x → (nat_eq i j ≡ false → P j y) → P j (cond b x y)
at_put i j true P x y e h k = subst (λ (n : ℕ). P n x) (eqb-true i j e) h
at_put i j false P x y e h k = k e

module _ (c : NodeCell) (past : List Entry) (k : CellKnown c past) where
  -- a server's step
  server_goes : (i : ℕ) (s : HostStep NodeState) → Tells (Server i) past (c.hosts i).state.file (volumes_of s.host.state) s.lines → HasFallen (Server i) s.host.down ((server_stepped c i s).entry ∷ past) → Goes past c (server_stepped c i s)
  server_goes i s told fell = record {
    good = step_made (volume_at_node c) (volume_at_node (server_stepped c i s).cell) i past (c.hosts i).state (volumes_of s.host.state) s.lines (λ id. refl)
        (λ id. ap (λ (b : Bool). volume_in id (volumes_of (cond b s.host (c.hosts i)).state)) (eq-eqb i i refl)) told;
    known = record {
      sent = ap (λ (ms : List Message). ms ++ s.sent) k.sent;
      fallen = λ j. at_put i j (nat_eq i j) (λ (n : ℕ) (x : NodeHost). HasFallen (Server n) x.down ((server_stepped c i s).entry ∷ past)) s.host (c.hosts j) refl fell (λ other. fallen_on (Server j) (c.hosts j).down (server_stepped c i s).entry past (apart i j other) (k.fallen j));
    };
  }

  -- one of another node
  other_goes : (m : NodeMoved) → m.cell.hosts ≡ c.hosts → m.cell.sent ≡ c.sent ++ m.entry.sent → ((i : ℕ) → m.entry.actor ≡ actors.Node (Server i) → ⊥) → NoChange m.entry.lines → Goes past c m
  other_goes m hosts sent ne plain = record {
    good = plain_made (volume_at_node c) (volume_at_node m.cell) m.entry.actor past [] m.entry.lines plain;
    known = record {
      sent = ap (λ (ms : List Message). ms ++ m.entry.sent) k.sent ∙ sym sent;
      fallen = λ j. subst (λ (f : ℕ → NodeHost). HasFallen (Server j) (f j).down (m.entry ∷ past)) (sym hosts) (fallen_on (Server j) (c.hosts j).down m.entry past (ne j) (k.fallen j));
    };
  }

  goes_each : Each (Goes past c) c
  goes_each = record {
    void = other_goes _ refl (sym (append-nil c.sent)) (λ i e. absurd cc) refl;
    ticks = λ n. other_goes _ refl (sym (append-nil c.sent)) (λ i e. absurd cc) refl;
    servers = record {
      serves = λ i place luck m up g.
          let at : message_at (sent_of past) place ≡ Some m = ap (λ (ms : List Message). message_at ms place) k.sent ∙ g.sent in
          server_goes i _ (served_tells (Server i) past (c.hosts i) c.clock place m (struck (c.hosts i).armed luck _) at) (served_fallen i past (c.hosts i) c.clock place m (struck (c.hosts i).armed luck _) _ refl refl at);
      crashes = λ i up. server_goes i _ (inl refl) tt;
      stop_set = λ i calls pick up. server_goes i _ (inl refl) (up_fallen (Server i) (c.hosts i).down _ up.up);
      fail_set = λ i call up. server_goes i _ (inl refl) (up_fallen (Server i) (c.hosts i).down _ up.up);
      restarts = λ i after o fall there down.
          let fell : HasFallen (Server i) (Some fall) past = subst (λ (d : Option Fall). HasFallen (Server i) d past) down (k.fallen i) in
          server_goes i _ (restarted_tells (Server i) past (c.hosts i) c.clock c.count after o fall fell)
          (ended_fallen i past (c.hosts i) c.clock c.count (begun_from (node_kind (Server i)) (c.hosts i).state after fall) fall (without_boot_record ((node_kind (Server i)).can_start (begun_from (node_kind (Server i)) (c.hosts i).state after fall).state) o) _ refl fell);
      piece_late = λ i n p up is. server_goes i _ (inl (piece_plain (Server i) (c.hosts i) c.clock n p)) tt;
      break_late = λ i n b up is. server_goes i _ (inl (back_plain (Server i) (c.hosts i) c.clock n b)) tt;
      wakes = λ i up. server_goes i _ (inl (woken_plain (Server i) (c.hosts i) c.clock)) tt;
    };
    database = record {
      serves = λ place luck m up g. other_goes _ refl refl (λ i e. absurd cc) (database_plain _ (loc_served c.loc c.clock place luck m));
      crashes = λ up. other_goes _ refl refl (λ i e. absurd cc) (database_plain _ (loc_crashed c.loc));
      stop_set = λ calls pick up. other_goes _ refl refl (λ i e. absurd cc) (database_plain _ (loc_stop_set c.loc calls pick));
      fail_set = λ call up. other_goes _ refl refl (λ i e. absurd cc) (database_plain _ (loc_fail_set c.loc call));
      restarts = λ after o fall down. other_goes _ refl refl (λ i e. absurd cc) (database_plain _ (loc_restarted c.loc c.clock c.count after o fall));
    };
    clients = record {
      begins = λ n act up idle. other_goes _ refl refl (λ i e. absurd cc) (client_plain _ (copy_begun_tells (Client n) (c.clients n) c.clock act));
      given = λ n place m up g. other_goes _ refl refl (λ i e. absurd cc) (client_plain _ (copy_tells (Client n) (c.clients n) c.clock place m));
      seek_late = λ n q up is. other_goes _ refl refl (λ i e. absurd cc) (client_plain _ (copy_missed_tells (Client n) (c.clients n) q));
      late = λ n act up is. other_goes _ refl refl (λ i e. absurd cc) (client_plain _ (copy_waited_tells (Client n) (c.clients n) act));
      stops = λ n up. other_goes _ refl refl (λ i e. absurd cc) refl;
      starts = λ n away. other_goes _ refl refl (λ i e. absurd cc) refl;
    };
    admins = record {
      begins = λ n act up idle. other_goes _ refl refl (λ i e. absurd cc) (admin_plain _ (admins.begun_tells (Admin n) (c.admins n) act));
      given = λ n place m up g. other_goes _ refl refl (λ i e. absurd cc) (admin_plain _ (admins.given_tells (Admin n) (c.admins n) place m));
      late = λ n r up is. other_goes _ refl refl (λ i e. absurd cc) (admin_plain _ (admins.waited_tells (Admin n) (c.admins n) r));
      stops = λ n up. other_goes _ refl refl (λ i e. absurd cc) refl;
      starts = λ n gone. other_goes _ refl refl (λ i e. absurd cc) refl;
    };
  }

-- ---- a run

goes_on : (c : NodeCell) (xs : List CellInput) (history : List Entry) (end : NodeCell) (past : List Entry) → NodeLeads c xs history end → CellKnown c past → MakeOperations c xs past history
goes_on c [] [] end past is k = tt
goes_on c [] (e ∷ es) end past is k = absurd is
goes_on c (x ∷ xs) [] end past is k = absurd is
goes_on c (x ∷ xs) (e ∷ es) end past is k =
    let m : NodeMoved = node_moved c x in
    let g : Goes past c m = each (Goes past c) c (goes_each c past k) x in
    subst (λ (y : Entry). MakeOperations c (x ∷ xs) past (y ∷ es)) (sym is.0) (g.good, goes_on m.cell xs es end (m.entry ∷ past) is.1 g.known)

pub changes_made : ChangesAreOperations
changes_made s inputs history end leads = goes_on (node_start s) inputs history end (set_up_entry s ∷ []) leads (record { sent = refl; fallen = λ i. tt })
