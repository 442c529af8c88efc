-- Each entry of a run is of a node of its script, and no server begins a boot twice: so the runs are legal.
use Rattle.spec_rows.specs.LocSteps.{loc_kind}
use Rattle.spec_rows.specs.LocRow.{LocState}
use Rattle.law_legal.proofs.BaseLaws.{at_put}
use Rattle.law_legal.proofs.ServerBoots.{HaveRisen}
use Rattle.law_legal.proofs.ServerHearsInRuns.{hears_at}
use Rattle.law_legal.proofs.RunSetUp.{AreEntries}
use Rattle.law_legal.specs.Ideal.{set_up_entry}
use Rattle.law_legal.specs.Legal.{IsOfScript}
use Rattle.law_legal.specs.Once.{past_of}
use Rattle.spec_history.specs.declared.acts.Act.{Act}
use Rattle.spec_history.specs.declared.lines.Line.{Line}
use Rattle.spec_history.specs.declared.lines.Line.TheVariants as lines
use Rattle.spec_history.specs.declared.scripts.Script.{Script}
use Rattle.afs_num.specs.declared.messages.Message.{Message}
use Rattle.afs_num.specs.declared.types.Node.{Node}
use Rattle.afs_num.specs.declared.types.Node.TheVariants.{Admin, Client, Loc, Server}
use Rattle.spec_rows.specs.Callbacks.{put}
use Rattle.spec_rows.specs.Going.{Going, Seek}
use Rattle.law_legal.proofs.RunSteps.{calls_at}
use Rattle.spec_rows.specs.Steps.{Begun}
use Rattle.spec_rows.specs.Hosts.{sets, crashed, restarted, set_to_fail, set_to_stop, HostStep, served}
use Rattle.spec_rows.specs.ServerHosts.{can_start}
use Rattle.spec_rows.specs.Runs.{Armed, Blow, Cell, Entry, Fall, Input, Leads, Luck, Moved, Outcome, RunsTo, back_timed, begins, begun_by, begun_by_disk, client_starts, client_stops, comes_up, fails_early, fails_midway, given_at, given_to, gives, has_client, has_host, is_away, is_full, message_at, moved, nothing, server_armed, server_ends, server_given, server_restarted, server_served, server_stopped, server_timed, server_waits, server_wakes, sets_fail, sets_stop, without_boot_record, start, starts_again, stops, struck, ticks, voided, waited_by, waits, wakes, loc_stepped, loc_restarted, loc_up, sought_for}
use Rattle.spec_rows.specs.States.{BackCall, ServerState}
use Rattle.spec_rows.specs.ClientRow.{act_of}
use Rattle.spec_rows.specs.LocRow.{LocState}
use Rattle.spec_rows.specs.LocSteps.{loc_kind}
use Rattle.std.proofs.Common.{zero, suc, ◌≡◌, ℕ, ◌<◌, ◌≤◌, arith, ltb-true, Bool, true, false, cond, List, [], ◌∷◌, Option, Some, None, refl, sym, subst, ◌∙◌}
use Rattle.std.specs.Prelude.{not, ◌||◌}

-- ---- the cell has the nodes of the script

record HasNodes (s : Script) (c : Cell) : Type 0 where
  clients : c.count ≡ s.clients
  servers : c.host_count ≡ s.servers
  -- those that stopped are some of them
  away : (j : ℕ) → c.away j ≡ true → has_client c.count j ≡ true

record Stays (s : Script) (m : Moved) : Type 0 where
  of : IsOfScript s m.entry.actor
  nodes : HasNodes s m.cell

is_client : (s : Script) (c : Cell) (n : ℕ) → HasNodes s c → has_client c.count n ≡ true → (1 ≤ n) × (n ≤ s.clients)
is_client s c zero H e = absurd cc
is_client s c (suc n) H e = let l : n < c.count = ltb-true n c.count e in let same : c.count ≡ s.clients = H.clients in (omega arith, omega arith)

is_server : (s : Script) (c : Cell) (i : ℕ) → HasNodes s c → has_host c i ≡ true → (1 ≤ i) × (i ≤ s.servers)
is_server s c zero H e = absurd cc
is_server s c (suc i) H e = let l : i < c.host_count = ltb-true i c.host_count e in let same : c.host_count ≡ s.servers = H.servers in (omega arith, omega arith)

void_stays : (s : Script) (c : Cell) → HasNodes s c → Stays s (voided c)
void_stays s c H = record { of = tt; nodes = H }

-- ---- where the node is looked for

if_there : (s : Script) (c : Cell) (t : Bool) (m : Moved) → HasNodes s c → (t ≡ true → Stays s m) → Stays s (cond t m (voided c))
if_there s c true m H w = w refl
if_there s c false m H w = void_stays s c H

up_client : (h a : Bool) → (not h || a) ≡ false → h ≡ true
up_client true a e = refl
up_client false a e = absurd cc

unless_away : (s : Script) (c : Cell) (t : Bool) (m : Moved) → HasNodes s c → (t ≡ false → Stays s m) → Stays s (cond t (voided c) m)
unless_away s c true m H w = void_stays s c H
unless_away s c false m H w = w refl

-- a client that is up
if_client : (s : Script) (c : Cell) (n : ℕ) (m : Moved) → HasNodes s c → ((1 ≤ n) × (n ≤ s.clients) → has_client c.count n ≡ true → Stays s m) → Stays s (cond (is_away c n) (voided c) m)
if_client s c n m H w = unless_away s c (is_away c n) m H (λ e. let h : has_client c.count n ≡ true = up_client (has_client c.count n) (c.away n) e in w (is_client s c n H h) h)

if_server : (s : Script) (c : Cell) (i : ℕ) (m : Moved) → HasNodes s c → ((1 ≤ i) × (i ≤ s.servers) → Stays s m) → Stays s (cond (has_host c i) m (voided c))
if_server s c i m H w = if_there s c (has_host c i) m H (λ e. w (is_server s c i H e))

-- ---- every step

kept : (s : Script) (c d : Cell) → d.count ≡ c.count → d.host_count ≡ c.host_count → d.away ≡ c.away → HasNodes s c → HasNodes s d
kept s c d a b e H = record { clients = a ∙ H.clients; servers = b ∙ H.servers; away = rw (a, e) H.away }

served_stays : (s : Script) (c : Cell) (i place : ℕ) (m : Message) (b : Option Blow) → HasNodes s c → (1 ≤ i) × (i ≤ s.servers) → Stays s (server_served c i place m b)
served_stays s c i place m None H is = record { of = is; nodes = kept s c _ refl refl refl H }
served_stays s c i place m (Some b) H is = record { of = is; nodes = kept s c _ refl refl refl H }

received_stays : (s : Script) (c : Cell) (i place : ℕ) (luck : Luck) (m : Message) (d : Option Fall) → HasNodes s c → (1 ≤ i) × (i ≤ s.servers) → Stays s (server_given c i place luck m d)
received_stays s c i place luck m None H is = served_stays s c i place m (struck (c.hosts i).armed luck (calls_at c i m)) H is
received_stays s c i place luck m (Some fall) H is = void_stays s c H

-- whatever the location database does
loc_stays : (s : Script) (c : Cell) (st : HostStep LocState) → HasNodes s c → Stays s (loc_stepped c st)
loc_stays s c st H = record { of = tt; nodes = kept s c _ refl refl refl H }

loc_up_stays : (s : Script) (c : Cell) (st : HostStep LocState) (d : Option Fall) → HasNodes s c → Stays s (loc_up c st d)
loc_up_stays s c st None H = loc_stays s c st H
loc_up_stays s c st (Some fall) H = void_stays s c H

loc_restarted_stays : (s : Script) (c : Cell) (after : Bool) (out : Outcome) (d : Option Fall) → HasNodes s c → Stays s (loc_restarted c after out d)
loc_restarted_stays s c after out None H = void_stays s c H
loc_restarted_stays s c after out (Some fall) H = loc_stays s c (restarted loc_kind c.loc c.clock c.count after out fall) H

to_stays : (s : Script) (c : Cell) (place : ℕ) (luck : Luck) (m : Message) (to : Node) → HasNodes s c → Stays s (given_to c place luck m to)
to_stays s c place luck m (Server i) H = if_server s c i _ H (λ is. received_stays s c i place luck m (c.hosts i).down H is)
to_stays s c place luck m (Client n) H = if_client s c n _ H (λ is up. record { of = is; nodes = kept s c _ refl refl refl H })
to_stays s c place luck m Loc H = loc_up_stays s c (served loc_kind c.loc c.clock place luck m) c.loc.down H
to_stays s c place luck m (Admin n) H = void_stays s c H

at_stays : (s : Script) (c : Cell) (place : ℕ) (luck : Luck) (m : Option Message) → HasNodes s c → Stays s (given_at c place luck m)
at_stays s c place luck None H = void_stays s c H
at_stays s c place luck (Some m) H = to_stays s c place luck m m.head.to H

begun_stays : (s : Script) (c : Cell) (n : ℕ) (act : Act) (g : Option Going) → HasNodes s c → (1 ≤ n) × (n ≤ s.clients) → Stays s (begun_by c n act g)
begun_stays s c n act None H is = record { of = is; nodes = kept s c _ refl refl refl H }
begun_stays s c n act (Some g) H is = void_stays s c H

missed_stays : (s : Script) (c : Cell) (n : ℕ) (k : Option Seek) → HasNodes s c → (1 ≤ n) × (n ≤ s.clients) → Stays s (sought_for c n k)
missed_stays s c n None H is = void_stays s c H
missed_stays s c n (Some k) H is = record { of = is; nodes = kept s c _ refl refl refl H }

waited_stays : (s : Script) (c : Cell) (n : ℕ) (g : Option Going) → HasNodes s c → (1 ≤ n) × (n ≤ s.clients) → Stays s (waited_by c n g)
waited_stays s c n None H is = missed_stays s c n (c.clients n).seeking H is
waited_stays s c n (Some g) H is = record { of = is; nodes = kept s c _ refl refl refl H }

turned_nodes : (s : Script) (c d : Cell) (n : ℕ) (t : Bool) → d.count ≡ c.count → d.host_count ≡ c.host_count → d.away ≡ put n t c.away → has_client c.count n ≡ true → HasNodes s c → HasNodes s d
turned_nodes s c d n t a b e there H = record {
  clients = a ∙ H.clients;
  servers = b ∙ H.servers;
  away = rw (a, e) (λ j. at_put n j (λ (x : Bool). x ≡ true → has_client c.count j ≡ true) t c.away (λ same q. subst (λ (k : ℕ). has_client c.count k ≡ true) same there) (λ other. H.away j));
}

stopped_stays : (s : Script) (c : Cell) (i : ℕ) (d : Option Fall) → HasNodes s c → (1 ≤ i) × (i ≤ s.servers) → Stays s (server_stopped c i d)
stopped_stays s c i None H is = record { of = is; nodes = kept s c _ refl refl refl H }
stopped_stays s c i (Some fall) H is = void_stays s c H

ends_stays : (s : Script) (c : Cell) (i : ℕ) (f : Begun ServerState) (fall : Fall) (out : Outcome) → HasNodes s c → (1 ≤ i) × (i ≤ s.servers) → Stays s (server_ends c i f fall out)
ends_stays s c i f fall comes_up H is = record { of = is; nodes = kept s c _ refl refl refl H }
ends_stays s c i f fall fails_early H is = record { of = is; nodes = kept s c _ refl refl refl H }
ends_stays s c i f fall fails_midway H is = record { of = is; nodes = kept s c _ refl refl refl H }
ends_stays s c i f fall is_full H is = record { of = is; nodes = kept s c _ refl refl refl H }

restarted_stays : (s : Script) (c : Cell) (i : ℕ) (after : Bool) (out : Outcome) (d : Option Fall) → HasNodes s c → (1 ≤ i) × (i ≤ s.servers) → Stays s (server_restarted c i after out d)
restarted_stays s c i after out None H is = void_stays s c H
restarted_stays s c i after out (Some fall) H is = ends_stays s c i (begun_by_disk (Server i) (c.hosts i).state after fall) fall (without_boot_record (can_start (begun_by_disk (Server i) (c.hosts i).state after fall).state) out) H is

armed_stays : (s : Script) (c : Cell) (i : ℕ) (l : Line) (armed : Armed) (d : Option Fall) → HasNodes s c → (1 ≤ i) × (i ≤ s.servers) → Stays s (server_armed c i (sets (c.hosts i) l armed) d)
armed_stays s c i l armed None H is = record { of = is; nodes = kept s c _ refl refl refl H }
armed_stays s c i l armed (Some fall) H is = void_stays s c H

back_stays : (s : Script) (c : Cell) (i : ℕ) (n : Node) (b : Option BackCall) → HasNodes s c → (1 ≤ i) × (i ≤ s.servers) → Stays s (back_timed c i n b)
back_stays s c i n None H is = void_stays s c H
back_stays s c i n (Some b) H is = record { of = is; nodes = kept s c _ refl refl refl H }

timed_stays : (s : Script) (c : Cell) (i : ℕ) (n : Node) (d : Option Fall) → HasNodes s c → (1 ≤ i) × (i ≤ s.servers) → Stays s (server_timed c i n d)
timed_stays s c i n None H is = back_stays s c i n ((c.hosts i).state.backs.calls n) H is
timed_stays s c i n (Some fall) H is = void_stays s c H

woken_stays : (s : Script) (c : Cell) (i : ℕ) (d : Option Fall) → HasNodes s c → (1 ≤ i) × (i ≤ s.servers) → Stays s (server_wakes c i d)
woken_stays s c i None H is = record { of = is; nodes = kept s c _ refl refl refl H }
woken_stays s c i (Some fall) H is = void_stays s c H

moved_stays : (s : Script) (c : Cell) (x : Input) → HasNodes s c → Stays s (moved c x)
unfolding moved
moved_stays s c (begins n act) H = if_client s c n _ H (λ is up. begun_stays s c n act (act_of (c.clients n)) H is)
moved_stays s c (gives place luck) H = at_stays s c place luck (message_at c.sent place) H
moved_stays s c (waits n) H = if_client s c n _ H (λ is up. waited_stays s c n (c.clients n).running H is)
moved_stays s c (ticks zero) H = void_stays s c H
moved_stays s c (ticks (suc n)) H = record { of = tt; nodes = kept s c _ refl refl refl H }
moved_stays s c (client_stops n) H = if_client s c n _ H (λ is up. record { of = is; nodes = turned_nodes s c _ n true refl refl refl up H })
moved_stays s c (client_starts n) H = if_there s c (c.away n) _ H (λ e. let up : has_client c.count n ≡ true = H.away n e in record { of = is_client s c n H up; nodes = turned_nodes s c _ n false refl refl refl up H })
moved_stays s c (stops zero) H = loc_up_stays s c (crashed loc_kind c.loc) c.loc.down H
moved_stays s c (stops (suc i)) H = if_server s c (suc i) _ H (λ is. stopped_stays s c (suc i) (c.hosts (suc i)).down H is)
moved_stays s c (starts_again zero after out) H = loc_restarted_stays s c after out c.loc.down H
moved_stays s c (starts_again (suc i) after out) H = if_server s c (suc i) _ H (λ is. restarted_stays s c (suc i) after out (c.hosts (suc i)).down H is)
moved_stays s c (sets_stop zero calls pick) H = loc_up_stays s c (set_to_stop loc_kind c.loc calls pick) c.loc.down H
moved_stays s c (sets_stop (suc i) calls pick) H = if_server s c (suc i) _ H (λ is. armed_stays s c (suc i) (lines.Stop (Server (suc i)) calls pick) _ (c.hosts (suc i)).down H is)
moved_stays s c (sets_fail zero call) H = loc_up_stays s c (set_to_fail loc_kind c.loc call) c.loc.down H
moved_stays s c (sets_fail (suc i) call) H = if_server s c (suc i) _ H (λ is. armed_stays s c (suc i) (lines.Fail (Server (suc i)) call) _ (c.hosts (suc i)).down H is)
moved_stays s c (server_waits i n) H = if_server s c i _ H (λ is. timed_stays s c i n (c.hosts i).down H is)
moved_stays s c (wakes i) H = if_server s c i _ H (λ is. woken_stays s c i (c.hosts i).down H is)
moved_stays s c nothing H = void_stays s c H

-- ---- a run

-- the entries before one have risen too
risen_back : (past es : List Entry) → HaveRisen (past_of past es) → HaveRisen past
risen_back past [] h = h
risen_back past (e ∷ es) h = (risen_back (e ∷ past) es h).1

run_sound : (s : Script) (xs : List Input) (c : Cell) (past es : List Entry) (end : Cell) → HasNodes s c → Leads c xs es end → HaveRisen (past_of past es) → AreEntries s past es
run_sound s [] c past [] end H r h = tt
run_sound s [] c past (e ∷ es) end H r h = absurd r
run_sound s (x ∷ xs) c past [] end H r h = absurd r
run_sound s (x ∷ xs) c past (e ∷ es) end H r h =
    let m : Stays s (moved c x) = moved_stays s c x H in
    ((subst (λ (y : Entry). IsOfScript s y.actor) (sym r.0) m.of, (risen_back (e ∷ past) es h).0), run_sound s xs (moved c x).cell (e ∷ past) es end m.nodes r.1 h)

-- of any script
pub run_entries : (s : Script) (h : List Entry) (end : Cell) → RunsTo h s end → AreEntries s (set_up_entry s ∷ []) h
run_entries s h end r = run_sound s r.inputs (start s) (set_up_entry s ∷ []) h end (record { clients = refl; servers = refl; away = λ j e. absurd cc }) r.leads (hears_at s h end r).boots.risen
