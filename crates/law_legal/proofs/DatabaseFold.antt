-- In every run of a script of a cell, what the location database keeps is the fold of its journal's records: for what it is given was sent by
-- nodes of the cell.
use Rattle.law_legal.proofs.RunMembers.{run_entries}
use Rattle.law_legal.proofs.ServerHearsInRuns.{hears_at}
use Rattle.law_legal.proofs.DatabaseEvents.{IsAtFall, WereSent, run_fall}
use Rattle.afs_num.specs.declared.types.Node.{Node}
use Rattle.law_legal.proofs.RunSetUp.{AreEntries}
use Rattle.law_legal.specs.Legal.{IsOfScript}
use Rattle.law_legal.specs.Ideal.{set_up_entry}
use Rattle.afs_num.specs.declared.messages.Message.{Message}
use Rattle.law_legal.proofs.RunMessages.{run_own}
use Rattle.spec_history.specs.declared.scripts.Script.{Script}
use Rattle.spec_rows.specs.LocRow.{LocLasting, loc_durable_of}
use Rattle.law_legal.specs.Past.{sent_of}
use Rattle.afs_num.specs.Nodes.{IsNode}
use Rattle.law_legal.specs.Parts.{EachEntry, EachSent, IsOwn}
use Rattle.afs_num.specs.declared.messages.Received.TheVariants.{Nothing, Unserved, Whole, Unreadable}
use Rattle.law_legal.specs.Once.{past_of}
use Rattle.afs_num.specs.declared.types.Node.TheVariants.{Client, Server, Admin, Loc}
use Rattle.law_legal.proofs.DatabaseJournal.{journal_folded}
use Rattle.law_legal.specs.DatabaseRuns.{IsBehindEvents, AreOfNodes, LocEvent, begins_again, is_given, LocKeepsItsJournal}
use Rattle.law_legal.proofs.BaseLaws.{each_at, each_more, Each}
use Rattle.spec_rows.specs.Runs.{Cell, Entry, RunsTo, start}
use Rattle.std.proofs.Common.{refl, arith, ◌≡◌, ◌≤◌, ◌+◌, ◌-◌, ℕ, List, [], ◌∷◌, ◌++◌, Bool, true, false, nat_eq, nat_le, Option, Some, None, sym, ap, subst, ◌∙◌}
use Rattle.std.proofs.lemmas.Bool.{ne_eqb, le-leb, lt-leb}
use Rattle.afs_num.specs.declared.histories.Actor.TheVariants as actors

-- ---- nodes of the cell

server_is_node : (n : ℕ) → 1 ≤ n → n ≤ 8 → IsNode (Server n)
server_is_node n low high =
    let some : nat_eq n 0 ≡ false = ne_eqb n 0 (λ e. absurd (omega (arith, e, low))) in
    let one : nat_le 1 n ≡ true = le-leb 1 n low in
    let eight : nat_le n 8 ≡ true = le-leb n 8 high in
    rw (some, one, eight) refl

client_is_node : (n : ℕ) → 1 ≤ n → n ≤ 16 → IsNode (Client n)
client_is_node n low high =
    let some : nat_eq (100 + n) 0 ≡ false = ne_eqb (100 + n) 0 (λ e. absurd (omega (arith, e))) in
    let one : nat_le 1 (100 + n) ≡ true = le-leb 1 (100 + n) (omega arith) in
    let eight : nat_le (100 + n) 8 ≡ false = lt-leb (100 + n) 8 (omega arith) in
    let first : nat_le 101 (100 + n) ≡ true = le-leb 101 (100 + n) (omega (arith, low)) in
    let last : nat_le (100 + n) 116 ≡ true = le-leb (100 + n) 116 (omega (arith, high)) in
    let same : 100 + n - 100 ≡ n = omega arith in
    rw (some, one, eight, first, last, same) refl

actor_node : (s : Script) (n : Node) → s.servers ≤ 8 → s.clients ≤ 16 → IsOfScript s (actors.Node n) → IsNode n
actor_node s Loc few less h = refl
actor_node s (Server i) few less h = let low : 1 ≤ i = h.0 in let high : i ≤ s.servers = h.1 in server_is_node i low (omega (arith, few, high))
actor_node s (Client j) few less h = let low : 1 ≤ j = h.0 in let high : j ≤ s.clients = h.1 in client_is_node j low (omega (arith, less, high))
actor_node s (Admin k) few less h = absurd h

-- ---- what is sent is theirs

abbrev OfNode : Message → Type 0
OfNode m = IsNode m.head.from

entry_nodes : (s : Script) (e : Entry) (past : List Entry) (ms : List Message) → s.servers ≤ 8 → s.clients ≤ 16 → IsOfScript s e.actor → EachSent IsOwn (e ∷ past) ms → Each OfNode ms
entry_nodes s e past [] few less of h = tt
entry_nodes s e past (m ∷ ms) few less of h = (actor_node s m.head.from few less (subst (IsOfScript s) h.0.0 of), entry_nodes s e past ms few less of h.1)

nodes_from : (s : Script) (past es : List Entry) → s.servers ≤ 8 → s.clients ≤ 16 → AreEntries s past es → EachEntry (λ past e. EachSent IsOwn (e ∷ past) e.sent) past es → Each OfNode (sent_of past) → Each OfNode (sent_of (past_of past es))
nodes_from s past [] few less a o h = h
nodes_from s past (e ∷ es) few less a o h = nodes_from s (e ∷ past) es few less a.1 o.1 (each_more OfNode (sent_of past) e.sent h (entry_nodes s e past e.sent few less a.0.0 o.0))

run_nodes : (s : Script) (h : List Entry) (end : Cell) → s.servers ≤ 8 → s.clients ≤ 16 → RunsTo h s end → Each OfNode end.sent
run_nodes s h end few less r = subst (Each OfNode) (hears_at s h end r).told (nodes_from s (set_up_entry s ∷ []) h few less (run_entries s h end r) (run_own s h end r) tt)

events_nodes : (sent : List Message) (es : List LocEvent) → Each OfNode sent → WereSent sent es → AreOfNodes es
events_nodes sent [] h w = tt
events_nodes sent (is_given Nothing ∷ es) h w = absurd w
events_nodes sent (is_given (Unserved head) ∷ es) h w = absurd w
events_nodes sent (is_given (Unreadable head) ∷ es) h w = absurd w
events_nodes sent (is_given (Whole m) ∷ es) h w = (each_at OfNode sent w.0.0 m w.0.1 h, events_nodes sent es h w.1)
events_nodes sent (begins_again ∷ es) h w = events_nodes sent es h w

pub run_journal : LocKeepsItsJournal
run_journal s h end cell less r =
    let k : IsAtFall end.sent (past_of (set_up_entry s ∷ []) h) (start s).loc.state end.loc = run_fall s h end r in
    let b : IsBehindEvents (past_of (set_up_entry s ∷ []) h) (start s).loc.state end.loc = k.behind in
    record {
      events = b.events;
      half = b.half;
      given = b.given;
      folded = journal_folded.0 (start s).loc.state b.events (journal_folded.1 s) (events_nodes end.sent b.events (run_nodes s h end cell.servers less r) k.had) ∙ ap (λ (l : LocLasting). Some (loc_durable_of l)) (sym b.lasting);
    }
