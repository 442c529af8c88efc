-- What a step draws, as the node and its store show it.
use Rattle.std.proofs.Common.{◌≡◌, ◌≤◌, ◌+◌, ℕ, zero, suc, Bool, true, false, cond, List, [], ◌∷◌, length, refl, sym, ap, subst, ◌∙◌, arith}
use Rattle.std.specs.Prelude.{nat_lt}
use Rattle.std.specs.List.{All}
use Rattle.afs_num.specs.declared.types.Node.{Node}
use Rattle.afs_num.specs.declared.types.Node.TheVariants.{Client}
use Rattle.spec_history.specs.declared.lines.Line.{Line}
use Rattle.spec_history.specs.declared.lines.Outs.{Outs}
use Rattle.spec_breaks.specs.Promises.{expired, no_lists, owes_all, Lists}
use Rattle.spec_breaks.specs.declared.types.OwedBreak.{OwedBreak}
use Rattle.spec_rows.specs.Callbacks as row
use Rattle.spec_rows.specs.Callbacks.{ends_all, owed_to_clients, call_timed_out}
use Rattle.spec_rows.specs.ServerSteps.{stepped}
use Rattle.spec_rows.specs.States.{BackCall, Backs, ServerState}
use Rattle.afs_server_parts.specs.Turning.{IsBreakToNode}
use Rattle.afs_volstore.specs.Stores.{Store}
use Rattle.afs_callbacks.specs.Waiting.{lists_timed}
use Rattle.afs_server.specs.Handling.{Makes}
use Rattle.afs_server.specs.Seen.{Memory}
use Rattle.afs_callbacks.proofs.Drawing.{pumped_draws, pumped_lists}
use Rattle.afs_callbacks.proofs.Lasting.{ended_promises, lasting_to_nodes, timed_to_nodes}
use Rattle.afs_callbacks.proofs.Timed.{timed_last, timed_lists}
use Rattle.afs_sharing.proofs.Drawn.{breaks_drawn, expired_draws}

-- the lists after a step
pub lists_after : {D : Type 0} (me : Node) (state : ServerState) (ls before : List Line) (t : row.CallbackStep) (m : Memory) (s : Store D) (outs : Outs) → Makes (stepped me state ls t) before m s outs → m.lists ≡ t.backs.lists
lists_after {D} me state ls before t m s outs made = ap (λ (x : ServerState). x.backs.lists) made.state ∙ pumped_lists me state.lasting.boot t

-- and the last number of a call
pub drawn_after : {D : Type 0} (me : Node) (state : ServerState) (ls before : List Line) (t : row.CallbackStep) (m : Memory) (s : Store D) (outs : Outs) → Makes (stepped me state ls t) before m s outs →
    All IsBreakToNode t.backs.lists.owed → s.drawn ≤ t.backs.last_call + 29
drawn_after {D} me state ls before t m s outs made to =
    let drawn = ap (λ (x : ServerState). x.backs.last_call) made.state in
    let most = pumped_draws me state.lasting.boot t to in
    omega (arith, drawn, most)

-- ---- the numbers of breaks, with the promises that may become breaks

-- breaks that end draw none
ended_last : (bs : List OwedBreak) (l : Lists) → (ends_all bs l).last_owed ≡ l.last_owed
ended_last [] l = refl
ended_last (b ∷ bs) l = ended_last bs _

pub ended_draws : (bs : List OwedBreak) (l : Lists) → breaks_drawn (ends_all bs l) ≡ breaks_drawn l
ended_draws bs l = let last = ended_last bs l in let same = ap length (ended_promises bs l) in omega (arith, last, same)

timed_by : (b : Bool) (l k : Lists) (n : ℕ) → breaks_drawn l ≤ n → breaks_drawn k ≤ n → breaks_drawn (cond b l k) ≤ n
timed_by true l k n p q = p
timed_by false l k n p q = q

pub timed_draws : (c : BackCall) (now : ℕ) (l : Lists) → breaks_drawn (lists_timed c (expired now l)) ≤ breaks_drawn l
timed_draws c now l =
    let less = expired_draws now l in
    let same = ended_draws c.content (expired now l) in
    timed_by (nat_lt c.tries 2) (expired now l) (ends_all c.content (expired now l)) (breaks_drawn l) less (omega (arith, less, same))

-- ---- a timeout

module _ {D : Type 0} (me n : Node) (boot now : ℕ) (c : BackCall) (b : Backs) (state : ServerState) (ls before : List Line) (m : Memory) (s : Store D) (outs : Outs) (made : Makes (stepped me state ls (call_timed_out me boot n c (row.expired now b))) before m s outs) where
  pub timed_draws_calls : All IsBreakToNode b.lists.owed → s.drawn ≤ b.last_call + 29
  timed_draws_calls to =
      let lists = timed_lists me boot n c (row.expired now b) in
      let last = timed_last me boot n c (row.expired now b) in
      let owed = subst (λ (l : Lists). All IsBreakToNode l.owed) (sym lists) (timed_to_nodes c (expired now b.lists) (lasting_to_nodes now b.lists.owed to)) in
      let drawn = drawn_after me state ls before (call_timed_out me boot n c (row.expired now b)) m s outs made owed in
      omega (arith, drawn, last)

  pub timed_draws_breaks : breaks_drawn m.lists ≤ breaks_drawn b.lists
  timed_draws_breaks =
      let lists = lists_after me state ls before (call_timed_out me boot n c (row.expired now b)) m s outs made ∙ timed_lists me boot n c (row.expired now b) in
      subst (λ (l : Lists). breaks_drawn l ≤ breaks_drawn b.lists) (sym lists) (timed_draws c now b.lists)

-- ---- a restart draws one break for each client

clients_last : (expiry k m : ℕ) (l : Lists) → (owed_to_clients expiry k m l).last_owed ≡ l.last_owed + m
clients_last expiry k zero l = omega arith
clients_last expiry k (suc m) l = let rest = clients_last expiry (k + 1) m (owes_all (Client (k + 1)) expiry l) in omega (arith, rest)

pub clients_draw : (expiry count : ℕ) (l : Lists) → l ≡ owed_to_clients expiry 0 count no_lists → l.promises ≡ [] → breaks_drawn l ≡ count
clients_draw expiry count l is none =
    let last = ap (λ (k : Lists). k.last_owed) is ∙ clients_last expiry 0 count no_lists in
    let no = ap length none in
    omega (arith, last, no)
