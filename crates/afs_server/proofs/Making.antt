-- A step of the code is that of its row.
use Rattle.std.proofs.Common.{◌≡◌, ℕ, List, [], ◌++◌, sym, ap, subst, ◌∙◌}
use Rattle.std.specs.List.{All}
use Rattle.afs_num.specs.Nodes.{IsNode}
use Rattle.afs_num.specs.declared.types.Node.{Node}
use Rattle.spec_history.specs.declared.lines.Line.{Line}
use Rattle.spec_history.specs.declared.lines.Outs.{Outs}
use Rattle.spec_records.specs.Durable.{Durable}
use Rattle.spec_breaks.specs.Promises.{Lists}
use Rattle.spec_rows.specs.Callbacks as row
use Rattle.spec_rows.specs.Callbacks.{pumped}
use Rattle.spec_rows.specs.States.{Lasting, Seat, ServerState}
use Rattle.spec_rows.specs.ServerSteps.{stepped}
use Rattle.afs_callees.specs.Called.{call_to, known_to, AreGoodCalls}
use Rattle.afs_server_parts.specs.Ending.{backs_left, Ends, IsPlan}
use Rattle.afs_server_parts.specs.Turning.{IsBreakToNode}
use Rattle.afs_server_parts.specs.declared.ending.Ended.{Ended}
use Rattle.afs_server_parts.specs.declared.turns.Stand.{Stand}
use Rattle.afs_volstore.specs.Stores.{Store}
use Rattle.afs_server.specs.Handling.{server_seen, Makes}
use Rattle.afs_server.specs.Seen.{backs_seen, callbacks_of, Memory, Serves}
use Rattle.afs_callbacks.specs.States.{CallbackState, IsPromiseToNode, IsToNodes}
use Rattle.afs_sharing.specs.Stores.{stand_of}
use Rattle.afs_sharing.specs.Lasting.{lasting_of, KeepsForNodes}

-- what is in memory after a step
pub record Leaves {D : Type 0} (old : ServerState) (e : Ended) (m : Memory) (s : Store D) : Type 0 where
  pub lasting : lasting_of s.durable ≡ old.lasting
  pub seats : m.seats ≡ old.seats
  pub callees : m.callees ≡ e.callees.items
  pub held : m.held ≡ e.held
  pub drawn : s.drawn ≡ e.last

pub makes_stepped : {D : Type 0} (me : Node) (old : ServerState) (before ls : List Line) (t : row.CallbackStep) (e : Ended) (m : Memory) (s : Store D) →
    Leaves old e m s → Ends m.lists (pumped me old.lasting.boot t) e → before ++ e.outs.lines ≡ ls → Makes (stepped me old ls t) before m s e.outs
makes_stepped me old before ls t e m s left ends lines =
    let seen : backs_seen m s.drawn ≡ backs_left m.lists e = λ i. record { lists = m.lists; last_call = left.drawn i; calls = call_to (left.callees i); known = known_to (left.callees i); held = left.held i } in
    let backs : backs_seen m s.drawn ≡ (pumped me old.lasting.boot t).backs = seen ∙ ends.backs in
    record {
      state = λ i. record { lasting = left.lasting i; seats = left.seats i; backs = backs i };
      lines = lines;
      sent = ends.sent;
    }

-- a step that leaves what is on the disk as it is
pub steps : {D : Type 0} (state : ServerState) (ls : List Line) (t : row.CallbackStep) (old new : Memory) (s u : Store D) (e : Ended) (outs : Outs) →
    state.lasting ≡ lasting_of s.durable → new ≡ record old { seats = state.seats; lists = t.backs.lists; callees = e.callees.items; held = e.held } → u ≡ record s { drawn = e.last } → outs ≡ e.outs →
    IsPlan (stand_of s) t ls e → Serves s.node old s.durable → All IsPromiseToNode t.backs.lists.promises →
    Makes (stepped s.node state ls t) [] new u outs × (Serves u.node new u.durable × (u ≡ record s { drawn = u.drawn }))
steps {D} state ls t old new s u e outs lasting memory store given plan serves promises =
    let l = t.backs.lists in
    let left : Leaves state e new u = record {
      lasting = ap (λ (x : Store D). lasting_of x.durable) store ∙ sym lasting;
      seats = ap (λ (m : Memory). m.seats) memory;
      callees = ap (λ (m : Memory). m.callees) memory;
      held = ap (λ (m : Memory). m.held) memory;
      drawn = ap (λ (x : Store D). x.drawn) store;
    } in
    let is : new.lists ≡ l = ap (λ (m : Memory). m.lists) memory in
    let kept : u.durable ≡ s.durable = ap (λ (x : Store D). x.durable) store in
    let me : u.node ≡ s.node = ap (λ (x : Store D). x.node) store in
    let boot : s.durable.boot ≡ state.lasting.boot = ap (λ (x : Lasting). x.boot) (sym lasting) in (
      subst (λ (x : Outs). Makes (stepped s.node state ls t) [] new u x) (sym given)
          (makes_stepped s.node state [] ls t e new u left (subst (λ (k : Lists). Ends k (pumped s.node state.lasting.boot t) e) (sym is) (subst (λ (k : ℕ). Ends l (pumped s.node k t) e) boot plan.ends)) plan.lines),
      (
        record {
          node = subst IsNode (sym me) serves.node;
          boot = ap (λ (m : Memory). m.boot) memory ∙ (serves.boot ∙ ap (λ (d : Durable). d.boot) (sym kept));
          kept = subst KeepsForNodes (sym kept) serves.kept;
          promises = subst (λ (k : Lists). All IsPromiseToNode k.promises) (sym is) promises;
          owed = subst (λ (k : Lists). All IsBreakToNode k.owed) (sym is) plan.owed;
          calls = subst AreGoodCalls (sym left.callees) plan.calls;
        },
        subst (λ (k : ℕ). u ≡ record s { drawn = k }) (sym left.drawn) store,
      ),
    )

-- one in which no call runs, as the same turn
pub turned_as : {D : Type 0} (t u : row.CallbackStep) (old new : Memory) (s v : Store D) (outs : Outs) → t ≡ u →
    Makes (stepped s.node (server_seen old s) t.lines t) [] new v outs × (Serves v.node new v.durable × (v ≡ record s { drawn = v.drawn })) →
    Makes (stepped s.node (server_seen old s) u.lines u) [] new v outs × (Serves v.node new v.durable × (v ≡ record s { drawn = v.drawn }))
turned_as {D} t u old new s v outs same made = (subst (λ (x : row.CallbackStep). Makes (stepped s.node (server_seen old s) x.lines x) [] new v outs) same made.0, made.1)

-- ---- what a step asked its store, and what it left in memory

-- what holds as a store told who makes the step, and of the callbacks that it read, holds as the store and its server have them
pub as_planned : {D : Type 0} (P : Stand → CallbackState → Type 0) (s : Store D) (m : Memory) (who : Stand) (k : CallbackState) → who ≡ stand_of s → k ≡ callbacks_of m → P who k → P (stand_of s) (callbacks_of m)
as_planned {D} P s m who k stands seen h = subst (P (stand_of s)) seen (subst (λ (x : Stand). P x k) stands h)

pub to_nodes : {D : Type 0} (s : Store D) (m : Memory) (who : Stand) (k : CallbackState) → who ≡ stand_of s → k ≡ callbacks_of m → Serves s.node m s.durable → IsToNodes who.node k
to_nodes {D} s m who k stands seen serves =
    let own : IsToNodes s.node (callbacks_of m) = record { node = serves.node; owed = serves.owed; calls = serves.calls } in
    subst (λ (x : Stand). IsToNodes x.node k) (sym stands) (subst (IsToNodes s.node) (sym seen) own)

-- memory as it was inside, but for its promises and what the step left
pub remembered : (inside old new : Memory) (l k : Lists) (e : Ended) → inside ≡ old → l ≡ k → new ≡ record inside { lists = l; callees = e.callees.items; held = e.held } → new ≡ record old { lists = k; callees = e.callees.items; held = e.held }
remembered inside old new l k e is lists kept = kept ∙ (λ i. record (is i) { lists = lists i; callees = e.callees.items; held = e.held })

-- and for its callers
pub replied_in : (old new : Memory) (boot : ℕ) (seats seats_now : List Seat) (l k : Lists) (e : Ended) → boot ≡ old.boot → seats ≡ seats_now → l ≡ k →
    new ≡ record { boot = boot; seats = seats; lists = l; callees = e.callees.items; held = e.held } → new ≡ record old { seats = seats_now; lists = k; callees = e.callees.items; held = e.held }
replied_in old new boot seats seats_now l k e boots seated lists kept = kept ∙ (λ i. record { boot = boots i; seats = seated i; lists = lists i; callees = e.callees.items; held = e.held })
