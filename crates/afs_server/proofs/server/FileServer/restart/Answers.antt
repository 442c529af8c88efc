use Rattle.std.proofs.Common.{◌≡◌, ◌≤◌, ◌+◌, [], arith, ap, sym, subst, ◌∙◌}
use Rattle.std.specs.List.{All}
use Rattle.afs_num.specs.Nodes.{IsNode}
use Rattle.spec_history.specs.declared.lines.Outs.{Outs}
use Rattle.spec_breaks.specs.Promises.{Lists}
use Rattle.spec_records.specs.Durable.{Durable}
use Rattle.spec_rows.specs.Callbacks as row
use Rattle.spec_rows.specs.Callbacks.{pumped, risen_turn}
use Rattle.spec_rows.specs.States.{Backs}
use Rattle.afs_callees.specs.Called.{AreGoodCalls}
use Rattle.afs_server_parts.specs.Ending.{Ends, IsPlanOf}
use Rattle.afs_server_parts.specs.Turning.{IsBreakToNode}
use Rattle.afs_server_parts.specs.declared.turns.Stand.{Stand}
use Rattle.afs_volstore.specs.Stores.{Store}
use Rattle.afs_callbacks.specs.States.{risen_with, CallbackState, IsPromiseToNode}
use Rattle.afs_callbacks.proofs.Drawing.{pumped_draws}
use Rattle.afs_server.specs.Handling.{Makes}
use Rattle.afs_server.specs.Seen.{begun_state, begun_step, Memory}
use Rattle.afs_server.proofs.Drawn.{clients_draw}
use Rattle.afs_server.proofs.Making.{makes_stepped, Leaves}
use Rattle.afs_sharing.specs.Stores.{stand_of}
use Rattle.afs_sharing.specs.Lasting.{lasting_of, KeepsForNodes}
use Rattle.afs_sharing.proofs.Drawn.{breaks_drawn}
use Rattle.afs_server.proofs.server.FileServer.restart.Goals as goal

pub rise-requires-clause-node : goal.rise-requires-clause-node
rise-requires-clause-node g c = subst (λ (s : Stand). IsNode s.node) (sym c.stand.ensures) c.requires.node

pub rise-requires-clause-first : goal.rise-requires-clause-first
rise-requires-clause-first g c = ap (λ (s : Stand). s.last) c.stand.ensures ∙ c.requires.drawn

pub returns-clause-step : goal.returns-clause-step
returns-clause-step g c =
    let store = c.args.store.now in
    let e = c.in_ok-ended.ended in
    let l = c.in_ok-promises.promises in
    let m = c.keep-outs.new.self in
    let turn = risen_turn store.node c.args.now c.args.clients in
    let kept : c.keep-outs.new.store ≡ record store { drawn = e.last } = c.keep-outs.ensures.store in
    let owes = c.in_ok-promises.ensures.lists in
    let risen : IsPlanOf (stand_of store) (risen_with store.node l) e = subst (λ (s : Stand). IsPlanOf s (risen_with s.node l) e) c.stand.ensures c.in_ok-ended.ensures in
    let plan : IsPlanOf (stand_of store) turn e = subst (λ (t : row.CallbackStep). IsPlanOf (stand_of store) t e) (ap (risen_with store.node) owes) risen in
    let lists : m.lists ≡ turn.backs.lists = ap (λ (x : Memory). x.lists) c.keep-outs.ensures.server ∙ (ap (λ (k : CallbackState). k.lists) c.owing-callbacks.ensures ∙ owes) in
    let left : Leaves (begun_state store.durable) e m c.keep-outs.new.store = record {
      lasting = ap (λ (u : Store _). lasting_of u.durable) kept;
      seats = ap (λ (x : Memory). x.seats) c.keep-outs.ensures.server ∙ c.in_ok-callers.ensures.seats;
      callees = ap (λ (x : Memory). x.callees) c.keep-outs.ensures.server;
      held = ap (λ (x : Memory). x.held) c.keep-outs.ensures.server;
      drawn = ap (λ (u : Store _). u.drawn) kept;
    } in
    let ends = subst (λ (k : Lists). Ends k (pumped store.node store.durable.boot turn) e) (sym lists) plan.ends in
    subst (λ (o : Outs). Makes (begun_step store.node store.durable c.args.now c.args.clients) [] m c.keep-outs.new.store o) (sym c.keep-outs.ensures.outs)
    (makes_stepped store.node (begun_state store.durable) [] turn.lines turn e m c.keep-outs.new.store left ends plan.lines)

pub returns-clause-serves : goal.returns-clause-serves
returns-clause-serves g c =
    let store = c.args.store.now in
    let e = c.in_ok-ended.ended in
    let kept : c.keep-outs.new.store ≡ record store { drawn = e.last } = c.keep-outs.ensures.store in
    let lists : c.keep-outs.new.self.lists ≡ c.in_ok-promises.promises = ap (λ (m : Memory). m.lists) c.keep-outs.ensures.server ∙ ap (λ (k : CallbackState). k.lists) c.owing-callbacks.ensures in
    let callees : c.keep-outs.new.self.callees ≡ e.callees.items = ap (λ (m : Memory). m.callees) c.keep-outs.ensures.server in
    let boot : c.keep-outs.new.self.boot ≡ store.durable.boot = ap (λ (m : Memory). m.boot) c.keep-outs.ensures.server ∙ c.in_ok-callers.ensures.boot in
    let me : c.keep-outs.new.store.node ≡ store.node = ap (λ x. x.node) kept in
    let durable : c.keep-outs.new.store.durable ≡ store.durable = ap (λ x. x.durable) kept in
    record {
      node = subst IsNode (sym me) c.requires.node;
      boot = boot ∙ ap (λ (d : Durable). d.boot) (sym durable);
      kept = subst KeepsForNodes (sym durable) c.in_ok-callers.ensures.nodes;
      promises =
          subst (λ (l : Lists). All IsPromiseToNode l.promises) (sym lists)
          (subst (All IsPromiseToNode) (sym c.in_ok-promises.ensures.promises) (λ k d lt. absurd (omega (arith, lt))));
      owed = subst (λ (l : Lists). All IsBreakToNode l.owed) (sym lists) c.in_ok-promises.ensures.nodes;
      calls = subst AreGoodCalls (sym callees) c.in_ok-ended.ensures.calls;
    }

pub returns-clause-draws : goal.returns-clause-draws
returns-clause-draws g c =
    let store = c.args.store.now in
    let e = c.in_ok-ended.ended in
    let l = c.in_ok-promises.promises in
    let plan : IsPlanOf (stand_of store) (risen_with store.node l) e = subst (λ (s : Stand). IsPlanOf s (risen_with s.node l) e) c.stand.ensures c.in_ok-ended.ensures in
    let kept : c.keep-outs.new.store ≡ record store { drawn = e.last } = c.keep-outs.ensures.store in
    let lists : c.keep-outs.new.self.lists ≡ l = ap (λ (m : Memory). m.lists) c.keep-outs.ensures.server ∙ ap (λ (k : CallbackState). k.lists) c.owing-callbacks.ensures in
    let drawn = ap (λ (x : Store _). x.drawn) kept in
    let last = ap (λ (b : Backs). b.last_call) plan.ends.backs in
    let most = pumped_draws store.node store.durable.boot (risen_with store.node l) c.in_ok-promises.ensures.nodes in
    let clients = c.requires.clients in
    let few = clients_draw (c.args.now + 7200) c.args.clients l c.in_ok-promises.ensures.lists c.in_ok-promises.ensures.promises in
    (omega (arith, drawn, last, most), subst (λ (k : Lists). breaks_drawn k ≤ 16) (sym lists) (omega (arith, few, clients)))
