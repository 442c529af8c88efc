use Rattle.std.proofs.Common.{◌≡◌, arith, rules, ap, sym, subst, ◌∙◌}
use Rattle.std.specs.List.{All}
use Rattle.afs_num.specs.Nodes.{IsNode}
use Rattle.spec_breaks.specs.Promises.{lasting_breaks}
use Rattle.afs_callees.specs.Called.{AreGoodCalls}
use Rattle.afs_server_parts.specs.Turning.{IsBreakToNode}
use Rattle.afs_server_parts.specs.declared.turns.Stand.{Stand}
use Rattle.afs_callbacks.specs.States.{CallbackState}
use Rattle.afs_callbacks.proofs.Lasting.{lasting_to_nodes}
use Rattle.afs_callbacks.proofs.callbacks.Callbacks.turn.Goals as goal

pub returns-clause-ready : goal.returns-clause-ready
returns-clause-ready c =
    let t = c.in_ok-turn.turn in
    let m = c.args.self.now in
    let stands = c.in_ok-turn.ensures.stand in
    let owed : t.owed.items ≡ lasting_breaks c.args.now m.lists.owed = c.in_ok-turn.ensures.owed ∙ (c.in_ok-owed.ensures ∙ ap (λ (k : CallbackState). lasting_breaks c.args.now k.lists.owed) c.self.view_is) in
    let callees : t.calls.callees.items ≡ m.callees = search rules in
    let before = ap (λ (s : Stand). s.last) stands in
    let last = c.in_ok-turn.ensures.last in
    record {
      node = subst (λ (s : Stand). IsNode s.node) (sym stands) c.requires.node;
      owed = subst (All IsBreakToNode) (sym owed) (lasting_to_nodes c.args.now m.lists.owed c.requires.owed);
      calls = subst AreGoodCalls (sym callees) c.requires.calls;
      drawn = omega (arith, before, last);
    }
