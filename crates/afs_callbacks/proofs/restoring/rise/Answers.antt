use Rattle.std.proofs.Common.{◌≡◌, rules, arith, [], None, map, ap, sym, subst, ◌∙◌}
use Rattle.std.specs.List.{All}
use Rattle.afs_num.specs.Nodes.{IsNode}
use Rattle.afs_num.specs.declared.types.Node.{Node}
use Rattle.spec_rows.specs.Callbacks.{owe_line}
use Rattle.afs_callees.specs.Called.{call_to, known_to, AreGoodCalls}
use Rattle.afs_server_parts.specs.Turning.{IsBreakToNode}
use Rattle.afs_server_parts.specs.declared.turns.Stand.{Stand}
use Rattle.afs_server_parts.proofs.Turning.{turn_is}
use Rattle.afs_callbacks.specs.States.{risen_with}
use Rattle.afs_callbacks.proofs.Planned.{planned_as}
use Rattle.afs_callbacks.proofs.restoring.rise.Goals as goal

pub end-requires : goal.end-requires
end-requires c =
    let stands = c.in_ok-turn.ensures.stand in
    let none : c.in_ok-turn.turn.calls.callees.items ≡ [] = search rules in
    let before = ap (λ (s : Stand). s.last) stands in
    let last = c.in_ok-turn.ensures.last in
    record {
      node = subst (λ (s : Stand). IsNode s.node) (sym stands) c.requires.node;
      owed = subst (All IsBreakToNode) (sym (c.in_ok-turn.ensures.owed ∙ c.in_ok-owed.ensures)) c.requires.nodes;
      calls = subst AreGoodCalls (sym none) (λ n. tt);
      drawn = omega (arith, before, last);
    }

pub returns : goal.returns
returns c =
    let l = c.args.promises.now in
    let s = c.args.stand in
    let owed : l.owed ≡ c.in_ok-turn.turn.owed.items = sym (c.in_ok-turn.ensures.owed ∙ c.in_ok-owed.ensures) in
    let none : c.in_ok-turn.turn.calls.callees.items ≡ [] = search rules in
    let told : c.tell_owed.new.lines ≡ map (owe_line s.node) l.owed = search rules in
    let is =
    turn_is l _ 0 (λ (n : Node). None) (λ (n : Node). 1) [] (map (owe_line s.node) l.owed) [] []
    owed (c.in_ok-turn.ensures.last ∙ c.requires.first) (ap call_to none) (ap known_to none) c.in_ok-turn.ensures.held told c.in_ok-turn.ensures.fresh.sent c.in_ok-turn.ensures.fresh.outs in
    planned_as (risen_with s.node l) s _ _ c.in_ok-turn.ensures.stand is c.in_ok-ended.ensures
