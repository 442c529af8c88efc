use Rattle.std.proofs.Common.{◌≡◌, not, ap, rules, ◌∙◌}
use Rattle.std.proofs.lemmas.Fn.{filter_same}
use Rattle.afs_num.specs.Keyed.{other_keyed}
use Rattle.afs_num.specs.Nodes.{same_node}
use Rattle.afs_callees.specs.Called.{call_to, known_to, node_called, Callee}
use Rattle.afs_callees.proofs.Calls.{calls_without, known_without}
use Rattle.afs_callees.proofs.callees.forget.Goals as goal

pub returns-clause-items : goal.returns-clause-items
returns-clause-items g c = filter_same _ (λ (x : Callee g.row.C.Denot). not (same_node x.node c.args.node)) _ (λ x b f' h. search rules) _ _ c.retain.ensures.filtered

pub returns-clause-calls : goal.returns-clause-calls
returns-clause-calls g c =
    let left : c.retain.new.self.items ≡ other_keyed node_called same_node c.args.node c.args.callees.now.items = filter_same _ (λ (x : Callee g.row.C.Denot). not (same_node x.node c.args.node)) _ (λ x b f' h. search rules) _ _ c.retain.ensures.filtered in
    ap call_to left ∙ calls_without c.args.node c.args.callees.now.items

pub returns-clause-known : goal.returns-clause-known
returns-clause-known g c =
    let left : c.retain.new.self.items ≡ other_keyed node_called same_node c.args.node c.args.callees.now.items = filter_same _ (λ (x : Callee g.row.C.Denot). not (same_node x.node c.args.node)) _ (λ x b f' h. search rules) _ _ c.retain.ensures.filtered in
    ap known_to left ∙ known_without c.args.node c.args.callees.now.items c.requires
