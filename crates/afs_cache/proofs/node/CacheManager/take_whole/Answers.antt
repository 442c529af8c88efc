use Rattle.std.proofs.Common.{◌≡◌, ℕ, ap, ◌∙◌}
use Rattle.afs_num.specs.Nodes.{same_node}
use Rattle.afs_num.specs.declared.messages.Received.TheVariants.{Whole}
use Rattle.spec_model.specs.Steps.{NodeState}
use Rattle.spec_rows.specs.Going.{ClientState}
use Rattle.spec_rows.specs.ClientRow.{hears, ignores, takes_in}
use Rattle.spec_copyrows.specs.Sites.{CopyState}
use Rattle.afs_cache.proofs.Answering.{takes_same}
use Rattle.afs_cache.proofs.Breaking.{chosen}
use Rattle.afs_cache.proofs.node.CacheManager.take_whole.Goals as goal

pub returns-then-is : goal.returns-then-is
returns-then-is c =
    let old = c.args.self.now in
    let head = c.args.head.now in
    let here = c.if-is.ensures ∙ ap (λ (n : NodeState CopyState). same_node head.to n.node) c.self.view_is in
    takes_same (λ (place : ℕ). hears old.node old.state.client c.args.now place head c.args.carried) (λ (place : ℕ). takes_in old.node old.state.client c.args.now place (Whole (record { head = c.args.head.now; carried = c.args.carried }))) old c.take_carried.new.self c.take_carried.result
    (λ place. chosen (same_node head.to old.node) (hears old.node old.state.client c.args.now place head c.args.carried) (ignores old.state.client place) here) c.take_carried.ensures
