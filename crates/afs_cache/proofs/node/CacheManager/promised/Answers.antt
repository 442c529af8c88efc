use Rattle.std.proofs.Common.{◌≡◌, List, Result, map, ap, sym, subst, ◌∙◌}
use Rattle.std.specs.Prelude.{IfOk}
use Rattle.std.specs.List.{All}
use Rattle.spec_model.specs.Steps.{NodeState}
use Rattle.spec_rows.specs.Going.{ClientState}
use Rattle.spec_rows.specs.States.{Gift}
use Rattle.spec_rows.specs.ClientRow.{gift_of, in_order, trusted_in}
use Rattle.afs_asking.specs.Asking.{IsGift}
use Rattle.afs_asking.proofs.Calling.{in_order_nodes}
use Rattle.spec_copyrows.specs.Sites.{CopyState}
use Rattle.afs_cache.proofs.Planning.{if_ok}
use Rattle.afs_cache.proofs.node.CacheManager.promised.Goals as goal

pub returns-clause-value : goal.returns-clause-value
returns-clause-value c =
    subst (λ (xs : List Gift). IfOk c.in_order.result (λ gs. gs.items ≡ in_order xs))
    (c.deref.ensures.value ∙ (c.in_ok-promised.ensures ∙ ap (λ (s : NodeState CopyState). map gift_of (trusted_in c.args.now s.state.client.cache)) c.self.view_is)) c.in_order.ensures

pub returns-clause-nodes : goal.returns-clause-nodes
returns-clause-nodes c = if_ok _ _ c.in_order.result (λ gs e. subst (All IsGift) (sym e) (in_order_nodes c.deref.result.now)) c.in_order.ensures
