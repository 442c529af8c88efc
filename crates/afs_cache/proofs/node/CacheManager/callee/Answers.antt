use Rattle.std.proofs.Common.{subst, sym}
use Rattle.std.specs.List.{All}
use Rattle.afs_num.specs.Nodes.{IsNode}
use Rattle.afs_asking.specs.Asking.{IsGift}
use Rattle.afs_asking.proofs.Calling.{first_is_node}
use Rattle.afs_cache.proofs.node.CacheManager.callee.Goals as goal

pub returns-then-gives_back-clause-node : goal.returns-then-gives_back-clause-node
returns-then-gives_back-clause-node c = subst IsNode (sym c.first_server_of.ensures) (first_is_node c.gifts.result.now (subst (All IsGift) (sym c.gifts.ensures.value) c.gifts.ensures.nodes))
