use Rattle.std.proofs.Common.{◌≡◌, ap, sym, subst, ◌∙◌}
use Rattle.std.specs.Prelude.{IsSome}
use Rattle.spec_model.specs.Steps.{NodeState}
use Rattle.spec_rows.specs.Going.{ClientState}
use Rattle.spec_rows.specs.States.{CacheEntry}
use Rattle.spec_rows.specs.ClientRow.{cache_entry_told}
use Rattle.spec_copyrows.specs.Sites.{CopyState}
use Rattle.afs_cache.proofs.node.CacheManager.fresh.Goals as goal

pub returns-clause-value : goal.returns-clause-value
returns-clause-value c =
    c.entry_told.ensures c.args.fid ∙ ap (λ (s : NodeState CopyState). cache_entry_told s.state.client.callee c.args.fid c.args.status.now c.args.callback.now c.args.sync.now c.args.body) c.self.view_is

pub returns-clause-body : goal.returns-clause-body
returns-clause-body c some = subst IsSome (sym (ap (λ (e : CacheEntry). e.body) (c.entry_told.ensures c.args.fid))) some
