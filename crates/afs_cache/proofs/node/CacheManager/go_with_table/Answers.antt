use Rattle.std.specs.declared.alloc.AllocError.{AllocError}
use Rattle.std.proofs.Common.{◌≡◌, ℕ, ◌+◌, ◌∷◌, ◌++◌, List, Some, None, ap, sym, ◌∙◌}
use Rattle.spec_rows.specs.Going.{ClientState, Going}
use Rattle.spec_model.specs.Steps.{NodeState}
use Rattle.std.proofs.Common.{subst}
use Rattle.std.specs.Prelude.{◌<◌, IsSome, Ok}
use Rattle.spec_copyrows.specs.Sites.{CopyState}
use Rattle.afs_cache.specs.Managing.{number_limit}
use Rattle.afs_cache.specs.Locating.{goes_by_table}
use Rattle.afs_cache.specs.Managing.{Takes}
use Rattle.afs_cache.proofs.Sought.{back_again, table_taken}
use Rattle.afs_cache.proofs.node.CacheManager.go_with_table.Goals as goal
use Rattle.afs_num.specs.declared.types.Node.{Node}

pub returns-in-Ok : goal.returns-in-Ok
returns-in-Ok c = λ k e.
    let old = c.args.self.now in
    table_taken (λ (d : ClientState) (place : ℕ). goes_by_table old.node d c.args.now place k) old c.swap_table-known.new.self c.go_by_table.new.self c.args.table.items c.in-Ok.outs c.swap_table-known.ensures.new
    (subst (λ (n : Node). Takes {E = AllocError} (λ (place : ℕ). goes_by_table n c.swap_table-known.new.self.state.client c.args.now place k) c.swap_table-known.new.self c.go_by_table.new.self (Ok c.in-Ok.outs)) (ap (λ (s : NodeState CopyState). s.node) c.swap_table-known.ensures.new)
    (c.in-Ok.ensures k (ap (λ (s : NodeState CopyState). s.state.client.seeking) c.swap_table-known.ensures.new ∙ e)))

pub returns-in-Err : goal.returns-in-Err
returns-in-Err c = λ k e.
    back_again c.args.self.now c.swap_table-known.new.self c.go_by_table.new.self c.swap_table-table.new.self c.args.table.items c.swap_table-known.result.items c.swap_table-known.ensures.new c.swap_table-known.ensures.old
    (c.in-Err.ensures k (ap (λ (s : NodeState CopyState). s.state.client.seeking) c.swap_table-known.ensures.new ∙ e)) c.swap_table-table.ensures.new

pub go_by_table-requires-clause-seeks : goal.go_by_table-requires-clause-seeks
go_by_table-requires-clause-seeks c = subst (λ (s : NodeState CopyState). IsSome s.state.client.seeking) (sym c.swap_table-known.ensures.new) c.requires.seeks

pub go_by_table-requires-clause-last : goal.go_by_table-requires-clause-last
go_by_table-requires-clause-last c = subst (λ (s : NodeState CopyState). s.state.client.last < number_limit) (sym c.swap_table-known.ensures.new) c.requires.last
