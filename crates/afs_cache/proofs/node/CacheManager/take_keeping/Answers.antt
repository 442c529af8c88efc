use Rattle.std.proofs.Common.{◌≡◌, ◌<◌, ◌+◌, ℕ, Bool, true, false, cond, ◌||◌, ◌&&◌, List, [], ◌∷◌, ◌++◌, map, filter, Option, Some, None, Ok, Err, refl, ap, sym, subst, ◌∙◌}
use Rattle.std.specs.declared.alloc.AllocError.{AllocError}
use Rattle.spec_model.specs.Steps.{NodeState}
use Rattle.afs_num.specs.declared.calls.FsCall.{FsCall}
use Rattle.afs_num.specs.declared.types.Node.{Node}
use Rattle.spec_rows.specs.Going.{ClientState, Going}
use Rattle.spec_rows.specs.ClientRow.{takes}
use Rattle.spec_copyrows.specs.Sites.{CopyState}
use Rattle.afs_cache.specs.Managing.{by_call, number_limit, Takes, telling}
use Rattle.afs_cache.proofs.Siting.{keeping_taken, newer_back}
use Rattle.afs_cache.proofs.node.CacheManager.take_keeping.Goals as goal
use Rattle.afs_entries.specs.Cached.{Kept}

pub take_reading-requires-clause-last : goal.take_reading-requires-clause-last
take_reading-requires-clause-last c = subst (λ (s : NodeState CopyState). s.state.client.last < number_limit) (sym c.swap_newer-known.ensures.new) c.requires.last

pub returns-in-Ok : goal.returns-in-Ok
returns-in-Ok c =
    let old = c.args.self.now in
    let mid = c.swap_newer-known.new.self in
    keeping_taken (λ (d : ClientState) (place : ℕ). telling c.args.lines (by_call d place (λ (act : Going) (call : FsCall). takes old.node d c.args.now place act call c.args.reply) d.running)) old mid c.take_reading.new.self c.args.newer.cache.entries c.args.newer.seen c.in-Ok.outs c.swap_newer-known.ensures.new
    (subst (λ (n : Node). Takes {E = AllocError} (λ (place : ℕ). telling c.args.lines (by_call mid.state.client place (λ (act : Going) (call : FsCall). takes n mid.state.client c.args.now place act call c.args.reply) mid.state.client.running)) mid c.take_reading.new.self (Ok c.in-Ok.outs)) (ap (λ (s : NodeState CopyState). s.node) c.swap_newer-known.ensures.new) c.in-Ok.ensures)

pub returns-in-Err : goal.returns-in-Err
returns-in-Err c =
    let old = c.args.self.now in
    newer_back old c.swap_newer-known.new.self c.take_reading.new.self c.swap_newer-newer.new.self c.args.newer.cache.entries c.swap_newer-known.result.cache.entries c.args.newer.seen c.swap_newer-known.result.seen c.swap_newer-known.ensures.new
    (ap (λ (k : Kept). k.entries) c.swap_newer-known.ensures.cache) c.swap_newer-known.ensures.seen c.in-Err.ensures c.swap_newer-newer.ensures.new

pub swap_newer-newer-requires : goal.swap_newer-newer-requires
swap_newer-newer-requires c = ap (λ (k : Kept). k.capacity) c.swap_newer-known.ensures.cache ∙ sym (ap (λ (s : NodeState CopyState). s.state.client.capacity) (c.in-Err.ensures ∙ c.swap_newer-known.ensures.new))
