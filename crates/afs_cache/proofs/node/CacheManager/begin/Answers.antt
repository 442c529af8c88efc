use Rattle.std.specs.declared.alloc.AllocError.{AllocError}
use Rattle.std.proofs.Common.{◌≡◌, ℕ, ◌<◌, Ok, subst, sym, ap, ◌∙◌}
use Rattle.spec_model.specs.Steps.{NodeState}
use Rattle.spec_copyrows.specs.Sites.{CopyState}
use Rattle.afs_cache.specs.Managing.{number_limit}
use Rattle.afs_cache.proofs.Siting.{begun_anew, round_back}
use Rattle.afs_cache.proofs.node.CacheManager.begin.Goals as goal

pub begin_act-requires-clause-last : goal.begin_act-requires-clause-last
begin_act-requires-clause-last c = subst (λ (s : NodeState CopyState). s.state.client.last < number_limit) (sym c.swap_round-known.ensures.new) c.requires.last

pub returns-in-Ok : goal.returns-in-Ok
returns-in-Ok c = begun_anew c.args.now c.args.act.now c.args.self.now c.swap_round-known.new.self c.begin_act.new.self c.in-Ok.outs c.swap_round-known.ensures.new c.in-Ok.ensures

pub returns-in-Err : goal.returns-in-Err
returns-in-Err c =
    round_back c.args.self.now c.swap_round-known.new.self c.begin_act.new.self c.swap_round-round.new.self c.swap_round-known.result c.swap_round-known.ensures.new c.swap_round-known.ensures.old c.in-Err.ensures c.swap_round-round.ensures.new
