use Rattle.std.proofs.Common.{rules, nat_lt}
use Rattle.std.proofs.lemmas.Fn.{filter_same}
use Rattle.afs_promise.specs.declared.types.Grant.{Grant}
use Rattle.afs_promise.proofs.log.keep_lasting.Goals as goal

pub returns : goal.returns
returns c = filter_same _ (λ (g : Grant). nat_lt c.args.now g.promise.expiry) _ (λ x b f' h. search rules) _ _ c.retain.ensures.filtered
