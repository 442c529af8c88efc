use Rattle.std.proofs.Common.{rules}
use Rattle.std.proofs.lemmas.List.Sorted.{answers_always}
use Rattle.afs_promise.specs.declared.types.Grant.{Grant}
use Rattle.afs_promise.proofs.Sorted.{sorted_by_fid}
use Rattle.afs_promise.proofs.log.sort_by_fid.Goals as goal

pub returns-clause-sorted : goal.returns-clause-sorted
returns-clause-sorted c =
    λ high up. sorted_by_fid 0 high c.args.gone.now.items c.sort_unstable_by_key.new.self.items up c.sort_unstable_by_key.ensures.permutation (c.sort_unstable_by_key.ensures.sorted (λ (g : Grant). (g.promise.fid, g.order)) (answers_always _ _ _ (λ f a r f' k. search rules)))
