use Rattle.std.proofs.Common.{not, rules}
use Rattle.std.proofs.lemmas.Fn.{filter_same}
use Rattle.afs_num.proofs.OneAKey.{frees}
use Rattle.afs_num.proofs.keyed.drop_keyed.Goals as goal

pub returns-clause-items : goal.returns-clause-items
returns-clause-items g c = filter_same _ (λ old. not (g.T.Keyed.same (g.T.Keyed.key old) c.args.key.now)) _ (λ x b f' h. search rules) _ _ c.retain.ensures.filtered

pub returns-clause-fewer : goal.returns-clause-fewer
returns-clause-fewer g c =
    rw (filter_same _ (λ old. not (g.T.Keyed.same (g.T.Keyed.key old) c.args.key.now)) _ (λ x b f' h. search rules) _ _ c.retain.ensures.filtered)
    (frees g.T.Keyed.key g.T.Keyed.same c.args.key.now c.args.items.now.items)
