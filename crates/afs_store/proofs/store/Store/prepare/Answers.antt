use Rattle.std.proofs.Common.{◌+◌, is_some, sym, ap, subst, ◌∙◌, rules}
use Rattle.afs_store.specs.Stores.{StoreOf}
use Rattle.afs_store.proofs.Folding.{is_taken, none_is_taken}
use Rattle.afs_store.proofs.store.Store.prepare.Goals as goal

-- a record that no state takes isn't one that can be taken
pub unreachable-requires : goal.unreachable-requires
unreachable-requires g c =
    let k = g.S.Fold.fold in
    let j = c.self.inside.journal in
    none_is_taken (k.done c.args.rec.now (k.held c.self.inside.state))
    (sym (is_taken k g.met.S.Fold.sound c.args.rec.now (j.gate + 1) (g.D.Disk.limit j.disk) (k.held c.self.inside.state))
    ∙ (ap (λ (x : StoreOf g.row.D.Denot g.row.R.Denot g.row.T.Denot). is_some (k.folded c.args.rec.now x.durable)) c.self.view_is ∙ c.requires.taken))
    (c.ready.ensures.bad (search rules))

-- what was made of what stands in memory is what it makes of what is kept
pub prepare_ready-requires-clause-suits : goal.prepare_ready-requires-clause-suits
prepare_ready-requires-clause-suits g c =
    let j = c.self.inside.journal in
    subst (λ (x : StoreOf g.row.D.Denot g.row.R.Denot g.row.T.Denot). g.S.Fold.fold.Suits c.in-Ok.ready x.durable) c.self.view_is
    ((g.met.S.Fold.sound.suits c.in-Ok.ready (j.gate + 1) (g.D.Disk.limit j.disk) (g.S.Fold.fold.held c.self.inside.state)).1 c.in-Ok.ensures.suits)
