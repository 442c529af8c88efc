use Rattle.std.proofs.Common.{◌∙◌, ◌+◌, ℕ, Some, true, is_some, ap, length, sym}
use Rattle.afs_store.specs.Folds.{taken_as}
use Rattle.afs_store.specs.Stores.{StoreOf}
use Rattle.afs_store.proofs.Begun.{ends_at, filled_with, kept_first, then_first}
use Rattle.afs_store.proofs.beginning.filled.Goals as goal

pub put_first-requires-clause-taken : goal.put_first-requires-clause-taken
put_first-requires-clause-taken g c = ap (λ (d : g.row.T.Denot). is_some (g.S.Fold.fold.done c.args.rec.now d)) c.nothing-state.ensures ∙ c.requires.taken

pub of-requires-clause-kept : goal.of-requires-clause-kept
of-requires-clause-kept g c =
    let k = g.S.Fold.fold in
    let rec = c.args.rec.now in
    let j = c.put_first.new.journal in
    let limit = g.D.Disk.limit j.disk in
    kept_first k g.met.S.Fold.sound j.gate limit (k.held c.put_first.new.state) rec (g.D.Disk.seen j.disk) (g.D.Disk.may_leave j.disk) c.requires.fits
    (λ told. then_first (k.spelled rec) (g.D.Disk.seen c.args.journal.disk) (g.D.Disk.seen j.disk) (g.D.Disk.may_leave c.args.journal.disk) (g.D.Disk.may_leave j.disk) c.requires.begun c.in-Ok.ensures.added (c.put_first.ensures.seen.0 told))
    (filled_with k g.met.S.Fold.sound limit j.gate rec (k.held c.put_first.new.state) c.requires.first (ap (k.done rec) (sym c.nothing-state.ensures) ∙ c.in-Ok.ensures.held) (ends_at c.args.journal.gate j.gate (length (k.spelled rec)) c.requires.empty.0 c.in-Ok.ensures.number.1.0))

pub returns-in-Ok-clause-made : goal.returns-in-Ok-clause-made
returns-in-Ok-clause-made g c =
    let k = g.S.Fold.fold in
    let rec = c.args.rec.now in
    let j = c.put_first.new.journal in
    let limit = g.D.Disk.limit j.disk in
    ap (λ (n : ℕ). taken_as k true rec (k.placed 1 n k.nothing)) (sym c.put_first.ensures.moved.same_limit)
    ∙ (filled_with k g.met.S.Fold.sound limit j.gate rec (k.held c.put_first.new.state) c.requires.first (ap (k.done rec) (sym c.nothing-state.ensures) ∙ c.in-Ok.ensures.held) (ends_at c.args.journal.gate j.gate (length (k.spelled rec)) c.requires.empty.0 c.in-Ok.ensures.number.1.0)
    ∙ ap (λ (d : g.row.T.Denot). Some d) (sym {b = k.placed (j.gate + 1) limit (k.held c.put_first.new.state)} (ap (λ (s : StoreOf g.row.D.Denot g.row.R.Denot g.row.T.Denot). s.durable) c.of.ensures)))
