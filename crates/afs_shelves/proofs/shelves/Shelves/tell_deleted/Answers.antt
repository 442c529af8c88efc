use Rattle.std.proofs.Common.{◌∙◌, ◌++◌, ℕ, ap}
use Rattle.spec_ideal.specs.Tables.{get}
use Rattle.spec_fold.specs.Effects.{vanish_lines}
use Rattle.afs_shelves.specs.Shelving.{kept_on, shelved}
use Rattle.afs_shelves.proofs.Lists.{on_ok}
use Rattle.afs_shelves.proofs.Told.{lines_there}
use Rattle.afs_shelves.proofs.shelves.Shelves.tell_deleted.Goals as goal

pub returns-in-Some-clause-told : goal.returns-in-Some-clause-told
returns-in-Some-clause-told c =
    let s = c.in-Some.shelf.now in
    on_ok c.tell_gone.result _ _
    (λ told. lines_there (vanish_lines c.args.server c.args.id) (get c.args.id (kept_on c.args.self.now).volumes) (shelved s) c.args.lines.now c.tell_gone.new.lines c.in-Some.ensures.some
    (told ∙ ap (λ (n : ℕ). c.args.lines.now ++ vanish_lines c.args.server n (shelved s)) c.in-Some.ensures.id))
    c.tell_gone.ensures.told
