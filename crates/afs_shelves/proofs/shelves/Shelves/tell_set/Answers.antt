use Rattle.std.proofs.Common.{◌∙◌, ◌++◌, ℕ, ap}
use Rattle.spec_ideal.specs.Tables.{get}
use Rattle.spec_fold.specs.Effects.{flag_lines}
use Rattle.afs_shelves.specs.Shelving.{kept_on, shelved}
use Rattle.afs_shelves.proofs.Lists.{on_ok}
use Rattle.afs_shelves.proofs.Told.{lines_there}
use Rattle.afs_shelves.proofs.shelves.Shelves.tell_set.Goals as goal

pub returns-in-Some-clause-told : goal.returns-in-Some-clause-told
returns-in-Some-clause-told c =
    let s = c.in-Some.shelf.now in
    on_ok c.tell_flagged.result _ _
    (λ told. lines_there (flag_lines c.args.server c.args.id c.args.flags) (get c.args.id (kept_on c.args.self.now).volumes) (shelved s) c.args.lines.now c.tell_flagged.new.lines c.in-Some.ensures.some
    (told ∙ ap (λ (n : ℕ). c.args.lines.now ++ flag_lines c.args.server n c.args.flags (shelved s)) c.in-Some.ensures.id))
    c.tell_flagged.ensures.told
