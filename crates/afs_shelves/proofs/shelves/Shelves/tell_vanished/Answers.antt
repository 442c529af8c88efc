use Rattle.std.proofs.Common.{◌∙◌, ◌++◌, [], ℕ, ap, sym, refl, if◌then◌else◌}
use Rattle.spec_fold.specs.Effects.{vanish_lines}
use Rattle.spec_records.specs.Durable.{is_flagged}
use Rattle.afs_shelves.specs.Numbered.{shelf_number}
use Rattle.afs_shelves.specs.Shelving.{shelved}
use Rattle.afs_shelves.proofs.Lists.{on_ok}
use Rattle.afs_shelves.proofs.Numbers.{numbered_nth}
use Rattle.afs_shelves.proofs.Told.{gone_told, no_gone}
use Rattle.afs_shelves.proofs.shelves.Shelves.tell_vanished.Goals as goal

pub returns-in-Some-clause-told : goal.returns-in-Some-clause-told
returns-in-Some-clause-told c =
    let p = c.in-Some.item.now in
    let t = c.args.self.now.volumes.table in
    let there = sym c.in-Some.ensures.value in
    on_ok c.tell_at_start.result _ _
    (λ told. gone_told c.args.server c.args.place t p c.args.lines.now c.tell_at_start.new.lines (is_flagged (shelved p.1)) there refl
    (told ∙ ap (λ (n : ℕ). c.args.lines.now ++ (if is_flagged (shelved p.1) then vanish_lines c.args.server n (shelved p.1) else [])) (numbered_nth shelf_number c.args.place t p c.args.self.now.shelved there)))
    c.tell_at_start.ensures.told

pub returns-in-None-clause-told : goal.returns-in-None-clause-told
returns-in-None-clause-told c = no_gone c.args.server c.args.place c.args.self.now.volumes.table c.args.lines.now (sym c.in-None.ensures.value)
