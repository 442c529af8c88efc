use Rattle.std.proofs.Common.{◌≡◌, Bool, Option, Some, None, ap, sym, subst, rules, ◌∙◌}
use Rattle.std.specs.Option.{option_copied, option_map}
use Rattle.spec_ideal.specs.Tables.{get}
use Rattle.spec_records.specs.Durable.{or_zero}
use Rattle.afs_volstore.specs.Stores.{hold_word, Store}
use Rattle.afs_volstore.proofs.Holds.{held_is}
use Rattle.afs_volstore.proofs.store.VolStore.held.Goals as goal

pub returns-in-Some-clause-value : goal.returns-in-Some-clause-value
returns-in-Some-clause-value g c =
    let there : Some c.in-Some.busy.now ≡ get c.args.id c.self.inside.holds.table = search rules in
    c.word.ensures
    ∙ ap or_zero
    (subst (λ (s : Store g.row.D.Denot). Some (hold_word c.in-Some.busy.now) ≡ get c.args.id s.holds.table) c.self.view_is (held_is c.args.id c.self.inside.holds.table (Some c.in-Some.busy.now) there))

pub returns-in-None-clause-value : goal.returns-in-None-clause-value
returns-in-None-clause-value g c =
    let none : ◌≡◌ {A = Option Bool} None (get c.args.id c.self.inside.holds.table) = search rules in
    ap or_zero (subst (λ (s : Store g.row.D.Denot). None ≡ get c.args.id s.holds.table) c.self.view_is (held_is c.args.id c.self.inside.holds.table None none))

pub returns-in-None-clause-none : goal.returns-in-None-clause-none
returns-in-None-clause-none g c =
    let none : ◌≡◌ {A = Option Bool} None (get c.args.id c.self.inside.holds.table) = search rules in
    λ e. sym (subst (λ (s : Store g.row.D.Denot). None ≡ get c.args.id s.holds.table) c.self.view_is (held_is c.args.id c.self.inside.holds.table None none))
