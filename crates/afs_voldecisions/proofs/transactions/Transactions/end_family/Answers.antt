use Rattle.std.proofs.Common.{rules, ℕ, sym, subst, ap, ◌∙◌}
use Rattle.std.proofs.lemmas.Fn.{filter_same}
use Rattle.spec_ideal.specs.Tables.{Table, AscendsFrom}
use Rattle.afs_seats.proofs.Places.{filter_ascends}
use Rattle.spec_volrows.specs.VolRow.{is_of_other, without_family}
use Rattle.spec_volrows.specs.VolStates.{Transaction}
use Rattle.afs_voldecisions.specs.Numbering.{Numbered}
use Rattle.afs_voldecisions.proofs.transactions.Transactions.end_family.Goals as goal

abbrev with_table : ℕ → Table Transaction → Numbered
with_table last t = record { table = t; last = last }

pub invariant_of-self : goal.invariant_of-self
invariant_of-self c =
    subst (λ (t : Table Transaction). AscendsFrom 0 t) (sym (filter_same _ (is_of_other c.args.family) _ (λ x b f' h. search rules) _ _ c.retain.ensures.filtered))
    (filter_ascends 0 (is_of_other c.args.family) c.self.inside.items.items c.self.invariant)

pub returns : goal.returns
returns c =
    ap (with_table c.self.inside.last) (filter_same _ (is_of_other c.args.family) _ (λ x b f' h. search rules) _ _ c.retain.ensures.filtered)
    ∙ ap (λ (n : Numbered). record n { table = without_family c.args.family n.table }) c.self.view_is
