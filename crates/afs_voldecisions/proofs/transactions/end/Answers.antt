use Rattle.std.proofs.Common.{rules, not, nat_eq, ℕ}
use Rattle.std.proofs.lemmas.Fn.{filter_same}
use Rattle.afs_seats.proofs.Places.{less_ascends}
use Rattle.spec_volrows.specs.VolStates.{Transaction}
use Rattle.afs_voldecisions.proofs.transactions.end.Goals as goal

pub returns-clause-table : goal.returns-clause-table
returns-clause-table c =
    filter_same _ (λ (p : ℕ × Transaction). not (nat_eq p.0 c.args.number)) _ (λ x b f' h. search rules) _ _ c.retain.ensures.filtered

pub returns-clause-ascends : goal.returns-clause-ascends
returns-clause-ascends c =
    less_ascends c.args.number c.args.items.now.items c.retain.new.self.items c.requires
    (filter_same _ (λ (p : ℕ × Transaction). not (nat_eq p.0 c.args.number)) _ (λ x b f' h. search rules) _ _ c.retain.ensures.filtered)
