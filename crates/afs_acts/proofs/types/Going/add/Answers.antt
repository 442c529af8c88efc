use Rattle.std.proofs.Common.{◌+◌, ℕ, IsSome, List, Option, subst, sym}
use Rattle.spec_history.specs.declared.acts.Act.{Act}
use Rattle.spec_rows.specs.Going.{ReadShown}
use Rattle.afs_acts.specs.Ways.{first_operand, names_of, IsUnderway, Steps}
use Rattle.afs_acts.proofs.Coming.{steps_on}
use Rattle.afs_acts.proofs.types.Going.add.Goals as goal

pub invariant_of-self-in-Some : goal.invariant_of-self-in-Some
invariant_of-self-in-Some c =
    let g = c.self.inside in
    let shown : ReadShown = record { fid = c.args.fid; body = c.args.body } in
    let step = subst (λ (a : Act). Steps (names_of (first_operand a)) g.way.names g.way.fid c.as_slice.result.now shown c.in-Some.next) c.get.ensures c.in-Some.ensures.steps in
    subst (λ (behind : List ReadShown). IsUnderway g.homes.first (first_operand g.act) (g.way.names + 1) c.in-Some.next behind) (sym c.in_ok-push-in-Some.ensures.ok)
    (steps_on g.homes.first (first_operand g.act) g.way.names g.way.fid g.way.behind c.as_slice.result.now shown c.in-Some.next (subst (λ (home : Option ℕ). IsSome home) c.first.ensures c.in-Some.ensures.known) c.self.invariant step)
