use Rattle.std.proofs.Common.{◌≡◌, ◌+◌, ℕ, List, None, sym, subst, slice_get, nat_eq, rules}
use Rattle.afs_num.specs.declared.faults.StoreFault.{StoreFault}
use Rattle.afs_num.specs.declared.faults.StoreFault.TheVariants as faults
use Rattle.afs_store.specs.Folds.{IsBadAt, IsFront}
use Rattle.afs_store.proofs.FoldsOn.{behind_none, goes_on, if_err, is_none_at, stops_at}
use Rattle.afs_store.proofs.replaying.take_in_place.Goals as goal

pub returns-in_default-clause-front : goal.returns-in_default-clause-front
returns-in_default-clause-front g c =
    let gone : c.record_in.result ≡ None = search rules in
    let none : slice_get c.args.records.now c.args.place ≡ None = is_none_at c.record_in.result c.args.records.now c.args.place c.record_in.ensures gone in
    subst (λ (rs : List (List ℕ)). IsFront g.S.Fold.fold rs (g.S.Fold.fold.held c.args.state.now)) (sym (behind_none c.args.records.now c.args.place none)) c.requires.front

pub returns-in_err-take_numbered-clause-bad : goal.returns-in_err-take_numbered-clause-bad
returns-in_err-take_numbered-clause-bad g c =
    if_err c.from_residual.result
    (λ (e : StoreFault). (n : ℕ) → e ≡ faults.BadRecord n → (n ≡ c.args.place + 1) × IsBadAt g.S.Fold.fold (nat_eq (c.args.place + 1) 1) c.in-Some.bytes.now (g.S.Fold.fold.held c.args.state.now))
    _
    (λ e bad n is capacity more.
    stops_at g.S.Fold.fold g.met.S.Fold.sound c.args.records.now more c.args.place n c.in-Some.bytes.now (g.S.Fold.fold.held c.args.state.now) (sym c.in-Some.ensures) c.requires.front
    (bad n is) capacity)
    (search rules)

pub returns-clause-front : goal.returns-clause-front
returns-clause-front g c =
    goes_on g.S.Fold.fold g.met.S.Fold.sound c.args.records.now c.args.place c.in-Some.bytes.now (g.S.Fold.fold.held c.args.state.now) (g.S.Fold.fold.held c.take_numbered.new.state) (sym c.in-Some.ensures) c.requires.front
    c.in_ok-take_numbered.ensures.taken
