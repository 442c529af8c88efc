use Rattle.std.proofs.Common.{◌≡◌, ◌+◌, ◌++◌, ◌∙◌, [], ℕ, List, Some, length, length-take-le, take, ap, arith, sym, subst, nat_eq, rules}
use Rattle.std.proofs.lemmas.List.{append-nil}
use Rattle.std.specs.Option.{option_map}
use Rattle.afs_num.specs.declared.faults.StoreFault.{StoreFault}
use Rattle.afs_num.specs.declared.faults.StoreFault.TheVariants as faults
use Rattle.afs_store.specs.Folds.{places_length, wanted_lines, IsBadAt, TakesOne}
use Rattle.afs_store.proofs.FoldsOn.{all_taken, bad_at, if_err, told_last}
use Rattle.afs_store.proofs.replaying.fold.Goals as goal

counted : (records : List (List ℕ)) (count : ℕ) → length records ≡ count + 1 → count ≡ length (take count records)
counted records count many = sym (length-take-le count records (omega (arith, many)))

-- a record before the last is bad
pub returns-in_err-state-clause-bad : goal.returns-in_err-state-clause-bad
returns-in_err-state-clause-bad g c =
    let rs = c.args.records.now in
    if_err c.from_residual.result (λ (e : StoreFault). (n : ℕ) → e ≡ faults.BadRecord n → (capacity : ℕ) (more : List (List ℕ)) → g.S.Fold.fold.first_bad capacity (rs ++ more) ≡ Some n) _
    (λ e bad n is capacity. ap (g.S.Fold.fold.first_bad capacity) (sym (append-nil rs)) ∙ bad n is capacity [])
    (search rules)

pub returns-in_err-lines-clause-bad : goal.returns-in_err-lines-clause-bad
returns-in_err-lines-clause-bad g c =
    let rs = c.args.records.now in
    let same = counted rs c.in-Some.count c.in-Some.ensures.count in
    if_err c.from_residual-in_err-lines.result
    (λ (e : StoreFault). (n : ℕ) → e ≡ faults.BadRecord n → (n ≡ c.in-Some.count + 1) × IsBadAt g.S.Fold.fold (nat_eq (c.in-Some.count + 1) 1) c.in-Some.last.now (g.S.Fold.fold.held c.in_ok-state.state))
    _
    (λ e bad n is capacity.
    ap (g.S.Fold.fold.first_bad capacity) c.in-Some.ensures.some
    ∙ bad_at g.S.Fold.fold g.met.S.Fold.sound capacity (take c.in-Some.count rs) c.in-Some.last.now [] (g.S.Fold.fold.held c.in_ok-state.state) n (c.in_ok-state.ensures.folded capacity) ((bad n is).0 ∙ ap (λ (k : ℕ). k + 1) same)
    (subst (λ (k : ℕ). IsBadAt g.S.Fold.fold (nat_eq (k + 1) 1) c.in-Some.last.now (g.S.Fold.fold.held c.in_ok-state.state)) same (bad n is).1))
    (search rules)

pub returns-clause-folded : goal.returns-clause-folded
returns-clause-folded g c = λ capacity.
    let rs = c.args.records.now in
    let same = counted rs c.in-Some.count c.in-Some.ensures.count in
    subst (λ (xs : List (List ℕ)). g.S.Fold.fold.fold_all capacity xs ≡ Some (g.S.Fold.fold.placed (1 + places_length xs) capacity (g.S.Fold.fold.held c.take_numbered.new.state))) (sym c.in-Some.ensures.some)
    (all_taken g.S.Fold.fold g.met.S.Fold.sound capacity (take c.in-Some.count rs) c.in-Some.last.now (g.S.Fold.fold.held c.in_ok-state.state) (g.S.Fold.fold.held c.take_numbered.new.state) (c.in_ok-state.ensures.folded capacity)
    (subst (λ (k : ℕ). TakesOne g.S.Fold.fold (nat_eq (k + 1) 1) c.in-Some.last.now (g.S.Fold.fold.held c.in_ok-state.state) (g.S.Fold.fold.held c.take_numbered.new.state)) same c.in_ok-lines.ensures.taken))

pub returns-clause-lines : goal.returns-clause-lines
returns-clause-lines g c = λ capacity.
    let rs = c.args.records.now in
    let same = counted rs c.in-Some.count c.in-Some.ensures.count in
    subst (λ (xs : List (List ℕ)). option_map (wanted_lines g.S.Fold.fold c.args.wanted) (g.S.Fold.fold.last_effect c.args.node capacity xs) ≡ Some c.in_ok-lines.lines) (sym c.in-Some.ensures.some)
    (told_last g.S.Fold.fold g.met.S.Fold.sound c.args.node c.args.wanted c.in_ok-lines.lines capacity (take c.in-Some.count rs) c.in-Some.last.now (g.S.Fold.fold.held c.in_ok-state.state) (g.S.Fold.fold.held c.take_numbered.new.state) (c.in_ok-state.ensures.folded capacity)
    (subst (λ (k : ℕ). TakesOne g.S.Fold.fold (nat_eq (k + 1) 1) c.in-Some.last.now (g.S.Fold.fold.held c.in_ok-state.state) (g.S.Fold.fold.held c.take_numbered.new.state)) same c.in_ok-lines.ensures.taken)
    c.in_ok-lines.ensures.lines)
