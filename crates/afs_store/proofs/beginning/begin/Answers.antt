use Rattle.std.proofs.Common.{◌≡◌, ◌∙◌, [], List, ℕ, IsOk, ap, length, rules, subst, sym, false, true}
use Rattle.afs_disk.specs.Disk.{LeavesJust, LeavesOnly}
use Rattle.afs_journal.specs.Log.{StandsAsBefore}
use Rattle.afs_journal.specs.Records.{whole_records}
use Rattle.afs_journal.proofs.Moments.{weaker}
use Rattle.afs_store.proofs.Begun.{begun_on, none_left}
use Rattle.afs_store.proofs.beginning.begin.Goals as goal

pub returns-clause-empty : goal.returns-clause-empty
returns-clause-empty g c =
    let none = c.in_ok-journal.ensures.empty c.in-Ok.ensures.empty in
    (none.1, (c.in_ok-journal.ensures.counts.0 ∙ ap length none.0, c.in_ok-journal.ensures.counts.1.1))

pub returns-clause-begun : goal.returns-clause-begun
returns-clause-begun g c = λ told.
    begun_on (g.D.Disk.size c.clear.new.disk) (g.D.Disk.seen c.clear.new.disk) (g.D.Disk.seen c.in_ok-journal.journal.disk) (g.D.Disk.may_leave c.in_ok-journal.journal.disk) (g.met.D.Disk.measures c.clear.new.disk) c.in-Ok.ensures.empty c.in_ok-journal.ensures.at_rest
    (c.clear.ensures.told.1 told)

pub returns-clause-any_moment : goal.returns-clause-any_moment
returns-clause-any_moment g c = λ told only.
    let same = (c.clear.ensures.untouched (sym (g.met.D.Disk.measures c.args.disk [] told))).0 in
    subst (λ (d : g.row.D.Denot). LeavesOnly g.D.Disk.moment g.D.Disk.left_since d c.in_ok-journal.journal.disk (λ (b : List ℕ). whole_records b ≡ [])) same
    (weaker g.D.Disk.moment g.D.Disk.left_since c.clear.new.disk c.in_ok-journal.journal.disk (λ (b : List ℕ). whole_records b ≡ []) (StandsAsBefore (g.D.Disk.may_leave c.clear.new.disk)) (c.in_ok-journal.ensures.any_moment [] (ap g.D.Disk.seen same ∙ told))
    (λ b left. none_left (g.D.Disk.may_leave c.clear.new.disk) b (subst (λ (d : g.row.D.Denot). LeavesJust [] (g.D.Disk.may_leave d)) (sym same) only) left))

pub returns-in_err-journal-clause-any_moment : goal.returns-in_err-journal-clause-any_moment
returns-in_err-journal-clause-any_moment g c = λ told only.
    let same = (c.clear.ensures.untouched (sym (g.met.D.Disk.measures c.args.disk [] told))).0 in
    let left : LeavesOnly g.D.Disk.moment g.D.Disk.left_since c.args.disk c.in_err-journal.field-0.0.1 (λ (b : List ℕ). whole_records b ≡ []) =
    subst (λ (d : g.row.D.Denot). LeavesOnly g.D.Disk.moment g.D.Disk.left_since d c.in_err-journal.field-0.0.1 (λ (b : List ℕ). whole_records b ≡ [])) same
    (weaker g.D.Disk.moment g.D.Disk.left_since c.clear.new.disk c.in_err-journal.field-0.0.1 (λ (b : List ℕ). whole_records b ≡ []) (StandsAsBefore (g.D.Disk.may_leave c.clear.new.disk)) (c.in_err-journal.ensures.any_moment [] (ap g.D.Disk.seen same ∙ told))
    (λ b left. none_left (g.D.Disk.may_leave c.clear.new.disk) b (subst (λ (d : g.row.D.Denot). LeavesJust [] (g.D.Disk.may_leave d)) (sym same) only) left)) in
    search rules

pub returns-in-Err-clause-any_moment : goal.returns-in-Err-clause-any_moment
returns-in-Err-clause-any_moment g c = λ told only.
    let no : false ≡ true = subst IsOk c.in-Err.is (c.clear.ensures.untouched (sym (g.met.D.Disk.measures c.args.disk [] told))).1 in
    absurd cc
