use Rattle.std.proofs.Common.{◌∙◌, ◌++◌, ◌∷◌, ◌+◌, [], List, ℕ, is_some, length, ap, inl, subst, sym, rules}
use Rattle.afs_disk.specs.Disk.{LeavesOnly}
use Rattle.afs_journal.specs.Log.{IsJournal}
use Rattle.afs_journal.specs.Records.{whole_records, IsBeforeOrAfter}
use Rattle.afs_journal.proofs.Moments.{and_on, unmoved}
use Rattle.afs_store.specs.Waiting.{HasPlaceOn}
use Rattle.afs_store.proofs.Folding.{none_is_taken}
use Rattle.afs_store.proofs.beginning.put_first.Goals as goal

pub unreachable-requires : goal.unreachable-requires
unreachable-requires g c = none_is_taken (g.S.Fold.fold.done c.args.rec.now (g.S.Fold.fold.held c.args.state.now)) c.requires.taken (c.ready.ensures.bad (search rules))

pub append-requires-clause-room : goal.append-requires-clause-room
append-requires-clause-room g c = subst (λ (b : List ℕ). HasPlaceOn g.D.Disk.limit g.D.Disk.space (length b) c.place.new.journal) (sym c.bytes.ensures) c.in_ok-place.ensures.room

pub redo-requires-clause-taken : goal.redo-requires-clause-taken
redo-requires-clause-taken g c =
    let k = g.S.Fold.fold in
    ap (λ (r : g.row.R.Denot). is_some (k.done r (k.held c.place.new.state))) c.in-Ok.ensures.told
    ∙ (ap (λ (d : g.row.T.Denot). is_some (k.done c.args.rec.now d)) c.place.ensures.held ∙ c.requires.taken)

pub redo-requires-clause-suits : goal.redo-requires-clause-suits
redo-requires-clause-suits g c = subst (λ (d : g.row.T.Denot). g.S.Fold.fold.Suits c.in-Ok.ready d) (sym c.place.ensures.held) c.in-Ok.ensures.suits

pub returns-clause-held : goal.returns-clause-held
returns-clause-held g c =
    let k = g.S.Fold.fold in
    ap (λ (d : g.row.T.Denot). k.done c.args.rec.now d) (sym c.place.ensures.held)
    ∙ (ap (λ (r : g.row.R.Denot). k.done r (k.held c.place.new.state)) (sym c.in-Ok.ensures.told) ∙ c.redo.ensures)

pub returns-clause-added : goal.returns-clause-added
returns-clause-added g c = λ content told.
    subst (λ (b : List ℕ). IsJournal (whole_records content ++ b ∷ []) (g.D.Disk.seen c.append.new.journal.disk) (g.D.Disk.may_leave c.append.new.journal.disk)) (c.bytes.ensures ∙ ap g.S.Fold.fold.spelled c.in-Ok.ensures.told)
    (c.in_ok-append.ensures.added content (c.place.ensures.same.disk.same_seen ∙ told))

pub returns-clause-any_moment : goal.returns-clause-any_moment
returns-clause-any_moment g c = λ content told only.
    let old = c.args.journal.now.disk in
    let mid = c.place.new.journal.disk in
    let around : List ℕ → Type 0 = IsBeforeOrAfter (whole_records content) (g.S.Fold.fold.spelled c.args.rec.now) in
    and_on g.D.Disk.moment g.D.Disk.left_since old mid c.append.new.journal.disk around around
    (unmoved g.D.Disk.moment g.D.Disk.left_since g.D.Disk.seen g.D.Disk.left_by g.D.Disk.size g.D.Disk.may_leave g.met.D.Disk.just_now old mid around c.place.ensures.same.disk (λ b left. inl (ap whole_records (only b left))))
    (subst (λ (b : List ℕ). LeavesOnly g.D.Disk.moment g.D.Disk.left_since mid c.append.new.journal.disk (IsBeforeOrAfter (whole_records content) b)) (c.bytes.ensures ∙ ap g.S.Fold.fold.spelled c.in-Ok.ensures.told)
    (c.append.ensures.any_moment content (c.place.ensures.same.disk.same_seen ∙ told)))
    (λ b left. left)

pub returns-in_err-append-clause-any_moment : goal.returns-in_err-append-clause-any_moment
returns-in_err-append-clause-any_moment g c = λ content told only.
    let old = c.args.journal.now.disk in
    let mid = c.place.new.journal.disk in
    let around : List ℕ → Type 0 = IsBeforeOrAfter (whole_records content) (g.S.Fold.fold.spelled c.args.rec.now) in
    and_on g.D.Disk.moment g.D.Disk.left_since old mid c.append.new.journal.disk around around
    (unmoved g.D.Disk.moment g.D.Disk.left_since g.D.Disk.seen g.D.Disk.left_by g.D.Disk.size g.D.Disk.may_leave g.met.D.Disk.just_now old mid around c.place.ensures.same.disk (λ b left. inl (ap whole_records (only b left))))
    (subst (λ (b : List ℕ). LeavesOnly g.D.Disk.moment g.D.Disk.left_since mid c.append.new.journal.disk (IsBeforeOrAfter (whole_records content) b)) (c.bytes.ensures ∙ ap g.S.Fold.fold.spelled c.in-Ok.ensures.told)
    (c.append.ensures.any_moment content (c.place.ensures.same.disk.same_seen ∙ told)))
    (λ b left. left)

pub returns-in_err-place-clause-any_moment : goal.returns-in_err-place-clause-any_moment
returns-in_err-place-clause-any_moment g c = λ content told only.
    unmoved g.D.Disk.moment g.D.Disk.left_since g.D.Disk.seen g.D.Disk.left_by g.D.Disk.size g.D.Disk.may_leave g.met.D.Disk.just_now c.args.journal.now.disk c.place.new.journal.disk (IsBeforeOrAfter (whole_records content) (g.S.Fold.fold.spelled c.args.rec.now)) c.place.ensures.same.disk
    (λ b left. inl (ap whole_records (only b left)))
