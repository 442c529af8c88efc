use Rattle.std.proofs.Common.{◌≡◌, ◌+◌, ◌++◌, ◌∷◌, [], ℕ, is_some, ap, sym, subst, ◌∙◌}
use Rattle.afs_journal.specs.Log.{IsJournal}
use Rattle.afs_journal.proofs.Moments.{and_on, begins, unmoved}
use Rattle.afs_journal.specs.Records.{whole_records}
use Rattle.afs_store.specs.Stores.{IsKept, LeftAround, StoreOf}
use Rattle.afs_store.proofs.Folding.{is_taken}
use Rattle.afs_store.proofs.Kept.{left_now}
use Rattle.afs_store.proofs.store.Store.boot.Goals as goal

pub returns-then-boot-clause-any_moment : goal.returns-then-boot-clause-any_moment
returns-then-boot-clause-any_moment g c = λ bytes told.
    let k = g.S.Fold.fold in
    let old = c.args.self.now in
    let rec = k.start (k.boot old.durable + 1) in
    let kept : IsKept k old.durable (g.D.Disk.seen old.disk) (g.D.Disk.may_leave old.disk) =
    subst (λ (s : StoreOf g.row.D.Denot g.row.R.Denot g.row.T.Denot). IsKept k s.durable (g.D.Disk.seen s.disk) (g.D.Disk.may_leave s.disk)) c.self.view_is (c.self.invariant.kept (ap (λ (s : StoreOf g.row.D.Denot g.row.R.Denot g.row.T.Denot). s.closed) c.self.view_is ∙ c.requires)) in
    begins g.D.Disk.moment g.D.Disk.left_since old.disk (LeftAround k (whole_records bytes) rec old.durable)
    (λ b left. left_now k rec old.durable (g.D.Disk.seen old.disk) (g.D.Disk.may_leave old.disk) bytes kept told b (g.met.D.Disk.just_now old.disk b left))

pub prepare-prepared-requires-clause-taken : goal.prepare-prepared-requires-clause-taken
prepare-prepared-requires-clause-taken g c =
    let k = g.S.Fold.fold in
    let j = c.self.inside.journal in
    let held = k.held c.self.inside.state in
    ap (λ (s : StoreOf g.row.D.Denot g.row.R.Denot g.row.T.Denot). is_some (k.folded c.start-rec.result s.durable)) (sym c.self.view_is)
    ∙ (is_taken k g.met.S.Fold.sound c.start-rec.result (j.gate + 1) (g.D.Disk.limit j.disk) held
    ∙ (ap (λ (r : g.row.R.Denot). is_some (k.done r held)) c.start-rec.ensures.record ∙ g.met.S.Fold.sound.starts (c.boot-boot.result + 1) held))

pub returns-in_err-prepared-clause-any_moment : goal.returns-in_err-prepared-clause-any_moment
returns-in_err-prepared-clause-any_moment g c = λ bytes told.
    let k = g.S.Fold.fold in
    let old = c.args.self.now in
    let rec = k.start (k.boot old.durable + 1) in
    let kept : IsKept k old.durable (g.D.Disk.seen old.disk) (g.D.Disk.may_leave old.disk) =
    subst (λ (s : StoreOf g.row.D.Denot g.row.R.Denot g.row.T.Denot). IsKept k s.durable (g.D.Disk.seen s.disk) (g.D.Disk.may_leave s.disk)) c.self.view_is (c.self.invariant.kept (ap (λ (s : StoreOf g.row.D.Denot g.row.R.Denot g.row.T.Denot). s.closed) c.self.view_is ∙ c.requires)) in
    unmoved g.D.Disk.moment g.D.Disk.left_since g.D.Disk.seen g.D.Disk.left_by g.D.Disk.size g.D.Disk.may_leave g.met.D.Disk.just_now old.disk c.prepare-prepared.new.self.disk (LeftAround k (whole_records bytes) rec old.durable) c.prepare-prepared.ensures.disk
    (λ b left. left_now k rec old.durable (g.D.Disk.seen old.disk) (g.D.Disk.may_leave old.disk) bytes kept told b left)

pub returns-in_err-commit-clause-any_moment : goal.returns-in_err-commit-clause-any_moment
returns-in_err-commit-clause-any_moment g c = λ bytes told.
    let k = g.S.Fold.fold in
    let j = c.self.inside.journal in
    let old = c.args.self.now in
    let rec = k.start (k.boot old.durable + 1) in
    let rec_is : c.start-rec.result ≡ rec = c.start-rec.ensures.record ∙ ap (λ (n : ℕ). k.start (n + 1)) (c.boot-boot.ensures ∙ (sym (g.met.S.Fold.sound.boots (j.gate + 1) (g.D.Disk.limit j.disk) (k.held c.self.inside.state)) ∙ ap (λ (s : StoreOf g.row.D.Denot g.row.R.Denot g.row.T.Denot). k.boot s.durable) c.self.view_is)) in
    let kept : IsKept k old.durable (g.D.Disk.seen old.disk) (g.D.Disk.may_leave old.disk) =
    subst (λ (s : StoreOf g.row.D.Denot g.row.R.Denot g.row.T.Denot). IsKept k s.durable (g.D.Disk.seen s.disk) (g.D.Disk.may_leave s.disk)) c.self.view_is (c.self.invariant.kept (ap (λ (s : StoreOf g.row.D.Denot g.row.R.Denot g.row.T.Denot). s.closed) c.self.view_is ∙ c.requires)) in
    let mid = c.prepare-prepared.new.self in
    and_on g.D.Disk.moment g.D.Disk.left_since old.disk mid.disk c.commit.new.self.disk (LeftAround k (whole_records bytes) rec old.durable) (LeftAround k (whole_records bytes) c.start-rec.result mid.durable)
    (unmoved g.D.Disk.moment g.D.Disk.left_since g.D.Disk.seen g.D.Disk.left_by g.D.Disk.size g.D.Disk.may_leave g.met.D.Disk.just_now old.disk c.prepare-prepared.new.self.disk (LeftAround k (whole_records bytes) rec old.durable) c.prepare-prepared.ensures.disk
    (λ b left. left_now k rec old.durable (g.D.Disk.seen old.disk) (g.D.Disk.may_leave old.disk) bytes kept told b left))
    (c.commit.ensures.any_moment (ap (λ (s : StoreOf g.row.D.Denot g.row.R.Denot g.row.T.Denot). s.closed) c.in_ok-prepared.ensures.ok ∙ c.requires) c.start-rec.result (ap (λ (s : StoreOf g.row.D.Denot g.row.R.Denot g.row.T.Denot). s.prepared) c.in_ok-prepared.ensures.ok) bytes (c.prepare-prepared.ensures.disk.same_seen ∙ told))
    (λ b left. subst (λ (r : g.row.R.Denot). LeftAround k (whole_records bytes) r old.durable b) rec_is (subst (λ (d : g.row.T.Denot). LeftAround k (whole_records bytes) c.start-rec.result d b) (ap (λ (s : StoreOf g.row.D.Denot g.row.R.Denot g.row.T.Denot). s.durable) c.in_ok-prepared.ensures.ok) left))

pub returns-clause-any_moment : goal.returns-clause-any_moment
returns-clause-any_moment g c = λ bytes told.
    let k = g.S.Fold.fold in
    let j = c.self.inside.journal in
    let old = c.args.self.now in
    let rec = k.start (k.boot old.durable + 1) in
    let rec_is : c.start-rec.result ≡ rec = c.start-rec.ensures.record ∙ ap (λ (n : ℕ). k.start (n + 1)) (c.boot-boot.ensures ∙ (sym (g.met.S.Fold.sound.boots (j.gate + 1) (g.D.Disk.limit j.disk) (k.held c.self.inside.state)) ∙ ap (λ (s : StoreOf g.row.D.Denot g.row.R.Denot g.row.T.Denot). k.boot s.durable) c.self.view_is)) in
    let kept : IsKept k old.durable (g.D.Disk.seen old.disk) (g.D.Disk.may_leave old.disk) =
    subst (λ (s : StoreOf g.row.D.Denot g.row.R.Denot g.row.T.Denot). IsKept k s.durable (g.D.Disk.seen s.disk) (g.D.Disk.may_leave s.disk)) c.self.view_is (c.self.invariant.kept (ap (λ (s : StoreOf g.row.D.Denot g.row.R.Denot g.row.T.Denot). s.closed) c.self.view_is ∙ c.requires)) in
    let mid = c.prepare-prepared.new.self in
    and_on g.D.Disk.moment g.D.Disk.left_since old.disk mid.disk c.commit.new.self.disk (LeftAround k (whole_records bytes) rec old.durable) (LeftAround k (whole_records bytes) c.start-rec.result mid.durable)
    (unmoved g.D.Disk.moment g.D.Disk.left_since g.D.Disk.seen g.D.Disk.left_by g.D.Disk.size g.D.Disk.may_leave g.met.D.Disk.just_now old.disk c.prepare-prepared.new.self.disk (LeftAround k (whole_records bytes) rec old.durable) c.prepare-prepared.ensures.disk
    (λ b left. left_now k rec old.durable (g.D.Disk.seen old.disk) (g.D.Disk.may_leave old.disk) bytes kept told b left))
    (c.commit.ensures.any_moment (ap (λ (s : StoreOf g.row.D.Denot g.row.R.Denot g.row.T.Denot). s.closed) c.in_ok-prepared.ensures.ok ∙ c.requires) c.start-rec.result (ap (λ (s : StoreOf g.row.D.Denot g.row.R.Denot g.row.T.Denot). s.prepared) c.in_ok-prepared.ensures.ok) bytes (c.prepare-prepared.ensures.disk.same_seen ∙ told))
    (λ b left. subst (λ (r : g.row.R.Denot). LeftAround k (whole_records bytes) r old.durable b) rec_is (subst (λ (d : g.row.T.Denot). LeftAround k (whole_records bytes) c.start-rec.result d b) (ap (λ (s : StoreOf g.row.D.Denot g.row.R.Denot g.row.T.Denot). s.durable) c.in_ok-prepared.ensures.ok) left))

pub returns-clause-taken : goal.returns-clause-taken
returns-clause-taken g c =
    let k = g.S.Fold.fold in
    let j = c.self.inside.journal in
    let old = c.args.self.now in
    let rec = k.start (k.boot old.durable + 1) in
    let rec_is : c.start-rec.result ≡ rec = c.start-rec.ensures.record ∙ ap (λ (n : ℕ). k.start (n + 1)) (c.boot-boot.ensures ∙ (sym (g.met.S.Fold.sound.boots (j.gate + 1) (g.D.Disk.limit j.disk) (k.held c.self.inside.state)) ∙ ap (λ (s : StoreOf g.row.D.Denot g.row.R.Denot g.row.T.Denot). k.boot s.durable) c.self.view_is)) in
    ap (λ (r : g.row.R.Denot). k.folded r old.durable) (sym rec_is)
    ∙ (ap (λ (s : StoreOf g.row.D.Denot g.row.R.Denot g.row.T.Denot). k.folded c.start-rec.result s.durable) (sym c.in_ok-prepared.ensures.ok) ∙ c.in_ok-commit.ensures.taken c.start-rec.result (ap (λ (s : StoreOf g.row.D.Denot g.row.R.Denot g.row.T.Denot). s.prepared) c.in_ok-prepared.ensures.ok))

pub returns-clause-added : goal.returns-clause-added
returns-clause-added g c = λ bytes told.
    let k = g.S.Fold.fold in
    let j = c.self.inside.journal in
    let old = c.args.self.now in
    let rec = k.start (k.boot old.durable + 1) in
    let rec_is : c.start-rec.result ≡ rec = c.start-rec.ensures.record ∙ ap (λ (n : ℕ). k.start (n + 1)) (c.boot-boot.ensures ∙ (sym (g.met.S.Fold.sound.boots (j.gate + 1) (g.D.Disk.limit j.disk) (k.held c.self.inside.state)) ∙ ap (λ (s : StoreOf g.row.D.Denot g.row.R.Denot g.row.T.Denot). k.boot s.durable) c.self.view_is)) in
    subst (λ (r : g.row.R.Denot). IsJournal (whole_records bytes ++ k.spelled r ∷ []) (g.D.Disk.seen c.commit.new.self.disk) (g.D.Disk.may_leave c.commit.new.self.disk)) rec_is
    (c.in_ok-commit.ensures.added c.start-rec.result (ap (λ (s : StoreOf g.row.D.Denot g.row.R.Denot g.row.T.Denot). s.prepared) c.in_ok-prepared.ensures.ok) bytes (c.prepare-prepared.ensures.disk.same_seen ∙ told))
