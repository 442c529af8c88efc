-- A device call after another: what each may leave is what `Appended` says.
use Rattle.std.proofs.Common.{◌≡◌, ℕ, refl, sym, ◌∙◌, subst, arith}
use Rattle.afs_disk.specs.Disk.{Setting, Trips}
use Rattle.afs_journal.proofs.Appended.{written, synced, still_shut, picked, opened, ended, added}
use Rattle.afs_journal.proofs.Broken.{left_picked, left_shut, passed_on, reached_first, reached_so}
use Rattle.afs_journal.specs.Records.{whole_records}
use Rattle.afs_journal.proofs.put.put.Goals as goal

pub returns-in_err-write_at-clause-any_moment : goal.returns-in_err-write_at-clause-any_moment
returns-in_err-write_at-clause-any_moment g c = λ count body bytes spells told settled.
    written g.D.Disk.seen g.D.Disk.may_leave g.D.Disk.moment g.D.Disk.left_since g.met.D.Disk.just_now count c.args.gate body bytes c.args.place.now spells c.args.disk.now told settled c.write_at.new.self c.write_at.ensures.time c.write_at.ensures.crash

pub returns-in_err-sync-clause-any_moment : goal.returns-in_err-sync-clause-any_moment
returns-in_err-sync-clause-any_moment g c = λ count body bytes spells told settled.
    synced g.D.Disk.seen g.D.Disk.may_leave g.D.Disk.moment g.D.Disk.left_since g.met.D.Disk.just_now count c.args.gate body bytes c.args.place.now spells c.args.disk.now told settled c.write_at.new.self c.write_at.ensures.time c.write_at.ensures.crash c.sync.new.self c.sync.ensures.time c.sync.ensures.crash

pub returns-in_err-write_at-2-clause-any_moment : goal.returns-in_err-write_at-2-clause-any_moment
returns-in_err-write_at-2-clause-any_moment g c = λ count body bytes spells told settled.
    opened g.D.Disk.seen g.D.Disk.may_leave g.D.Disk.moment g.D.Disk.left_since g.met.D.Disk.just_now count c.args.gate body bytes c.args.place.now spells c.args.disk.now told settled c.write_at.new.self c.write_at.ensures.time c.write_at.ensures.crash c.sync.new.self c.sync.ensures.time c.sync.ensures.crash c.in_ok-write_at.ensures.written c.sync.ensures.seen c.in_ok-sync.ensures.durable c.write_at-2.new.self c.write_at-2.ensures.time c.write_at-2.ensures.crash

pub returns-in_err-sync-2-clause-any_moment : goal.returns-in_err-sync-2-clause-any_moment
returns-in_err-sync-2-clause-any_moment g c = λ count body bytes spells told settled.
    ended g.D.Disk.seen g.D.Disk.may_leave g.D.Disk.moment g.D.Disk.left_since g.met.D.Disk.just_now count c.args.gate body bytes c.args.place.now spells c.args.disk.now told settled c.write_at.new.self c.write_at.ensures.time c.write_at.ensures.crash c.sync.new.self c.sync.ensures.time c.sync.ensures.crash c.in_ok-write_at.ensures.written c.sync.ensures.seen c.in_ok-sync.ensures.durable c.write_at-2.new.self c.write_at-2.ensures.time c.write_at-2.ensures.crash c.sync-2.new.self c.sync-2.ensures.time c.sync-2.ensures.crash

pub returns-clause-done : goal.returns-clause-done
returns-clause-done g c = λ count body bytes spells told settled.
    added g.D.Disk.seen g.D.Disk.may_leave g.D.Disk.moment g.D.Disk.left_since g.met.D.Disk.just_now count c.args.gate body bytes c.args.place.now spells c.args.disk.now told settled c.write_at.new.self c.write_at.ensures.time c.write_at.ensures.crash c.sync.new.self c.sync.ensures.time c.sync.ensures.crash c.in_ok-write_at.ensures.written c.sync.ensures.seen c.in_ok-sync.ensures.durable c.write_at-2.new.self c.write_at-2.ensures.time c.write_at-2.ensures.crash c.sync-2.new.self c.sync-2.ensures.time c.sync-2.ensures.crash c.in_ok-write_at-2.ensures.written c.sync-2.ensures.seen c.in_ok-sync-2.ensures.durable

pub returns-clause-any_moment : goal.returns-clause-any_moment
returns-clause-any_moment g c = λ count body bytes spells told settled.
    ended g.D.Disk.seen g.D.Disk.may_leave g.D.Disk.moment g.D.Disk.left_since g.met.D.Disk.just_now count c.args.gate body bytes c.args.place.now spells c.args.disk.now told settled c.write_at.new.self c.write_at.ensures.time c.write_at.ensures.crash c.sync.new.self c.sync.ensures.time c.sync.ensures.crash c.in_ok-write_at.ensures.written c.sync.ensures.seen c.in_ok-sync.ensures.durable c.write_at-2.new.self c.write_at-2.ensures.time c.write_at-2.ensures.crash c.sync-2.new.self c.sync-2.ensures.time c.sync-2.ensures.crash

-- ---- where one of the calls wasn't made

pub returns-in_err-write_at-clause-reached : goal.returns-in_err-write_at-clause-reached
returns-in_err-write_at-clause-reached g c = reached_first _ _ _ c.write_at.ensures.calls

pub returns-in_err-sync-clause-reached : goal.returns-in_err-sync-clause-reached
returns-in_err-sync-clause-reached g c = reached_so _ _ _ _ (omega (arith, c.write_at.ensures.calls)) c.in_ok-write_at.ensures.cause.passed c.sync.ensures.calls

pub returns-in_err-write_at-2-clause-reached : goal.returns-in_err-write_at-2-clause-reached
returns-in_err-write_at-2-clause-reached g c =
    let two = passed_on _ _ _ _ _ c.write_at.ensures.setting c.in_ok-write_at.ensures.cause.passed c.in_ok-sync.ensures.cause.passed in
    reached_so _ _ _ _ (omega (arith, c.write_at.ensures.calls, c.sync.ensures.calls)) two c.write_at-2.ensures.calls

pub returns-in_err-sync-2-clause-reached : goal.returns-in_err-sync-2-clause-reached
returns-in_err-sync-2-clause-reached g c =
    let two = passed_on _ _ _ _ _ c.write_at.ensures.setting c.in_ok-write_at.ensures.cause.passed c.in_ok-sync.ensures.cause.passed in
    let three = passed_on _ _ _ _ _ (c.sync.ensures.setting ∙ c.write_at.ensures.setting) two c.in_ok-write_at-2.ensures.cause.passed in
    reached_so _ _ _ _ (omega (arith, c.write_at.ensures.calls, c.sync.ensures.calls, c.write_at-2.ensures.calls)) three c.sync-2.ensures.calls

pub returns-in_err-write_at-clause-left : goal.returns-in_err-write_at-clause-left
returns-in_err-write_at-clause-left g c = λ count body bytes spells told settled.
    left_shut g.D.Disk.left_by g.D.Disk.calls g.D.Disk.setting (whole_records bytes) body g.D.Disk.may_leave g.met.D.Disk.leaves c.args.disk.now c.write_at.new.self 1 (omega (arith, c.write_at.ensures.calls)) refl
    (λ trips. still_shut g.D.Disk.seen g.D.Disk.may_leave g.D.Disk.moment g.D.Disk.left_since g.met.D.Disk.just_now count c.args.gate body bytes c.args.place.now spells c.args.disk.now told settled c.write_at.new.self c.write_at.ensures.time c.write_at.ensures.crash)

pub returns-in_err-sync-clause-left : goal.returns-in_err-sync-clause-left
returns-in_err-sync-clause-left g c = λ count body bytes spells told settled.
    left_shut g.D.Disk.left_by g.D.Disk.calls g.D.Disk.setting (whole_records bytes) body g.D.Disk.may_leave g.met.D.Disk.leaves c.args.disk.now c.sync.new.self 2 (omega (arith, c.write_at.ensures.calls, c.sync.ensures.calls)) refl
    (λ trips b left. still_shut g.D.Disk.seen g.D.Disk.may_leave g.D.Disk.moment g.D.Disk.left_since g.met.D.Disk.just_now count c.args.gate body bytes c.args.place.now spells c.args.disk.now told settled c.write_at.new.self c.write_at.ensures.time c.write_at.ensures.crash b (c.sync.ensures.crash b left))

pub returns-in_err-write_at-2-clause-left : goal.returns-in_err-write_at-2-clause-left
returns-in_err-write_at-2-clause-left g c = λ count body bytes spells told settled.
    let set : g.D.Disk.setting c.sync.new.self ≡ g.D.Disk.setting c.args.disk.now = c.sync.ensures.setting ∙ c.write_at.ensures.setting in
    left_shut g.D.Disk.left_by g.D.Disk.calls g.D.Disk.setting (whole_records bytes) body g.D.Disk.may_leave g.met.D.Disk.leaves c.args.disk.now c.write_at-2.new.self 3 (omega (arith, c.write_at.ensures.calls, c.sync.ensures.calls, c.write_at-2.ensures.calls)) refl
    (λ trips b left. let untouched = c.write_at-2.ensures.stopped (subst (λ (s : Setting). Trips s (g.D.Disk.calls c.write_at-2.new.self)) (sym set) trips) in
    still_shut g.D.Disk.seen g.D.Disk.may_leave g.D.Disk.moment g.D.Disk.left_since g.met.D.Disk.just_now count c.args.gate body bytes c.args.place.now spells c.args.disk.now told settled c.write_at.new.self c.write_at.ensures.time c.write_at.ensures.crash b (c.sync.ensures.crash b (untouched.same.leaves b left)))

pub returns-in_err-sync-2-clause-left : goal.returns-in_err-sync-2-clause-left
returns-in_err-sync-2-clause-left g c = λ count body bytes spells told settled.
    let set : g.D.Disk.setting c.write_at-2.new.self ≡ g.D.Disk.setting c.args.disk.now = c.write_at-2.ensures.setting ∙ (c.sync.ensures.setting ∙ c.write_at.ensures.setting) in
    left_picked g.D.Disk.left_by g.D.Disk.calls g.D.Disk.setting (whole_records bytes) body c.args.disk.now c.sync-2.new.self (omega (arith, c.write_at.ensures.calls, c.sync.ensures.calls, c.write_at-2.ensures.calls, c.sync-2.ensures.calls))
    (λ trips pick b left. let untouched = c.sync-2.ensures.stopped (subst (λ (s : Setting). Trips s (g.D.Disk.calls c.sync-2.new.self)) (sym set) trips) in
    picked g.D.Disk.seen g.D.Disk.may_leave g.D.Disk.moment g.D.Disk.left_since g.met.D.Disk.just_now count c.args.gate body bytes c.args.place.now spells c.args.disk.now told settled c.write_at.new.self c.write_at.ensures.time c.write_at.ensures.crash c.sync.new.self c.sync.ensures.time c.sync.ensures.crash c.in_ok-write_at.ensures.written c.sync.ensures.seen c.in_ok-sync.ensures.durable c.write_at-2.new.self c.write_at-2.ensures.time c.write_at-2.ensures.crash g.D.Disk.left_by c.in_ok-sync.ensures.picks c.in_ok-write_at-2.ensures.picks pick b (sym (untouched.same.same_picks pick) ∙ left))

pub returns-clause-reached : goal.returns-clause-reached
returns-clause-reached g c =
    let two = passed_on _ _ _ _ _ c.write_at.ensures.setting c.in_ok-write_at.ensures.cause.passed c.in_ok-sync.ensures.cause.passed in
    let three = passed_on _ _ _ _ _ (c.sync.ensures.setting ∙ c.write_at.ensures.setting) two c.in_ok-write_at-2.ensures.cause.passed in
    reached_so _ _ _ _ (omega (arith, c.write_at.ensures.calls, c.sync.ensures.calls, c.write_at-2.ensures.calls)) three c.sync-2.ensures.calls

-- none was
pub returns-clause-left : goal.returns-clause-left
returns-clause-left g c = λ count body bytes spells told settled trips.
    let two = passed_on _ _ _ _ _ c.write_at.ensures.setting c.in_ok-write_at.ensures.cause.passed c.in_ok-sync.ensures.cause.passed in
    let three = passed_on _ _ _ _ _ (c.sync.ensures.setting ∙ c.write_at.ensures.setting) two c.in_ok-write_at-2.ensures.cause.passed in
    let four = passed_on _ _ _ _ _ (c.write_at-2.ensures.setting ∙ (c.sync.ensures.setting ∙ c.write_at.ensures.setting)) three c.in_ok-sync-2.ensures.cause.passed in
    absurd (four (g.D.Disk.calls c.sync-2.new.self) (omega (arith, c.write_at.ensures.calls, c.sync.ensures.calls, c.write_at-2.ensures.calls, c.sync-2.ensures.calls)) (omega (arith)) trips)
