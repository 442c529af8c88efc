use Rattle.std.proofs.Common.{◌≡◌, ◌+◌, ◌++◌, ◌∷◌, [], ℕ, List, Some, false, length, refl, sym, ap, subst, ◌∙◌, rules}
use Rattle.afs_disk.specs.Disk.{LeavesOnly}
use Rattle.afs_journal.specs.Left.{LeavesByPick, ReachesCall}
use Rattle.afs_journal.specs.Log.{IsJournal}
use Rattle.afs_journal.specs.Records.{whole_records, IsBeforeOrAfter}
use Rattle.afs_journal.proofs.Moments.{weaker}
use Rattle.afs_store.specs.Stores.{LeftAround, StoreOf}
use Rattle.afs_store.specs.Waiting.{HasPlaceOn, Waits, WaitsReady}
use Rattle.afs_store.proofs.Folding.{left_around, put_folds, record_is}
use Rattle.afs_store.proofs.Kept.{counted_more, kept_more}
use Rattle.afs_store.proofs.store.Store.commit.Goals as goal

pub bytes-requires : goal.bytes-requires
bytes-requires g c =
    let is : c.self.inside.prepared ≡ Some c.in-Some.ready = sym c.replace.ensures.value ∙ c.in-Some.is in
    let waits : Waits g.S.Fold.fold g.D.Disk.limit g.D.Disk.space c.self.inside.journal c.self.inside.state c.in-Some.ready = subst (WaitsReady g.S.Fold.fold g.D.Disk.limit g.D.Disk.space c.self.inside.journal c.self.inside.state) is c.self.invariant.ready in
    waits.ready

pub append-requires-clause-room : goal.append-requires-clause-room
append-requires-clause-room g c =
    let is : c.self.inside.prepared ≡ Some c.in-Some.ready = sym c.replace.ensures.value ∙ c.in-Some.is in
    let waits : Waits g.S.Fold.fold g.D.Disk.limit g.D.Disk.space c.self.inside.journal c.self.inside.state c.in-Some.ready = subst (WaitsReady g.S.Fold.fold g.D.Disk.limit g.D.Disk.space c.self.inside.journal c.self.inside.state) is c.self.invariant.ready in
    subst (λ (b : List ℕ). HasPlaceOn g.D.Disk.limit g.D.Disk.space (length b) c.self.inside.journal) (sym c.bytes.ensures) waits.place

pub returns-in_err-append-clause-failed : goal.returns-in_err-append-clause-failed
returns-in_err-append-clause-failed g c = λ e.
    rw (← c.self.view_is) (rw (c.in_err-append.ensures.stays.1, c.append.ensures.setting.0, c.replace.ensures.after, c.in_err-append.ensures.failed, c.in_err-append.ensures.stays.0) refl)

pub returns-in_err-append-clause-any_moment : goal.returns-in_err-append-clause-any_moment
returns-in_err-append-clause-any_moment g c = λ shut r has bytes told.
    let k = g.S.Fold.fold in
    let p = c.in-Some.ready in
    let j = c.self.inside.journal in
    let is : c.self.inside.prepared ≡ Some p = sym c.replace.ensures.value ∙ c.in-Some.is in
    let waits : Waits k g.D.Disk.limit g.D.Disk.space j c.self.inside.state p = subst (WaitsReady k g.D.Disk.limit g.D.Disk.space j c.self.inside.state) is c.self.invariant.ready in
    let d = k.placed (j.gate + 1) (g.D.Disk.limit j.disk) (k.held c.self.inside.state) in
    let same : k.record_of p ≡ r = record_is k.record_of c.self.inside.prepared p c.args.self.now.prepared r is (ap (λ (s : StoreOf g.row.D.Denot g.row.R.Denot g.row.T.Denot). s.prepared) c.self.view_is) has in
    let shut_not : j.closed ≡ false = ap (λ (s : StoreOf g.row.D.Denot g.row.R.Denot g.row.T.Denot). s.closed) c.self.view_is ∙ shut in
    let here : g.D.Disk.seen j.disk ≡ Some bytes = ap (λ (s : StoreOf g.row.D.Denot g.row.R.Denot g.row.T.Denot). g.D.Disk.seen s.disk) c.self.view_is ∙ told in
    let run : LeavesOnly g.D.Disk.moment g.D.Disk.left_since j.disk c.append.new.journal.disk (LeftAround k (whole_records bytes) (k.record_of p) d) =
    weaker g.D.Disk.moment g.D.Disk.left_since j.disk c.append.new.journal.disk (LeftAround k (whole_records bytes) (k.record_of p) d) (IsBeforeOrAfter (whole_records bytes) c.bytes.result.now) (c.append.ensures.any_moment bytes here)
    (λ b left. left_around k g.met.S.Fold.sound (k.record_of p) (j.gate + 1) (g.D.Disk.limit j.disk) (k.held c.self.inside.state) bytes b ((c.self.invariant.kept shut_not).stands bytes here) (g.met.S.Fold.sound.fits p waits.ready) waits.taken (subst (λ (rec : List ℕ). IsBeforeOrAfter (whole_records bytes) rec b) c.bytes.ensures left)) in
    subst (λ (q : g.row.R.Denot). LeavesOnly g.D.Disk.moment g.D.Disk.left_since c.args.self.now.disk c.append.new.journal.disk (LeftAround k (whole_records bytes) q c.args.self.now.durable)) same
    (subst (λ (s : StoreOf g.row.D.Denot g.row.R.Denot g.row.T.Denot). LeavesOnly g.D.Disk.moment g.D.Disk.left_since s.disk c.append.new.journal.disk (LeftAround k (whole_records bytes) (k.record_of p) s.durable)) c.self.view_is run)

pub returns-in_err-append-clause-reached : goal.returns-in_err-append-clause-reached
returns-in_err-append-clause-reached g c = λ failed.
    subst (λ (s : StoreOf g.row.D.Denot g.row.R.Denot g.row.T.Denot). ReachesCall (g.D.Disk.setting s.disk) (g.D.Disk.calls s.disk) (g.D.Disk.calls c.append.new.journal.disk)) c.self.view_is c.in_err-append.ensures.reached

pub returns-in_err-append-clause-left : goal.returns-in_err-append-clause-left
returns-in_err-append-clause-left g c = λ failed r has bytes told.
    let k = g.S.Fold.fold in
    let p = c.in-Some.ready in
    let is : c.self.inside.prepared ≡ Some p = sym c.replace.ensures.value ∙ c.in-Some.is in
    let same : k.record_of p ≡ r = record_is k.record_of c.self.inside.prepared p c.args.self.now.prepared r is (ap (λ (s : StoreOf g.row.D.Denot g.row.R.Denot g.row.T.Denot). s.prepared) c.self.view_is) has in
    let here : g.D.Disk.seen c.self.inside.journal.disk ≡ Some bytes = ap (λ (s : StoreOf g.row.D.Denot g.row.R.Denot g.row.T.Denot). g.D.Disk.seen s.disk) c.self.view_is ∙ told in
    subst (λ (rec : List ℕ). LeavesByPick g.D.Disk.left_by g.D.Disk.calls g.D.Disk.setting (whole_records bytes) rec c.args.self.now.disk c.append.new.journal.disk) (c.bytes.ensures ∙ ap k.spelled same)
    (subst (λ (s : StoreOf g.row.D.Denot g.row.R.Denot g.row.T.Denot). LeavesByPick g.D.Disk.left_by g.D.Disk.calls g.D.Disk.setting (whole_records bytes) c.bytes.result.now s.disk c.append.new.journal.disk) c.self.view_is (c.in_err-append.ensures.left bytes here))

pub returns-clause-any_moment : goal.returns-clause-any_moment
returns-clause-any_moment g c = λ shut r has bytes told.
    let k = g.S.Fold.fold in
    let p = c.in-Some.ready in
    let j = c.self.inside.journal in
    let is : c.self.inside.prepared ≡ Some p = sym c.replace.ensures.value ∙ c.in-Some.is in
    let waits : Waits k g.D.Disk.limit g.D.Disk.space j c.self.inside.state p = subst (WaitsReady k g.D.Disk.limit g.D.Disk.space j c.self.inside.state) is c.self.invariant.ready in
    let d = k.placed (j.gate + 1) (g.D.Disk.limit j.disk) (k.held c.self.inside.state) in
    let same : k.record_of p ≡ r = record_is k.record_of c.self.inside.prepared p c.args.self.now.prepared r is (ap (λ (s : StoreOf g.row.D.Denot g.row.R.Denot g.row.T.Denot). s.prepared) c.self.view_is) has in
    let shut_not : j.closed ≡ false = ap (λ (s : StoreOf g.row.D.Denot g.row.R.Denot g.row.T.Denot). s.closed) c.self.view_is ∙ shut in
    let here : g.D.Disk.seen j.disk ≡ Some bytes = ap (λ (s : StoreOf g.row.D.Denot g.row.R.Denot g.row.T.Denot). g.D.Disk.seen s.disk) c.self.view_is ∙ told in
    let run : LeavesOnly g.D.Disk.moment g.D.Disk.left_since j.disk c.append.new.journal.disk (LeftAround k (whole_records bytes) (k.record_of p) d) =
    weaker g.D.Disk.moment g.D.Disk.left_since j.disk c.append.new.journal.disk (LeftAround k (whole_records bytes) (k.record_of p) d) (IsBeforeOrAfter (whole_records bytes) c.bytes.result.now) (c.append.ensures.any_moment bytes here)
    (λ b left. left_around k g.met.S.Fold.sound (k.record_of p) (j.gate + 1) (g.D.Disk.limit j.disk) (k.held c.self.inside.state) bytes b ((c.self.invariant.kept shut_not).stands bytes here) (g.met.S.Fold.sound.fits p waits.ready) waits.taken (subst (λ (rec : List ℕ). IsBeforeOrAfter (whole_records bytes) rec b) c.bytes.ensures left)) in
    subst (λ (q : g.row.R.Denot). LeavesOnly g.D.Disk.moment g.D.Disk.left_since c.args.self.now.disk c.append.new.journal.disk (LeftAround k (whole_records bytes) q c.args.self.now.durable)) same
    (subst (λ (s : StoreOf g.row.D.Denot g.row.R.Denot g.row.T.Denot). LeavesOnly g.D.Disk.moment g.D.Disk.left_since s.disk c.append.new.journal.disk (LeftAround k (whole_records bytes) (k.record_of p) s.durable)) c.self.view_is run)

pub redo-requires-clause-ready : goal.redo-requires-clause-ready
redo-requires-clause-ready g c =
    let is : c.self.inside.prepared ≡ Some c.in-Some.ready = sym c.replace.ensures.value ∙ c.in-Some.is in
    let waits : Waits g.S.Fold.fold g.D.Disk.limit g.D.Disk.space c.self.inside.journal c.self.inside.state c.in-Some.ready = subst (WaitsReady g.S.Fold.fold g.D.Disk.limit g.D.Disk.space c.self.inside.journal c.self.inside.state) is c.self.invariant.ready in
    waits.ready

pub redo-requires-clause-suits : goal.redo-requires-clause-suits
redo-requires-clause-suits g c =
    let is : c.self.inside.prepared ≡ Some c.in-Some.ready = sym c.replace.ensures.value ∙ c.in-Some.is in
    let waits : Waits g.S.Fold.fold g.D.Disk.limit g.D.Disk.space c.self.inside.journal c.self.inside.state c.in-Some.ready = subst (WaitsReady g.S.Fold.fold g.D.Disk.limit g.D.Disk.space c.self.inside.journal c.self.inside.state) is c.self.invariant.ready in
    waits.suits

pub redo-requires-clause-room : goal.redo-requires-clause-room
redo-requires-clause-room g c =
    let is : c.self.inside.prepared ≡ Some c.in-Some.ready = sym c.replace.ensures.value ∙ c.in-Some.is in
    let waits : Waits g.S.Fold.fold g.D.Disk.limit g.D.Disk.space c.self.inside.journal c.self.inside.state c.in-Some.ready = subst (WaitsReady g.S.Fold.fold g.D.Disk.limit g.D.Disk.space c.self.inside.journal c.self.inside.state) is c.self.invariant.ready in
    waits.room

pub redo-requires-clause-taken : goal.redo-requires-clause-taken
redo-requires-clause-taken g c =
    let is : c.self.inside.prepared ≡ Some c.in-Some.ready = sym c.replace.ensures.value ∙ c.in-Some.is in
    let waits : Waits g.S.Fold.fold g.D.Disk.limit g.D.Disk.space c.self.inside.journal c.self.inside.state c.in-Some.ready = subst (WaitsReady g.S.Fold.fold g.D.Disk.limit g.D.Disk.space c.self.inside.journal c.self.inside.state) is c.self.invariant.ready in
    waits.taken

pub returns-clause-added : goal.returns-clause-added
returns-clause-added g c = λ r has bytes told.
    let k = g.S.Fold.fold in
    let p = c.in-Some.ready in
    let is : c.self.inside.prepared ≡ Some p = sym c.replace.ensures.value ∙ c.in-Some.is in
    let same : k.record_of p ≡ r = record_is k.record_of c.self.inside.prepared p c.args.self.now.prepared r is (ap (λ (s : StoreOf g.row.D.Denot g.row.R.Denot g.row.T.Denot). s.prepared) c.self.view_is) has in
    let here : g.D.Disk.seen c.self.inside.journal.disk ≡ Some bytes = ap (λ (s : StoreOf g.row.D.Denot g.row.R.Denot g.row.T.Denot). g.D.Disk.seen s.disk) c.self.view_is ∙ told in
    subst (λ (rec : List ℕ). IsJournal (whole_records bytes ++ rec ∷ []) (g.D.Disk.seen c.append.new.journal.disk) (g.D.Disk.may_leave c.append.new.journal.disk)) (c.bytes.ensures ∙ ap k.spelled same) (c.in_ok-append.ensures.added bytes here)

pub returns-clause-taken : goal.returns-clause-taken
returns-clause-taken g c = λ r has.
    let k = g.S.Fold.fold in
    let p = c.in-Some.ready in
    let j = c.self.inside.journal in
    let is : c.self.inside.prepared ≡ Some p = sym c.replace.ensures.value ∙ c.in-Some.is in
    let same : k.record_of p ≡ r = record_is k.record_of c.self.inside.prepared p c.args.self.now.prepared r is (ap (λ (s : StoreOf g.row.D.Denot g.row.R.Denot g.row.T.Denot). s.prepared) c.self.view_is) has in
    ap (λ (q : g.row.R.Denot). k.folded q c.args.self.now.durable) (sym same)
    ∙ (ap (λ (s : StoreOf g.row.D.Denot g.row.R.Denot g.row.T.Denot). k.folded (k.record_of p) s.durable) (sym c.self.view_is)
    ∙ put_folds k g.met.S.Fold.sound (k.record_of p) c.bytes.result.now j.gate c.append.new.journal.gate (g.D.Disk.limit j.disk) (g.D.Disk.limit c.append.new.journal.disk) (k.held c.self.inside.state) (k.held c.redo.new.self) c.bytes.ensures c.in_ok-append.ensures.number.1.0 c.append.ensures.setting.0 c.redo.ensures)

pub returns-clause-kept : goal.returns-clause-kept
returns-clause-kept g c =
    let k = g.S.Fold.fold in
    let p = c.in-Some.ready in
    let j = c.self.inside.journal in
    let new = c.append.new.journal in
    let is : c.self.inside.prepared ≡ Some p = sym c.replace.ensures.value ∙ c.in-Some.is in
    let waits : Waits k g.D.Disk.limit g.D.Disk.space j c.self.inside.state p = subst (WaitsReady k g.D.Disk.limit g.D.Disk.space j c.self.inside.state) is c.self.invariant.ready in
    let shut_not : j.closed ≡ false = search rules in
    kept_more k g.met.S.Fold.sound (k.record_of p) c.bytes.result.now (j.gate + 1) (g.D.Disk.limit j.disk) (k.held c.self.inside.state) (k.placed (new.gate + 1) (g.D.Disk.limit new.disk) (k.held c.redo.new.self))
    (g.D.Disk.seen j.disk) (g.D.Disk.seen new.disk) (g.D.Disk.may_leave j.disk) (g.D.Disk.may_leave new.disk) (c.self.invariant.kept shut_not) (g.met.S.Fold.sound.fits p waits.ready) (sym c.bytes.ensures)
    (put_folds k g.met.S.Fold.sound (k.record_of p) c.bytes.result.now j.gate new.gate (g.D.Disk.limit j.disk) (g.D.Disk.limit new.disk) (k.held c.self.inside.state) (k.held c.redo.new.self) c.bytes.ensures c.in_ok-append.ensures.number.1.0 c.append.ensures.setting.0 c.redo.ensures)
    c.append.ensures.told.0 c.in_ok-append.ensures.added

pub invariant_of-self-2 : goal.invariant_of-self-2
invariant_of-self-2 g c = record {
  ready = subst (WaitsReady g.S.Fold.fold g.D.Disk.limit g.D.Disk.space c.append.new.journal c.redo.new.self) (sym c.replace.ensures.after) tt;
  kept = λ here. returns-clause-kept g c;
  counted = λ here.
      let shut_not : c.self.inside.journal.closed ≡ false = search rules in
      counted_more c.bytes.result.now c.self.inside.journal.count c.append.new.journal.count (g.D.Disk.seen c.self.inside.journal.disk) (g.D.Disk.seen c.append.new.journal.disk) (g.D.Disk.may_leave c.append.new.journal.disk) (c.self.invariant.counted shut_not) c.in_ok-append.ensures.number.0 c.append.ensures.told.0 c.in_ok-append.ensures.added;
}
