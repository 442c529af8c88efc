use Rattle.std.proofs.Common.{sym, subst, rules}
use Rattle.spec_records.specs.LocRecords.{LocRecord}
use Rattle.afs_store.proofs.Folding.{bad_alone, takes_one}
use Rattle.afs_locrecord.specs.Bodies as records
use Rattle.afs_locstore.specs.Kept.{IsCaller}
use Rattle.afs_locstore.specs.LocFold.{loc_fold}
use Rattle.afs_locstore.specs.LocSound.{loc_sound}
use Rattle.afs_locstore.specs.States.{body_of, parts_of}
use Rattle.afs_locstore.proofs.Replies.{head_caller}
use Rattle.afs_locstore.proofs.Taking.{is_done, not_done}
use Rattle.afs_locstore.proofs.attaching.take_one.Goals as goal

pub returns-then-not-can_take-clause-bad : goal.returns-then-not-can_take-clause-bad
returns-then-not-can_take-clause-bad c = λ e.
    let seen : LocRecord = record { head = c.rec.inside.head; body = records.body_of c.rec.inside.body } in
    bad_alone loc_fold loc_sound c.args.first c.args.bytes.now c.in_ok-rec.rec (parts_of c.args.state.now) c.in_ok-rec.ensures.read
    (not_done c.in_ok-rec.rec seen (body_of c.in_ok-redo.redo) (parts_of c.args.state.now) c.can_take.result c.rec.view_is c.in_ok-redo.ensures.told c.can_take.ensures (search rules))

pub redo-requires-clause-caller : goal.redo-requires-clause-caller
redo-requires-clause-caller c = subst (λ (r : LocRecord). IsCaller r.head.caller) (sym c.rec.view_is) (head_caller c.in_ok-rec.rec.head c.in_ok-rec.ensures.fits.0.head)

pub returns-clause-taken : goal.returns-clause-taken
returns-clause-taken c =
    let seen : LocRecord = record { head = c.rec.inside.head; body = records.body_of c.rec.inside.body } in
    takes_one loc_fold loc_sound c.args.first c.args.bytes.now c.in_ok-rec.rec (parts_of c.args.state.now) (parts_of c.redo.new.self) c.in_ok-rec.ensures.read c.in_ok-rec.ensures.fits.1 c.in_ok-rec.ensures.first
    (is_done c.in_ok-rec.rec seen (body_of c.in_ok-redo.redo) (parts_of c.args.state.now) (parts_of c.reserve.new.self) (parts_of c.redo.new.self) c.rec.view_is c.in_ok-redo.ensures.told c.reserve.ensures.parts c.redo.ensures)
