use Rattle.std.proofs.Common.{◌∙◌, ap, sym, rules}
use Rattle.std.specs.Option.{option_map}
use Rattle.afs_num.specs.declared.records.RecordBody.{RecordBody}
use Rattle.spec_fold.specs.Fold.{body_taken}
use Rattle.spec_records.specs.Durable.{noted}
use Rattle.afs_memory.specs.States.{parts_of}
use Rattle.afs_store.proofs.Folding.{bad_alone, takes_one}
use Rattle.afs_volstore.specs.VolumeFold.{volume_fold}
use Rattle.afs_volstore.specs.VolumeLaws.{volume_sound}
use Rattle.afs_memory.proofs.Held.{fits_caller}
use Rattle.afs_volstore.proofs.attaching.take_one.Goals as goal

pub returns-in_err-redo-clause-bad : goal.returns-in_err-redo-clause-bad
returns-in_err-redo-clause-bad c = λ e.
    bad_alone volume_fold volume_sound c.args.first c.args.bytes.now c.in_ok-rec.rec (parts_of c.args.state.now) c.in_ok-rec.ensures.read (ap (option_map (noted c.in_ok-rec.rec.head)) (c.in_err-redo.ensures.bad (search rules)))

pub take-requires-clause-caller : goal.take-requires-clause-caller
take-requires-clause-caller c = fits_caller c.in_ok-rec.rec c.in_ok-rec.ensures.fits.0

pub returns-in_err-take-clause-bad : goal.returns-in_err-take-clause-bad
returns-in_err-take-clause-bad c = λ e.
    bad_alone volume_fold volume_sound c.args.first c.args.bytes.now c.in_ok-rec.rec (parts_of c.args.state.now) c.in_ok-rec.ensures.read
    (ap (option_map (noted c.in_ok-rec.rec.head)) (ap (λ (b : RecordBody). body_taken b (parts_of c.args.state.now)) (sym c.in_ok-redo.ensures.told) ∙ c.in_err-take.ensures.bad (search rules)))

pub returns-clause-taken : goal.returns-clause-taken
returns-clause-taken c =
    takes_one volume_fold volume_sound c.args.first c.args.bytes.now c.in_ok-rec.rec (parts_of c.args.state.now) (parts_of c.take.new.state) c.in_ok-rec.ensures.read c.in_ok-rec.ensures.fits.1 c.in_ok-rec.ensures.first
    (ap (λ (b : RecordBody). option_map (noted c.in_ok-rec.rec.head) (body_taken b (parts_of c.args.state.now))) (sym c.in_ok-redo.ensures.told) ∙ c.in_ok-take.ensures.taken)
