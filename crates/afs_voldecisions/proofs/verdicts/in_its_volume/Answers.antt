use Rattle.afs_num.specs.declared.messages.Call.TheVariants as ask
use Rattle.spec_model.specs.CellRows.{call_number}
use Rattle.afs_voldecisions.specs.Verdicts.{judged_in}
use Rattle.afs_voldecisions.proofs.Judging.{judged_with, weaker}
use Rattle.afs_voldecisions.proofs.verdicts.in_its_volume.Goals as goal

pub returns-in-Some : goal.returns-in-Some
returns-in-Some c =
    let call = c.args.call.now in
    weaker c.judged_in.result c.judged_in.ensures (λ x judges d o room named is.
    judged_with (call_number (ask.Volume call)) c.args.held c.in-Some.volume c.args.transaction.now (judged_in d c.args.ts.now.table call) o x c.in-Some.is is (λ is_new held. judges d is_new room held named))
