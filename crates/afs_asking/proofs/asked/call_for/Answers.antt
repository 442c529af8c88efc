use Rattle.std.proofs.Common.{◌≡◌, subst, sym, List}
use Rattle.std.specs.Prelude.{IfOk}
use Rattle.afs_num.specs.declared.calls.FsCall.{FsCall}
use Rattle.spec_rows.specs.States.{Gift}
use Rattle.spec_rows.specs.ClientRow.{call_by, gift_call}
use Rattle.afs_acts.specs.Walks.{need_of}
use Rattle.afs_acts.specs.declared.types.Need.{Need}
use Rattle.afs_asking.proofs.asked.call_for.Goals as goal

pub returns-in-GiveBack : goal.returns-in-GiveBack
returns-in-GiveBack c =
    subst (λ (n : Need). IfOk c.gift_call.result (λ (f : FsCall). f ≡ call_by c.args.gifts.now (need_of n))) (sym c.in-GiveBack.is)
    (subst (λ (gs : List Gift). IfOk c.gift_call.result (λ (f : FsCall). f ≡ gift_call gs)) c.gift_batch.ensures c.gift_call.ensures)
