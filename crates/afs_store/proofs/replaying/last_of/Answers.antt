use Rattle.std.proofs.Common.{◌+◌, ◌-◌, arith, sym, ◌∙◌}
use Rattle.afs_store.proofs.FoldsOn.{take_step, take_whole}
use Rattle.afs_store.proofs.replaying.last_of.Goals as goal

pub returns-clause-some : goal.returns-clause-some
returns-clause-some c =
    let rs = c.args.records.now in
    let count = c.len-count.result - 1 in
    sym (take_whole rs (count + 1) (omega (arith, c.len-count.ensures.value))) ∙ take_step rs count c.in-Some.last.now (sym c.in-Some.ensures)
