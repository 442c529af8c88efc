use Rattle.std.proofs.Common.{◌∙◌, sym}
use Rattle.afs_vnode.specs.Stores.{table_of}
use Rattle.afs_vnode.proofs.Kept.{size_of, allocated_is}
use Rattle.afs_vnode.proofs.sorted.allocate.Goals as goal

pub returns-clause-value : goal.returns-clause-value
returns-clause-value c =
    let t = table_of c.args.vnodes.now in
    allocated_is c.args.dir t c.lowest_free.result (λ full. c.if-vnodes-eq-MOST_VNODES.false (sym (size_of c.args.vnodes.now) ∙ full)) c.lowest_free.ensures.value
