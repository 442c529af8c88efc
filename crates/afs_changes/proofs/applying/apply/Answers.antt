use Rattle.std.proofs.Common.{Ok, sym, subst}
use Rattle.afs_num.specs.declared.volumes.Change.{Change}
use Rattle.spec_ideal.specs.Operations.{op, the_user}
use Rattle.afs_changes.specs.Changes.{Applies}
use Rattle.afs_volume.specs.Giving.{volume_of}
use Rattle.afs_changes.proofs.applying.apply.Goals as goal

pub returns-clause-applies : goal.returns-clause-applies
returns-clause-applies c =
    let w = c.args.volume.now in
    let caller = the_user c.args.user.now in
    subst (λ (x : Change). Applies w caller c.args.call.now c.args.now (op w.head.id caller c.args.call.now (volume_of w)) (Ok x)) (sym c.into_change.ensures) c.in_ok-ready.ensures.applies
