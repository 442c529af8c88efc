use Rattle.std.proofs.Common.{ℕ, List, ◌++◌, Err, sym, ap, ◌∙◌}
use Rattle.spec_dumps.specs.Restores.{fed}
use Rattle.afs_volume.specs.Taking.{stored_of}
use Rattle.afs_restore.specs.declared.faults.DumpFault.{DumpFault}
use Rattle.afs_restore.proofs.Finished.{refused_finished, same_fault}
use Rattle.afs_restore.proofs.Handed.{handed_up}
use Rattle.afs_restore.proofs.restorer.restore.Goals as goal

pub returns-in_err-feed-clause-bad : goal.returns-in_err-feed-clause-bad
returns-in_err-feed-clause-bad c = λ offset e.
    let same = same_fault c.in_err-feed.field-0.0 offset c.from_residual.result (handed_up c.from_residual.result _ c.from_residual.ensures.1) e in
    refused_finished c.args.bytes.now offset c.args.old.now.head.id (stored_of c.args.old.now)
    (ap (λ (t : List ℕ). fed (t ++ c.args.bytes.now)) (sym c.new-restorer.ensures) ∙ (c.in_err-feed.ensures.bad offset (ap (λ (f : DumpFault). Err f) same)).0)
