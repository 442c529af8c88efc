use Rattle.std.proofs.Common.{◌≡◌, false, Err, sym, ap, ◌∙◌, rules}
use Rattle.std.specs.List.{list_all}
use Rattle.afs_volume.specs.Assembling.{can_be_read}
use Rattle.afs_volume.specs.declared.faults.AssembleFault.{AssembleFault}
use Rattle.afs_volume.specs.declared.faults.AssembleFault.TheVariants.{NotSound}
use Rattle.afs_volume.proofs.Readable.{memory_left}
use Rattle.afs_volume.proofs.ready.ReadyChange.of.Goals as goal

pub returns-in_err-names-clause-memory : goal.returns-in_err-names-clause-memory
returns-in_err-names-clause-memory c all =
    let e : AssembleFault = c.in_err-names.field-0.0 in
    let unread : e ≡ NotSound → list_all can_be_read c.args.c.vnodes ≡ false = λ is. ap (list_all can_be_read) (sym c.as_slice.ensures) ∙ c.in_err-names.ensures.not_sound (ap Err is) in
    memory_left c.from_residual.result e c.args.c.vnodes (search rules) unread all
