use Rattle.std.specs.Prelude.{ℕ, Option, Some, nat_eq, pos, if◌then◌else◌}
use Rattle.std.specs.Option.{option_map}
use Rattle.std.proofs.Common.{ap, ◌∙◌}
use Rattle.afs_num.specs.declared.volumes.VolumeHead.{VolumeHead}
use Rattle.spec_ideal.specs.Tables.{get}
use Rattle.spec_volrows.specs.FileRow.{held_code, out_of_service}
use Rattle.afs_server.specs.Handling.{holds_seen}
use Rattle.afs_server.proofs.HeldCodes.{held_as}
use Rattle.afs_server.proofs.closing.closed_code.Goals as goal

pub returns-clause-value : goal.returns-clause-value
returns-clause-value g c = λ new.
    let holds = holds_seen c.args.store.now in
    let head = c.head-head.result.now in
    c.code_of.ensures.value
    ∙ (ap (λ (o : Option ℕ). option_map pos (if nat_eq head.flags 0 then o else Some out_of_service)) (held_as c.held.result (get head.id holds) c.held.ensures.value c.held.ensures.none)
    ∙ ap (λ (x : VolumeHead). option_map pos (if nat_eq x.flags 0 then held_code (get x.id holds) else Some out_of_service)) c.head-head.ensures.value)
