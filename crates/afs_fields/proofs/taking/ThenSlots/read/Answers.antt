use Rattle.std.proofs.Common.{rules}
use Rattle.spec_shape.specs.Taking.{taken_behind}
use Rattle.afs_fields.proofs.TakenLaws.{goes_on, fails_with}
use Rattle.afs_fields.proofs.taking.ThenSlots.read.Goals as goal

pub returns-in_err-rest : goal.returns-in_err-rest
returns-in_err-rest g c =
    fails_with g.A.Slot.field g.B.Slots.taken (taken_behind g.A.Slot.first g.B.Slots.taken) c.args.place g.A.Slot.kind g.B.Slots.kinds c.args.r.now.left c.read.new.r.left c.in-Ok.first c.in_err-rest.field-0.0 c.from_residual.result
    (search rules) c.in-Ok.ensures c.in_err-rest.ensures

pub returns : goal.returns
returns g c =
    goes_on g.A.Slot.field g.A.Slot.first g.B.Slots.taken c.args.place g.A.Slot.kind g.B.Slots.kinds c.args.r.now.left c.read.new.r.left c.in-Ok.first c.in_ok-rest.rest g.A.Slot.is_first c.in-Ok.ensures c.in_ok-rest.ensures
