use Rattle.std.proofs.Common.{ℕ}
use Rattle.spec_model.specs.CellRows.{client_calls}
use Rattle.spec_model.specs.Messages.{received_by}
use Rattle.spec_copyrows.specs.CopyRow.{copy_row}
use Rattle.afs_cache.proofs.Numbers.{copy_row_rises, takes_last, takes_rise}
use Rattle.afs_cache.proofs.Siting.{received_as}
use Rattle.afs_cache.proofs.node.CacheManager.receive.Goals as goal

pub returns-clause-step : goal.returns-clause-step
returns-clause-step c =
    let old = c.args.self.now in
    received_as c.args.now c.in_ok-received.received (received_by client_calls c.args.bytes.now) old c.take_in.new.self c.take_in.result c.in_ok-received.ensures.value c.take_in.ensures

pub returns-clause-last : goal.returns-clause-last
returns-clause-last c =
    let old = c.args.self.now in
    let received = received_by client_calls c.args.bytes.now in
    takes_rise (λ (place : ℕ). copy_row old.node old.state c.args.now place received) old c.take_in.new.self c.take_in.result (λ place. copy_row_rises old.node old.state c.args.now place received)
    (received_as c.args.now c.in_ok-received.received received old c.take_in.new.self c.take_in.result c.in_ok-received.ensures.value c.take_in.ensures)

pub returns-clause-lasting : goal.returns-clause-lasting
returns-clause-lasting c =
    let old = c.args.self.now in
    let received = received_by client_calls c.args.bytes.now in
    takes_last (λ (place : ℕ). copy_row old.node old.state c.args.now place received) old c.take_in.new.self c.take_in.result (λ place. copy_row_rises old.node old.state c.args.now place received)
    (received_as c.args.now c.in_ok-received.received received old c.take_in.new.self c.take_in.result c.in_ok-received.ensures.value c.take_in.ensures)
