use Rattle.std.proofs.Common.{ℕ, []}
use Rattle.spec_model.specs.Messages.{received_by}
use Rattle.spec_adminrows.specs.AdminRow.{admin_row}
use Rattle.afs_mover.proofs.Heard.{heard}
use Rattle.afs_mover.proofs.Numbers.{row_rises, takes_last, takes_lasting}
use Rattle.afs_mover.proofs.node.Mover.receive.Goals as goal

pub returns-clause-step : goal.returns-clause-step
returns-clause-step c =
    let old = c.args.self.now in
    heard c.in_ok-received.received (received_by [] c.args.bytes.now) old c.take_in.new.self c.take_in.result c.in_ok-received.ensures.value c.take_in.ensures

pub returns-clause-last : goal.returns-clause-last
returns-clause-last c =
    let old = c.args.self.now in
    let received = received_by [] c.args.bytes.now in
    takes_last (λ (place : ℕ). admin_row old.node old.state place received) old c.take_in.new.self c.take_in.result (λ place. row_rises old.node old.state place received)
    (heard c.in_ok-received.received received old c.take_in.new.self c.take_in.result c.in_ok-received.ensures.value c.take_in.ensures)

pub returns-clause-lasting : goal.returns-clause-lasting
returns-clause-lasting c =
    let old = c.args.self.now in
    let received = received_by [] c.args.bytes.now in
    takes_lasting (λ (place : ℕ). admin_row old.node old.state place received) old c.take_in.new.self c.take_in.result (λ place. row_rises old.node old.state place received)
    (heard c.in_ok-received.received received old c.take_in.new.self c.take_in.result c.in_ok-received.ensures.value c.take_in.ensures)
