use Rattle.std.proofs.Common.{◌+◌, ℕ, ap}
use Rattle.spec_adminrows.specs.AdminRow.{running_at}
use Rattle.afs_mover.proofs.Behind.{asked_behind}
use Rattle.afs_mover.proofs.node.Mover.go.Goals as goal

pub returns : goal.returns
returns c =
    asked_behind c.args.lines (c.number-number.result + 1) (running_at c.args.act.now c.args.place) c.in_ok-asking.asking c.args.self.now c.wait.new.self c.in_ok-outs.outs
    (ap (λ (n : ℕ). n + 1) c.number-number.ensures) c.in_ok-asking.ensures c.wait.ensures c.in_ok-outs.ensures.lines c.in_ok-outs.ensures.sent
