use Rattle.std.proofs.Common.{◌+◌, ℕ, ap, ◌∙◌}
use Rattle.afs_mover.proofs.Behind.{kept_behind}
use Rattle.afs_mover.proofs.node.Mover.keep.Goals as goal

pub returns : goal.returns
returns c =
    kept_behind c.args.lines c.args.act.now c.args.label c.args.bytes c.args.place (c.number-number.result + 1) c.in_ok-asking.asking c.args.self.now c.hold.new.self c.wait.new.self c.in_ok-outs.outs
    (ap (λ (n : ℕ). n + 1) c.number-number.ensures) c.in_ok-asking.ensures c.in_ok-hold.ensures.ok c.wait.ensures (c.in_ok-outs.ensures.lines ∙ c.in_ok-tell_dumped.ensures) c.in_ok-outs.ensures.sent
