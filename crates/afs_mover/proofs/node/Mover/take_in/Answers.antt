use Rattle.std.proofs.Common.{ℕ, [], ap, sym}
use Rattle.spec_adminrows.specs.AdminRow.{takes_in, told}
use Rattle.afs_calling.proofs.Stepping.{takes_same}
use Rattle.afs_mover.proofs.node.Mover.take_in.Goals as goal

pub returns-in-Nothing : goal.returns-in-Nothing
returns-in-Nothing c =
    let old = c.args.self.now in
    takes_same (λ (place : ℕ). told old.state place []) (λ (place : ℕ). takes_in old.node old.state place c.args.received.now) old old c.ignore.result
    (λ place. ap (takes_in old.node old.state place) (sym c.in-Nothing.is)) c.ignore.ensures
