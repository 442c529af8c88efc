use Rattle.std.proofs.Common.{◌∷◌, [], ℕ, ap}
use Rattle.afs_num.specs.declared.messages.Message.{Message}
use Rattle.spec_adminrows.specs.AdminRow.{told}
use Rattle.afs_calling.proofs.Stepping.{takes_same}
use Rattle.afs_mover.proofs.node.Mover.tell_again.Goals as goal

pub returns : goal.returns
returns c =
    let old = c.args.self.now in
    takes_same _ (λ (place : ℕ). told old.state place (c.args.reply.now ∷ [])) old old c.tell.result (λ place. ap (λ (m : Message). told old.state place (m ∷ [])) c.in_ok-reply.ensures.same) c.tell.ensures
