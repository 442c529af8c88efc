use Rattle.std.proofs.Common.{◌∷◌, [], ℕ, ap, ◌∙◌}
use Rattle.afs_num.specs.declared.messages.Message.{Message}
use Rattle.spec_model.specs.Steps.{NodeState}
use Rattle.spec_rows.specs.ServerRow.{boot_told}
use Rattle.spec_adminrows.specs.AdminRow.{AdminState, told}
use Rattle.afs_calling.proofs.Stepping.{takes_same}
use Rattle.afs_mover.proofs.node.Mover.tell_boot.Goals as goal

pub returns : goal.returns
returns c =
    let old = c.args.self.now in
    let notice = c.in_ok-notice.ensures ∙ (c.boot_told-notice.ensures ∙ (ap (λ (e : ℕ). boot_told e c.args.head.now) c.boot.ensures ∙ ap (λ (n : NodeState AdminState). boot_told n.state.epoch c.args.head.now) c.self.view_is)) in
    takes_same _ (λ (place : ℕ). told old.state place (boot_told old.state.epoch c.args.head.now ∷ [])) old old c.tell.result (λ place. ap (λ (m : Message). told old.state place (m ∷ [])) notice) c.tell.ensures
