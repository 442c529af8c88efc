use Rattle.std.proofs.Common.{◌≡◌, sym, subst, ◌∙◌}
use Rattle.afs_num.specs.declared.messages.Message.{Message}
use Rattle.spec_model.specs.Messages.{HasSpelling}
use Rattle.spec_rows.specs.ServerRow.{boot_told}
use Rattle.afs_server_parts.specs.Ending.{IsPlanOf}
use Rattle.afs_server_parts.specs.declared.turns.Stand.{Stand}
use Rattle.afs_server_parts.specs.Turning.{sent_turn}
use Rattle.afs_callbacks.specs.States.{backs_by}
use Rattle.afs_callbacks.proofs.Planned.{planned}
use Rattle.afs_callbacks.proofs.Spelled.{told_spelled}
use Rattle.afs_callbacks.proofs.callbacks.Callbacks.plan_boot_told.Goals as goal

pub from_message-requires : goal.from_message-requires
from_message-requires c = subst HasSpelling (sym c.notice-message.ensures) (told_spelled c.args.stand.boot c.args.head.now c.requires.head)

pub returns : goal.returns
returns c =
    let b = backs_by c.args.self.now c.args.stand c.args.now in
    let told : c.in_ok-told.told ≡ boot_told c.args.stand.boot c.args.head.now = c.in_ok-told.ensures ∙ c.notice-message.ensures in
    subst (λ (m : Message). IsPlanOf c.args.stand (sent_turn m b) c.in_ok-ended.ended) told
    (planned (λ (s : Stand). sent_turn c.in_ok-told.told) b c.args.stand _ _ _ _ c.in_ok-turn.ensures.turn c.in_ok-turn.ensures.stand c.in_ok-send.ensures c.in_ok-ended.ensures)
