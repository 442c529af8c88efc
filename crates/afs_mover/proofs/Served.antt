-- What a call gets.
use Rattle.std.proofs.Common.{◌≡◌, [], ◌∷◌, Ok, ap, ◌∙◌}
use Rattle.std.specs.declared.alloc.AllocError.{AllocError}
use Rattle.spec_history.specs.declared.lines.Outs.{Outs}
use Rattle.afs_num.specs.declared.messages.Message.{Message}
use Rattle.afs_num.specs.declared.types.Head.{Head}
use Rattle.spec_model.specs.Calls.{call_seated}
use Rattle.spec_model.specs.Messages.{messages_spelled}
use Rattle.spec_model.specs.Steps.{NodeState}
use Rattle.spec_rows.specs.ServerRow.{seat_for}
use Rattle.spec_adminrows.specs.AdminRow.{AdminState, serves_not, told}
use Rattle.afs_calling.specs.Stepping.{Takes}

-- the refusal is kept and goes out
pub refused_taken : (head : Head) (reply given : Message) (old new : NodeState AdminState) (outs : Outs) → given ≡ reply
    → new ≡ record old { state = record old.state { seats = call_seated (seat_for head given) old.state.seats } } → Takes {E = AllocError} (λ place. told old.state place (given ∷ [])) old old (Ok outs)
    → Takes {E = AllocError} (λ place. serves_not old.state place head reply) old new (Ok outs)
refused_taken head reply given old new outs same kept h = (
  ap (λ (n : NodeState AdminState). n.node) kept,
  λ place. record {
    state = ap (λ (n : NodeState AdminState). n.state) kept ∙ ap (λ (m : Message). record old.state { seats = call_seated (seat_for head m) old.state.seats }) same;
    lines = (h.1 place).lines;
    sent = (h.1 place).sent ∙ ap (λ (m : Message). messages_spelled (m ∷ [])) same;
  },
)
