use Rattle.std.proofs.Common.{ℕ, [], ◌∷◌, Ok, ap, refl, ◌∙◌}
use Rattle.std.specs.declared.alloc.AllocError.{AllocError}
use Rattle.spec_model.specs.Messages.{messages_spelled}
use Rattle.afs_mover.proofs.Behind.{acted, idle}
use Rattle.afs_mover.proofs.Sent.{asked_in}
use Rattle.afs_mover.specs.Steps.{asks_in, sent_under}
use Rattle.afs_mover.proofs.node.Mover.ask_again.Goals as goal

pub returns-in_default : goal.returns-in_default
returns-in_default c =
    let old = c.args.self.now in
    idle (asks_in old.node old.state c.args.boot) c.args.lines old old c.stay.result c.in_default.ensures c.stay.ensures

pub returns : goal.returns
returns c =
    let old = c.args.self.now in
    let r = c.in-Some.asking.now in
    let q = c.ask-ask.result.now in
    acted {E = AllocError} (asks_in old.node old.state c.args.boot) (asks_in old.node old.state c.args.boot r) r c.args.lines old c.note.new.self (Ok c.in_ok-outs.outs) c.in-Some.ensures (λ ls. refl)
    (asked_in c.args.lines c.args.boot r q old c.note.new.self c.in_ok-outs.outs (c.ask-ask.ensures.value old.state.servers) c.in_ok-note.ensures.ok c.in_ok-outs.ensures.lines
    (c.in_ok-outs.ensures.sent ∙ ap (λ (n : ℕ). messages_spelled (sent_under old.node old.state n c.args.boot q ∷ [])) c.number-number.ensures))
