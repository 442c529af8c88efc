use Rattle.std.proofs.Common.{◌≡◌, ◌++◌, ℕ, List, false, rules, sym, subst, ◌∙◌}
use Rattle.std.specs.List.{All}
use Rattle.std.proofs.lemmas.List.Elements.{All-append}
use Rattle.spec_rows.specs.Callbacks.{alls, break_numbers}
use Rattle.afs_server_parts.specs.Turning.{backs_with, IsBreakToNode, IsTurn, answer_turn}
use Rattle.afs_callbacks.proofs.saving.hold.Goals as goal

pub returns-clause-turn : goal.returns-clause-turn
returns-clause-turn c l owes =
    let t = c.args.turn.now in
    let waits : c.in_ok-waits.waits ≡ break_numbers c.args.breaks.now ++ alls t.owed.items = search rules in
    let turned = c.in_ok-answer.ensures.turn l (owes ∙ sym c.in_ok-extend_from_slice.ensures.items) in
    subst (λ (ws : List ℕ). IsTurn (answer_turn c.args.reply ws false (backs_with l t.held t.calls)) c.answer.new.self) waits turned

pub returns-clause-ready : goal.returns-clause-ready
returns-clause-ready c ready to =
    let t = c.args.turn.now in
    c.in_ok-answer.ensures.ready
    (record {
      node = ready.node;
      owed = subst (All IsBreakToNode) (sym c.in_ok-extend_from_slice.ensures.items) (All-append IsBreakToNode t.owed.items c.args.breaks.now ready.owed to);
      calls = ready.calls;
      drawn = ready.drawn;
    })
