use Rattle.std.proofs.Common.{sym, ◌∙◌}
use Rattle.spec_rows.specs.Callbacks.{held_under, key_answered}
use Rattle.afs_server_parts.specs.Turning.{backs_with}
use Rattle.afs_server_parts.proofs.Turning.{asks_again}
use Rattle.afs_server_parts.proofs.turns.Turn.repeat.Goals as goal

pub returns-in_ok-answer-in-Some : goal.returns-in_ok-answer-in-Some
returns-in_ok-answer-in-Some c =
    let t = c.args.self.now in
    let goes = c.in_ok-answer-in-Some.ensures in
    record {
      turn = λ l q. asks_again c.answer.new.self (backs_with l t.held t.calls) t.owed.items c.args.reply (held_under (key_answered c.args.reply) t.held) c.args.good c.in-Some.waits q (sym c.in_ok-waits.ensures ∙ c.in-Some.is) (goes.turn l q);
      stand = goes.stand;
      ready = goes.ready;
    }
