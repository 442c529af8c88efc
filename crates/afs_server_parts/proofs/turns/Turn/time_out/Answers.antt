use Rattle.std.proofs.Common.{ap, sym, ◌∙◌}
use Rattle.spec_model.specs.Calls.{is_sent_again}
use Rattle.spec_rows.specs.States.{BackCall}
use Rattle.afs_server_parts.specs.Turning.{backs_with}
use Rattle.afs_server_parts.proofs.Turning.{timed_first, timed_last}
use Rattle.afs_server_parts.proofs.turns.Turn.time_out.Goals as goal

pub returns-in_ok-retry-in-Again : goal.returns-in_ok-retry-in-Again
returns-in_ok-retry-in-Again c =
    let goes = c.in_ok-retry-in-Again.ensures in
    let stand = c.args.self.now.stand in
    let tries = sym (ap (λ (k : BackCall). is_sent_again k.tries) c.call.view_is) in
    record {
      turn = λ l q. timed_first stand.node stand.boot c.args.node c.args.call.now (backs_with l c.args.self.now.held c.args.self.now.calls) _ (tries ∙ c.in-Again.ensures.0) (goes.turn l q);
      stand = goes.stand;
      ready = goes.ready;
    }

pub returns-in_ok-quit-in-Dead : goal.returns-in_ok-quit-in-Dead
returns-in_ok-quit-in-Dead c =
    let goes = c.in_ok-quit-in-Dead.ensures in
    let stand = c.args.self.now.stand in
    let tries = sym (ap (λ (k : BackCall). is_sent_again k.tries) c.call.view_is) in
    record {
      turn = λ l q. timed_last stand.node stand.boot c.args.node c.args.call.now (backs_with l c.args.self.now.held c.args.self.now.calls) _ (tries ∙ c.in-Dead.ensures) (goes.turn l q);
      stand = goes.stand;
      ready = goes.ready;
    }
