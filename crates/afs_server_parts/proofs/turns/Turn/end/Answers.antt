use Rattle.std.proofs.Common.{arith, ap, subst, sym, ◌∙◌}
use Rattle.std.specs.List.{All}
use Rattle.spec_model.specs.Messages.{messages_spelled}
use Rattle.spec_rows.specs.Callbacks as row
use Rattle.spec_rows.specs.Callbacks.{pumped, Started}
use Rattle.afs_server_parts.specs.Turning.{IsBreakToNode}
use Rattle.afs_server_parts.proofs.turns.Turn.end.Goals as goal

pub returns : goal.returns
returns c t is =
    let all = c.in_ok-pump.ensures.pumped t.backs.lists is.owed ∙ ap (pumped c.args.self.stand.node c.args.self.stand.boot) is.same in
    let ready = c.requires.drawn in
    let more = c.in_ok-pump.ensures.drawn in
    record {
      ends = record {
        backs = ap (λ (s : Started). s.backs) all;
        sent = c.into_parcels.ensures ∙ ap (λ (s : Started). messages_spelled s.sent) all;
      };
      lines = c.in_ok-pump.ensures.lines ∙ ap (λ (x : row.CallbackStep). x.lines) is.same;
      drawn = omega (arith, ready, more);
      owed = subst (All IsBreakToNode) (sym is.owed) c.requires.owed;
      calls = c.in_ok-pump.ensures.good;
    }
