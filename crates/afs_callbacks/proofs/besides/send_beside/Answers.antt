use Rattle.std.proofs.Common.{◌≡◌, ◌++◌, sym, subst, ◌∙◌}
use Rattle.std.specs.List.{All}
use Rattle.std.proofs.lemmas.List.Elements.{All-append}
use Rattle.afs_server_parts.specs.Turning.{IsBreakToNode}
use Rattle.afs_callbacks.proofs.besides.send_beside.Goals as goal

pub returns-clause-turn : goal.returns-clause-turn
returns-clause-turn c l owes = c.send_all.ensures.turn l (owes ∙ sym c.in_ok-extend_from_slice.ensures.items)

pub returns-clause-ready : goal.returns-clause-ready
returns-clause-ready c ready to =
    let t = c.args.turn.now in
    c.send_all.ensures.ready
    (record {
      node = ready.node;
      owed = subst (All IsBreakToNode) (sym c.in_ok-extend_from_slice.ensures.items) (All-append IsBreakToNode t.owed.items c.args.breaks.now ready.owed to);
      calls = ready.calls;
      drawn = ready.drawn;
    })
