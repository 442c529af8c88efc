use Rattle.std.proofs.Common.{arith, refl}
use Rattle.std.proofs.lemmas.Grind.{common_steps}
use Rattle.afs_callees.proofs.Calls.{good_same}
use Rattle.afs_server_parts.proofs.turns.Turn.renew.Goals as goal

pub returns : goal.returns
returns c = record {
  turn = grind (arith, common_steps);
  stand = refl;
  ready = λ h. record {
    node = h.node;
    owed = h.owed;
    calls = good_same _ _ c.in_ok-set_known.ensures.calls h.calls;
    drawn = h.drawn;
  };
}
