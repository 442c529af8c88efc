use Rattle.std.proofs.Common.{arith, refl, sym, subst}
use Rattle.std.proofs.lemmas.Grind.{common_steps}
use Rattle.afs_callees.specs.Called.{IsGoodCall}
use Rattle.afs_callees.proofs.Calls.{good_put}
use Rattle.afs_server_parts.proofs.turns.Turn.retry.Goals as goal

pub returns : goal.returns
returns c = record {
  turn = grind (arith, common_steps);
  stand = refl;
  ready = λ h. record {
    node = h.node;
    owed = h.owed;
    calls = good_put c.args.node _ _ _ c.in_ok-set_call.ensures.calls h.calls (subst (IsGoodCall c.args.node) (sym c.in_ok-waited.ensures) (record { callee = c.requires.good.callee; few = c.requires.good.few }));
    drawn = h.drawn;
  };
}
