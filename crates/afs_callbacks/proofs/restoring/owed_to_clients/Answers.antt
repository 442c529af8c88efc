use Rattle.std.proofs.Common.{◌+◌, ◌-◌, ℕ, arith, ap, sym, subst, ◌∙◌}
use Rattle.std.specs.List.{All}
use Rattle.std.proofs.lemmas.List.Elements.{All-push}
use Rattle.spec_breaks.specs.Promises.{Lists}
use Rattle.spec_rows.specs.Callbacks.{owed_to_clients}
use Rattle.afs_server_parts.specs.Turning.{IsBreakToNode}
use Rattle.afs_callbacks.proofs.Numbered.{client_is_node, one_more_client}
use Rattle.afs_callbacks.proofs.restoring.owed_to_clients.Goals as goal

pub loop-before-preserved : goal.loop-before-preserved
loop-before-preserved c =
    let step = c.in_ok-owe_all.ensures.ok in
    let i = c.loop-before.before in
    let test = c.loop-before-test.true in
    let most = c.requires in
    record {
      lists =
          ap (owed_to_clients c.args.expiry (i + 1) (c.args.clients - (i + 1))) step
          ∙ (sym (one_more_client c.args.expiry i c.args.clients c.loop-before.promises (omega (arith, test))) ∙ c.loop-before.invariant.lists);
      promises = ap (λ (l : Lists). l.promises) step ∙ c.loop-before.invariant.promises;
      last = ap (λ (l : Lists). l.last_owed) step ∙ ap (λ (n : ℕ). n + 1) c.loop-before.invariant.last;
      nodes =
          subst (λ (l : Lists). All IsBreakToNode l.owed) (sym step)
          (All-push IsBreakToNode c.loop-before.promises.owed _ c.loop-before.invariant.nodes (client_is_node i (omega (arith, test, most))));
    }
