use Rattle.std.proofs.Common.{◌≡◌, ◌+◌, ◌++◌, ◌∷◌, [], List, Some, None, rules, sym, ap, ◌∙◌, arith, append_assoc, append-nil}
use Rattle.spec_breaks.specs.declared.types.Promise.{Promise}
use Rattle.spec_breaks.specs.Promises.{lasting}
use Rattle.afs_promise.proofs.Gathering.{first_is_within}
use Rattle.afs_promise.proofs.Since.{lasting_first}
use Rattle.afs_promise.proofs.by_client.add_in_order.Goals as goal

pub overflow_add-from : goal.overflow_add-from
overflow_add-from c =
    let within = first_is_within c.loop-grant.from c.args.next c.args.found.now c.in-Some.grant c.requires c.in-Some.ensures in
    omega (arith, within)

pub loop-grant-smaller : goal.loop-grant-smaller
loop-grant-smaller c =
    let within = first_is_within c.loop-grant.from c.args.next c.args.found.now c.in-Some.grant c.requires c.in-Some.ensures in
    omega (arith, within)

pub loop-grant-preserved : goal.loop-grant-preserved
loop-grant-preserved c =
    let promise = c.in-Some.grant.promise in
    record {
      told = λ told is.
          let later = told (c.in-Some.grant.order + 1) in
          ap (λ (ps : List Promise). ps ++ lasting c.args.now later) c.in_ok-add_lasting.ensures.ok
          ∙ (append_assoc c.loop-grant.out.items (lasting c.args.now (promise ∷ [])) (lasting c.args.now later)
          ∙ (ap (λ (ps : List Promise). c.loop-grant.out.items ++ ps) (sym (ap (lasting c.args.now) (is.first c.loop-grant.from c.in-Some.grant (sym c.in-Some.ensures)) ∙ lasting_first c.args.now promise later)) ∙ c.loop-grant.invariant.told told is));
      kept = (
        c.loop-grant.invariant.kept.0 ++ lasting c.args.now (promise ∷ []),
        c.in_ok-add_lasting.ensures.ok ∙ (ap (λ (ps : List Promise). ps ++ lasting c.args.now (promise ∷ [])) c.loop-grant.invariant.kept.1 ∙ append_assoc c.args.out.now.items c.loop-grant.invariant.kept.0 (lasting c.args.now (promise ∷ []))),
      );
    }

pub returns-clause-ok : goal.returns-clause-ok
returns-clause-ok c told is =
    sym (ap (λ (ps : List Promise). c.loop-grant.out.items ++ lasting c.args.now ps) (is.none c.loop-grant.from (sym c.in_default.ensures)) ∙ append-nil c.loop-grant.out.items)
    ∙ c.loop-grant.invariant.told told is
