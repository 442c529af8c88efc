use Rattle.std.proofs.Common.{◌≡◌, ◌<◌, rules, arith, List, map, ap, sym, subst, ◌∙◌}
use Rattle.std.proofs.lemmas.List.{take_all}
use Rattle.spec_rows.specs.States.{Seat}
use Rattle.afs_saving.specs.Kept.{seat_kept, seats_after, CanFollow}
use Rattle.afs_saving.proofs.Kept.{can_follow, few_kept, next_after}
use Rattle.afs_sharing.proofs.Known.{known_to_nodes}
use Rattle.afs_sharing.proofs.restoring.callers_kept.Goals as goal

pub keep_found-requires : goal.keep_found-requires
keep_found-requires g c =
    subst (λ (ss : List Seat). CanFollow ss c.kept_at.result) (sym c.loop-place.invariant.seats)
    (can_follow c.args.store.now.durable.kept c.loop-place.place c.kept_at.result c.kept_at.ensures.ordered (known_to_nodes c.args.store.now.durable.kept c.kept_at.ensures.nodes) c.kept_at.ensures.some)

pub loop-place-preserved : goal.loop-place-preserved
loop-place-preserved g c = record {
  seats =
      c.in_ok-keep_found.ensures.seats
      ∙ (ap (λ (ss : List Seat). seats_after ss c.kept_at.result) c.loop-place.invariant.seats
      ∙ next_after c.args.store.now.durable.kept c.loop-place.place c.kept_at.result c.kept_at.ensures.some c.kept_at.ensures.none);
  boot = search rules;
  known = λ lt. record { ordered = c.kept_at.ensures.ordered; nodes = known_to_nodes c.args.store.now.durable.kept c.kept_at.ensures.nodes };
}

pub returns-clause-nodes : goal.returns-clause-nodes
returns-clause-nodes g c = let past = c.loop-place-test.false in (c.loop-place.invariant.known (omega (arith, past))).nodes

pub returns-clause-seats : goal.returns-clause-seats
returns-clause-seats g c =
    let past = c.loop-place-test.false in
    let known = c.loop-place.invariant.known (omega (arith, past)) in
    let few = few_kept c.args.store.now.durable.kept known.ordered known.nodes in
    c.loop-place.invariant.seats ∙ ap (map seat_kept) (take_all c.loop-place.place c.args.store.now.durable.kept (omega (arith, few, past)))
