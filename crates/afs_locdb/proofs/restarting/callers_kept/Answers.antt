use Rattle.std.proofs.Common.{◌≡◌, ◌<◌, rules, arith, List, map, ap, sym, subst, ◌∙◌}
use Rattle.std.proofs.lemmas.List.{take_all}
use Rattle.spec_rows.specs.States.{Seat}
use Rattle.afs_locdb.proofs.Kept.{known_to_nodes}
use Rattle.afs_saving.specs.Kept.{seat_kept, seats_after, CanFollow}
use Rattle.afs_saving.proofs.Kept.{can_follow, few_kept, next_after}
use Rattle.afs_locdb.proofs.restarting.callers_kept.Goals as goal

pub keep_found-requires : goal.keep_found-requires
keep_found-requires c =
    subst (λ (ss : List Seat). CanFollow ss c.at.result) (sym c.loop-place.invariant.seats)
    (can_follow c.args.kept.now.table c.loop-place.place c.at.result c.are_of_nodes.ensures.ordered (known_to_nodes c.args.kept.now.table c.are_of_nodes.ensures.nodes) c.at.ensures.some)

pub loop-place-preserved : goal.loop-place-preserved
loop-place-preserved c = record {
  seats =
      c.in_ok-keep_found.ensures.seats
      ∙ (ap (λ (ss : List Seat). seats_after ss c.at.result) c.loop-place.invariant.seats
      ∙ next_after c.args.kept.now.table c.loop-place.place c.at.result c.at.ensures.some c.at.ensures.none);
  boot = search rules;
}

pub returns-clause-seats : goal.returns-clause-seats
returns-clause-seats c =
    let past = c.loop-place-test.false in
    let few = few_kept c.args.kept.now.table c.are_of_nodes.ensures.ordered (known_to_nodes c.args.kept.now.table c.are_of_nodes.ensures.nodes) in
    c.loop-place.invariant.seats ∙ ap (map seat_kept) (take_all c.loop-place.place c.args.kept.now.table (omega (arith, few, past)))
