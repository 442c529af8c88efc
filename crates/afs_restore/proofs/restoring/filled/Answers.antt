use Rattle.std.proofs.Common.{◌+◌, slice_index_or, drop, take, List, ℕ, Option, sym, ap, ◌∙◌, arith}
use Rattle.spec_ideal.specs.Images.{Image}
use Rattle.afs_restore.specs.Filling.{filled, given_in, kept, next_given, or_kept}
use Rattle.afs_restore.proofs.Filled.{next_filled}
use Rattle.afs_restore.proofs.Given.{first_good}
use Rattle.afs_restore.proofs.Lists.{drop_step, take_step}
use Rattle.afs_restore.proofs.Made.{also_made, indexed_made}
use Rattle.afs_restore.proofs.restoring.filled.Goals as goal

pub loop-pair-preserved : goal.loop-pair-preserved
loop-pair-preserved c =
    let live = c.args.live.now in
    let i = c.loop-pair.pair-index in
    let old = c.args.old.now.table in
    let rest = c.loop-pair.rest.now in
    let front = c.loop-pair.vnodes.items in
    let p = slice_index_or live i (0, 0) in
    let here = drop_step i (i + 1) live (0, 0) (omega arith) c.loop-pair-test.true in
    let found = sym c.in-Some.is ∙ (c.in_ok-x.ensures.value ∙ ap (λ (o : Option Image). or_kept o (kept old p)) c.next_given.ensures.given) in
    record {
      all = rw (c.in_ok-push-in-Some.ensures.items, c.next_given.ensures.later)
          (next_filled c.args.anew old (drop i live) (drop (i + 1) live) (given_in (drop i live) rest) (given_in (drop (i + 1) live) (next_given p rest).1) p (next_given p rest).0 front c.in-Some.x c.indexed.result (filled c.args.anew old live (given_in live c.args.images.now)) here
          (ap (λ (ps : List (ℕ × ℕ)). given_in ps rest) here) found c.indexed.ensures c.loop-pair.invariant.all);
      good = rw c.next_given.ensures.later (first_good (drop i live) (drop (i + 1) live) p rest here c.loop-pair.invariant.good).1;
      made = rw (c.in_ok-push-in-Some.ensures.items, take_step i (i + 1) live (0, 0) (omega arith) c.loop-pair-test.true)
          (also_made (take i live) front _ c.indexed.result c.loop-pair.invariant.made (indexed_made c.args.anew _ c.in_ok-x.field-0 c.in-Some.x c.indexed.result c.in-Some.is c.in_ok-x.ensures.given c.indexed.ensures));
    }
