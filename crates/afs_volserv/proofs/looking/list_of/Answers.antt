use Rattle.std.proofs.Common.{◌≡◌, List, length, ap, subst, sym, ◌∙◌, arith}
use Rattle.std.specs.List.{AllByRecursion}
use Rattle.afs_num.specs.declared.volume_calls.ListedVolume.{ListedVolume}
use Rattle.spec_shape.specs.Tables.{IsListedVolume}
use Rattle.afs_volanswers.specs.Looking.{with_one}
use Rattle.afs_volanswers.proofs.Listed.{all_listed, all_with, next_listed, one_longer}
use Rattle.afs_volserv.proofs.looking.list_of.Goals as goal

pub loop-place-preserved : goal.loop-place-preserved
loop-place-preserved g c =
    let old = c.loop-place.invariant in
    let one = c.listed_at.result in
    let added : c.add.new.list ≡ with_one c.loop-place.list one = c.in_ok-add.ensures in
    record {
      list = added ∙ (ap (λ (vs : List ListedVolume). with_one vs one) old.list ∙ next_listed c.args.family c.loop-place.place c.args.store.now.durable.volumes one c.listed_at.ensures.value);
      count = let longer = one_longer c.loop-place.list one in let before = old.count in let same = ap length added in omega (arith, longer, before, same);
      kinds = subst (AllByRecursion IsListedVolume) (sym added) (all_with IsListedVolume c.loop-place.list one old.kinds c.listed_at.ensures.fits);
      few = λ lt. c.listed_at.ensures.few;
    }

pub returns-clause-list : goal.returns-clause-list
returns-clause-list g c =
    let past = c.loop-place-test.false in
    let few = c.loop-place.invariant.few (omega (arith, past)) in
    c.loop-place.invariant.list ∙ all_listed c.args.family c.loop-place.place c.args.store.now.durable.volumes (omega (arith, few, past))

pub returns-clause-fits : goal.returns-clause-fits
returns-clause-fits g c =
    let count = c.loop-place.invariant.count in
    let last = c.loop-place-test.false in
    ((omega (arith, count, last), omega (arith, count, last)), c.loop-place.invariant.kinds)
