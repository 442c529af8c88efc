use Rattle.std.proofs.Common.{List, ℕ, ◌<◌, ◌≤◌, Ok, ◌∙◌, ap, arith, take, length}
use Rattle.std.proofs.lemmas.List.{length-set, take_all, take_more_set}
use Rattle.std.proofs.lemmas.Result.{err_from_is_err_and}
use Rattle.afs_xdr.specs.Words.{word_at}
use Rattle.spec_shape.specs.Items.{items_at}
use Rattle.spec_shape.proofs.Loops.{goes_on, ends, is_done}
use Rattle.afs_fields.proofs.items.fill_words.Goals as goal

pub returns-in_err-word-clause-value : goal.returns-in_err-word-clause-value
returns-in_err-word-clause-value c =
    let p = err_from_is_err_and c.from_residual.result c.from_residual.ensures.1 in
    rw (p.1, p.2) (ends word_at (take c.loop-place.place-index c.loop-place.words) (length c.args.words.now) c.loop-place.place-index c.loop-place.r.left c.in_err-word.field-0.0 (items_at word_at (length c.args.words.now) c.args.r.now.left) c.loop-place-test.true c.in_err-word.ensures.value c.loop-place.invariant.all)

pub loop-place-preserved : goal.loop-place-preserved
loop-place-preserved c =
    let i = c.loop-place.place-index in
    let ws = c.loop-place.words in
    let inside : i < length ws = omega (arith, c.loop-place-test.true, c.loop-place.invariant.places) in
    record {
      places = length-set ws i c.in_ok-word.word ∙ c.loop-place.invariant.places;
      all = rw (take_more_set ws i c.in_ok-word.word inside) (goes_on word_at (take i ws) (length c.args.words.now) i c.loop-place.r.left c.in_ok-word.word c.word.new.self.left (items_at word_at (length c.args.words.now) c.args.r.now.left) c.loop-place-test.true c.in_ok-word.ensures.value c.loop-place.invariant.all);
      end = c.loop-place.invariant.end ∙ c.in_ok-word.ensures.end;
    }

pub returns-clause-value : goal.returns-clause-value
returns-clause-value c =
    let i = c.loop-place.place-index in
    let ws = c.loop-place.words in
    let past : length ws ≤ i = omega (arith, c.loop-place-test.false, c.loop-place.invariant.places) in
    is_done word_at (take i ws) (length c.args.words.now) i c.loop-place.r.left (items_at word_at (length c.args.words.now) c.args.r.now.left) c.loop-place-test.false c.loop-place.invariant.all
    ∙ ap (λ (xs : List ℕ). Ok (xs, c.loop-place.r.left)) (take_all i ws past)
