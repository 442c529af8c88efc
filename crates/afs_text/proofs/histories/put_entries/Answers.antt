-- The text of each entry goes on behind those before it.
use Rattle.std.proofs.Common.{◌+◌, arith}
use Rattle.afs_outside.proofs.Puts.{at_end, completes_end, completes_more, completes_stop}
use Rattle.afs_text.specs.KeptText.{kept_entries_text}
use Rattle.afs_text.proofs.Kept.{kept_left}
use Rattle.afs_text.proofs.Told.{enough_left, others_left}
use Rattle.afs_text.proofs.histories.put_entries.Goals as goal

pub split_at-requires : goal.split_at-requires
split_at-requires g c = enough_left _ _ _ _ c.loop-i-test.true c.index-entries-i.is c.loop-i.invariant.all

pub loop-i-preserved : goal.loop-i-preserved
loop-i-preserved g c =
    let enough = enough_left _ _ _ _ c.loop-i-test.true c.index-entries-i.is c.loop-i.invariant.all in
    let next = kept_left _ _ (c.args.first_number + (c.loop-i.i + 1)) _ _ _ _ _ _ _ _ _ _ _ _ _ (omega (arith)) c.loop-i-test.true c.index-entries-i.is c.split_at.ensures.front c.split_at.ensures.back c.loop-i.invariant.left in
    record {
      left = completes_more _ _ _ _ _ _ _ _ _ _ next c.in_ok-print_entry.ensures;
      all = others_left _ _ _ _ _ c.loop-i-test.true c.index-entries-i.is c.loop-i.invariant.all c.split_at.ensures.back;
      places = omega (arith, enough, c.loop-i.invariant.places, c.split_at.ensures.back_len);
    }

pub returns-in_err-print_entry : goal.returns-in_err-print_entry
returns-in_err-print_entry g c =
    let next = kept_left _ _ (c.args.first_number + (c.loop-i.i + 1)) _ _ _ _ _ _ _ _ _ _ _ _ _ (omega (arith)) c.loop-i-test.true c.index-entries-i.is c.split_at.ensures.front c.split_at.ensures.back c.loop-i.invariant.left in
    completes_stop _ _ _ _ _ _ _ _ _ _ _ next c.from_residual.ensures.0 c.in_err-print_entry.ensures

pub returns : goal.returns
returns g c = completes_end _ _ _ _ _ _ (at_end (kept_entries_text c.args.wire _ _ _) _ _ _ _ _ _ _ c.loop-i-test.false c.loop-i.invariant.left)
