-- Each digit stands where its number stood.
use Rattle.std.proofs.Common.{rules}
use Rattle.afs_text.proofs.Digits.{digit_more, left_more, small_item}
use Rattle.afs_text.proofs.bytes.spell.Goals as goal

pub hex_digit-requires : goal.hex_digit-requires
hex_digit-requires c = small_item c.args.halves.now c.loop-i.halves c.loop-i.i 0 c.loop-i-test.true c.loop-i.invariant.long c.loop-i.invariant.left c.requires

pub loop-i-preserved : goal.loop-i-preserved
loop-i-preserved c = record {
  done = digit_more c.args.halves.now c.loop-i.halves c.loop-i.i 0 _ c.loop-i-test.true c.loop-i.invariant.long c.hex_digit.ensures c.loop-i.invariant.done c.loop-i.invariant.left;
  left = left_more c.args.halves.now c.loop-i.halves c.loop-i.i _ c.loop-i.invariant.left;
  within = search rules;
  long = search rules;
}
