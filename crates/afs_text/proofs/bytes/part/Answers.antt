-- The halves of each byte go behind those before it.
use Rattle.std.proofs.Common.{rules, ◌*◌, ◌<◌, List, ℕ, ap, subst, sym, length, take, arith}
use Rattle.std.specs.List.{All}
use Rattle.afs_text.proofs.Digits.{parted_all, parted_more, small_more}
use Rattle.afs_text.proofs.bytes.part.Goals as goal

pub loop-i-preserved : goal.loop-i-preserved
loop-i-preserved c = record {
  parted = parted_more c.args.bytes.now c.loop-i.halves c.loop-i.i 0 _ _ c.loop-i-test.true (search rules) (search rules) (search rules) c.loop-i.invariant.parted;
  small = small_more c.loop-i.halves c.loop-i.i _ _ (search rules) (search rules) (search rules) c.loop-i.invariant.small;
  within = search rules;
  room = search rules;
}

pub returns-clause-parted : goal.returns-clause-parted
returns-clause-parted c = parted_all c.args.bytes.now c.loop-i.halves c.loop-i.i c.loop-i-test.false c.loop-i.invariant.within c.loop-i.invariant.parted
