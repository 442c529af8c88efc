use Rattle.std.proofs.Common.{ap}
use Rattle.std.specs.Option.{option_copied}
use Rattle.afs_volume.specs.Given.{names_given}
use Rattle.afs_volume.proofs.Given.{told_before, told_here}
use Rattle.afs_volume.proofs.ready.names_given.Goals as goal
use Rattle.afs_volume.proofs.ready.names_given.Goals.{then-x-number, else-x-number}

pub loop-place-preserved : goal.loop-place-preserved
loop-place-preserved c = elim c.if-x-number.branch [
  | then-x-number w ↦
      told_here c.args.number c.loop-place.place c.args.vnodes.now c.index-vnodes-place.result (option_copied c.loop-place.given) (option_copied c.if-x-number.given) (names_given c.args.number c.args.vnodes.now) c.args.ready.now w.index-ready-place.result w.names_or_none.result.now c.loop-place-test.true c.index-vnodes-place.is w.if-x-number.true c.requires w.index-ready-place.is w.names_or_none.ensures (ap option_copied w.given-is) c.loop-place.invariant
  | else-x-number w ↦
      told_before c.args.number c.loop-place.place c.args.vnodes.now c.index-vnodes-place.result (option_copied c.loop-place.given) (option_copied c.if-x-number.given) (names_given c.args.number c.args.vnodes.now) c.loop-place-test.true c.index-vnodes-place.is w.if-x-number.false (ap option_copied w.given-is) c.loop-place.invariant
]
