-- The last three digits stand behind those before them.
use Rattle.std.proofs.Common.{◌/◌, ◌%◌, sym, arith}
use Rattle.std.specs.Fmt.{decimal}
use Rattle.afs_text.proofs.Placed.{placed_as, placed_both}
use Rattle.afs_text.proofs.Threes.{decimal_last, length_last, three}
use Rattle.afs_text.proofs.numbers.+lay_long_number.Goals as goal

pub lay_long_number-behind-requires : goal.lay_long_number-behind-requires
lay_long_number-behind-requires t c =
    omega (arith, c.requires.long, c.requires.room, length_last c.args.n c.requires.long c.ranges.n.fits, c.if-n-lt1000000.false)

pub lay_three-requires-clause-room : goal.lay_three-requires-clause-room
lay_three-requires-clause-room t c =
    omega (arith, c.requires.room, length_last c.args.n c.requires.long c.ranges.n.fits, c.lay_long_number-behind.ensures.end, c.lay_long_number-behind.ensures.room)

pub returns : goal.returns
returns t c =
    placed_as _ _ c.args.at _ _ _ (sym (decimal_last c.args.n c.requires.long c.ranges.n.fits))
    (placed_both (decimal (c.args.n / 1000)) (three (c.args.n % 1000)) c.args.at _ _ _ _ _ c.lay_long_number-behind.ensures c.lay_three.ensures)
